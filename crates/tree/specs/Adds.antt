-- What writing does.
use Rattle.std.specs.Prelude.{◌≡◌, ℕ, List, ◌++◌}

-- after the writing, the row stands behind what was there before
pub record Adds (row before after : List ℕ) : Type 0 where
  pub is : after ≡ before ++ row
