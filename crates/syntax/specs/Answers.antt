-- What the reader of decimal text answers.
use Rattle.std.specs.Prelude.{◌≡◌, ℕ, List, Ok, Err, vec_items, vec_len, Result}
use Rattle.syntax.specs.declared.decimal.Listing.{Listing}
use Rattle.syntax.specs.declared.decimal.Fault.{Fault}
use Rattle.syntax.specs.declared.decimal.Fault.TheVariants.{NoNumber, TooLarge, Memory}
use Rattle.syntax.specs.Decimal.{Lists}

-- a listing is what the text lists, with as many lines; a fault of the text is that it lists
-- nothing; where memory fails nothing is said
abbrev pub Answers : List ℕ → Result Listing Fault → Type 0
Answers text (Ok l) = Lists text (vec_items l.bytes) × (vec_len l.lines ≡ vec_len l.bytes)
Answers text (Err (NoNumber p)) = (ns : List ℕ) → Lists text ns → ⊥
Answers text (Err (TooLarge p)) = (ns : List ℕ) → Lists text ns → ⊥
Answers text (Err Memory) = Unit {0}
