-- What the words of a node say.
use Rattle.std.specs.Prelude.{◌≡◌, ℕ, List}
use Rattle.saturation.specs.declared.Node.{Node}
use Rattle.saturation.specs.declared.Node.TheVariants.{Flow, Call, Return}
use Rattle.saturation.specs.System.{kind, first, second}

-- what node n does, by its words
abbrev pub Is : List ℕ → ℕ → Node → Type 0
Is g n (Flow a b) = (kind g n ≡ 0) × (a ≡ first g n) × (b ≡ second g n)
Is g n (Call a b) = (kind g n ≡ 1) × (a ≡ first g n) × (b ≡ second g n)
Is g n (Return a b) = (kind g n ≡ 2) × (a ≡ first g n) × (b ≡ second g n)
