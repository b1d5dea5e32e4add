use Rattle.std.proofs.Common.{◌≡◌, ◌≤◌, take}
use Rattle.std.specs.List.{AllByRecursion}
use Rattle.syntax.proofs.Values.{Digit, capped}
use Rattle.syntax.proofs.decimal.number.Given as goal

-- digits alone so far, and their value, where 256 stands for all that is larger
abbrev pub invariant-loop-digit : goal.invariant-loop-digit
invariant-loop-digit l = AllByRecursion Digit (take l.digit-index l.word) × (l.value ≡ capped (take l.digit-index l.word)) × (l.value ≤ 256)
