-- `reached_places`: the places passed so far.
use Rattle.std.proofs.Common.{◌≡◌, ℕ, ◌<◌, true, false, ◌↔◌, length, get_or, vec_items}
use Rattle.program.specs.Program.{Prog}
use Rattle.answers.specs.Deciding.{Holds}
use Rattle.answers.specs.Looking.{Comes}
use Rattle.answers.proofs.deciding.Decided.reached_places.Given as goal

abbrev pub invariant-loop-place : goal.invariant-loop-place
invariant-loop-place l = (length (vec_items l.flags) ≡ l.place) × ((g : Prog) → Holds g l.self → (a : ℕ) → a < l.place → (get_or (vec_items l.flags) a false ≡ true) ↔ Comes g l.f a (λ v. Unit {0}))
