-- Steps of the ranker, one after another.
use Rattle.std.proofs.Common.{ℕ, List, refl, ◌∙◌, subst}
use Rattle.saturation.specs.declared.System.{System}
use Rattle.ranking.specs.declared.Procedures.{Procedures}
use Rattle.ranking.specs.declared.levels.Ranker.{Ranker}
use Rattle.ranking.specs.Levels.{Settles}
use Rattle.ranking.specs.Steps.{Step}
use Rattle.ranking.proofs.Settled.{settles_none, settles_then, settles_of}

-- what is given is the same before the step
pub before : {D : ℕ → Type 0} {a b : Ranker} → Step D a b → (P : System → Procedures → List ℕ → Type 0) → P b.system b.procedures b.level.now → P a.system a.procedures a.level.now
before {a = a} {b = b} x P q = subst (λ s. P s a.procedures a.level.now) x.system (subst (λ p. P b.system p a.level.now) x.procedures (subst (P b.system b.procedures) x.level q))

pub step_none : {D : ℕ → Type 0} (a : Ranker) → Step D a a
step_none a = record { system = refl; procedures = refl; level = refl; settles = settles_none }

pub step_then : {D E : ℕ → Type 0} {a b c : Ranker} → Step D a b → ((d : ℕ) → E d → D d) → Step E b c → Step D a c
step_then {E = E} {b = b} {c = c} x f y = record {
  system = y.system ∙ x.system;
  procedures = y.procedures ∙ x.procedures;
  level = y.level ∙ x.level;
  settles = settles_then x.settles (settles_of f (before x (λ s p l. Settles s p E b.sets.now b.next.now c.sets.now c.next.now) y.settles));
}
