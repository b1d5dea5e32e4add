-- Reading steps and procedures. A loop passes on "what the rest answers, the whole answers".
use Rattle.std.proofs.Common.{◌≡◌, ℕ, ◌+◌, ◌<◌, ◌≤◌, List, [], ◌∷◌, ◌++◌, length, drop, Ok, Err, Result, sym, refl, ◌∙◌, subst, append_assoc, arith}
use Rattle.program.specs.declared.refusals.Refusal.{Refusal}
use Rattle.program.specs.declared.steps.Found.{Found}
use Rattle.program.specs.declared.steps.Scope.{Scope}
use Rattle.program.specs.Program.{I, Proc}
use Rattle.program.specs.Rows.{row_i, row_p, rows, OkI, OkP, Every}
use Rattle.program.specs.Reading.{Stands, Nothing, InScope, ReadByte, ReadNumber, ReadStep, NoSteps, ReadSteps, ReadProc}
use Rattle.program.proofs.Standing.{heads, tails, stands_none, stands_join, stands_pair, second}
use Rattle.program.proofs.Prefix.{prefix_i}

module _ (sc : Scope) (s : List ℕ) where
  pub steps_done : (c at : ℕ) → c ≡ 0 → at ≤ length s → ReadSteps sc s c at (Ok at)
  steps_done c at e h = ([], sym e, stands_none s at h, tt)

  pub no_steps : (c at : ℕ) → 0 < c → Nothing row_i (InScope sc) s at → NoSteps sc s c at
  no_steps c at e q [] r l p o = omega arith
  no_steps c at e q (i ∷ is) r l p o = q i (rows row_i is ++ r) (p ∙ append_assoc (row_i i) (rows row_i is) r) o.0

  pub steps_more : (c b at : ℕ) (f : Found) (r : Result ℕ Refusal) → c ≡ b + 1 → ReadStep sc s at (Ok f) → ReadSteps sc s b f.end r → ReadSteps sc s c at r
  steps_more c b at f (Ok end) e p q = (p.0.it ∷ q.0, omega (arith, q.1), stands_join s refl p.0.stands q.2, (p.0.fine, q.3))
  steps_more c b at f (Err d) e p q = λ is r l h o. more is r l h o
    where
      more : (is : List I) (r : List ℕ) → length is ≡ c → drop at s ≡ rows row_i is ++ r → Every (InScope sc) is → ⊥
      more [] r l h o = omega arith
      more (i ∷ is) r l h o =
          let x = prefix_i p.0.it i _ _ (sym p.0.stands.is ∙ h ∙ append_assoc (row_i i) (rows row_i is) r) in
          q is r (omega arith) x.1 o.1

module _ (k m : ℕ) (s : List ℕ) (at : ℕ) where
  module _ (x : ℕ) (own : ReadNumber 7 s at (Ok x)) where
    -- a procedure that stands here has x variables of its own, and its number of steps next
    after_own : (p : Proc) (r : List ℕ) → drop at s ≡ row_p p ++ r → (x ≡ p.own) × (drop (at + 1) s ≡ length p.steps ∷ (rows row_i p.steps ++ r))
    after_own p r h = let e = sym own.0.is ∙ h in (heads e, tails e)

    module _ (y : ℕ) (count : ReadByte s (at + 1) (Ok y)) where
      abbrev pub inside : Scope
      inside = record { vars = k + x; last = record { 0 = y }; procs = m }

      pub inside_is : (c : Scope) → c.vars ≡ k + x → c.last.0 ≡ y → c.procs ≡ m → c ≡ inside
      inside_is c v l p = λ i. record { vars = v i; last = record { 0 = l i }; procs = p i }

      pub no_body : NoSteps inside s y (at + 2) → Nothing row_p (OkP k m) s at
      no_body q p r h o =
          let e = after_own p r h in
          let c : length p.steps ≡ y = sym (heads (sym count.is ∙ e.1)) in
          q p.steps r c (second s at e.1) (subst (λ z. Every (OkI (k + z) y m) p.steps) (sym e.0) (subst (λ z. Every (OkI (k + p.own) z m) p.steps) c o.steps))

      pub is_proc : (end : ℕ) → y ≤ 255 → ReadSteps inside s y (at + 2) (Ok end) → ReadProc k m s at (Ok (record { own = x; steps = y; first = at + 2; end = end }))
      is_proc end l q = (
        record {
          it = record { own = x; steps = q.0 };
          stands = stands_join s refl (stands_pair s own.0 (subst (λ z. Stands s (at + 1) (at + 1 + 1) (z ∷ [])) (sym q.1) count)) q.2;
          fine = record { few = omega (arith, own.1); short = omega (arith, q.1); steps = subst (λ z. Every (OkI (k + x) z m) q.0) (sym q.1) q.3 };
        },
        record { own = refl; steps = sym q.1; first = refl },
      )
