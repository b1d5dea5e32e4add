-- Reading one step: a case for each byte that comes first, as for an expression.
use Rattle.std.proofs.Common.{◌≡◌, ℕ, ◌+◌, List, [], ◌∷◌, Ok, refl, subst, arith}
use Rattle.program.specs.declared.steps.Step.TheVariants.{Set, Open, Go, Call, Return}
use Rattle.program.specs.declared.steps.Scope.{Scope}
use Rattle.program.specs.Program.{set, open1, go, call, return}
use Rattle.program.specs.Rows.{row_e, OkE}
use Rattle.program.specs.Reading.{Stands, Got, ReadNumber, ReadStep}
use Rattle.program.proofs.Standing.{stands_join, stands_pair}

-- the byte b comes first
module _ (c : Scope) (s : List ℕ) (at b : ℕ) (first : Stands s at (at + 1) (b ∷ [])) where
  -- and a number behind it
  pair : (t m x : ℕ) → b ≡ t → ReadNumber m s (at + 1) (Ok x) → Stands s at (at + 2) (t ∷ x ∷ [])
  pair t m x g k = stands_pair s (subst (λ y. Stands s at (at + 1) (y ∷ [])) g first) k.0

  pub is_set : (x end : ℕ) → b ≡ 0 → ReadNumber c.vars s (at + 1) (Ok x) → Got row_e (OkE c.vars) s (at + 2) end → ReadStep c s at (Ok (record { step = Set (record { 0 = x }) (record { 0 = at + 2 }); end = end }))
  is_set x end g p q = (record { it = set x q.it; stands = stands_join s refl (pair 0 _ x g p) q.stands; fine = (p.1, q.fine) }, (q.it, refl, q.stands))

  pub is_open : (x : ℕ) → b ≡ 1 → ReadNumber c.vars s (at + 1) (Ok x) → ReadStep c s at (Ok (record { step = Open (record { 0 = x }); end = at + 2 }))
  is_open x g p = (record { it = open1 x; stands = pair 1 _ x g p; fine = p.1 }, refl)

  pub is_go : (x end : ℕ) → b ≡ 2 → ReadNumber (c.last.0 + 1) s (at + 1) (Ok x) → Got row_e (OkE c.vars) s (at + 2) end → ReadStep c s at (Ok (record { step = Go (record { 0 = x }) (record { 0 = at + 2 }); end = end }))
  is_go x end g p q = (record { it = go q.it x; stands = stands_join s refl (pair 2 _ x g p) q.stands; fine = (omega (arith, p.1), q.fine) }, (q.it, refl, q.stands))

  pub is_call : (x : ℕ) → b ≡ 3 → ReadNumber c.procs s (at + 1) (Ok x) → ReadStep c s at (Ok (record { step = Call (record { 0 = x }); end = at + 2 }))
  is_call x g p = (record { it = call x; stands = pair 3 _ x g p; fine = p.1 }, refl)

  pub is_return : b ≡ 4 → ReadStep c s at (Ok (record { step = Return; end = at + 1 }))
  is_return g = (record { it = return; stands = subst (λ y. Stands s at (at + 1) (y ∷ [])) g first; fine = tt }, refl)
