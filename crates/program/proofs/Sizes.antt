-- Tables are small: a procedure has at most 2 ^ 20 bytes, a program at most 2 ^ 26; and where the
-- procedures begin in them.
use Rattle.std.proofs.Common.{◌≡◌, ℕ, zero, suc, ◌+◌, ◌*◌, ◌^◌, ◌≤◌, List, [], ◌∷◌, length, refl, ap, mul-le-mul, add-one, arith, pow_mono}
use mathlib.Core.Option.{some}
use Rattle.program.specs.Program.{nth, Proc}
use Rattle.program.specs.Rows.{OkP, Every}
use Rattle.program.specs.Table.{size, before, total}

pub part_small : (steps k j : ℕ) → steps ≤ 255 → k ≤ 6 → j ≤ 6 → (steps + 1) * 2 ^ (k + j) ≤ 1048576
part_small steps k j a b d = mul-le-mul {n₁ = steps + 1} {m₁ = 2 ^ (k + j)} {n₂ = 256} {m₂ = 4096} (omega arith) (pow_mono {i = k + j} {j = 12} (omega arith))

pub total_small : (k m : ℕ) (ps : List Proc) → k ≤ 6 → Every (OkP k m) ps → total k ps ≤ length ps * 1048576
total_small k m [] h o = omega arith
total_small k m (p ∷ ps) h o = omega (arith, part_small (length p.steps) k p.own o.0.short h o.0.few, total_small k m ps h o.1)

-- where procedures begin: the first at 0, each behind the one before, all within the table
pub before_none : (k : ℕ) (ps : List Proc) → before k ps 0 ≡ 0
before_none k [] = refl
before_none k (p ∷ ps) = refl

pub before_next : (k : ℕ) (ps : List Proc) (f : ℕ) (p : Proc) → nth ps f ≡ some p → before k ps (f + 1) ≡ before k ps f + size k p
before_next k ps f p e = rw (add-one f) (go ps f e)
  where
    go : (ps : List Proc) (f : ℕ) → nth ps f ≡ some p → before k ps (suc f) ≡ before k ps f + size k p
    go [] f e = absurd cc
    go (q ∷ []) zero e = let s : size k q ≡ size k p = cc in omega arith
    go (q ∷ r ∷ ps) zero e = let s : size k q ≡ size k p = cc in omega arith
    go (q ∷ ps) (suc f) e = omega (arith, go ps f e)

pub before_le : (k : ℕ) (ps : List Proc) (f : ℕ) → before k ps f ≤ total k ps
before_le k [] f = omega arith
before_le k (p ∷ ps) zero = omega arith
before_le k (p ∷ ps) (suc f) = omega (arith, before_le k ps f)

pub before_all : (k : ℕ) (ps : List Proc) → before k ps (length ps) ≡ total k ps
before_all k [] = refl
before_all k (p ∷ ps) = ap (λ n. size k p + n) (before_all k ps)
