-- Each place with values of a program has a number below the table's length, and each such number is
-- one place with values. All sizes are multiples of 2 ^ k, so the number modulo 2 ^ k is the shared part.
use Rattle.std.proofs.Common.{take, drop, ◌≡◌, ℕ, zero, suc, ◌+◌, ◌-◌, ◌*◌, ◌/◌, ◌%◌, ◌^◌, ◌<◌, Bool, List, [], ◌∷◌, ◌++◌, length, sym, refl, ap, ◌∙◌, arith, length-append}
use mathlib.Core.Option.{some}
use native.Mathlib.Decide.{dec_lt}
use lib.Arith.{digits_lt}
use Rattle.std.proofs.lemmas.Nat.{pow_pos, pow-add, div-mul-add, mod-mul-add, div_below, mod_below, div-add-mod'}
use Rattle.std.proofs.Math.Seq.{take-append_seam, drop-append_seam}
use Rattle.program.specs.Program.{nth, Proc, Prog}
use Rattle.program.specs.Table.{num, size, before, total, spot}
use Rattle.program.specs.Values.{bits}
use Rattle.program.specs.Numbers.{Fits}
use Rattle.program.proofs.Nums.{num_bits, num_lt, num_append, num_inj, length_bits, bits_append}

-- place i within procedure f, in a list of procedures
pub before_lt : (k : ℕ) (ps : List Proc) (f : ℕ) (p : Proc) (i : ℕ) → nth ps f ≡ some p → i < size k p → before k ps f + i < total k ps
before_lt k [] f p i e h = absurd cc
before_lt k (q ∷ ps) zero p i e h = let r : size k q ≡ size k p = cc in omega arith
before_lt k (q ∷ ps) (suc f) p i e h = omega (arith, before_lt k ps f p i e h)

pub before_inj : (k : ℕ) (ps : List Proc) (f f' : ℕ) (p p' : Proc) (i i' : ℕ) → nth ps f ≡ some p → nth ps f' ≡ some p' → i < size k p → i' < size k p' → before k ps f + i ≡ before k ps f' + i' → (f ≡ f') × (i ≡ i')
before_inj k [] f f' p p' i i' e e' h h' same = absurd cc
before_inj k (q ∷ ps) zero zero p p' i i' e e' h h' same = (refl, omega arith)
before_inj k (q ∷ ps) zero (suc f') p p' i i' e e' h h' same = let r : size k q ≡ size k p = cc in absurd (omega arith)
before_inj k (q ∷ ps) (suc f) zero p p' i i' e e' h h' same = let r : size k q ≡ size k p' = cc in absurd (omega arith)
before_inj k (q ∷ ps) (suc f) (suc f') p p' i i' e e' h h' same = let r = before_inj k ps f f' p p' i i' e e' h h' (omega arith) in (ap suc r.0, r.1)

pub record Home (k : ℕ) (ps : List Proc) (n : ℕ) : Type 0 where
  pub f : ℕ
  pub p : Proc
  pub i : ℕ
  pub there : nth ps f ≡ some p
  pub small : i < size k p
  pub is : n ≡ before k ps f + i

pub home : (k : ℕ) (ps : List Proc) (n : ℕ) → n < total k ps → Home k ps n
home k [] n h = absurd (omega arith)
home k (q ∷ ps) n h = go (home k ps) (dec_lt n (size k q))
  where
    go : ((m : ℕ) → m < total k ps → Home k ps m) → Dec (n < size k q) → Home k (q ∷ ps) n
    go rest (yes l) = record { f = 0; p = q; i = n; there = refl; small = l; is = omega arith }
    go rest (no l) = let r : Home k ps (n - size k q) = rest (n - size k q) (omega arith) in record { f = suc r.f; p = r.p; i = r.i; there = r.there; small = r.small; is = omega arith }

-- all sizes are multiples of 2 ^ k
pub before_times : (k : ℕ) (ps : List Proc) (f : ℕ) → (c : ℕ) × (before k ps f ≡ c * 2 ^ k)
before_times k [] f = (0, omega arith)
before_times k (q ∷ ps) zero = (0, omega arith)
before_times k (q ∷ ps) (suc f) = let r = before_times k ps f in ((length q.steps + 1) * 2 ^ q.own + r.0, rw (pow-add 2 k q.own) (omega (arith, r.1)))

-- the number of a place with no shared variable set
abbrev pub base : Prog → ℕ → Proc → ℕ → List Bool → ℕ
base g f p a own = before g.shared g.procs f + (a * 2 ^ (g.shared + p.own) + num own * 2 ^ g.shared)

module _ {g : Prog} {f : ℕ} {p : Proc} {a : ℕ} {sh own : List Bool} (h : Fits g f p a sh own) where
  pub value_lt : num (sh ++ own) < 2 ^ (g.shared + p.own)
  value_lt = rw (length-append sh own, h.shareds, h.owns) at (num_lt (sh ++ own))

  pub inner_lt : a * 2 ^ (g.shared + p.own) + num (sh ++ own) < size g.shared p
  inner_lt = digits_lt (omega arith) value_lt

  pub spot_lt : spot g f p a sh own < total g.shared g.procs
  spot_lt = before_lt g.shared g.procs f p _ h.there inner_lt

  pub spot_is : spot g f p a sh own ≡ base g f p a own + num sh
  spot_is = rw (num_append sh own, h.shareds) (omega arith)

  pub base_times : (c : ℕ) × (base g f p a own ≡ c * 2 ^ g.shared)
  base_times = let r = before_times g.shared g.procs f in (r.0 + (a * 2 ^ p.own + num own), rw (pow-add 2 g.shared p.own, r.1) (omega arith))

  pub spot_mod : spot g f p a sh own % 2 ^ g.shared ≡ num sh
  spot_mod = let r = base_times in let l : num sh < 2 ^ g.shared = rw h.shareds at (num_lt sh) in rw (spot_is, r.1) (mod-mul-add r.0 (2 ^ g.shared) (num sh) l)

-- two places with values that have one number are the same
pub record Same {A : Type 0} (f f' : ℕ) (a a' : ℕ) (sh sh' own own' : A) : Type 0 where
  pub f_is : f ≡ f'
  pub a_is : a ≡ a'
  pub sh_is : sh ≡ sh'
  pub own_is : own ≡ own'

module _ (w : ℕ) where
  pub digits_inj : (a a' v v' : ℕ) → v < w → v' < w → a * w + v ≡ a' * w + v' → (a ≡ a') × (v ≡ v')
  digits_inj a a' v v' h h' e = (sym (div-mul-add a w v h) ∙ ap (λ z. z / w) e ∙ div-mul-add a' w v' h', sym (mod-mul-add a w v h) ∙ ap (λ z. z % w) e ∙ mod-mul-add a' w v' h')

pub append_inj : (xs xs' ys ys' : List Bool) → length xs ≡ length xs' → xs ++ ys ≡ xs' ++ ys' → (xs ≡ xs') × (ys ≡ ys')
append_inj xs xs' ys ys' l e = (sym (take-append_seam xs ys) ∙ (λ i. take (l i) (e i)) ∙ take-append_seam xs' ys', sym (drop-append_seam xs ys) ∙ (λ i. drop (l i) (e i)) ∙ drop-append_seam xs' ys')

pub spot_inj : {g : Prog} {f f' : ℕ} {p p' : Proc} {a a' : ℕ} {sh sh' own own' : List Bool} → Fits g f p a sh own → Fits g f' p' a' sh' own' →
    spot g f p a sh own ≡ spot g f' p' a' sh' own' → Same f f' a a' sh sh' own own'
spot_inj {g} {f} {f'} {p} {p'} {a} {a'} {sh} {sh'} {own} {own'} h h' e =
    let r = before_inj g.shared g.procs f f' p p' _ _ h.there h'.there (inner_lt h) (inner_lt h') e in
    let pe : some p ≡ some p' = sym h.there ∙ ap (nth g.procs) r.0 ∙ h'.there in
    let oe : p.own ≡ p'.own = cc in
    let q = digits_inj (2 ^ (g.shared + p.own)) a a' (num (sh ++ own)) (num (sh' ++ own')) (value_lt h) (rw oe (value_lt h')) (rw oe (rw oe at r.1)) in
    let le : length (sh ++ own) ≡ length (sh' ++ own') = simp length-append (omega arith) in
    let j = append_inj sh sh' own own' (h.shareds ∙ sym h'.shareds) (num_inj (sh ++ own) (sh' ++ own') le q.1) in
    record { f_is = r.0; a_is = q.0; sh_is = j.0; own_is = j.1 }

-- and each number is one of such a place
pub record Spotted (g : Prog) (n : ℕ) : Type 0 where
  pub f : ℕ
  pub p : Proc
  pub a : ℕ
  pub sh : List Bool
  pub own : List Bool
  pub fits : Fits g f p a sh own
  pub is : spot g f p a sh own ≡ n

pub spotted : (g : Prog) (n : ℕ) → n < total g.shared g.procs → Spotted g n
spotted g n h =
    let r = home g.shared g.procs n h in
    let k = g.shared in
    let o = r.p.own in
    let w = 2 ^ (k + o) in
    let v = r.i % w in
    let a_lt : r.i / w < length r.p.steps + 1 = div_below r.i w (length r.p.steps + 1) (pow_pos (k + o)) r.small in
    let v_lt : v < w = mod_below r.i w (pow_pos (k + o)) in
    let e : num (bits k v ++ bits o (v / 2 ^ k)) ≡ v = rw (← bits_append k o v) (num_bits (k + o) v v_lt) in
    record {
      f = r.f;
      p = r.p;
      a = r.i / w;
      sh = bits k v;
      own = bits o (v / 2 ^ k);
      fits = record { there = r.there; place = omega arith; shareds = length_bits k v; owns = length_bits o (v / 2 ^ k) };
      is = rw e (rw (div-add-mod' r.i w) (sym r.is));
    }
