-- Bytes written part before part.
use Rattle.std.proofs.Common.{◌≡◌, ℕ, ◌+◌, ◌-◌, ◌<◌, ◌≤◌, List, [], ◌∷◌, ◌++◌, length, get_or, take, drop, sym, ap, ◌∙◌, subst, inl, inr, arith, length-append, length-drop, length-take, rules}
use borrow.Rule.Slice.PartMut.{put_mid}
use Rattle.std.proofs.Math.Seq.{get_or-append_seam}
use Rattle.std.proofs.lemmas.List.{places, get_or_append_left}
use Rattle.std.proofs.lemmas.Bool.{cases_lt}
use Rattle.places.specs.Solving.{Tells, Written, Parts}

-- a part is written before what is
part_written : (w t ys : List ℕ) (from end : ℕ) → from ≤ end → end ≤ length t → length ys ≡ end - from → ((i : ℕ) → end ≤ i → i < length t → Tells w i (get_or t i 0)) → Written w from ys (end - from) →
    (i : ℕ) → from ≤ i → i < length t → Tells w i (get_or (put_mid from (end - from) t ys) i 0)
part_written w t ys from end l m e h k i n o = elim (cases_lt i end) [
  | inl x ↦ (let q : get_or (put_mid from (end - from) t ys) i 0 ≡ get_or ys (i - from) 0 = search (rules, places) in
      let s : from + (i - from) ≡ i = omega arith in
      subst (Tells w i) (sym q) (subst (λ z. Tells w z (get_or ys (i - from) 0)) s (k (i - from) (omega arith))))
  | inr x ↦ (let q : get_or (put_mid from (end - from) t ys) i 0 ≡ get_or t i 0 = search (rules, places) in subst (Tells w i) (sym q) (h i x o))
]

-- from `end` on the bytes are written, and the parts before begin where `rest` says
pub record Parted (w bases t rest : List ℕ) (end : ℕ) : Type 0 where
  pub within : length rest ≤ length bases
  pub same : (f : ℕ) → f < length rest → get_or rest f 0 ≡ get_or bases f 0
  pub at : length rest < length bases → end ≡ get_or bases (length rest) 0
  pub last : length bases ≤ length rest → end ≡ length t
  pub done : (i : ℕ) → end ≤ i → i < length t → Tells w i (get_or t i 0)

-- the last of the parts that are left, which begins at x, is written next
module _ {w bases t rest : List ℕ} {end : ℕ} (left : List ℕ) (x : ℕ) (parts : Parts bases (length bases) (length t)) (p : Parted w bases t rest end) (e : rest ≡ left ++ x ∷ []) where
  long : length rest ≡ length left + 1
  long = ap length e ∙ length-append left (x ∷ [])

  begins : x ≡ get_or bases (length left) 0
  begins = sym (ap (λ z. get_or z (length left) 0) e ∙ get_or-append_seam left x [] 0) ∙ p.same (length left) (omega (arith, long))

  pub bounds : (x ≤ end) × (end ≤ length t)
  bounds = elim (cases_lt (length rest) (length bases)) [
    | inl l ↦ (let o = subst (λ z. get_or bases (length left) 0 ≤ get_or bases z 0) (sym long) (parts.order (length left) (omega (arith, long))) in (omega (arith, begins, p.at l, o), omega (arith, p.at l, parts.last (length rest) l)))
    | inr l ↦ (omega (arith, begins, p.last l, parts.last (length left) (omega (arith, long, p.within))), omega (arith, p.last l))
  ]

  pub part_long : length (take (end - x) (drop x t)) ≡ end - x
  part_long = simp (length-take, length-drop) (omega (arith, bounds.0, bounds.1))

  pub parted_more : (ys : List ℕ) → length ys ≡ length (take (end - x) (drop x t)) → Written w x ys (length (take (end - x) (drop x t))) → Parted w bases (put_mid x (end - x) t ys) left x
  parted_more ys n k =
      let whole : length (put_mid x (end - x) t ys) ≡ length t = simp (length-append, length-take, length-drop) (omega (arith, n, part_long, bounds.0, bounds.1)) in
      record {
        within = omega (arith, long, p.within);
        same = λ f l. sym (ap (λ z. get_or z f 0) e ∙ get_or_append_left left (x ∷ []) 0 f l) ∙ p.same f (omega (arith, long));
        at = λ l. begins;
        last = λ l. absurd (omega (arith, long, p.within));
        done = λ i l m. part_written w t ys x end bounds.0 bounds.1 (n ∙ part_long) p.done (subst (Written w x ys) part_long k) i l (omega (arith, whole));
      }
