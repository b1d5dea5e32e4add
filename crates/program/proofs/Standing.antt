-- Rows that stand in bytes: put together, taken apart, and what follows from the byte that comes first.
use Rattle.std.proofs.Common.{◌≡◌, ℕ, ◌+◌, ◌<◌, ◌≤◌, List, [], ◌∷◌, ◌++◌, length, get_or, drop, sym, refl, ap, ◌∙◌, subst, append_assoc, add-zero, arith, length-append, length-drop}
use Rattle.std.proofs.lemmas.List.{drop_more, drop-drop, drop_at, get_or-drop}
use Rattle.program.specs.Reading.{Stands}

pub heads : {x y : ℕ} {xs ys : List ℕ} → x ∷ xs ≡ y ∷ ys → x ≡ y
heads h = cc

pub tails : {x y : ℕ} {xs ys : List ℕ} → x ∷ xs ≡ y ∷ ys → xs ≡ ys
tails h = cc

module _ (s : List ℕ) where
  pub stands_byte : (at : ℕ) → at < length s → Stands s at (at + 1) (get_or s at 0 ∷ [])
  stands_byte at h = record { is = drop_more s at 0 h; long = refl; within = omega arith }

  pub byte_at : (at x : ℕ) (r : List ℕ) → drop at s ≡ x ∷ r → (at < length s) × (get_or s at 0 ≡ x)
  byte_at at x r h = (omega (arith, simp length-drop at (ap length h)), sym (get_or-drop at s 0 0 ∙ ap (λ n. get_or s n 0) (add-zero at)) ∙ ap (λ l. get_or l 0 0) h)

  pub stands_none : (at : ℕ) → at ≤ length s → Stands s at at []
  stands_none at h = record { is = refl; long = omega arith; within = h }

  -- two rows, the second where the first ends
  pub stands_join : {at mid mid' end : ℕ} {row row' : List ℕ} → mid ≡ mid' → Stands s at mid row → Stands s mid' end row' → Stands s at end (row ++ row')
  stands_join {mid = mid} {mid'} {end} {row} {row'} e k l = record {
    is = k.is ∙ ap (λ m. row ++ drop m s) e ∙ ap (λ x. row ++ x) l.is ∙ sym (append_assoc row row' (drop end s));
    long = simp length-append (omega (arith, k.long, l.long));
    within = l.within;
  }

  pub stands_pair : {at x y : ℕ} → Stands s at (at + 1) (x ∷ []) → Stands s (at + 1) (at + 1 + 1) (y ∷ []) → Stands s at (at + 2) (x ∷ y ∷ [])
  stands_pair {at} {x} {y} k l = let two : at + 1 + 1 ≡ at + 2 = omega arith in subst (λ m. Stands s at m (x ∷ y ∷ [])) two (stands_join refl k l)

  -- what is behind two bytes
  pub second : (at : ℕ) {x : ℕ} {t : List ℕ} → drop (at + 1) s ≡ x ∷ t → drop (at + 2) s ≡ t
  second at {x} {t} h =
      let f = byte_at (at + 1) x t h in
      let two : at + 2 ≡ at + 1 + 1 = omega arith in
      ap (λ n. drop n s) two ∙ tails (sym (stands_byte (at + 1) f.0).is ∙ h)

  -- what stands behind the first of two rows
  pub stands_right : {at end : ℕ} (row row' : List ℕ) → Stands s at end (row ++ row') → Stands s (at + length row) end row'
  stands_right {at} {end} row row' k = record {
    is = sym (drop-drop (length row) at s) ∙ ap (drop (length row)) (k.is ∙ append_assoc row row' (drop end s)) ∙ drop_at row (row' ++ drop end s) (length row) refl;
    long = omega (arith, simp length-append at k.long);
    within = k.within;
  }

  pub stands_left : {at end : ℕ} (row row' : List ℕ) → Stands s at end (row ++ row') → Stands s at (at + length row) row
  stands_left {at} {end} row row' k = record {
    is = k.is ∙ append_assoc row row' (drop end s) ∙ ap (λ x. row ++ x) (sym (stands_right row row' k).is);
    long = refl;
    within = omega (arith, simp length-append at k.long, k.within);
  }

  -- nothing stands behind the end
  pub past_end : {at : ℕ} (row r : List ℕ) → 0 < length row → length s ≤ at → drop at s ≡ row ++ r → ⊥
  past_end row r n h e = omega (arith, simp (length-drop, length-append) at (ap length e))
