-- Each bit that a step sets is true.
use Rattle.std.proofs.Common.{◌≡◌, ℕ, ◌+◌, ◌%◌, ◌<◌, List, length, get_or, sym, refl, subst, inl, inr, arith}
use Rattle.std.proofs.lemmas.Nat.{shr_le}
use Rattle.std.proofs.lemmas.List.{get_or_past}
use Rattle.std.proofs.lemmas.Bool.{cases_lt}
use Rattle.saturation.specs.Bits.{Bit, On, Joined, Added}
use Rattle.saturation.specs.System.{kind, first, second, words, Fine, Starts, Can}
use Rattle.saturation.specs.Visits.{Sound}
use Rattle.pushdown.specs.System.{here, over, Returns}
use Rattle.pushdown.specs.System as pushdown

module _ {g : List ℕ} {k t root : ℕ} where
  pub sound_join : {w v : List ℕ} (from to : ℕ) → from < t → to < t → Joined w v from to → ((x : ℕ) → x < 64 → Can g k root from x → Can g k root to x) → Sound g k t root w → Sound g k t root v
  sound_join {w} {v} from to hf ht j f s = record {
    starts = s.starts;
    can = λ n x h b o. elim (j.only n x b o) [ inl p ↦ s.can n x h b p | inr p ↦ subst (λ m. Can g k root m x) (sym p.0) (f x b (s.can from x hf b p.1)) ];
    back = λ e y b o. elim (j.only (t + e) y b o) [ inl p ↦ s.back e y b p | inr p ↦ absurd (omega arith) ];
  }

  pub sound_can : {w v : List ℕ} (m z : ℕ) → m < t → Added w v m z → Can g k root m z → Sound g k t root w → Sound g k t root v
  sound_can {w} {v} m z hm a f s = record {
    starts = s.starts;
    can = λ n x h b o. elim (a.only n x b o) [ inl p ↦ s.can n x h b p | inr p ↦ subst (λ q. Can g k root q x) (sym p.0) (subst (λ y. Can g k root m y) (sym p.1) f) ];
    back = λ e y b o. elim (a.only (t + e) y b o) [ inl p ↦ s.back e y b p | inr p ↦ absurd (omega arith) ];
  }

  pub sound_return : {w v : List ℕ} (m z : ℕ) → Added w v (t + m) z → Returns (words g k) m z → Sound g k t root w → Sound g k t root v
  sound_return {w} {v} m z a f s = record {
    starts = s.starts;
    can = λ n x h b o. elim (a.only n x b o) [ inl p ↦ s.can n x h b p | inr p ↦ absurd (omega arith) ];
    back = λ e y b o. elim (a.only (t + e) y b o) [ inl p ↦ s.back e y b p | inr p ↦ let q : e ≡ m = omega arith in subst (λ q. Returns (words g k) q y) (sym q) (subst (λ x. Returns (words g k) m x) (sym p.1) f) ];
  }

module _ {g : List ℕ} {k t : ℕ} (fine : Fine g k t) (n : ℕ) (h : n < t) where
  -- one value that the procedure called returns
  pub resume_sound : {v u : List ℕ} {root : ℕ} (y : ℕ) → y < k → kind g n ≡ 1 → On v (t + (first g n + n % k)) y → Joined v u n (second g n + y) → Sound g k t root v → Sound g k t root u
  resume_sound {root = root} y b z o j s =
      let f = fine.callers n h z in let m = s.back (first g n + n % k) y (omega (arith, fine.few)) o in
      sound_join n (second g n + y) h (omega (arith, f.0)) j (λ x l c. (c.0, c.1, c.2, over c.3 (z, refl, refl) m.1 m.2)) s

-- the beginning: no bit but the root's
pub no_bits : (z : List ℕ) → ((i : ℕ) → i < length z → get_or z i 0 ≡ 0) → (i y : ℕ) → Bit z i y → ⊥
unfolding Bit
no_bits z f i y o = elim (cases_lt i (length z)) [
  | inl h ↦ omega (arith, shr_le (get_or z i 0) y, f i h)
  | inr h ↦ omega (arith, shr_le (get_or z i 0) y, get_or_past z i 0 h)
]

pub sound_first : {g : List ℕ} {k t root : ℕ} {z u : List ℕ} → ((i : ℕ) → i < length z → get_or z i 0 ≡ 0) → Starts g k t root → Added z u root 0 → Sound g k t root u
sound_first {root = root} {z = z} f s a = sound_can root 0 s.within a (root, s.even, pushdown.first, here)
    (record { starts = s; can = λ n x h b o. absurd (no_bits z f _ _ o); back = λ e y b o. absurd (no_bits z f _ _ o) })
