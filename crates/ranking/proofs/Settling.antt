-- One call is removed from one entry: the counts stay right, the level is kept, and whoever waited still waits
-- or is of the next level.
use Rattle.std.proofs.Common.{◌≡◌, ℕ, suc, ◌+◌, ◌-◌, ◌<◌, ◌≤◌, ◌≢◌, ◌⊎◌, List, length, get_or, set, sym, refl, ap, ◌∙◌, subst, inl, inr, ⊎_elim, arith}
use Rattle.std.proofs.lemmas.List.{get_or-set_same}
use Rattle.std.proofs.lemmas.Bool.{cases_eq}
use Rattle.saturation.specs.Bits.{On}
use Rattle.saturation.specs.Marks.{Removed}
use Rattle.saturation.specs.System.{kind, proc}
use Rattle.ranking.specs.Calls.{Aligned, CallAt, callee, Height}
use Rattle.ranking.specs.Counting.{Counts, Counted}
use Rattle.ranking.specs.Levels.{Level, Waiting}
use Rattle.ranking.proofs.Tallies.{counts_same, counts_less}
use Rattle.ranking.proofs.Entries.{other_word}

module _ {g : List ℕ} {k t : ℕ} (aligned : Aligned g k t) (few : k ≤ 64) {w v : List ℕ} {n x : ℕ} (within : n < t) (b : x < k) (calls : kind g n ≡ 1) (has : On w n x) (gone : Removed w v n x) where
  here : CallAt g t w (proc g n) x n
  here = record { within = within; calls = calls; whose = refl; has = has }

  at_only : {a y i : ℕ} → CallAt g t v a y i → CallAt g t w a y i
  at_only {y = y} {i = i} p = record { within = p.within; calls = p.calls; whose = p.whose; has = gone.only i y p.has }

  at_kept : {a y i : ℕ} → y < k → CallAt g t w a y i → CallAt g t v a y i ⊎ ((i ≡ n) × (y ≡ x))
  at_kept {y = y} {i = i} l p = ⊎_elim (λ q. inl (record { within = p.within; calls = p.calls; whose = p.whose; has = q })) inr (gone.kept i y (omega arith) p.has)

  at_other : {a y i : ℕ} → y < k → (i ≢ n) ⊎ (y ≢ x) → CallAt g t w a y i → CallAt g t v a y i
  at_other l d p = elim (at_kept l p) [ inl q ↦ q | inr q ↦ absurd (⊎_elim (λ e. e q.0) (λ e. e q.1) d) ]

  -- the entry's own count
  fewer_one : (c : ℕ) → Counts (CallAt g t w (proc g n) x) t c → (d : ℕ) × (c ≡ suc d) × Counts (CallAt g t v (proc g n) x) t d
  fewer_one c h = counts_less n within here (λ p. gone.gone p.has) (λ i e. at_other b (inl e)) (λ i e. at_only) h

  pub settle_counted : (c : List ℕ) (z : ℕ) → proc g n + x < length c → z ≡ get_or c (proc g n + x) 0 - 1 → Counted g k t w t c → Counted g k t v t (set c (proc g n + x) z)
  settle_counted c z long is h m y hm hy = elim (cases_eq (proc g m) (proc g n)) [
    | inr q ↦ other (inl q)
    | inl q ↦ elim (cases_eq y x) [
      | inr e ↦ other (inr e)
      | inl e ↦
          (let r = fewer_one _ (h n x within b) in
          let s : proc g m + y ≡ proc g n + x = omega arith in
          let u : r.0 ≡ get_or (set c (proc g n + x) z) (proc g m + y) 0 = sym (ap (λ i. get_or (set c (proc g n + x) z) i 0) s ∙ get_or-set_same c (proc g n + x) z 0 long ∙ is ∙ omega (arith, r.1)) in
          subst (Counts (CallAt g t v (proc g m) y) t) u (subst (λ a. Counts (CallAt g t v a y) t r.0) (sym q) (subst (λ a. Counts (CallAt g t v (proc g n) a) t r.0) (sym e) r.2)))
    ]
  ]
    where
      other : (proc g m ≢ proc g n) ⊎ (y ≢ x) → Counts (CallAt g t v (proc g m) y) t (get_or (set c (proc g n + x) z) (proc g m + y) 0)
      other d = subst (Counts (CallAt g t v (proc g m) y) t) (sym (other_word aligned c m n y x z hm within hy b d))
          (counts_same (λ i l p. at_other hy (⊎_elim (λ e. inl (λ s. e (sym p.whose ∙ ap (proc g) s))) inr d) p) (λ i l. at_only) (h m y hm hy))

  module _ (bases next after : List ℕ) where
    pub settle_level : ((f y : ℕ) → f < length bases → y < k → On after f y → On next f y ⊎ (((i : ℕ) → CallAt g t v (proc g n) x i → ⊥) × (get_or bases f 0 ≡ proc g n) × (y ≡ x))) →
        (o : List ℕ) (r : ℕ) → Height g k t o (callee g k n) r → Level g k t o r bases w next → Level g k t o r bases v after
    settle_level new o r tall l = record {
      fewer = λ m y p. l.fewer m y (gone.only m y p);
      settled = λ m y hm z hy p. elim (l.settled m y hm z hy p) [
        | inr q ↦ inr q
        | inl q ↦ elim (gone.kept m y (omega arith) q) [
          | inl u ↦ inl u
          | inr u ↦ inr (r, omega arith, subst (λ a. Height g k t o (callee g k a) r) (sym u.0) tall)
        ]
      ];
      ready = λ f y hf hy p. elim (new f y hf hy p) [
        | inl q ↦ (let s = l.ready f y hf hy q in ((λ i a. s.0 i (at_only a)), s.1))
        | inr q ↦ (
          (λ i a. q.0 i (subst (λ a. CallAt g t v (proc g n) a i) q.2 (subst (λ a. CallAt g t v a y i) q.1 a))),
          (n, record { within = within; calls = calls; whose = sym q.1; has = subst (On o n) (sym q.2) (l.fewer n x has) }, tall),
        )
      ];
    }

    pub settle_waiting : ((f y : ℕ) → On next f y → On after f y) → ((i : ℕ) × CallAt g t v (proc g n) x i) ⊎ ((f : ℕ) → f < length bases → get_or bases f 0 ≡ proc g n → On after f x) →
        (f y : ℕ) → f < length bases → y < k → Waiting g t bases w next f y → Waiting g t bases v after f y
    settle_waiting keep last f y hf hy (inr p) = inr (keep f y p)
    settle_waiting keep last f y hf hy (inl p) = elim (at_kept hy p.1) [
      | inl q ↦ inl (p.0, q)
      | inr q ↦
          (let e : get_or bases f 0 ≡ proc g n = sym p.1.whose ∙ ap (proc g) q.0 in
          elim last [
            | inl s ↦ inl (s.0, subst (λ a. CallAt g t v (get_or bases f 0) a s.0) (sym q.1) (subst (λ a. CallAt g t v a x s.0) (sym e) s.1))
            | inr s ↦ inr (subst (On after f) (sym q.1) (s f hf e))
          ])
    ]
