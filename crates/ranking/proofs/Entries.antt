-- The words of entries: no two entries have the same number, so a word is changed for one of them only.
use Rattle.std.proofs.Common.{◌≡◌, ℕ, ◌+◌, ◌<◌, ◌≢◌, ◌⊎◌, List, get_or, set, inl, inr}
use Rattle.std.proofs.lemmas.List.{get_or-set_other}
use Rattle.saturation.specs.System.{proc}
use Rattle.saturation.proofs.Sites.{same_entry}
use Rattle.ranking.specs.Calls.{Aligned}

module _ {g : List ℕ} {k t : ℕ} (a : Aligned g k t) where
  pub entry_is : (m n x y : ℕ) → m < t → n < t → x < k → y < k → proc g m + x ≡ proc g n + y → (proc g m ≡ proc g n) × (x ≡ y)
  entry_is m n x y hm hn hx hy e = same_entry k (proc g m) (proc g n) x y (a.even m hm) (a.even n hn) hx hy e

  pub other_word : (c : List ℕ) (m n x y v : ℕ) → m < t → n < t → x < k → y < k → (proc g m ≢ proc g n) ⊎ (x ≢ y) → get_or (set c (proc g n + y) v) (proc g m + x) 0 ≡ get_or c (proc g m + x) 0
  other_word c m n x y v hm hn hx hy d =
      let ne : proc g m + x ≢ proc g n + y = λ e. let r = entry_is m n x y hm hn hx hy e in elim d [ inl p ↦ p r.0 | inr p ↦ p r.1 ] in
      get_or-set_other c (proc g n + y) (proc g m + x) v 0 ne
