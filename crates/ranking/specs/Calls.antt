-- The calls between entries, as the sets of a solved system have them: an entry is a procedure's beginning
-- with a shared value, and its number is that of its node.
use Rattle.std.specs.Prelude.{◌≡◌, ℕ, suc, ◌+◌, ◌%◌, ◌<◌, ◌≤◌, List, length, slice_index}
use Rattle.saturation.specs.Bits.{On}
use Rattle.saturation.specs.System.{kind, first, proc, site_begin, site_end}

-- each procedure begins at a multiple of k
pub record Aligned (g : List ℕ) (k t : ℕ) : Type 0 where
  pub even : (n : ℕ) → n < t → proc g n % k ≡ 0

-- the entry of the procedure at b with shared value x has a call at node n
pub record CallAt (g : List ℕ) (t : ℕ) (w : List ℕ) (b x n : ℕ) : Type 0 where
  pub within : n < t
  pub calls : kind g n ≡ 1
  pub whose : proc g n ≡ b
  pub has : On w n x

-- the entry that a call at n begins
abbrev pub callee : List ℕ → ℕ → ℕ → ℕ
callee g k n = first g n + n % k

-- entry e calls entry d
pub record Link (g : List ℕ) (k t : ℕ) (w : List ℕ) (e d : ℕ) : Type 0 where
  pub base : ℕ
  pub value : ℕ
  pub node : ℕ
  pub small : value < k
  pub at : CallAt g t w base value node
  pub from : e ≡ base + value
  pub to : d ≡ callee g k node

-- so many calls, one within another, from entry e on
pub data Path (g : List ℕ) (k t : ℕ) (w : List ℕ) : ℕ → ℕ → Type 0 where
  stop : {e : ℕ} → Path g k t w e 0
  link : {e d m : ℕ} → Link g k t w e d → Path g k t w d m → Path g k t w e (suc m)

-- r calls can stand one within another over entry e, and no more
pub record Height (g : List ℕ) (k t : ℕ) (w : List ℕ) (e r : ℕ) : Type 0 where
  pub path : Path g k t w e r
  pub most : (m : ℕ) → Path g k t w e m → m ≤ r

-- no call of entry d is there
abbrev pub Done : List ℕ → ℕ → ℕ → List ℕ → ℕ → Type 0
Done g k t w d = (n x : ℕ) → n < t → kind g n ≡ 1 → callee g k n ≡ d → x < k → On w n x → ⊥

-- Procedures by number: where each begins, and which call places are its own. Each node belongs to one of
-- them, and each call stands in a place of the procedure that it calls.
pub record Grouped (g : List ℕ) (k t : ℕ) (c bases starts : List ℕ) : Type 0 where
  pub some : 0 < length bases
  pub most : length bases ≤ 64
  pub started : length bases < length starts
  pub begins : (f : ℕ) → f < length bases → (slice_index bases f + k ≤ t) × (proc g (slice_index bases f) ≡ slice_index bases f)
  pub owner : (n : ℕ) → n < t → (f : ℕ) × (f < length bases) × (slice_index bases f ≡ proc g n)
  pub apart : (f h : ℕ) → f < length bases → h < length bases → slice_index bases f ≡ slice_index bases h → f ≡ h
  pub listed : (f : ℕ) → f < length bases → slice_index starts (f + 1) ≤ length c
  pub sites : (s : ℕ) → s < length c → (site_begin c s < t) × (kind g (site_begin c s) ≡ 1) × (site_begin c s % k ≡ 0)
  pub all : (f n : ℕ) → f < length bases → n < t → kind g n ≡ 1 → first g n ≡ slice_index bases f → (s : ℕ) × (slice_index starts f ≤ s) × (s < slice_index starts (f + 1)) × (site_begin c s ≤ n) × (n < site_end g c s)
