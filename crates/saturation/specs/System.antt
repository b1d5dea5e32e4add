-- A pushdown system on numbers: four words for each node, and the table of bits that tells what it can do.
use Rattle.std.specs.Prelude.{◌≡◌, ℕ, ◌+◌, ◌*◌, ◌%◌, ◌<◌, ◌≤◌, ◌⊎◌, ◌↔◌, List, length, slice_index}
use Rattle.pushdown.specs.System.{Sys, Inside, Entered, Returns}
use Rattle.saturation.specs.Bits.{On}

-- 0: flow to first or to second; 1: call; 2: return
unfoldable pub kind : List ℕ → ℕ → ℕ
kind g n = slice_index g (4 * n)

unfoldable pub first : List ℕ → ℕ → ℕ
first g n = slice_index g (4 * n + 1)

unfoldable pub second : List ℕ → ℕ → ℕ
second g n = slice_index g (4 * n + 2)

-- where the node's procedure begins with shared value 0
unfoldable pub proc : List ℕ → ℕ → ℕ
proc g n = slice_index g (4 * n + 3)

-- the pushdown system that the words say, with k shared values: a node's is its rest by k
abbrev pub words : List ℕ → ℕ → Sys ℕ ℕ ℕ
words g k = record {
  flow = λ n m. (kind g n ≡ 0) × ((m ≡ first g n) ⊎ (m ≡ second g n));
  call = λ n m r. (kind g n ≡ 1) × (m ≡ first g n + n % k) × (r ≡ second g n);
  exit = λ n x. (kind g n ≡ 2) × (x ≡ n % k);
  resume = λ r x. r + x;
}

-- the words say a system of t nodes with k shared values
pub record Fine (g : List ℕ) (k t : ℕ) : Type 0 where
  pub long : length g ≡ 4 * t
  pub some : 0 < k
  pub few : k ≤ 64
  pub kinds : (n : ℕ) → n < t → kind g n ≤ 2
  pub flows : (n : ℕ) → n < t → kind g n ≡ 0 → (first g n < t) × (second g n < t) × (proc g (first g n) ≡ proc g n) × (proc g (second g n) ≡ proc g n)
  pub callees : (n : ℕ) → n < t → kind g n ≡ 1 → (first g n % k ≡ 0) × (first g n + k ≤ t) × ((x : ℕ) → x < k → proc g (first g n + x) ≡ first g n)
  pub callers : (n : ℕ) → n < t → kind g n ≡ 1 → (second g n + k ≤ t) × ((x : ℕ) → x < k → proc g (second g n + x) ≡ proc g n)
  pub procs : (n : ℕ) → n < t → proc g n + k ≤ t

-- a word for each place that calls: its first node, whose call goes on at the place's end
unfoldable pub site_begin : List ℕ → ℕ → ℕ
site_begin c s = slice_index c s

abbrev pub site_end : List ℕ → List ℕ → ℕ → ℕ
site_end g c s = second g (site_begin c s)

-- the places that call a procedure follow each other, and its returns tell which they are: each call stands in one of its callee's
pub record Sited (g : List ℕ) (k t : ℕ) (c : List ℕ) : Type 0 where
  pub calls : (s : ℕ) → s < length c → (site_begin c s < t) × (kind g (site_begin c s) ≡ 1)
  pub even : (s : ℕ) → s < length c → site_begin c s % k ≡ 0
  pub lists : (q : ℕ) → q < t → kind g q ≡ 2 → (proc g q % k ≡ 0) × (second g q ≤ length c)
  pub all : (q n : ℕ) → q < t → kind g q ≡ 2 → n < t → kind g n ≡ 1 → first g n ≡ proc g q → (s : ℕ) × (first g q ≤ s) × (s < second g q) × (site_begin c s ≤ n) × (n < site_end g c s)

-- the entry at root, with shared value 0
pub record Starts (g : List ℕ) (k t root : ℕ) : Type 0 where
  pub within : root < t
  pub even : root % k ≡ 0
  pub own : proc g root ≡ root

-- the procedure of n was entered with shared value x, and can be inside at n
abbrev pub Can : List ℕ → ℕ → ℕ → ℕ → ℕ → Type 0
Can g k root n x = (e : ℕ) × (e % k ≡ x) × Entered (words g k) root e × Inside (words g k) e n

-- the table tells of each node with which shared values its procedure was entered if it can be inside there
abbrev pub TellsInside : List ℕ → ℕ → ℕ → ℕ → List ℕ → Type 0
TellsInside g k t root w = (n x : ℕ) → n < t → x < 64 → On w n x ↔ Can g k root n x

-- the table tells all: of each node with which shared values its procedure was entered if it can be inside there, and of each entry with which it can return
pub record Tells (g : List ℕ) (k t root : ℕ) (w : List ℕ) : Type 0 where
  pub inside : (n x : ℕ) → n < t → x < 64 → On w n x ↔ Can g k root n x
  pub returns : (e y : ℕ) → Entered (words g k) root e → y < k → On w (t + e) y ↔ Returns (words g k) e y
