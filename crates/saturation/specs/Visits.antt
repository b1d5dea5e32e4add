-- What a visit of a node leaves: every bit is true, and each node is closed or marked.
use Rattle.std.specs.Prelude.{◌≡◌, ℕ, ◌+◌, ◌%◌, ◌<◌, Bool, true, false, ◌⊎◌, List}
use Rattle.pushdown.specs.System.{Returns}
use Rattle.saturation.specs.Bits.{On, Grew}
use Rattle.saturation.specs.System.{kind, first, second, proc, words, Starts, Can}
use Rattle.saturation.specs.Marks.{Levels, In, Empty, More}

-- every bit is true: node n for n < t, and what an entry e can return with at t + e
pub record Sound (g : List ℕ) (k t root : ℕ) (w : List ℕ) : Type 0 where
  pub starts : Starts g k t root
  pub can : (n x : ℕ) → n < t → x < 64 → On w n x → Can g k root n x
  pub back : (e y : ℕ) → y < 64 → On w (t + e) y → Returns (words g k) e y

-- nothing follows at n that is not set
pub record Closed (g : List ℕ) (k t : ℕ) (w : List ℕ) (n : ℕ) : Type 0 where
  pub flow : kind g n ≡ 0 → (x : ℕ) → x < 64 → On w n x → On w (first g n) x × On w (second g n) x
  pub call : kind g n ≡ 1 → (x : ℕ) → x < k → On w n x → On w (first g n + n % k) (n % k)
  pub over : kind g n ≡ 1 → (x y : ℕ) → x < 64 → y < k → On w n x → On w (t + (first g n + n % k)) y → On w (second g n + y) x
  pub back : kind g n ≡ 2 → (x : ℕ) → x < k → On w n x → On w (t + (proc g n + x)) (n % k)

-- nothing is to be done at n, or n is marked
abbrev pub Covered : List ℕ → ℕ → ℕ → List ℕ → Levels → ℕ → Type 0
Covered g k t w m n = Closed g k t w n ⊎ In m n

-- what each step leaves
pub record Progress (g : List ℕ) (k t : ℕ) (w : List ℕ) (m : Levels) (w' : List ℕ) (m' : Levels) (new : Bool) : Type 0 where
  pub grew : Grew w w' new
  pub same : new ≡ false → m' ≡ m
  pub sound : (root : ℕ) → Sound g k t root w → Sound g k t root w'
  pub covered : (n : ℕ) → n < t → Covered g k t w m n → Covered g k t w' m' n
  pub kept : More m m'

-- and a visit of n
pub record Visit (g : List ℕ) (k t n : ℕ) (w : List ℕ) (m : Levels) (w' : List ℕ) (m' : Levels) (new : Bool) : Type 0 where
  pub progress : Progress g k t w m w' m' new
  pub closed : Closed g k t w' n

-- the rest of a call
pub record Resume (g : List ℕ) (k t n : ℕ) (w : List ℕ) (m : Levels) (w' : List ℕ) (m' : Levels) (new : Bool) : Type 0 where
  pub progress : Progress g k t w m w' m' new
  pub closed : (y : ℕ) → y < k → (x : ℕ) → x < 64 → On w' n x → On w' (t + (first g n + n % k)) y → On w' (second g n + y) x

-- if something was new, each call that enters at e has been marked, if it has bits at all
pub record Callers (g : List ℕ) (k t e : ℕ) (w : List ℕ) (m m' : Levels) (new : Bool) : Type 0 where
  pub kept : More m m'
  pub got : new ≡ true → (n : ℕ) → n < t → kind g n ≡ 1 → first g n + n % k ≡ e → In m' n ⊎ Empty w n
  pub same : new ≡ false → m' ≡ m
