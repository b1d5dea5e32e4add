-- What the engine asks for, and when it has begun.
use Rattle.std.specs.Prelude.{◌≡◌, ℕ, ◌+◌, ◌*◌, ◌%◌, ◌^◌, ◌<◌, ◌≤◌, List, length}
use Rattle.saturation.specs.declared.System.{System}
use Rattle.saturation.specs.Bits.{On, room}
use Rattle.saturation.specs.System.{kind, first, second, proc, site_begin, site_end, Fine, Sited}
use Rattle.saturation.specs.Marks.{Levels, base, total, Summarized}
use Rattle.saturation.specs.Visits.{Sound, Covered}

-- the words say a system, and there is room for its sets and its marks
pub record Ready (s : System) (w m : List ℕ) : Type 0 where
  pub fine : Fine s.graph.now s.shared s.nodes
  pub sited : Sited s.graph.now s.shared s.nodes s.sites.now
  pub long : 4 * s.nodes ≤ length w
  pub wide : s.nodes ≤ base m
  pub short : length m < 2 ^ 40

-- as Sited: each call stands in some place of its callee's
pub record Listed (g : List ℕ) (k t : ℕ) (c : List ℕ) : Type 0 where
  pub calls : (s : ℕ) → s < length c → (site_begin c s < t) × (kind g (site_begin c s) ≡ 1)
  pub even : (s : ℕ) → s < length c → site_begin c s % k ≡ 0
  pub lists : (q : ℕ) → q < t → kind g q ≡ 2 → (proc g q % k ≡ 0) × (second g q ≤ length c)
  pub all : (q n : ℕ) → q < t → kind g q ≡ 2 → n < t → kind g n ≡ 1 → first g n ≡ proc g q →
      ((s : ℕ) → first g q ≤ s → s < second g q → site_begin c s ≤ n → n < site_end g c s → ⊥) → ⊥

-- the same of an engine's parts
pub record Able (s : System) (w : List ℕ) (m : Levels) : Type 0 where
  pub fine : Fine s.graph.now s.shared s.nodes
  pub listed : Listed s.graph.now s.shared s.nodes s.sites.now
  pub long : 4 * s.nodes ≤ length w
  pub wide : s.nodes ≤ 32 * length m.nodes
  pub short : length m.nodes < 2 ^ 40

-- what is left to do, with so many words of marks: it falls with each visit
abbrev pub remaining : ℕ → List ℕ → Levels → ℕ
remaining len w m = room w * (2 ^ 32 * len + 1) + (total m.nodes + total m.words)

-- all bits are true, and each node is closed or marked
pub record Begun (s : System) (root : ℕ) (w : List ℕ) (m : Levels) : Type 0 where
  pub root_on : On w root 0
  pub sound : Sound s.graph.now s.shared s.nodes root w
  pub covered : (n : ℕ) → n < s.nodes → Covered s.graph.now s.shared s.nodes w m n
  pub summary : Summarized m
