-- Systems on the numbers below a bound, whose moves are listed.
use mathlib.Core.List.{List, Memᴰ as Mem}
use Rattle.std.specs.Prelude.{ℕ, ◌<◌}
use Rattle.pushdown.specs.System.{Sys}

pub record Moves (R X : Type 0) : Type 0 where
  pub bound : ℕ
  pub flows : ℕ → List ℕ
  pub calls : ℕ → List (ℕ × R)
  pub exits : ℕ → List X
  pub resume : R → X → ℕ
  pub flows_in : (n m : ℕ) → n < bound → Mem m (flows n) → m < bound
  pub calls_in : (n m : ℕ) (r : R) → n < bound → Mem (m, r) (calls n) → m < bound
  pub resume_in : (n m b : ℕ) (r : R) (x : X) → n < bound → Mem (m, r) (calls n) → b < bound → Mem x (exits b) → resume r x < bound

abbrev pub sys : {R X : Type 0} → Moves R X → Sys ℕ R X
sys {R} {X} M = record {
  flow = λ n m. Mem m (M.flows n);
  call = λ n m r. Mem (m, r) (M.calls n);
  exit = λ n x. Mem x (M.exits n);
  resume = λ r x. M.resume r x;
}
