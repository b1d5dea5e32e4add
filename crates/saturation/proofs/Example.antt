-- What the engine asks for can be met: a first procedure calls a second one, which flows to its return.
use Rattle.std.proofs.Common.{◌≡◌, ℕ, ◌+◌, ◌%◌, ◌<◌, ◌≤◌, List, [], ◌∷◌, refl, arith, below_none, below_more}
use Rattle.saturation.specs.System.{kind, first, second, proc, site_begin, site_end, Fine, Sited, Starts}

-- node 0 calls at 2 and goes on at 1, which returns; 2 flows to 3, which returns to the one call place
abbrev graph : List ℕ
graph = 1 ∷ 2 ∷ 1 ∷ 0 ∷ 2 ∷ 0 ∷ 0 ∷ 0 ∷ 0 ∷ 3 ∷ 3 ∷ 2 ∷ 2 ∷ 0 ∷ 1 ∷ 2 ∷ []

abbrev sites : List ℕ
sites = 0 ∷ []

each : (P : ℕ → Type 0) → P 0 → P 1 → P 2 → P 3 → (n : ℕ) → n < 4 → P n
each P a b c d = below_more P 3 (below_more P 2 (below_more P 1 (below_more P 0 (below_none P) a) b) c) d

one : (P : ℕ → Type 0) → P 0 → (n : ℕ) → n < 1 → P n
one P a = below_more P 0 (below_none P) a

pub example_fine : Fine graph 1 4
unfolding kind first second proc
example_fine = record {
  long = refl;
  some = omega arith;
  few = omega arith;
  kinds = each (λ n. kind graph n ≤ 2) (omega arith) (omega arith) (omega arith) (omega arith);
  flows = each (λ n. kind graph n ≡ 0 → (first graph n < 4) × (second graph n < 4) × (proc graph (first graph n) ≡ proc graph n) × (proc graph (second graph n) ≡ proc graph n))
      (λ z. absurd (omega arith)) (λ z. absurd (omega arith)) (λ z. (omega arith, omega arith, refl, refl)) (λ z. absurd (omega arith));
  callees = each (λ n. kind graph n ≡ 1 → (first graph n % 1 ≡ 0) × (first graph n + 1 ≤ 4) × ((x : ℕ) → x < 1 → proc graph (first graph n + x) ≡ first graph n))
      (λ z. (refl, omega arith, one (λ x. proc graph (2 + x) ≡ 2) refl)) (λ z. absurd (omega arith)) (λ z. absurd (omega arith)) (λ z. absurd (omega arith));
  callers = each (λ n. kind graph n ≡ 1 → (second graph n + 1 ≤ 4) × ((x : ℕ) → x < 1 → proc graph (second graph n + x) ≡ proc graph n))
      (λ z. (omega arith, one (λ x. proc graph (1 + x) ≡ 0) refl)) (λ z. absurd (omega arith)) (λ z. absurd (omega arith)) (λ z. absurd (omega arith));
  procs = each (λ n. proc graph n + 1 ≤ 4) (omega arith) (omega arith) (omega arith) (omega arith);
}

-- a call of the procedure of the return q stands in a place of q's
abbrev Listed : ℕ → ℕ → Type 0
Listed q n = kind graph n ≡ 1 → first graph n ≡ proc graph q → (s : ℕ) × (first graph q ≤ s) × (s < second graph q) × (site_begin sites s ≤ n) × (n < site_end graph sites s)

pub example_sited : Sited graph 1 4 sites
unfolding kind first second proc site_begin
example_sited = record {
  calls = one (λ s. (site_begin sites s < 4) × (kind graph (site_begin sites s) ≡ 1)) (omega arith, refl);
  even = one (λ s. site_begin sites s % 1 ≡ 0) refl;
  lists = each (λ q. kind graph q ≡ 2 → (proc graph q % 1 ≡ 0) × (second graph q ≤ 1))
      (λ z. absurd (omega arith)) (λ z. (refl, omega arith)) (λ z. absurd (omega arith)) (λ z. (refl, omega arith));
  all = λ q n h. each (λ q. kind graph q ≡ 2 → n < 4 → Listed q n)
      (λ z. absurd (omega arith))
      (λ z. each (Listed 1) (λ y e. absurd (omega arith)) (λ y. absurd (omega arith)) (λ y. absurd (omega arith)) (λ y. absurd (omega arith)) n)
      (λ z. absurd (omega arith))
      (λ z. each (Listed 3) (λ y e. (0, omega arith, omega arith, omega arith, omega arith)) (λ y. absurd (omega arith)) (λ y. absurd (omega arith)) (λ y. absurd (omega arith)) n)
      q h;
}

pub example_starts : Starts graph 1 4 0
unfolding proc
example_starts = record { within = omega arith; even = refl; own = refl }
