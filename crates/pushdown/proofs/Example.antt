-- A procedure that calls itself or returns: node 0 calls 0 and waits to go on at 1, or goes to 1, where it returns.
use mathlib.Core.Path.{◌≡◌, refl}
use mathlib.Core.Logic.{⊎_elim}
use mathlib.Core.List.Memᴰ.{cases_cons}
use mathlib.Core.List.Memᴰ.{head}
use mathlib.Core.List.Memᴰ.{not-nil}
use mathlib.Core.List.{List, [], ◌∷◌, Memᴰ as Mem}
use Prim.Native.Nat.{ℕ, zero, suc, ◌<◌}
use native.Mathlib.Omega.{arith}
use Rattle.pushdown.specs.System.{Inside, here, on, over, Chain, stop, link}
use Rattle.pushdown.specs.Listed.{Moves, sys}

abbrev flows0 : ℕ → List ℕ
flows0 zero = 1 ∷ []
flows0 (suc n) = []

abbrev calls0 : ℕ → List (ℕ × ℕ)
calls0 zero = (0, 1) ∷ []
calls0 (suc n) = []

abbrev exits0 : ℕ → List ℕ
exits0 zero = []
exits0 (suc n) = 0 ∷ []

small_flow : (n m : ℕ) → Mem m (flows0 n) → m < 2
small_flow zero m k = ⊎_elim (λ e. omega arith) (λ q. absurd (not-nil q)) (cases_cons k)
small_flow (suc n) m k = absurd (not-nil k)

small_call : (n m r : ℕ) → Mem (m, r) (calls0 n) → (m < 2) × (r < 2)
small_call zero m r k = ⊎_elim (λ e. let a : m ≡ 0 = (λ i. (e i).0) in let b : r ≡ 1 = (λ i. (e i).1) in (omega arith, omega arith)) (λ q. absurd (not-nil q)) (cases_cons k)
small_call (suc n) m r k = absurd (not-nil k)

abbrev again : Moves ℕ ℕ
again = record { bound = 2; flows = flows0; calls = calls0; exits = exits0; resume = λ r x. r; flows_in = λ n m l k. small_flow n m k; calls_in = λ n m r l k. (small_call n m r k).0; resume_in = λ n m b r x l k q y. (small_call n m r k).1 }

-- over a call, and any number of calls within one another
past : Inside (sys again) 0 1
past = over {m = 0} {b = 1} {r = 1} {x = 0} (here {e = 0}) (head refl) (on (here {e = 0}) (head refl)) (head refl)

many : (d : ℕ) → Chain (sys again) 0 d
many zero = stop
many (suc d) = link (0, 1, here, head refl) (many d)
