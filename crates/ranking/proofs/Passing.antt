-- The calls of one entry are passed place by place, and in each place node by node, as far apart as there are
-- shared values.
use Rattle.std.proofs.Common.{◌≡◌, ℕ, ◌+◌, ◌%◌, ◌<◌, ◌≤◌, List, length, get_or, sym, ap, ◌∙◌, subst, inl, inr, arith}
use native.Mathlib.Nat.{add-mod_right}
use Rattle.std.proofs.lemmas.Nat.{mod_below}
use Rattle.std.proofs.lemmas.Bool.{cases_lt}
use Rattle.saturation.specs.Bits.{On}
use Rattle.saturation.specs.declared.System.{System}
use Rattle.saturation.specs.System.{kind, first, Fine}
use Rattle.saturation.proofs.Complete.{mod_from}
use Rattle.saturation.proofs.Sites.{same_entry, close}
use Rattle.ranking.specs.declared.Procedures.{Procedures}
use Rattle.ranking.specs.declared.levels.Ranker.{Ranker}
use Rattle.ranking.specs.Calls.{callee}
use Rattle.ranking.specs.Levels.{Taken}
use Rattle.ranking.specs.Steps.{Step}
use Rattle.ranking.proofs.Facts.{Facts}
use Rattle.ranking.proofs.Steps.{step_none, step_then}

-- a procedure begins at a multiple of the number of shared values
pub base_even : {s : System} {p : Procedures} {w c next : List ℕ} → Facts s p w c next → (f : ℕ) → f < length p.bases.now → get_or p.bases.now f 0 % s.shared ≡ 0
base_even {s} {p} k f h =
    let b = k.begins f h in
    let z = k.countable.aligned.even (get_or p.bases.now f 0) (omega (arith, b.0, k.countable.fine.some)) in
    subst (λ a. a % s.shared ≡ 0) b.1 z

-- a call of the entry has its value
pub value_is : {g : List ℕ} {k t : ℕ} → Fine g k t → (b v i : ℕ) → b % k ≡ 0 → v < k → i < t → kind g i ≡ 1 → callee g k i ≡ b + v → (first g i ≡ b) × (i % k ≡ v)
value_is {g} {k} fine b v i even small h z e = same_entry k (first g i) b (i % k) v (fine.callees i h z).0 even (mod_below i k fine.some) small e

-- the nodes of a place below n have been passed, for the entry of the procedure at b with value v
pub record PlacePassed (a r : Ranker) (b begin v n : ℕ) : Type 0 where
  pub rest : n % a.system.shared ≡ v
  pub settled : Step (λ d. d ≡ b + v) a r
  pub gone : Taken a.system.graph.now a.system.shared a.system.nodes r.sets.now (λ i. (begin ≤ i) × (i < n) × (callee a.system.graph.now a.system.shared i ≡ b + v))

module _ (a : Ranker) (fine : Fine a.system.graph.now a.system.shared a.system.nodes) (b begin v : ℕ) (even : b % a.system.shared ≡ 0) (small : v < a.system.shared) where
  abbrev g : List ℕ
  g = a.system.graph.now

  abbrev k : ℕ
  k = a.system.shared

  pub place_first : begin % k ≡ 0 → PlacePassed a a b begin v (begin + v)
  place_first z = record {
    rest = mod_from begin v k z small;
    settled = step_none a;
    gone = λ i x hi ki q hx o.
        let e : i % k ≡ v = (value_is fine b v i even small hi ki q.2).1 in
        let same : begin + v ≡ i = close k i (begin + v) (omega (arith, q.1)) (omega (arith, q.0)) (mod_from begin v k z small ∙ sym e) in
        absurd (omega (arith, q.1));
  }

  module _ {r : Ranker} {n : ℕ} (l : PlacePassed a r b begin v n) where
    further : {u : Ranker} → Step (λ d. d ≡ b + v) a u → ((i x : ℕ) → On u.sets.now i x → On r.sets.now i x) → ((x : ℕ) → n < a.system.nodes → kind g n ≡ 1 → first g n ≡ b → x < k → On u.sets.now n x → ⊥) → PlacePassed a u b begin v (n + k)
    further {u} t fewer here = record {
      rest = add-mod_right n k ∙ l.rest;
      settled = t;
      gone = λ i x hi ki q hx o.
          let e = value_is fine b v i even small hi ki q.2 in
          elim (cases_lt i n) [
            | inl h ↦ l.gone i x hi ki (q.0, h, q.2) hx (fewer i x o)
            | inr h ↦
                (let same : i ≡ n = close k n i h q.1 (e.1 ∙ sym l.rest) in
                here x (omega arith) (subst (λ z. kind g z ≡ 1) same ki) (subst (λ z. first g z ≡ b) same e.0) hx (subst (λ z. On u.sets.now z x) same o))
          ];
    }

    -- the call at n has been removed
    pub place_call : {u : Ranker} → first g n ≡ b → Step (λ d. d ≡ callee r.system.graph.now r.system.shared n) r u → ((x : ℕ) → x < r.system.shared → On u.sets.now n x → ⊥) → PlacePassed a u b begin v (n + k)
    place_call f t none = further
        (step_then l.settled (λ d e. e ∙ ap (λ (s : System). callee s.graph.now s.shared n) l.settled.system ∙ (λ i. f i + l.rest i)) t)
        t.settles.fewer
        (λ x h c z hx. none x (subst (λ (s : System). x < s.shared) (sym l.settled.system) hx))

    -- n calls nothing, or another
    pub place_other : (kind g n ≡ 1 → first g n ≡ b → ⊥) → PlacePassed a r b begin v (n + k)
    place_other z = further l.settled (λ i x q. q) (λ x h c e. absurd (z c e))
