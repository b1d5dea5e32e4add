-- The numbered system is finite, and each of its moves can be told: so summaries are decided, and so is
-- how many can wait.
use Rattle.std.proofs.Common.{◌≡◌, ℕ, ◌+◌, ◌%◌, ◌^◌, ◌<◌, ◌⊎◌, sym, refl, ap, ◌∙◌, subst, inl, inr, ⊎_elim}
use mathlib.Core.Logic.Dec
use mathlib.Core.List.{Memᴰ as Mem}
use native.Mathlib.Decide.{dec_lt, ℕ_discrete}
use Rattle.pushdown.proofs.Filling.{either?}
use Rattle.pushdown.proofs.Decide.{Finite}
use Rattle.pushdown.proofs.Listing.{upto, in_upto}
use Rattle.program.specs.Program.{Prog}
use Rattle.program.specs.Table.{total}
use Rattle.program.specs.WellFormed.{Good}
use Rattle.program.specs.Numbers.{Move, on, down, up, MoveOf, numbered}
use Rattle.program.proofs.Numbered.{fst_of, snd_of, callee_of, waiter_of}
use Rattle.program.proofs.Targets.{loc_lt, moves_of, move_one, flow_in, call_in, resume_in}

module _ (g : Prog) where
  -- the moves of a number, if it is in the table
  pub known? : (n : ℕ) → ((m : Move) × MoveOf g n m) ⊎ ((m : Move) → MoveOf g n m → ⊥)
  known? n = go (dec_lt n (total g.shared g.procs))
    where
      go : Dec (n < total g.shared g.procs) → ((m : Move) × MoveOf g n m) ⊎ ((m : Move) → MoveOf g n m → ⊥)
      go (yes l) = inl (moves_of n l)
      go (no k) = inr (λ m o. k (loc_lt o.at))

  module _ {n : ℕ} where
    flows? : (k : Move) → MoveOf g n k → (m : ℕ) → Dec ((numbered g).flow n m)
    flows? (on x y) o m = Dec.of_iff (λ h. (x, y, o, h), λ h. let e = move_one o h.2 in ⊎_elim (λ p. inl (p ∙ sym (fst_of e))) (λ p. inr (p ∙ sym (snd_of e))) h.3) (either? (ℕ_discrete m x) (ℕ_discrete m y))
    flows? (down x r) o m = no (λ h. let e = move_one o h.2 in cc)
    flows? up o m = no (λ h. let e = move_one o h.2 in cc)

    calls? : (k : Move) → MoveOf g n k → (m : ℕ) → Dec ((r : ℕ) × (numbered g).call n m r)
    calls? (on x y) o m = no (λ h. let e = move_one o h.1 in cc)
    calls? (down x r) o m = Dec.of_iff (λ h. (r, subst (λ z. MoveOf g n (down z r)) h o), λ h. callee_of (move_one o h.1)) (ℕ_discrete x m)
    calls? up o m = no (λ h. let e = move_one o h.1 in cc)

  abbrev Over : ℕ → ℕ → ℕ → ℕ → Type 0
  Over n m b k = (r : ℕ) × (x : ℕ) × (numbered g).call n m r × (numbered g).exit b x × (r + x ≡ k)

  over? : {n b : ℕ} (i j : Move) → MoveOf g n i → MoveOf g b j → (m k : ℕ) → Dec (Over n m b k)
  over? (on x y) j o q m k = no (λ h. let e = move_one o h.2 in cc)
  over? up j o q m k = no (λ h. let e = move_one o h.2 in cc)
  over? (down x r) (on y z) o q m k = no (λ h. let e = move_one q h.3.0 in cc)
  over? (down x r) (down y z) o q m k = no (λ h. let e = move_one q h.3.0 in cc)
  over? {n} {b} (down x r) up o q m k =
      Dec.of_iff (λ h. (r, b % 2 ^ g.shared, subst (λ z. MoveOf g n (down z r)) h.0 o, (q, refl), h.1), λ h. let e = move_one o h.2 in (callee_of e, ap (λ z. z + b % 2 ^ g.shared) (waiter_of e) ∙ ap (λ z. h.0 + z) (sym h.3.1) ∙ h.4))
      (Dec.and (ℕ_discrete x m) (ℕ_discrete (r + b % 2 ^ g.shared) k))

  pub finite : Good g → Finite (numbered g)
  finite w = record {
    nodes = upto (total g.shared g.procs);
    same = ℕ_discrete;
    flow? = λ n m. ⊎_elim (λ k. flows? k.0 k.1 m) (λ k. no (λ h. k _ h.2)) (known? n);
    call? = λ n m. ⊎_elim (λ k. calls? k.0 k.1 m) (λ k. no (λ h. k _ h.1)) (known? n);
    over? = λ n m b k. ⊎_elim (λ i. ⊎_elim (λ j. over? i.0 j.0 i.1 j.1 m k) (λ j. no (λ h. j _ h.3.0)) (known? b)) (λ i. no (λ h. i _ h.2)) (known? n);
    flow_in = λ {n} {m} k f. in_upto (total g.shared g.procs) (flow_in w n m f);
    call_in = λ {n} {m} {r} k c. in_upto (total g.shared g.procs) (call_in w n m r c);
    over_in = λ {n} {m} {b} {r} {x} k c q y. in_upto (total g.shared g.procs) (resume_in w n m b r x c y);
  }

  -- and it has all numbers below the table's length
  pub in_table : (w : Good g) (n : ℕ) → n < total g.shared g.procs → Mem n (finite w).nodes
  unfolding finite
  in_table w n l = in_upto (total g.shared g.procs) l
