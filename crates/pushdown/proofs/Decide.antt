-- With finitely many nodes summaries are decided, and so is how many can wait. An entry is ranked when
-- all that it calls are ranked; when nothing new can be ranked, an entry that is not calls another that
-- is not, so that there are chains of any length.
use mathlib.Core.Path.{◌≡◌, refl, sym, ap, subst}
use mathlib.Core.Logic.Dec
use mathlib.Core.Logic.{◌⊎◌, inl, inr, ⊎_elim}
use mathlib.Core.List.Memᴰ.{append_left}
use mathlib.Core.List.Memᴰ.{append_right}
use mathlib.Core.List.Memᴰ.{cases_cons}
use mathlib.Core.List.Memᴰ.{head}
use mathlib.Core.List.Memᴰ.{not-nil}
use mathlib.Core.List.Memᴰ.{tail}
use mathlib.Core.List.{List, [], ◌∷◌, ◌++◌, Memᴰ as Mem}
use Prim.Native.Nat.{ℕ, zero, suc, ◌≤◌}
use native.Mathlib.Omega.{arith}
use native.Mathlib.Decide.{dec_le}
use lib.ListN.{length}
use Rattle.pushdown.specs.System.{Sys, Reached, Inside, here, on, over, Entered, first, enters, Calls, Chain, stop, link, Closed}
use Rattle.pushdown.specs.Laws.{Deepest}
use Rattle.pushdown.proofs.Runs.{least, reached_is, depth_is}
use Rattle.pushdown.proofs.Filling.{either?, Any, any?, mem?, Full, filled}

pub pair : {A B : Type 0} → A → List B → List (A × B)
pair a [] = []
pair a (b ∷ l) = (a, b) ∷ pair a l

pub pairs : {A B : Type 0} → List A → List B → List (A × B)
pairs [] k = []
pairs (a ∷ l) k = pair a k ++ pairs l k

pub in_pair : {A B : Type 0} {a c : A} {b : B} {k : List B} → a ≡ c → Mem b k → Mem (a, b) (pair c k)
unfolding pair
in_pair p (head e) = head (λ i. (p i, e i))
in_pair p (tail m) = tail (in_pair p m)

pub in_pairs : {A B : Type 0} {a : A} {b : B} {l : List A} {k : List B} → Mem a l → Mem b k → Mem (a, b) (pairs l k)
unfolding pairs
in_pairs {k} (head {xs = xs} e) m = append_left (pairs xs k) (in_pair e m)
in_pairs {k} (tail {x = x} q) m = append_right (pair x k) (in_pairs q m)

-- the nodes are listed, and each part of the rules is decided
pub record Finite {N R X : Type 0} (S : Sys N R X) : Type 0 where
  pub nodes : List N
  pub same : (a b : N) → Dec (a ≡ b)
  pub flow? : (n m : N) → Dec (S.flow n m)
  pub call? : (n m : N) → Dec ((r : R) × S.call n m r)
  pub over? : (n m b k : N) → Dec ((r : R) × (x : X) × S.call n m r × S.exit b x × (S.resume r x ≡ k))
  pub flow_in : {n m : N} → Mem n nodes → S.flow n m → Mem m nodes
  pub call_in : {n m : N} {r : R} → Mem n nodes → S.call n m r → Mem m nodes
  pub over_in : {n m b : N} {r : R} {x : X} → Mem n nodes → S.call n m r → Mem b nodes → S.exit b x → Mem (S.resume r x) nodes

module _ {N R X : Type 0} (S : Sys N R X) (F : Finite S) where
  abbrev New : List (N × N) → N × N → Type 0
  New s p = (p.0 ≡ p.1) ⊎ (Any s (λ q. (q.0 ≡ p.0) × S.flow q.1 p.1) ⊎
      Any s (λ q. (q.0 ≡ p.0) × Any s (λ z. (r : R) × (x : X) × S.call q.1 z.0 r × S.exit z.1 x × (S.resume r x ≡ p.1))))

  new? : (s : List (N × N)) (p : N × N) → Dec (New s p)
  new? s p = either? (F.same p.0 p.1) (either? (any? s _ (λ q. Dec.and (F.same q.0 p.0) (F.flow? q.1 p.1)))
      (any? s _ (λ q. Dec.and (F.same q.0 p.0) (any? s _ (λ z. F.over? q.1 z.0 z.1 p.1)))))

  In : N × N → Type 0
  In p = Inside S p.0 p.1

  sound : (s : List (N × N)) → ((p : N × N) → Mem p s → In p) → (p : N × N) → New s p → In p
  unfolding In
  sound s d p (inl e) = subst (λ (z : N). Inside S p.0 z) e here
  sound s d p (inr (inl h)) = subst (λ (z : N). Inside S z p.1) h.2.0 (on (d h.0 h.1) h.2.1)
  sound s d p (inr (inr h)) =
      let z = h.2.1 in
      subst (λ (k : N). Inside S k p.1) h.2.0 (subst (λ (k : N). Inside S h.0.0 k) z.2.4 (over (d h.0 h.1) z.2.2 (d z.0 z.1) z.2.3))

  table : Full New new? In sound (pairs F.nodes F.nodes) []
  table = filled New new? In sound (pairs F.nodes F.nodes)

  -- all that is inside is in the table
  Told : N → N → Type 0
  Told e n = Mem e F.nodes → Mem n F.nodes × Mem (e, n) table.out

  told : Closed S Told
  unfolding Told
  told = record {
    begins = λ {e} me. (me, table.closed (e, e) (in_pairs me me) (inl refl));
    moves = λ {e} {n} {m} p f me. let h = p me in let mm = F.flow_in h.0 f in (mm, table.closed (e, m) (in_pairs me mm) (inr (inl ((e, n), h.1, (refl, f)))));
    passes = λ {e} {n} {m} {b} {r} {x} p c q y me. let h = p me in let mm = F.call_in h.0 c in let k = q mm in let mk = F.over_in h.0 c k.0 y in
        (mk, table.closed (e, S.resume r x) (in_pairs me mk) (inr (inr ((e, n), h.1, (refl, ((m, b), k.1, (r, x, c, y, refl)))))));
  }

  pub inside_in : {e n : N} → Mem e F.nodes → Inside S e n → Mem n F.nodes
  unfolding Told
  inside_in me i = (least told i me).0

  same2 : (p q : N × N) → Dec (p ≡ q)
  same2 p q = Dec.of_iff (λ h i. (h.0 i, h.1 i), λ e. (ap (λ (z : N × N). z.0) e, ap (λ (z : N × N). z.1) e)) (Dec.and (F.same p.0 q.0) (F.same p.1 q.1))

  pub inside? : (e n : N) → Mem e F.nodes → Dec (Inside S e n)
  unfolding Told In
  inside? e n me = Dec.of_iff (table.right (e, n), λ i. (least told i me).1) (mem? same2 (e, n) table.out)

  -- one procedure, begun at a node of the list, calls another
  abbrev Within : N → N → Type 0
  Within e m = Mem e F.nodes × Calls S e m

  within? : (e m : N) → Dec (Within e m)
  within? e m = go (mem? F.same e F.nodes)
    where
      go : Dec (Mem e F.nodes) → Dec (Within e m)
      go (no h) = no (λ p. h p.0)
      go (yes me) = Dec.of_iff (λ h. (me, (h.0, h.2.1.0, h.2.0, h.2.1.1)), λ p. (p.1.0, inside_in me p.1.2, (p.1.2, (p.1.1, p.1.3))))
          (any? F.nodes (λ n. Inside S e n × ((r : R) × S.call n m r)) (λ n. Dec.and (inside? e n me) (F.call? n m)))

  pub calls_in : {e m : N} → Mem e F.nodes → Calls S e m → Mem m F.nodes
  calls_in me h = F.call_in (inside_in me h.2) h.3

  -- where procedures begin is decided too, and so is where a run comes to
  module _ (root : N) (root_in : Mem root F.nodes) where
    abbrev Begins : List N → N → Type 0
    Begins s e = (e ≡ root) ⊎ Any s (λ a. Within a e)

    begins? : (s : List N) (e : N) → Dec (Begins s e)
    begins? s e = either? (F.same e root) (any? s _ (λ a. within? a e))

    right : (s : List N) → ((e : N) → Mem e s → Entered S root e) → (e : N) → Begins s e → Entered S root e
    right s d e (inl h) = subst (Entered S root) (sym h) first
    right s d e (inr h) = let c = h.2.1 in enters (d h.0 h.1) c.2 c.3

    entries : Full Begins begins? (Entered S root) right F.nodes []
    entries = filled Begins begins? (Entered S root) right F.nodes

    listed : {e : N} → Entered S root e → Mem e F.nodes × Mem e entries.out
    listed first = (root_in, entries.closed root root_in (inl refl))
    listed (enters {e = e} {n = n} {m = m} {r = r} h i c) =
        let k = listed h in
        let mm = F.call_in (inside_in k.0 i) c in
        (mm, entries.closed m mm (inr (e, k.1, (k.0, (n, r, i, c)))))

    pub entered? : (e : N) → Dec (Entered S root e)
    entered? e = Dec.of_iff (entries.right e, λ h. (listed h).1) (mem? F.same e entries.out)

    abbrev At : N → N → Type 0
    At n e = Mem e F.nodes × Entered S root e × Inside S e n

    at? : (n e : N) → Dec (At n e)
    at? n e = go (mem? F.same e F.nodes)
      where
        go : Dec (Mem e F.nodes) → Dec (At n e)
        go (no h) = no (λ p. h p.0)
        go (yes me) = Dec.of_iff (λ h. (me, h.0, h.1), λ h. (h.1, h.2)) (Dec.and (entered? e) (inside? e n me))

    pub reached? : (n : N) → Dec ((s : List R) × Reached S root n s)
    reached? n = Dec.of_iff (λ h. reached_is.1 (h.0, h.2.1, h.2.2), λ h. let k = reached_is.0 h in (k.0, (listed k.1).0, ((listed k.1).0, k.1, k.2))) (any? F.nodes (At n) (at? n))

  -- the most calls, one within another, from a node on
  pub record Height (e : N) : Type 0 where
    pub most : ℕ
    pub chain : Chain S e most
    pub bound : (d : ℕ) → Chain S e d → d ≤ most

  -- the greatest over some of the callees
  record Over (e : N) (l : List N) : Type 0 where
    most : ℕ
    chain : Chain S e most
    bound : (m : N) (d : ℕ) → Mem m l → Calls S e m → Chain S m d → suc d ≤ most

  greatest : (e : N) (me : Mem e F.nodes) → ((m : N) → Calls S e m → Height m) → (l : List N) → Over e l
  greatest e me h [] = record { most = 0; chain = stop; bound = λ m d k. absurd (not-nil k) }
  greatest e me h (a ∷ l) = go (greatest e me h l) (within? e a)
    where
      go : Over e l → Dec (Within e a) → Over e (a ∷ l)
      go o (no k) = record { most = o.most; chain = o.chain; bound = λ m d q c ch. ⊎_elim (λ x. absurd (k (me, subst (λ (z : N). Calls S e z) x c))) (λ q'. o.bound m d q' c ch) (cases_cons q) }
      go o (yes w) = cmp (h a w.1) (dec_le (suc (h a w.1).most) o.most)
        where
          cmp : (g : Height a) → Dec (suc g.most ≤ o.most) → Over e (a ∷ l)
          cmp g (yes le) = record {
            most = o.most;
            chain = o.chain;
            bound = λ m d q c ch. ⊎_elim
                (λ x. let b = g.bound d (subst (λ (z : N). Chain S z d) x ch) in omega arith) (λ q'. o.bound m d q' c ch) (cases_cons q);
          }
          cmp g (no gt) = record {
            most = suc g.most;
            chain = link w.1 g.chain;
            bound = λ m d q c ch. ⊎_elim
                (λ x. let b = g.bound d (subst (λ (z : N). Chain S z d) x ch) in omega arith) (λ q'. let b = o.bound m d q' c ch in omega arith) (cases_cons q);
          }

  height : (e : N) → Mem e F.nodes → ((m : N) → Calls S e m → Height m) → Height e
  height e me h = let o = greatest e me h F.nodes in record { most = o.most; chain = o.chain; bound = λ d ch. least_of o ch }
    where
      least_of : {d : ℕ} → (o : Over e F.nodes) → Chain S e d → d ≤ o.most
      least_of o stop = omega arith
      least_of o (link {m = m} {d = d} c ch) = o.bound m d (calls_in me c) c ch

  -- entries are ranked once all that they call are
  abbrev Open : List N → N → Type 0
  Open s e = Any F.nodes (λ m. Within e m × ¬ (Mem m s))

  open? : (s : List N) (e : N) → Dec (Open s e)
  open? s e = any? F.nodes _ (λ m. Dec.and (within? e m) (Dec.not (mem? F.same m s)))

  abbrev Ranked : N → Type 0
  Ranked e = Mem e F.nodes → Height e

  ranked : (s : List N) → ((e : N) → Mem e s → Ranked e) → (e : N) → ¬ (Open s e) → Ranked e
  ranked s d e h me = height e me (λ m c. let mm = calls_in me c in d m ((Dec.not-not (mem? F.same m s)).0 (λ k. h (m, mm, ((me, c), k)))) mm)

  ranks : Full (λ s e. ¬ (Open s e)) (λ s e. Dec.not (open? s e)) Ranked ranked F.nodes []
  ranks = filled (λ s e. ¬ (Open s e)) (λ s e. Dec.not (open? s e)) Ranked ranked F.nodes

  endless : (d : ℕ) (e : N) → Mem e F.nodes → ¬ (Mem e ranks.out) → Chain S e d
  endless zero e me k = stop
  endless (suc d) e me k = let h = (Dec.not-not (open? ranks.out e)).0 (λ q. k (ranks.closed e me q)) in link h.2.0.1 (endless d h.0 h.1 h.2.1)

  -- a greatest number of calls one within another, or chains of any length
  pub chains? : (root : N) → Mem root F.nodes → Height root ⊎ ((d : ℕ) → Chain S root d)
  chains? root me = go (mem? F.same root ranks.out)
    where
      go : Dec (Mem root ranks.out) → Height root ⊎ ((d : ℕ) → Chain S root d)
      go (yes m) = inl (ranks.right root m me)
      go (no k) = inr (λ d. endless d root me k)

  pub deep? : (root : N) → Mem root F.nodes → Deepest S root
  deep? root me = ⊎_elim (λ h. inl (h.most, depth_is.1 h.chain, λ n st r. h.bound (length st) (depth_is.0 (n, st, r, refl))))
      (λ f. inr (λ d. let h = depth_is.1 (f (suc d)) in (h.0, h.1, h.2, omega (arith, h.3)))) (chains? root me)
