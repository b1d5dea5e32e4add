-- From level to level: the entries of the next level are one higher; when there are none and the root has a call
-- left, each entry with a call left calls another such, and there are paths of any length.
use Rattle.std.proofs.Common.{◌≡◌, ℕ, zero, suc, ◌+◌, ◌%◌, ◌<◌, ◌≤◌, ◌⊎◌, List, [], length, get_or, sym, refl, ap, ◌∙◌, subst, inl, inr, ⊎_elim, add-one, arith}
use Rattle.std.proofs.lemmas.Nat.{mod_below}
use Rattle.std.proofs.lemmas.List.{get_or_past}
use Rattle.std.proofs.lemmas.Bool.{cases_lt}
use Rattle.saturation.specs.Bits.{On}
use Rattle.saturation.specs.Marks.{total}
use Rattle.saturation.specs.declared.System.{System}
use Rattle.saturation.specs.System.{first, Fine}
use Rattle.saturation.proofs.Soundness.{no_bits}
use Rattle.saturation.proofs.Sites.{same_entry}
use Rattle.ranking.specs.declared.Procedures.{Procedures}
use Rattle.ranking.specs.Calls.{CallAt, callee, Link, Path, stop, link, Height, Done}
use Rattle.ranking.specs.Counting.{Counts, Counted}
use Rattle.ranking.specs.Levels.{Level, Waiting, Settles, OfLevel, ProcedureDone, Idle, AtLevel}
use Rattle.ranking.proofs.Tallies.{counts_zero, counts_some}
use Rattle.ranking.proofs.Passing.{base_even}
use Rattle.ranking.proofs.Facts.{Facts, owner_of}

-- no bit is set in words that are all 0
pub clear_off : (l : List ℕ) → ((i : ℕ) → i < length l → get_or l i 0 ≡ 0) → (f x : ℕ) → On l f x → ⊥
clear_off l z f x = no_bits l z _ _

-- which entries are ready matters to nothing else
level_clear : {g : List ℕ} {k t : ℕ} {o : List ℕ} {r : ℕ} {bases w a : List ℕ} (b : List ℕ) → ((f x : ℕ) → On b f x → ⊥) → Level g k t o r bases w a → Level g k t o r bases w b
level_clear b z l = record { fewer = l.fewer; settled = l.settled; ready = λ f x hf hx q. absurd (z f x q) }

module _ {s : System} {p : Procedures} {w₀ c₀ next₀ : List ℕ} (known : Facts s p w₀ c₀ next₀) (o : List ℕ) where
  abbrev g : List ℕ
  g = s.graph.now

  abbrev k : ℕ
  k = s.shared

  abbrev t : ℕ
  t = s.nodes

  abbrev base : ℕ → ℕ
  base f = get_or p.bases.now f 0

  fine : Fine g k t
  fine = known.countable.fine

  -- the calls of an entry, whatever its numbers are called
  link_at : {f x d : ℕ} → f < length p.bases.now → x < k → (l : Link g k t o (base f + x) d) → CallAt g t o (base f) x l.node
  link_at {f} {x} hf hx l =
      let even = subst (λ a. a % k ≡ 0) l.at.whose (known.countable.aligned.even l.node l.at.within) in
      let e = same_entry k l.base (base f) l.value x even (base_even known f hf) l.small hx (sym l.from) in
      subst (λ a. CallAt g t o a x l.node) e.0 (subst (λ a. CallAt g t o l.base a l.node) e.1 l.at)

  -- an entry with no call at all
  idle_height : {f x : ℕ} → f < length p.bases.now → x < k → ((n : ℕ) → CallAt g t o (base f) x n → ⊥) → Height g k t o (base f + x) 0
  idle_height {f} {x} hf hx z = record { path = stop; most = most }
    where
      most : (m : ℕ) → Path g k t o (base f + x) m → m ≤ 0
      most zero q = omega arith
      most (suc m) (link l q) = absurd (z l.node (link_at hf hx l))

  -- an entry of the next level is one higher
  raise : {r f x : ℕ} {w next : List ℕ} → Level g k t o r p.bases.now w next → f < length p.bases.now → x < k → On next f x → Height g k t o (base f + x) (suc r)
  raise {r} {f} {x} {w} l hf hx q = record { path = link (record { base = base f; value = x; node = e.1.0; small = hx; at = e.1.1; from = refl; to = refl }) e.1.2.path; most = most }
    where
      e : ((n : ℕ) → CallAt g t w (base f) x n → ⊥) × ((n : ℕ) × CallAt g t o (base f) x n × Height g k t o (callee g k n) r)
      e = l.ready f x hf hx q

      most : (m : ℕ) → Path g k t o (base f + x) m → m ≤ suc r
      most zero y = omega arith
      most (suc m) (link {d = d} y z) =
          let a = link_at hf hx y in
          elim (l.settled y.node x a.within a.calls hx a.has) [
            | inl b ↦ absurd (e.0 y.node (record { within = a.within; calls = a.calls; whose = a.whose; has = b }))
            | inr b ↦ (let h = b.2.most m (subst (λ i. Path g k t o i m) y.to z) in omega (arith, b.1))
          ]

  -- the first level
  pub first_level : (c : List ℕ) {level : List ℕ} → Counted g k t o t c → Idle s p c level → AtLevel s p o 0 o level
  first_level c {level} counted idle = record {
    calls = record { fewer = λ n x q. q; settled = λ n x h z b q. inl q; ready = λ f x hf hx q. absurd (clear_off [] (λ i h. absurd (omega arith)) f x q) };
    heights = λ d q.
        let f = q.0 in
        let x = q.1 in
        subst (λ e. Height g k t o e 0) (sym q.5) (idle_height q.2 q.3 (λ n a. counts_zero (own f x q.2 q.3) ((idle f x q.2 q.3).0 q.4) n a.within a));
    covered = λ f x hf hx. inl (waits f x hf hx);
    rooted = waits 0 0 known.some fine.some;
    bound = omega arith;
  }
    where
      own : (f x : ℕ) → f < length p.bases.now → x < k → Counts (CallAt g t o (base f) x) t (get_or c (base f + x) 0)
      own f x hf hx =
          let b = known.begins f hf in
          subst (λ a. Counts (CallAt g t o a x) t (get_or c (a + x) 0)) b.1 (counted (base f) x (omega (arith, b.0, fine.some)) hx)

      waits : (f x : ℕ) → f < length p.bases.now → x < k → Waiting g t p.bases.now o level f x
      waits f x hf hx = go _ (own f x hf hx) (idle f x hf hx).1
        where
          go : (n : ℕ) → Counts (CallAt g t o (base f) x) t n → (n ≡ 0 → On level f x) → Waiting g t p.bases.now o level f x
          go zero a b = inr (b refl)
          go (suc n) a b = let r = counts_some a (omega arith) in inl (r.0, r.2)

  module _ {r : ℕ} {w level : List ℕ} (at : AtLevel s p o r w level) (not_root : On level 0 0 → ⊥) {empty v next : List ℕ} (clear : (f x : ℕ) → On empty f x → ⊥)
      (settles : Settles s p (OfLevel s p level) w empty v next) (gone : (f : ℕ) → f < length p.bases.now → ProcedureDone s p level v f) where
    done_still : (d : ℕ) → Done g k t w d → Done g k t v d
    done_still d q n x hn kn e hx a = q n x hn kn e hx (settles.fewer n x a)

    covered_next : (f x : ℕ) → f < length p.bases.now → x < k → Waiting g t p.bases.now v next f x ⊎ Done g k t v (base f + x)
    covered_next f x hf hx = elim (at.covered f x hf hx) [
      | inl (inl q) ↦ inl (settles.waiting f x hf hx (inl q))
      | inl (inr q) ↦ inr (gone f hf x hx q)
      | inr q ↦ inr (done_still (base f + x) q)
    ]

    rooted_next : Waiting g t p.bases.now v next 0 0
    rooted_next = elim at.rooted [ inl q ↦ settles.waiting 0 0 known.some fine.some (inl q) | inr q ↦ absurd (not_root q) ]

    level_next : Level g k t o r p.bases.now v next
    level_next = settles.level o r at.heights (level_clear empty clear at.calls)

    -- nothing of the next level: paths of any length
    pub endless : ((f x : ℕ) → On next f x → ⊥) → (d : ℕ) → Path g k t o (base 0 + 0) d
    endless none d = elim rooted_next [ inl q ↦ go d 0 0 fine.some q.0 q.1 | inr q ↦ absurd (none 0 0 q) ]
      where
        go : (d f x : ℕ) → x < k → (n : ℕ) → CallAt g t v (base f) x n → Path g k t o (base f + x) d
        go zero f x hx n a = stop
        go (suc d) f x hx n a =
            let y = n % k in
            let hy : y < k = mod_below n k fine.some in
            let b = fine.callees n a.within a.calls in
            let h = owner_of known (first g n + 0) (omega (arith, b.1, fine.some)) in
            let e : base h.0 ≡ first g n = h.2 ∙ b.2 0 fine.some in
            let l : Link g k t o (base f + x) (base h.0 + y) = record { base = base f; value = x; node = n; small = hx; at = record { within = a.within; calls = a.calls; whose = a.whose; has = level_next.fewer n x a.has }; from = refl; to = ap (λ i. i + y) e } in
            elim (covered_next h.0 y h.1 hy) [
              | inl (inl q) ↦ link l (go d h.0 y hy q.0 q.1)
              | inl (inr q) ↦ absurd (none h.0 y q)
              | inr q ↦ absurd (q n x a.within a.calls (ap (λ i. i + y) (sym e)) hx a.has)
            ]

    -- something is: it is the next level
    pub next_level : total v < total w → AtLevel s p o (r + 1) v next
    next_level less = record {
      calls = record {
        fewer = level_next.fewer;
        settled = λ n x h z b q. ⊎_elim inl (λ e. inr (e.0, omega (arith, e.1), e.2)) (level_next.settled n x h z b q);
        ready = λ f x hf hx q. absurd (clear_off [] (λ i h. absurd (omega arith)) f x q);
      };
      heights = λ d q. rw (add-one r) (subst (λ e. Height g k t o e (suc r)) (sym q.5) (raise level_next q.2 q.3 q.4));
      covered = covered_next;
      rooted = rooted_next;
      bound = omega (arith, at.bound);
    }

-- something is new only if a call was removed
pub new_less : {s : System} {p : Procedures} {D : ℕ → Type 0} {w empty v next : List ℕ} → Settles s p D w empty v next → ((i : ℕ) → i < length empty → get_or empty i 0 ≡ 0) → (i : ℕ) × (0 < get_or next i 0) → total v < total w
new_less {empty = empty} t z q = elim t.less [
  | inr l ↦ l
  | inl l ↦ elim (cases_lt q.0 (length empty)) [
    | inl h ↦ absurd (omega (arith, q.1, ap (λ y. get_or y q.0 0) l.0, z q.0 h))
    | inr h ↦ absurd (omega (arith, q.1, ap (λ y. get_or y q.0 0) l.0, get_or_past empty q.0 0 h))
  ]
]
