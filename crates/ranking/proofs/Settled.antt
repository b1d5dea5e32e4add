-- What removing one call leaves, put together; and removals one after another.
use Rattle.std.proofs.Common.{◌≡◌, ℕ, ◌+◌, ◌-◌, ◌<◌, ◌≤◌, Bool, List, length, get_or, set, sym, refl, ap, ◌∙◌, subst, inl, inr, arith}
use Rattle.std.proofs.Math.Logic.{∥∥₁_map}
use Rattle.std.proofs.lemmas.List.{get_or-set_same}
use Rattle.std.proofs.lemmas.Bool.{cases_eq}
use Rattle.saturation.specs.declared.System.{System}
use Rattle.saturation.specs.Bits.{On, Grew, Added}
use Rattle.saturation.specs.Marks.{Removed}
use Rattle.saturation.specs.System.{kind, proc}
use Rattle.ranking.specs.declared.Procedures.{Procedures}
use Rattle.ranking.specs.declared.levels.Ranker.{Ranker}
use Rattle.ranking.specs.Calls.{CallAt, callee}
use Rattle.ranking.specs.Counting.{Counts, Counted}
use Rattle.ranking.specs.Levels.{Known, Settles}
use Rattle.ranking.proofs.Facts.{Facts, facts, counted_of}
use Rattle.ranking.proofs.Tallies.{counts_zero, counts_some}
use Rattle.ranking.proofs.Settling.{settle_counted, settle_level, settle_waiting}

module _ (a : Ranker) {n x : ℕ} (within : (n < a.system.nodes) × (x < a.system.shared)) (calls : kind a.system.graph.now n ≡ 1) (has : On a.sets.now n x) where
  abbrev g : List ℕ
  g = a.system.graph.now

  abbrev t : ℕ
  t = a.system.nodes

  abbrev bases : List ℕ
  bases = a.procedures.bases.now

  abbrev c : List ℕ
  c = a.counts.now

  abbrev entry : ℕ
  entry = proc g n + x

  known : Facts a.system a.procedures a.sets.now c a.next.now
  known = facts a.known

  few : a.system.shared ≤ 64
  few = known.countable.fine.few

  counted : Counted g a.system.shared t a.sets.now t c
  counted = counted_of _ _ _ _ _ _ a.counted

  in_counts : entry < length c
  in_counts = omega (arith, known.countable.fine.procs n within.0, known.countable.counts_long)

  pub counts_pos : 0 < get_or c entry 0
  counts_pos = elim (cases_eq (get_or c entry 0) 0) [
    | inl e ↦ absurd (counts_zero (counted n x within.0 within.1) e n within.0 (record { within = within.0; calls = calls; whose = refl; has = has }))
    | inr e ↦ omega (arith, e)
  ]

  -- where the procedure's beginning was read as base, and z calls are left
  module _ {base z : ℕ} {v : List ℕ} (gone : Removed a.sets.now v n x) (at : base ≡ proc g n) (is : z ≡ get_or c (base + x) 0 - 1) where
    now_counted : Counted g a.system.shared t v t (set c entry z)
    now_counted = settle_counted known.countable.aligned few within.0 within.1 calls has gone c z in_counts (subst (λ i. z ≡ get_or c (i + x) 0 - 1) at is) counted

    own_count : Counts (CallAt g t v (proc g n) x) t z
    own_count = subst (Counts (CallAt g t v (proc g n) x) t) (get_or-set_same c entry z 0 in_counts) (now_counted n x within.0 within.1)

    -- the counts stay right
    pub still_counted : {c' : List ℕ} → c' ≡ set c (base + x) z → Counted g a.system.shared t v t c'
    still_counted e = subst (Counted g a.system.shared t v t) (sym (e ∙ ap (λ i. set c (i + x) z) at)) now_counted

    -- its last call: the entry is of the next level
    pub settles_last : z ≡ 0 → {after : List ℕ} {new : Bool} (f : ℕ) → f < length bases → get_or bases f 0 ≡ base → Added a.next.now after f x → Grew a.next.now after new → Settles a.system a.procedures (λ d. d ≡ callee g a.system.shared n) a.sets.now a.next.now v after
    settles_last zero {after} f hf own add grew = record {
      fewer = gone.only;
      waiting = settle_waiting known.countable.aligned few within.0 within.1 calls has gone bases a.next.now after (λ h y q. grew.kept _ _ q) (inr (λ h hh e. subst (λ i. On after i x) (known.apart f h hf hh (own ∙ at ∙ sym e)) add.got));
      level = λ o r tall. settle_level known.countable.aligned few within.0 within.1 calls has gone bases a.next.now after
          (λ h y hh hy q. elim (add.only h y (omega (arith, few)) q) [
            | inl u ↦ inl u
            | inr u ↦ inr (none_left, ap (λ i. get_or bases i 0) u.0 ∙ own ∙ at, u.1)
          ])
          o r (tall _ refl);
      less = inr gone.less;
    }
      where
        none_left : (i : ℕ) → CallAt g t v (proc g n) x i → ⊥
        none_left i q = counts_zero own_count zero i q.within q

    -- others are left
    pub settles_more : (z ≡ 0 → ⊥) → Settles a.system a.procedures (λ d. d ≡ callee g a.system.shared n) a.sets.now a.next.now v a.next.now
    settles_more some = record {
      fewer = gone.only;
      waiting = settle_waiting known.countable.aligned few within.0 within.1 calls has gone bases a.next.now a.next.now (λ h y q. q) (let r = counts_some own_count (omega (arith, some)) in inl (r.0, r.2));
      level = λ o r tall. settle_level known.countable.aligned few within.0 within.1 calls has gone bases a.next.now a.next.now (λ h y hh hy q. inl q) o r (tall _ refl);
      less = inr gone.less;
    }

module _ {s : System} {p : Procedures} {D : ℕ → Type 0} where
  pub settles_none : {w next : List ℕ} → Settles s p D w next w next
  settles_none = record { fewer = λ n x q. q; waiting = λ f x hf hx q. q; level = λ o r tall l. l; less = inl (refl, omega arith) }

  pub settles_then : {w next v mid u after : List ℕ} → Settles s p D w next v mid → Settles s p D v mid u after → Settles s p D w next u after
  settles_then a b = record {
    fewer = λ n x q. a.fewer n x (b.fewer n x q);
    waiting = λ f x hf hx q. b.waiting f x hf hx (a.waiting f x hf hx q);
    level = λ o r tall l. b.level o r tall (a.level o r tall l);
    less = elim a.less [
      | inl q ↦ elim b.less [ inl r ↦ inl (r.0 ∙ q.0, omega (arith, q.1, r.1)) | inr r ↦ inr (omega (arith, q.1)) ]
      | inr q ↦ elim b.less [ inl r ↦ inr (omega (arith, r.1)) | inr r ↦ inr (omega arith) ]
    ];
  }

-- the same, of more entries
pub settles_of : {s : System} {p : Procedures} {D E : ℕ → Type 0} {w next v after : List ℕ} → ((d : ℕ) → D d → E d) → Settles s p D w next v after → Settles s p E w next v after
settles_of f a = record { fewer = a.fewer; waiting = a.waiting; level = λ o r tall. a.level o r (λ d q. tall d (f d q)); less = a.less }

-- the lengths that are asked for are kept
pub known_still : {s : System} {p : Procedures} {w c next : List ℕ} (w' c' next' : List ℕ) → ∥ Known s p w c next ∥₁ → length w' ≡ length w → length c' ≡ length c → length next' ≡ length next → ∥ Known s p w' c' next' ∥₁
known_still w' c' next' known a b d = ∥∥₁_map known (λ k.
    let q = k.countable in
    record { countable = record { fine = q.fine; aligned = q.aligned; small = q.small; sets_long = omega (arith, q.sets_long); counts_long = omega (arith, q.counts_long) }; grouped = k.grouped; next_long = omega (arith, k.next_long) })
