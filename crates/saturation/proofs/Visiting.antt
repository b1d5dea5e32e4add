-- What each step of a visit leaves: bits that are true, and nodes that are closed or marked.
use Rattle.std.proofs.Common.{◌≡◌, ℕ, ◌+◌, ◌*◌, ◌%◌, ◌^◌, ◌<◌, ◌≤◌, Bool, ◌||◌, ◌≢◌, List, length, get_or, sym, refl, ap, ◌∙◌, subst, inl, inr, add-mul, arith, below_more}
use Rattle.std.proofs.lemmas.Bool.{or_parts, cases_eq, cases_Bool}
use Rattle.std.proofs.lemmas.Nat.{mul-le}
use Rattle.saturation.specs.Bits.{On, room, Grew, Joined, Added}
use Rattle.saturation.specs.System.{kind, first, second, proc, words, Fine}
use Rattle.saturation.specs.Marks.{At, In, Levels, total, Marked, NodeTaken, WordTaken}
use Rattle.saturation.specs.Engine.{remaining}
use Rattle.saturation.specs.Visits.{Sound, Closed, Callers, Covered, Progress, Visit, Resume}
use Rattle.saturation.proofs.Nodes.{grew_both}
use Rattle.saturation.proofs.Marking.{total_le, more_both}
use Rattle.saturation.proofs.Complete.{below, begins, keeps, callee_mod}
use Rattle.saturation.proofs.Soundness.{no_bits, sound_join, sound_can, sound_return, resume_sound}
use Rattle.saturation.proofs.Closure.{ResumeClosed, ReturnClosed, closed_flow, closed_call, closed_empty, still}
use Rattle.pushdown.specs.System.{Inside, here, on, enters}

-- no node but one has got bits
abbrev pub Only : List ℕ → List ℕ → ℕ → Type 0
Only w v to = (n x : ℕ) → x < 64 → n ≢ to → On v n x → On w n x

pub only_join : {w v : List ℕ} {from to : ℕ} → Joined w v from to → Only w v to
only_join j n x b ne o = elim (j.only n x b o) [ inl p ↦ p | inr p ↦ absurd (ne p.0) ]

pub only_add : {w v : List ℕ} {to y : ℕ} → Added w v to y → Only w v to
only_add a n x b ne o = elim (a.only n x b o) [ inl p ↦ p | inr p ↦ absurd (ne p.0) ]

-- the node that the bits come from gets none
pub own : {w v : List ℕ} {n to : ℕ} → Joined w v n to → (x : ℕ) → x < 64 → On v n x → On w n x
own {n = n} j x b o = elim (j.only n x b o) [ inl p ↦ p | inr p ↦ p.1 ]

module _ {g : List ℕ} {k t : ℕ} (fine : Fine g k t) where
  pub progress_both : {w v u : List ℕ} {m l o : Levels} {p q : Bool} → Progress g k t w m v l p → Progress g k t v l u o q → Progress g k t w m u o (p || q)
  progress_both {p = p} {q = q} a b = record {
    grew = grew_both a.grew b.grew;
    same = λ e. b.same (or_parts p q e).1 ∙ a.same (or_parts p q e).0;
    sound = λ root s. b.sound root (a.sound root s);
    covered = λ n h s. b.covered n h (a.covered n h s);
    kept = more_both a.kept b.kept;
  }

  -- bits came to one node, which is marked
  pub progress_node : {w v : List ℕ} {m l : Levels} {new : Bool} (to : ℕ) → to < t → Only w v to → Grew w v new → Marked m l to new →
      ((root : ℕ) → Sound g k t root w → Sound g k t root v) → Progress g k t w m v l new
  progress_node {w} {v} {m} {l} {new} to b only grew marked sound = record {
    grew = grew;
    same = marked.same;
    sound = sound;
    kept = marked.kept;
    covered = λ n h q. elim q [
      | inr o ↦ inr (marked.kept.stay n o)
      | inl c ↦ elim (cases_Bool new) [
        | inr e ↦ inl (subst (λ x. Closed g k t x n) (sym (grew.same e)) c)
        | inl e ↦ elim (cases_eq n to) [
          | inl s ↦ inr (subst (λ x. In l x) (sym s) (marked.got e))
          | inr d ↦ inl (still fine n grew.kept (λ x f. only n x f d) (λ z y f. only _ y f (λ s. absurd (omega arith))) c)
        ]
      ]
    ];
  }

  -- bits came to what an entry returns with, and its calls are marked
  pub progress_return : {w v : List ℕ} {m l : Levels} {new : Bool} (e : ℕ) → Only w v (t + e) → Grew w v new → Callers g k t e v m l new →
      ((root : ℕ) → Sound g k t root w → Sound g k t root v) → Progress g k t w m v l new
  progress_return {w} {v} {m} {l} {new} e only grew marked sound = record {
    grew = grew;
    same = marked.same;
    sound = sound;
    kept = marked.kept;
    covered = λ n h q. let mine : (x : ℕ) → x < 64 → On v n x → On w n x = λ x f. only n x f (λ s. absurd (omega arith)) in elim q [
      | inr o ↦ inr (marked.kept.stay n o)
      | inl c ↦ elim (cases_Bool new) [
        | inr s ↦ inl (subst (λ x. Closed g k t x n) (sym (grew.same s)) c)
        | inl s ↦ elim (cases_eq (kind g n) 1) [
          | inr d ↦ inl (still fine n grew.kept mine (λ z. absurd (d z)) c)
          | inl z ↦ elim (cases_eq (first g n + n % k) e) [
            | inl a ↦ elim (marked.got s n h z a) [ inl o ↦ inr o | inr i ↦ inl (closed_empty fine n i) ]
            | inr d ↦ inl (still fine n grew.kept mine (λ _ y f. only _ y f (λ a. d (omega arith))) c)
          ]
        ]
      ]
    ];
  }

module _ {g : List ℕ} {k t : ℕ} (fine : Fine g k t) (n : ℕ) (h : n < t) where
  pub visit_flow : {w v u : List ℕ} {m l o : Levels} {p q : Bool} → kind g n ≡ 0 → Joined w v n (first g n) → Grew w v p → Marked m l (first g n) p →
      Joined v u n (second g n) → Grew v u q → Marked l o (second g n) q → Visit g k t n w m u o (p || q)
  visit_flow z j grew marked i grow marks = let f = fine.flows n h z in record {
    progress = progress_both fine
        (progress_node fine (first g n) f.0 (only_join j) grew marked (λ root. sound_join n (first g n) h f.0 j (λ x b c. (c.0, c.1, c.2, on c.3 (z, inl refl)))))
        (progress_node fine (second g n) f.1 (only_join i) grow marks (λ root. sound_join n (second g n) h f.1 i (λ x b c. (c.0, c.1, c.2, on c.3 (z, inr refl)))));
    closed = closed_flow z (λ x b o. let a = own i x b o in (grow.kept _ _ (j.got x b (own j x b a)), i.got x b a));
  }

  -- one return behind a call
  pub resume_progress : {w v u : List ℕ} {m l o : Levels} {new more : Bool} (y : ℕ) → y < k → kind g n ≡ 1 → On v (t + (first g n + n % k)) y →
      Joined v u n (second g n + y) → Grew v u more → Marked l o (second g n + y) more →
      Progress g k t w m v l new × ((j : ℕ) → j < y → ResumeClosed g k t n j v) → Progress g k t w m u o (new || more) × ((j : ℕ) → j < y + 1 → ResumeClosed g k t n j u)
  resume_progress {v = v} {u = u} y b z o j r wk p = let f = fine.callers n h z in (
    progress_both fine p.0 (progress_node fine (second g n + y) (omega (arith, f.0)) (only_join j) r wk (λ root. resume_sound fine n h y b z o j)),
    below_more (λ i. ResumeClosed g k t n i u) y
        (λ i l x c a d. r.kept _ _ (p.1 i l x c (own j x c a) (only_join j _ i (omega (arith, fine.few)) (λ s. absurd (omega (arith, f.0))) d)))
        (λ x c a _. j.got x c (own j x c a)),
  )

  -- one entry at a return
  pub return_progress : {w v u : List ℕ} {m l o : Levels} {new more : Bool} (x : ℕ) → x < k → kind g n ≡ 2 → On v n x →
      Added v u (t + (proc g n + x)) (n % k) → Grew v u more → Callers g k t (proc g n + x) u l o more →
      Progress g k t w m v l new × ((j : ℕ) → j < x → ReturnClosed g k t n j v) → Progress g k t w m u o (new || more) × ((j : ℕ) → j < x + 1 → ReturnClosed g k t n j u)
  return_progress {u = u} x b z o a r wk p = (
    progress_both fine p.0 (progress_return fine (proc g n + x) (only_add a) r wk
        (λ root q. let c = q.can n x h (omega (arith, fine.few)) o in let b = begins fine q.starts c.2 in
        let e : c.0 ≡ proc g n + x = omega (arith, b.1, (keeps fine b.0 c.3).1, c.1) in
        sound_return (proc g n + x) (n % k) a (n, subst (λ m. Inside (words g k) m n) e c.3, (z, refl)) q)),
    below_more (λ i. ReturnClosed g k t n i u) x
        (λ i l d. r.kept _ _ (p.1 i l (only_add a n i (omega (arith, fine.few)) (λ s. absurd (omega arith)) d)))
        (λ _. a.got),
  )

  pub visit_call : {w v u : List ℕ} {m l o : Levels} {p q : Bool} → kind g n ≡ 1 → (x : ℕ) × (x < 64) × On w n x →
      Added w v (first g n + n % k) (n % k) → Grew w v p → Marked m l (first g n + n % k) p → Resume g k t n v l u o q → Visit g k t n w m u o (p || q)
  visit_call z some a grew marked r = let f = fine.callees n h z in let b : first g n + n % k < t = omega (arith, f.1, below fine n) in record {
    progress = progress_both fine (progress_node fine (first g n + n % k) b (only_add a) grew marked
        (λ root s. let c = s.can n some.0 h some.1 some.2 in sound_can (first g n + n % k) (n % k) b a (first g n + n % k, callee_mod fine n h z, enters c.2 c.3 (z, refl, refl), here) s)) r.progress;
    closed = closed_call z (λ x b o. r.progress.grew.kept _ _ a.got) r.closed;
  }

-- the beginning: only the root waits
pub covered_first : {g : List ℕ} {k t root : ℕ} {z u : List ℕ} (m : Levels) → Fine g k t → ((i : ℕ) → i < length z → get_or z i 0 ≡ 0) → Added z u root 0 → In m root → (n : ℕ) → n < t → Covered g k t u m n
covered_first {root = root} {z = z} m fine f a marked n h = elim (cases_eq n root) [
  | inl e ↦ inr (subst (λ x. In m x) (sym e) marked)
  | inr d ↦ inl (closed_empty fine n (λ x b o. elim (a.only n x b o) [ inl p ↦ no_bits z f _ _ p | inr p ↦ d p.0 ]))
]

module _ {g : List ℕ} {k t c n : ℕ} {w : List ℕ} {m o : Levels} (tk : NodeTaken m o c n) where
  -- what is marked past the nodes is no node's
  pub covered_past : t ≤ n → ((j : ℕ) → j < t → Covered g k t w m j) → (j : ℕ) → j < t → Covered g k t w o j
  covered_past h p j b = elim (p j b) [ inl q ↦ inl q | inr q ↦ inr (tk.nodes.kept j (λ e. absurd (omega arith)) q) ]

  -- a visit: the mark of n is taken away, and n is visited
  pub covered_visit : {v : List ℕ} {l : Levels} {new : Bool} → Visit g k t n w o v l new → ((j : ℕ) → j < t → Covered g k t w m j) → (j : ℕ) → j < t → Covered g k t v l j
  covered_visit {v} r p j h = elim (cases_eq j n) [
    | inl e ↦ inl (subst (λ x. Closed g k t v x) (sym e) r.closed)
    | inr d ↦ r.progress.covered j h (elim (p j h) [ inl q ↦ inl q | inr q ↦ inr (tk.nodes.kept j d q) ])
  ]

  -- and there is less to do
  pub visit_less : {v : List ℕ} {l : Levels} {new : Bool} (len : ℕ) → length l.nodes + length l.words ≡ len → Visit g k t n w o v l new → remaining len v l < remaining len w m
  visit_less {v} {l} {new} len e r = let z : total o.words ≡ total m.words = ap total tk.words in elim (cases_Bool new) [
    | inl y ↦ omega (arith, total_le l.nodes, total_le l.words, mul-le (room v + 1) (2 ^ 32 * len + 1) (room w) (2 ^ 32 * len + 1) (omega (arith, r.progress.grew.less y)) (omega arith), add-mul (room v) 1 (2 ^ 32 * len + 1))
    | inr y ↦ let a : room v ≡ room w = ap room (r.progress.grew.same y) in
        let b : total l.nodes ≡ total o.nodes = ap (λ x. total x.nodes) (r.progress.same y) in
        let d : total l.words ≡ total o.words = ap (λ x. total x.words) (r.progress.same y) in
        rw a (omega (arith, tk.nodes.less))
  ]

-- the mark of a word is taken away
pub covered_word : {g : List ℕ} {k t c : ℕ} {w : List ℕ} {m l : Levels} → WordTaken m l c → (n : ℕ) → Covered g k t w m n → Covered g k t w l n
covered_word tk n p = elim p [ inl q ↦ inl q | inr q ↦ inr (subst (λ t. At t n) (sym tk.nodes) q) ]
