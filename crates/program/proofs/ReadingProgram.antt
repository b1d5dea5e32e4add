-- Reading all procedures, and a program: twice, since how many procedures there are is known only at
-- the end of the bytes.
use Rattle.std.proofs.Common.{◌≡◌, ℕ, ◌+◌, ◌*◌, ◌^◌, ◌<◌, ◌≤◌, List, [], ◌∷◌, ◌++◌, length, drop, Ok, Err, Result, sym, refl, ap, ◌∙◌, subst, arith, length-drop}
use Rattle.std.proofs.lemmas.List.{drop_all}
use Rattle.program.specs.declared.refusals.Refusal.{Refusal}
use Rattle.program.specs.declared.procedures.Procedure.{Procedure}
use Rattle.program.specs.declared.programs.Tally.{Tally}
use Rattle.program.specs.Program.{I, set, open1, go, call, return, Proc, Prog}
use Rattle.program.specs.Rows.{row_p, rows, OkI, OkP, Every, Reads}
use Rattle.program.specs.Reading.{Nothing, ReadNumber, ReadProc, AllProcs, NoProcs, ReadProcs, NoProgram, ReadProgram}
use Rattle.program.specs.Table.{size, total}
use Rattle.program.proofs.Standing.{heads}
use Rattle.program.proofs.Prefix.{prefix_p, one_list}
use Rattle.program.proofs.Sizes.{total_small}

-- a tally with one more procedure, of so many bytes
abbrev plus : Tally → ℕ → Tally
plus b z = record { count = b.count + 1; table = b.table + z }

module _ (k m : ℕ) (s : List ℕ) (at : ℕ) where
  pub procs_done : (room : ℕ) (b : Tally) → length s ≤ at → ReadProcs k m s at room b (Ok b)
  procs_done room b h = ([], record { is = drop_all at s h; few = omega arith; fine = tt }, record { count = omega arith; table = omega arith })

  module _ (here : at < length s) where
    nonempty : drop at s ≡ [] → ⊥
    nonempty e = omega (arith, simp length-drop at (ap length e))

    pub no_room : NoProcs k m s at 0
    no_room [] a = nonempty a.is
    no_room (p ∷ ps) a = omega (arith, a.few)

    pub no_proc : (room : ℕ) → Nothing row_p (OkP k m) s at → NoProcs k m s at room
    no_proc room q [] a = nonempty a.is
    no_proc room q (p ∷ ps) a = q p (rows row_p ps) a.is a.fine.0

    pub procs_more : (room rest : ℕ) (b : Tally) (h : Procedure) (z : ℕ) (r : Result Tally Refusal) → room ≡ rest + 1 → ReadProc k m s at (Ok h) → z ≡ (h.steps + 1) * 2 ^ (k + h.own) → ReadProcs k m s h.end rest (plus b z) r → ReadProcs k m s at room b r
    procs_more room rest b h z (Ok t) e p is q =
        let x = p.0.it in
        let same : z ≡ size k x = is ∙ λ i. (p.1.steps i + 1) * 2 ^ (k + p.1.own i) in (
          x ∷ q.0,
          record { is = p.0.stands.is ∙ ap (λ y. row_p x ++ y) q.1.is; few = omega (arith, q.1.few); fine = (p.0.fine, q.1.fine) },
          record { count = omega (arith, q.2.count); table = omega (arith, q.2.table, same) },
        )
    procs_more room rest b h z (Err d) e p is q = λ ps a. more ps a
      where
        more : (ps : List Proc) → AllProcs k m s at room ps → ⊥
        more [] a = nonempty a.is
        more (x ∷ ps) a = q ps (record { is = (prefix_p p.0.it x (drop h.end s) (rows row_p ps) (sym p.0.stands.is ∙ a.is)).1; few = omega (arith, a.few); fine = a.fine.1 })

-- more procedures may be called
more_i : (n k m m' : ℕ) (i : I) → m ≤ m' → OkI n k m i → OkI n k m' i
more_i n k m m' (set x e) h o = o
more_i n k m m' (open1 x) h o = o
more_i n k m m' (go e p) h o = o
more_i n k m m' (call f) h o = omega arith
more_i n k m m' return h o = o

pub every_map : {A : Type 0} {P Q : A → Type 0} → ((x : A) → P x → Q x) → (xs : List A) → Every P xs → Every Q xs
every_map f [] o = tt
every_map f (x ∷ xs) o = (f x o.0, every_map f xs o.1)

more_p : (k m m' : ℕ) → m ≤ m' → (p : Proc) → OkP k m p → OkP k m' p
more_p k m m' h p o = record { few = o.few; short = o.short; steps = every_map (λ i. more_i _ _ m m' i h) p.steps o.steps }

module _ (s : List ℕ) where
  -- what a program's bytes say of its procedures
  all_procs : (g : Prog) → Reads s g → AllProcs g.shared (length g.procs) s 1 64 g.procs
  all_procs g r = record { is = ap (drop 1) (sym r.bytes); few = r.most; fine = r.procs }

  module _ (k : ℕ) (shared : ReadNumber 7 s 0 (Ok k)) where
    same : (g : Prog) → Reads s g → g.shared ≡ k
    same g r = sym (heads (sym shared.0.is ∙ sym r.bytes))

    pub no_first : NoProcs k 64 s 1 64 → NoProgram s
    no_first q g r =
        let a = subst (λ z. AllProcs z (length g.procs) s 1 64 g.procs) (same g r) (all_procs g r) in
        q g.procs (record { is = a.is; few = a.few; fine = every_map (more_p k (length g.procs) 64 r.most) g.procs a.fine })

    module _ (m : ℕ) (zero : Tally) (none : zero.count ≡ 0) (c : Tally) (counted : ReadProcs k m s 1 64 zero (Ok c)) where
      many : (ps : List Proc) → drop 1 s ≡ rows row_p ps → length ps ≡ c.count
      many ps e = ap length (one_list ps counted.0 (sym e ∙ counted.1.is)) ∙ omega (arith, counted.2.count)

      pub no_procs : c.count ≡ 0 → NoProgram s
      no_procs h g r = let e = many g.procs (all_procs g r).is in omega (arith, r.some, e)

      pub no_second : NoProcs k c.count s 1 64 → NoProgram s
      no_second q g r =
          let a = all_procs g r in
          q g.procs (subst (λ z. AllProcs k z s 1 64 g.procs) (many g.procs a.is) (subst (λ z. AllProcs z (length g.procs) s 1 64 g.procs) (same g r) a))

      module _ (nothing : zero.table ≡ 0) (t : Tally) (again : ReadProcs k c.count s 1 64 zero (Ok t)) where
        pub small : t.table ≤ 67108864
        small = omega (arith, again.2.table, total_small k c.count again.0 (omega (arith, shared.1)) again.1.fine, again.1.few)

        pub whole : (w : ℕ) → w ≡ 4096 + t.table * (8 + 2 ^ k) → length s ≤ 8192 → 0 < c.count → ReadProgram s (Ok (record { shared = k; procs = t.count; table = t.table; work = w }))
        whole w e l h =
            let a = again.1 in
            let ps = again.0 in
            let n = many ps a.is in
            let tab : t.table ≡ total k ps = omega (arith, again.2.table) in (
              record { shared = k; procs = ps },
              record {
                bytes = sym (shared.0.is ∙ ap (λ x. k ∷ x) a.is);
                long = l;
                few = omega (arith, shared.1);
                some = omega (arith, n);
                most = a.few;
                procs = subst (λ z. Every (OkP k z) ps) (sym n) a.fine;
              },
              record { shared = refl; procs = omega (arith, again.2.count); table = tab; work = e ∙ ap (λ z. 4096 + z * (8 + 2 ^ k)) tab },
            )
