-- The words that a program is expanded into say its numbered system: what the engine asks of them holds,
-- and its relation is that of the program's numbers.
use Rattle.std.proofs.Common.{◌≡◌, ℕ, ◌+◌, ◌-◌, ◌*◌, ◌%◌, ◌^◌, ◌<◌, ◌≤◌, List, length, get_or, sym, refl, ap, ◌∙◌, subst, inl, inr, ⊎_elim, add-mul, one-mul, zero-mul, arith, pow_mono}
use mathlib.Core.Option.{some}
use native.Mathlib.Nat.{mul-mod_left, zero-mod, zero-div}
use Rattle.std.proofs.lemmas.Nat.{pow_pos}
use Rattle.pushdown.specs.System as pushdown
use Rattle.program.specs.Program.{nth, call, Proc, Prog}
use Rattle.program.specs.Table.{before, size, total}
use Rattle.program.specs.Numbers.{loc, Loc, Move, on, down, up, move_at, MoveOf, numbered}
use Rattle.program.specs.WellFormed.{Good}
use Rattle.program.proofs.Spots.{before_inj, before_times}
use Rattle.program.proofs.Sizes.{before_none}
use Rattle.program.proofs.Kept.{nth_some, nth_lt}
use Rattle.program.proofs.Targets.{loc_lt, moves_of, begins_at, flow_to, call_to, flow_in, call_in, resume_in}
use Rattle.expansion.specs.declared.nodes.Node.{Node}
use Rattle.expansion.specs.Words.{kind_of, first_of, second_of, Holds, Codes, Upto}
use Rattle.expansion.specs.Programs.{Begin}
use Rattle.expansion.specs.Sites.{SitesAre}
use Rattle.ranking.specs.Calls.{Aligned, Grouped}
use Rattle.expansion.proofs.Placed.{loc_mod}
use Rattle.saturation.specs.System.{kind, first, second, proc, words, Fine, Sited, Starts, site_begin, site_end}

-- four words of node n
pub record Four (w : List ℕ) (n k a b c : ℕ) : Type 0 where
  pub kind_is : kind w n ≡ k
  pub first_is : first w n ≡ a
  pub second_is : second w n ≡ b
  pub proc_is : proc w n ≡ c

four : (w : List ℕ) (n : ℕ) (d e : Node) → Holds w n d → d ≡ e → Four w n (kind_of e.action) (first_of e.action) (second_of e.action) e.base
unfolding kind first second proc
four w n d e h q = record {
  kind_is = h.kind ∙ ap (λ (z : Node). kind_of z.action) q;
  first_is = h.first ∙ ap (λ (z : Node). first_of z.action) q;
  second_is = h.second ∙ ap (λ (z : Node). second_of z.action) q;
  proc_is = h.base ∙ ap (λ (z : Node). z.base) q;
}

module _ (g : Prog) (starts w : List ℕ) (good : Good g) (few : g.shared ≤ 6) (u : Upto g starts w (total g.shared g.procs)) where
  abbrev T : ℕ
  T = total g.shared g.procs

  abbrev K : ℕ
  K = 2 ^ g.shared

  abbrev B : ℕ → ℕ
  B f = before g.shared g.procs f

  -- the words at each kind of move
  said : {n : ℕ} {m : Move} (o : MoveOf g n m) → (d : Node) × Holds w n d × Codes K n (B o.f) (get_or starts o.f 0) (get_or starts (o.f + 1) 0) d m
  said {n} o =
      let x = u n o.f o.p o.a o.v (loc_lt o.at) o.at in
      (x.0, x.1, subst (Codes K n (B o.f) (get_or starts o.f 0) (get_or starts (o.f + 1) 0) x.0) (sym o.is) x.2)

  pub at_on : {n x y : ℕ} (o : MoveOf g n (on x y)) → Four w n 0 x y (B o.f)
  at_on {n} o = let s = said o in four w n s.0 _ s.1 s.2

  pub at_down : {n m r : ℕ} (o : MoveOf g n (down m r)) → (c : ℕ) × Four w n 1 c r (B o.f) × (m ≡ c + n % K)
  at_down {n} o = let s = said o in (s.2.0, four w n s.0 _ s.1 s.2.1, s.2.2)

  pub at_up : {n : ℕ} (o : MoveOf g n up) → Four w n 2 (get_or starts o.f 0) (get_or starts (o.f + 1) 0) (B o.f)
  at_up {n} o = let s = said o in four w n s.0 _ s.1 s.2

  -- the word of its procedure
  proc_of : {n : ℕ} (m : Move) (o : MoveOf g n m) → proc w n ≡ B o.f
  proc_of (on x y) o = (at_on o).proc_is
  proc_of (down m r) o = (at_down o).1.proc_is
  proc_of up o = (at_up o).proc_is

  pub proc_is_at : {n f : ℕ} {p : Proc} {a v : ℕ} → Loc g n f p a v → proc w n ≡ B f
  proc_is_at {n} {f} {p} {a} {v} h = proc_of _ (record { f = f; p = p; a = a; v = v; at = h; is = refl })

  -- the words' system is the numbered one
  pub flow_from : {n m : ℕ} → (numbered g).flow n m → (words w K).flow n m
  flow_from h = let x = at_on h.2 in (x.kind_is, ⊎_elim (λ e. inl (e ∙ sym x.first_is)) (λ e. inr (e ∙ sym x.second_is)) h.3)

  pub call_from : {n m r : ℕ} → (numbered g).call n m r → (words w K).call n m r
  call_from {n} o = let x = at_down o in (x.1.kind_is, x.2 ∙ ap (λ z. z + n % K) (sym x.1.first_is), sym x.1.second_is)

  pub exit_from : {n x : ℕ} → (numbered g).exit n x → (words w K).exit n x
  exit_from h = ((at_up h.0).kind_is, h.1)

  flow_by : {n m : ℕ} (k : Move) → MoveOf g n k → (words w K).flow n m → (numbered g).flow n m
  flow_by (on x y) o h = let f = at_on o in (x, y, o, ⊎_elim (λ e. inl (e ∙ f.first_is)) (λ e. inr (e ∙ f.second_is)) h.1)
  flow_by (down x y) o h = absurd (let f = (at_down o).1 in omega (arith, f.kind_is, h.0))
  flow_by up o h = absurd (let f = at_up o in omega (arith, f.kind_is, h.0))

  pub flow_back : {n m : ℕ} → n < T → (words w K).flow n m → (numbered g).flow n m
  flow_back {n} l h = let k = moves_of {g = g} n l in flow_by k.0 k.1 h

  call_by : {n m r : ℕ} (k : Move) → MoveOf g n k → (words w K).call n m r → (numbered g).call n m r
  call_by (on x y) o h = absurd (let f = at_on o in omega (arith, f.kind_is, h.0))
  call_by {n} {m} {r} (down x y) o h =
      let f = at_down o in
      let me : x ≡ m = f.2 ∙ ap (λ z. z + n % K) (sym f.1.first_is) ∙ sym h.1 in
      let re : y ≡ r = sym f.1.second_is ∙ sym h.2 in
      subst (λ z. MoveOf g n (down m z)) re (subst (λ z. MoveOf g n (down z y)) me o)
  call_by up o h = absurd (let f = at_up o in omega (arith, f.kind_is, h.0))

  pub call_back : {n m r : ℕ} → n < T → (words w K).call n m r → (numbered g).call n m r
  call_back {n} l h = let k = moves_of {g = g} n l in call_by k.0 k.1 h

  exit_by : {n x : ℕ} (k : Move) → MoveOf g n k → (words w K).exit n x → (numbered g).exit n x
  exit_by (on x y) o h = absurd (let f = at_on o in omega (arith, f.kind_is, h.0))
  exit_by (down x y) o h = absurd (let f = (at_down o).1 in omega (arith, f.kind_is, h.0))
  exit_by up o h = (o, h.1)

  pub exit_back : {n x : ℕ} → n < T → (words w K).exit n x → (numbered g).exit n x
  exit_back {n} l h = let k = moves_of {g = g} n l in exit_by k.0 k.1 h

  -- and so are its summaries
  pub inside_from : {e n : ℕ} → pushdown.Inside (numbered g) e n → pushdown.Inside (words w K) e n
  inside_from pushdown.here = pushdown.here
  inside_from (pushdown.on i f) = pushdown.on (inside_from i) (flow_from f)
  inside_from (pushdown.over i c j x) = pushdown.over (inside_from i) (call_from c) (inside_from j) (exit_from x)

  pub inside_back : {e n : ℕ} → e < T → pushdown.Inside (words w K) e n → pushdown.Inside (numbered g) e n × (n < T)
  inside_back l pushdown.here = (pushdown.here, l)
  inside_back l (pushdown.on i f) = let h = inside_back l i in let k = flow_back h.1 f in (pushdown.on h.0 k, flow_in good _ _ k)
  inside_back l (pushdown.over i c j x) =
      let h = inside_back l i in
      let k = call_back h.1 c in
      let b = inside_back (call_in good _ _ _ k) j in
      let y = exit_back b.1 x in
      (pushdown.over h.0 k b.0 y, resume_in good _ _ _ _ _ k y)

  pub entered_from : {root e : ℕ} → pushdown.Entered (numbered g) root e → pushdown.Entered (words w K) root e
  entered_from pushdown.first = pushdown.first
  entered_from (pushdown.enters h i c) = pushdown.enters (entered_from h) (inside_from i) (call_from c)

  pub entered_back : {root e : ℕ} → root < T → pushdown.Entered (words w K) root e → pushdown.Entered (numbered g) root e × (e < T)
  entered_back l pushdown.first = (pushdown.first, l)
  entered_back l (pushdown.enters h i c) =
      let k = entered_back l h in
      let j = inside_back k.1 i in
      let m = call_back j.1 c in
      (pushdown.enters k.0 j.0 m, call_in good _ _ _ m)

  -- and its chains of calls
  pub chain_from : {e d : ℕ} → pushdown.Chain (numbered g) e d → pushdown.Chain (words w K) e d
  chain_from pushdown.stop = pushdown.stop
  chain_from (pushdown.link h q) = pushdown.link (h.0, h.1, inside_from h.2, call_from h.3) (chain_from q)

  pub chain_back : {e d : ℕ} → e < T → pushdown.Chain (words w K) e d → pushdown.Chain (numbered g) e d
  chain_back l pushdown.stop = pushdown.stop
  chain_back l (pushdown.link h q) =
      let i = inside_back l h.2 in
      let k = call_back i.1 h.3 in
      pushdown.link (h.0, h.1, i.0, k) (chain_back (call_in good _ _ _ k) q)

  -- WHAT THE ENGINE ASKS
  k_pos : 0 < K
  k_pos = pow_pos g.shared

  -- a procedure begins with room for all shared values
  begins_lt : (d : ℕ) (q : Proc) → nth g.procs d ≡ some q → B d + K ≤ T
  begins_lt d q e = omega (arith, loc_lt (begins_at g d q e (B d + (K - 1)) (K - 1) (omega (arith, k_pos)) (omega arith)), k_pos)

  base_even : (d : ℕ) → B d % K ≡ 0
  base_even d = let r = before_times g.shared g.procs d in rw r.1 (mul-mod_left r.0 K)

  -- a call's first word is where the procedure called begins
  callee_of : {n m r : ℕ} (o : MoveOf g n (down m r)) → first w n ≡ B (call_to good o).d
  callee_of {n} o =
      let x = at_down o in
      let c = call_to good o in
      let e : n % K ≡ o.v % K = ap (λ z. z % K) o.at.is ∙ loc_mod g o.f o.p o.a o.v in
      omega (arith, x.1.first_is, x.2, c.callee, e)

  kind_le : {n : ℕ} (k : Move) → MoveOf g n k → kind w n ≤ 2
  kind_le (on x y) o = omega (arith, (at_on o).kind_is)
  kind_le (down x y) o = omega (arith, (at_down o).1.kind_is)
  kind_le up o = omega (arith, (at_up o).kind_is)

  abbrev Flows : ℕ → Type 0
  Flows n = (first w n < T) × (second w n < T) × (proc w (first w n) ≡ proc w n) × (proc w (second w n) ≡ proc w n)

  flows_of : {n : ℕ} (k : Move) → MoveOf g n k → kind w n ≡ 0 → Flows n
  flows_of (on x y) o z =
      let f = at_on o in
      let a = flow_to good o (first w _) (inl f.first_is) in
      let b = flow_to good o (second w _) (inr f.second_is) in
      (loc_lt a.at, loc_lt b.at, proc_is_at a.at ∙ sym f.proc_is, proc_is_at b.at ∙ sym f.proc_is)
  flows_of (down x y) o z = absurd (let f = (at_down o).1 in omega (arith, f.kind_is))
  flows_of up o z = absurd (let f = at_up o in omega (arith, f.kind_is))

  abbrev Callees : ℕ → Type 0
  Callees n = (first w n % K ≡ 0) × (first w n + K ≤ T) × ((x : ℕ) → x < K → proc w (first w n + x) ≡ first w n)

  callees_of : {n : ℕ} (k : Move) → MoveOf g n k → kind w n ≡ 1 → Callees n
  callees_of (on x y) o z = absurd (let f = at_on o in omega (arith, f.kind_is))
  callees_of {n} (down m r) o z =
      let c = call_to good o in
      let e = callee_of o in
      (rw e (base_even c.d), rw e (begins_lt c.d c.q c.there), λ x l. proc_is_at (begins_at g c.d c.q c.there (first w n + x) x l (omega (arith, e))) ∙ sym e)
  callees_of up o z = absurd (let f = at_up o in omega (arith, f.kind_is))

  abbrev Callers : ℕ → Type 0
  Callers n = (second w n + K ≤ T) × ((x : ℕ) → x < K → proc w (second w n + x) ≡ proc w n)

  callers_of : {n : ℕ} (k : Move) → MoveOf g n k → kind w n ≡ 1 → Callers n
  callers_of (on x y) o z = absurd (let f = at_on o in omega (arith, f.kind_is))
  callers_of {n} (down m r) o z =
      let f = (at_down o).1 in
      let c = call_to good o in
      (omega (arith, f.second_is, loc_lt (c.resumed (K - 1) (omega (arith, k_pos))), k_pos), λ x l. rw f.second_is (proc_is_at (c.resumed x l) ∙ sym f.proc_is))
  callers_of up o z = absurd (let f = at_up o in omega (arith, f.kind_is))

  pub fine : length w ≡ 4 * T → Fine w K T
  fine long = record {
    long = long;
    some = k_pos;
    few = pow_mono {i = g.shared} {j = 6} few;
    kinds = λ n l. let k = moves_of {g = g} n l in kind_le k.0 k.1;
    flows = λ n l. let k = moves_of {g = g} n l in flows_of k.0 k.1;
    callees = λ n l. let k = moves_of {g = g} n l in callees_of k.0 k.1;
    callers = λ n l. let k = moves_of {g = g} n l in callers_of k.0 k.1;
    procs = λ n l. let k = moves_of {g = g} n l in rw (proc_of k.0 k.1) (begins_lt k.1.f k.1.p k.1.at.there);
  }

  pub starts_at : Starts w K T 0
  starts_at =
      let r = nth_some g.procs 0 good.some_proc in
      let z : B 0 ≡ 0 = before_none g.shared g.procs in
      let at = begins_at g 0 r.0 r.1 0 0 k_pos (omega (arith, z)) in
      record { within = loc_lt at; even = zero-mod K; own = proc_is_at at ∙ z }

  pub aligned : Aligned w K T
  aligned = record { even = λ n l. let k = moves_of {g = g} n l in rw (proc_of k.0 k.1) (base_even k.1.f) }

  -- call places
  size_pos : (p : Proc) → 0 < size g.shared p
  size_pos p = omega (arith, add-mul (length p.steps) 1 (2 ^ (g.shared + p.own)), one-mul (2 ^ (g.shared + p.own)), pow_pos (g.shared + p.own))

  call_place : (f : ℕ) (p : Proc) (a d : ℕ) → nth g.procs f ≡ some p → a ≤ length p.steps → nth p.steps a ≡ some (call d) → (n : ℕ) → n ≡ loc g f p a 0 → (n < T) × (kind w n ≡ 1) × (second w n ≡ loc g f p (a + 1) 0)
  call_place f p a d e l i n is =
      let at : Loc g n f p a 0 = record { there = e; place = l; small = pow_pos (g.shared + p.own); is = is } in
      let o : MoveOf g n (move_at g f p a 0 (some (call d))) = record { f = f; p = p; a = a; v = 0; at = at; is = ap (move_at g f p a 0) (sym i) } in
      let x = (at_down o).1 in
      (loc_lt at, x.kind_is, x.second_is ∙ ap (loc g f p (a + 1)) (ap (λ z. z * K) (zero-div K) ∙ zero-mul K))

  module _ (c : List ℕ) (si : SitesAre g starts c (length c)) where
    site : (s : ℕ) → s < length c → (site_begin c s < T) × (kind w (site_begin c s) ≡ 1)
    unfolding site_begin
    site s l =
        let x = (si.each s l).1 in
        let k = call_place x.f x.p x.a (si.each s l).0 x.there (omega (arith, nth_lt x.p.steps x.a _ x.calls)) x.calls (get_or c s 0) x.is in
        (k.0, k.1)

    even : (s : ℕ) → s < length c → site_begin c s % K ≡ 0
    unfolding site_begin
    even s l = let x = (si.each s l).1 in ap (λ z. z % K) x.is ∙ loc_mod g x.f x.p x.a 0 ∙ zero-mod K

    lists_by : {q : ℕ} (k : Move) → MoveOf g q k → kind w q ≡ 2 → (proc w q % K ≡ 0) × (second w q ≤ length c)
    lists_by (on x y) o z = absurd (let f = at_on o in omega (arith, f.kind_is))
    lists_by (down x y) o z = absurd (let f = (at_down o).1 in omega (arith, f.kind_is))
    lists_by up o z = let f = at_up o in (rw f.proc_is (base_even o.f), rw f.second_is (si.order o.f (nth_lt g.procs o.f o.p o.at.there)).1)

    -- a call stands in a place that is listed for the procedure that it calls
    listed_at : {n m r : ℕ} (o : MoveOf g n (down m r)) (f : ℕ) (q : Proc) → nth g.procs f ≡ some q → first w n ≡ B f → (s : ℕ) × (get_or starts f 0 ≤ s) × (s < get_or starts (f + 1) 0) × (site_begin c s ≤ n) × (n < site_end w c s)
    unfolding site_begin
    listed_at {n} o f q there e =
        let ca = call_to good o in
        let W = 2 ^ (g.shared + o.p.own) in
        let same : B ca.d + 0 ≡ B f + 0 = omega (arith, callee_of o, e) in
        let de = (before_inj g.shared g.procs ca.d f ca.q q 0 0 ca.there there (size_pos ca.q) (size_pos q) same).0 in
        let st : nth o.p.steps o.a ≡ some (call f) = ca.step ∙ ap (λ z. some (call z)) de in
        let x = si.all o.f o.p o.a f o.at.there st in
        let k = call_place o.f o.p o.a f o.at.there o.at.place st (get_or c x.0 0) x.3 in
        (x.0, x.1, x.2, omega (arith, x.3, o.at.is), omega (arith, k.2, o.at.is, o.at.small, add-mul o.a 1 W, one-mul W))

    abbrev Found : ℕ → ℕ → Type 0
    Found q n = (s : ℕ) × (first w q ≤ s) × (s < second w q) × (site_begin c s ≤ n) × (n < site_end w c s)

    all_by : {q n : ℕ} (k j : Move) → MoveOf g q k → MoveOf g n j → kind w q ≡ 2 → kind w n ≡ 1 → first w n ≡ proc w q → Found q n
    all_by (on x y) j oq ob z zn e = absurd (let f = at_on oq in omega (arith, f.kind_is))
    all_by (down x y) j oq ob z zn e = absurd (let f = (at_down oq).1 in omega (arith, f.kind_is))
    all_by up (on x y) oq ob z zn e = absurd (let f = at_on ob in omega (arith, f.kind_is))
    all_by up up oq ob z zn e = absurd (let f = at_up ob in omega (arith, f.kind_is))
    all_by up (down m r) oq ob z zn e =
        let fq = at_up oq in
        let x = listed_at ob oq.f oq.p oq.at.there (e ∙ fq.proc_is) in
        (x.0, omega (arith, fq.first_is, x.1), omega (arith, fq.second_is, x.2), x.3, x.4)

    pub sited : Sited w K T c
    sited = record {
      calls = site;
      even = even;
      lists = λ q l. let k = moves_of {g = g} q l in lists_by k.0 k.1;
      all = λ q n l z l'. let k = moves_of {g = g} q l in let j = moves_of {g = g} n l' in all_by k.0 j.0 k.1 j.1 z;
    }

    -- WHAT RANKING ASKS
    module _ (bases : List ℕ) (count : length bases ≡ length g.procs) (begin : Begin bases g (length g.procs)) where
      based : (f : ℕ) → f < length bases → get_or bases f 0 ≡ B f
      based f l = (begin f (omega arith)).1

      there : (f : ℕ) → f < length bases → (p : Proc) × (nth g.procs f ≡ some p)
      there f l = nth_some g.procs f (omega arith)

      begins_of : (f : ℕ) → f < length bases → (get_or bases f 0 + K ≤ T) × (proc w (get_or bases f 0) ≡ get_or bases f 0)
      begins_of f l =
          let q = there f l in
          let e = based f l in
          (omega (arith, e, begins_lt f q.0 q.1), rw e (proc_is_at (begins_at g f q.0 q.1 (B f) 0 k_pos (omega arith))))

      owner_of : (n : ℕ) → n < T → (f : ℕ) × (f < length bases) × (get_or bases f 0 ≡ proc w n)
      owner_of n l =
          let k = moves_of {g = g} n l in
          let o = k.1 in
          let h : o.f < length bases = omega (arith, nth_lt g.procs o.f o.p o.at.there) in
          (o.f, h, based o.f h ∙ sym (proc_of k.0 o))

      apart_of : (f h : ℕ) → f < length bases → h < length bases → get_or bases f 0 ≡ get_or bases h 0 → f ≡ h
      apart_of f h hf hh e =
          let q = there f hf in
          let r = there h hh in
          (before_inj g.shared g.procs f h q.0 r.0 0 0 q.1 r.1 (size_pos q.0) (size_pos r.0) (omega (arith, based f hf, based h hh))).0

      all_of : {n : ℕ} (k : Move) → MoveOf g n k → (f : ℕ) → f < length bases → kind w n ≡ 1 → first w n ≡ get_or bases f 0 → (s : ℕ) × (get_or starts f 0 ≤ s) × (s < get_or starts (f + 1) 0) × (site_begin c s ≤ n) × (n < site_end w c s)
      all_of (on x y) o f l z e = absurd (let h = at_on o in omega (arith, h.kind_is))
      all_of up o f l z e = absurd (let h = at_up o in omega (arith, h.kind_is))
      all_of (down m r) o f l z e = let q = there f l in listed_at o f q.0 q.1 (e ∙ based f l)

      pub grouped : length bases < length starts → length bases ≤ 64 → Grouped w K T c bases starts
      grouped more most = record {
        some = omega (arith, good.some_proc);
        most = most;
        started = more;
        begins = begins_of;
        owner = owner_of;
        apart = apart_of;
        listed = λ f l. (si.order f (omega arith)).1;
        sites = λ s l. let x = site s l in (x.0, x.1, even s l);
        all = λ f n l h. let k = moves_of {g = g} n h in all_of k.0 k.1 f l;
      }
