-- The numbered system stays in the table: each move of a number below its length leads to such numbers,
-- and each number below its length has its moves.
use Rattle.std.proofs.Common.{◌≡◌, ℕ, ◌+◌, ◌*◌, ◌/◌, ◌%◌, ◌^◌, ◌<◌, ◌≤◌, Bool, true, false, ◌⊎◌, ◌++◌, length, sym, refl, ap, ◌∙◌, subst, inl, inr, mul_comm, arith, pow_mono}
use mathlib.Core.Option.{Option, some, none}
use lib.Arith.{digits_lt}
use Rattle.std.proofs.lemmas.Nat.{pow_pos, pow-add, div_below, mod_below}
use Rattle.program.specs.Program.{pick, nth, put, I, set, open1, go, call, return, Proc, Prog, value}
use Rattle.program.specs.Table.{num, total}
use Rattle.program.specs.Values.{bits}
use Rattle.program.specs.WellFormed.{Good}
use Rattle.program.specs.Numbers.{loc, Loc, Move, on, down, proc_at, move_at, MoveOf, numbered}
use Rattle.program.proofs.Nums.{num_lt, length_bits, length_put}
use Rattle.program.proofs.Spots.{before_lt, spotted, value_lt}
use Rattle.program.proofs.Kept.{nth_lt, nth_some, ok_step}
use Rattle.program.proofs.Numbered.{fst_of, snd_of, one_of, callee_of, waiter_of, move_is}

pub loc_lt : {g : Prog} {n f : ℕ} {p : Proc} {a v : ℕ} → Loc g n f p a v → n < total g.shared g.procs
loc_lt {g} {n} {f} {p} {a} {v} h = subst (λ z. z < total g.shared g.procs) (sym h.is) (before_lt g.shared g.procs f p (a * 2 ^ (g.shared + p.own) + v) h.there (digits_lt (omega arith) h.small))

-- each number below the length has moves, and one kind of them
pub moves_of : {g : Prog} (n : ℕ) → n < total g.shared g.procs → (m : Move) × MoveOf g n m
moves_of {g} n l =
    let q = spotted g n l in
    let at : Loc g n q.f q.p q.a (num (q.sh ++ q.own)) = record { there = q.fits.there; place = q.fits.place; small = value_lt q.fits; is = sym q.is } in
    (_, record { f = q.f; p = q.p; a = q.a; v = num (q.sh ++ q.own); at = at; is = refl })

pub move_one : {g : Prog} {n : ℕ} {m m' : Move} → MoveOf g n m → MoveOf g n m' → m ≡ m'
move_one o q = o.is ∙ sym (move_is o.at q)

-- other shared values keep values below their bound
shared_lt : (k o v x : ℕ) → v < 2 ^ (k + o) → x < 2 ^ k → v / 2 ^ k * 2 ^ k + x < 2 ^ (k + o)
shared_lt k o v x h l =
    let e : 2 ^ (k + o) ≡ 2 ^ o * 2 ^ k = pow-add 2 k o ∙ mul_comm (2 ^ k) (2 ^ o) in
    rw e (digits_lt (div_below v (2 ^ k) (2 ^ o) (pow_pos k) (rw e at h)) l)

-- a call in procedure f, which is p, at place a with values v: it calls procedure d, which is q; what
-- waits is in the same procedure, with any shared values
pub record Called (g : Prog) (m r f : ℕ) (p : Proc) (a v : ℕ) : Type 0 where
  pub d : ℕ
  pub q : Proc
  pub there : nth g.procs d ≡ some q
  pub step : nth p.steps a ≡ some (call d)
  pub callee : m ≡ loc g d q 0 (v % 2 ^ g.shared)
  pub resumed : (x : ℕ) → x < 2 ^ g.shared → Loc g (r + x) f p (a + 1) (v / 2 ^ g.shared * 2 ^ g.shared + x)

-- a procedure begins in the table, with any shared values
pub begins_at : (g : Prog) (d : ℕ) (q : Proc) → nth g.procs d ≡ some q → (n x : ℕ) → x < 2 ^ g.shared → n ≡ loc g d q 0 x → Loc g n d q 0 x
begins_at g d q e n x l i = record { there = e; place = omega arith; small = omega (arith, pow_mono {i = g.shared} {j = g.shared + q.own} (omega arith)); is = i }

pub callee_at : {g : Prog} {m r f : ℕ} {p : Proc} {a v : ℕ} (c : Called g m r f p a v) → Loc g m c.d c.q 0 (v % 2 ^ g.shared)
callee_at {g} {m} {v = v} c = begins_at g c.d c.q c.there m (v % 2 ^ g.shared) (mod_below v (2 ^ g.shared) (pow_pos g.shared)) c.callee

-- a number in procedure f, which is p
pub record In (g : Prog) (n f : ℕ) (p : Proc) : Type 0 where
  pub a : ℕ
  pub v : ℕ
  pub at : Loc g n f p a v

module _ {g : Prog} (w : Good g) where
  module _ {n f : ℕ} {p : Proc} {a v : ℕ} (h : Loc g n f p a v) where
    near : (b u m : ℕ) → b ≤ length p.steps → u < 2 ^ (g.shared + p.own) → m ≡ loc g f p b u → In g m f p
    near b u m k l e = record { a = b; v = u; at = record { there = h.there; place = k; small = l; is = e } }

    put_lt : (x : ℕ) (b : Bool) → num (put (bits (g.shared + p.own) v) x b) < 2 ^ (g.shared + p.own)
    put_lt x b = rw (length_put (bits (g.shared + p.own) v) x b, length_bits (g.shared + p.own) v) at (num_lt (put (bits (g.shared + p.own) v) x b))

    way : (b : Bool) (t m : ℕ) → t ≤ length p.steps → a < length p.steps → m ≡ loc g f p (pick b t (a + 1)) v → In g m f p
    way true t m k l e = near t v m k h.small e
    way false t m k l e = near (a + 1) v m (omega arith) h.small e

    -- a move within a procedure stays in it
    flow_near : (o : Option I) → nth p.steps a ≡ o → (x y m : ℕ) → on x y ≡ move_at g f p a v o → (m ≡ x) ⊎ (m ≡ y) → In g m f p
    flow_near none i x y m e k = absurd cc
    flow_near (some (set q j)) i x y m e k = near (a + 1) _ m (omega (arith, nth_lt p.steps a (set q j) i)) (put_lt q (value (bits (g.shared + p.own) v) j)) (one_of e k)
    flow_near (some (open1 q)) i x y m e (inl k) = near (a + 1) _ m (omega (arith, nth_lt p.steps a (open1 q) i)) (put_lt q true) (k ∙ fst_of e)
    flow_near (some (open1 q)) i x y m e (inr k) = near (a + 1) _ m (omega (arith, nth_lt p.steps a (open1 q) i)) (put_lt q false) (k ∙ snd_of e)
    flow_near (some (go j t)) i x y m e k = way (value (bits (g.shared + p.own) v) j) t m (ok_step w f p a (go j t) h.there i).0 (nth_lt p.steps a (go j t) i) (one_of e k)
    flow_near (some (call d)) i x y m e k = absurd cc
    flow_near (some return) i x y m e k = absurd cc

    call_near : (o : Option I) → nth p.steps a ≡ o → (m r : ℕ) → down m r ≡ move_at g f p a v o → Called g m r f p a v
    call_near none i m r e = absurd cc
    call_near (some (set q j)) i m r e = absurd cc
    call_near (some (open1 q)) i m r e = absurd cc
    call_near (some (go j t)) i m r e = absurd cc
    call_near (some return) i m r e = absurd cc
    call_near (some (call d)) i m r e =
        let K = 2 ^ g.shared in
        let q = nth_some g.procs d (ok_step w f p a (call d) h.there i) in
        let at0 : loc g d (proc_at g d) 0 (v % K) ≡ loc g d q.0 0 (v % K) = rw q.1 in
        let inner : (x : ℕ) → loc g f p (a + 1) (v / K * K) + x ≡ loc g f p (a + 1) (v / K * K + x) = λ x. omega arith in
        record {
          d = d;
          q = q.0;
          there = q.1;
          step = i;
          callee = callee_of e ∙ at0;
          resumed = λ x l. record { there = h.there; place = omega (arith, nth_lt p.steps a (call d) i); small = shared_lt g.shared p.own v x h.small l; is = ap (λ z. z + x) (waiter_of e) ∙ inner x };
        }

  -- on numbers
  pub flow_to : {n x y : ℕ} (o : MoveOf g n (on x y)) (m : ℕ) → (m ≡ x) ⊎ (m ≡ y) → In g m o.f o.p
  flow_to {x = x} {y = y} o m k = flow_near o.at (nth o.p.steps o.a) refl x y m o.is k

  pub call_to : {n m r : ℕ} (o : MoveOf g n (down m r)) → Called g m r o.f o.p o.a o.v
  call_to {m = m} {r = r} o = call_near o.at (nth o.p.steps o.a) refl m r o.is

  pub flow_in : (n m : ℕ) → (numbered g).flow n m → m < total g.shared g.procs
  flow_in n m h = loc_lt (flow_to h.2 m h.3).at

  pub call_in : (n m r : ℕ) → (numbered g).call n m r → m < total g.shared g.procs
  call_in n m r o = loc_lt (callee_at (call_to o))

  pub resume_in : (n m b r x : ℕ) → (numbered g).call n m r → (numbered g).exit b x → r + x < total g.shared g.procs
  resume_in n m b r x o y = loc_lt ((call_to o).resumed x (subst (λ z. z < 2 ^ g.shared) (sym y.1) (mod_below b (2 ^ g.shared) (pow_pos g.shared))))
