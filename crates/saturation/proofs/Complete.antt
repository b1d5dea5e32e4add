-- A table that is sound and closed tells all.
use Rattle.std.proofs.Common.{◌≡◌, ℕ, ◌+◌, ◌*◌, ◌/◌, ◌%◌, ◌<◌, List, sym, refl, ap, ◌∙◌, subst, inl, inr, arith}
use Rattle.std.proofs.lemmas.Nat.{mod_below, mod-mul-add, div-add-mod'}
use Rattle.saturation.specs.Bits.{On}
use Rattle.saturation.specs.System.{kind, first, second, proc, words, Fine, Starts, Tells}
use Rattle.saturation.specs.Visits.{Sound, Closed}
use Rattle.pushdown.specs.System.{Inside, here, on, over, Entered, enters}
use Rattle.pushdown.specs.System as pushdown

-- a multiple and what is left
pub mod_from : (a b k : ℕ) → a % k ≡ 0 → b < k → (a + b) % k ≡ b
mod_from a b k z h = let e : a / k * k ≡ a = omega (arith, div-add-mod' a k) in subst (λ m. (m + b) % k ≡ b) e (mod-mul-add (a / k) k b h)

module _ {g : List ℕ} {k t : ℕ} (fine : Fine g k t) where
  pub below : (n : ℕ) → n % k < k
  below n = mod_below n k fine.some

  -- a call keeps the shared value
  pub callee_mod : (n : ℕ) → n < t → kind g n ≡ 1 → (first g n + n % k) % k ≡ n % k
  callee_mod n h c = mod_from (first g n) (n % k) k (fine.callees n h c).0 (below n)

  -- a procedure keeps to its nodes
  pub keeps : {e n : ℕ} → e < t → Inside (words g k) e n → (n < t) × (proc g n ≡ proc g e)
  keeps h here = (h, refl)
  keeps h (on i c) = let r = keeps h i in let f = fine.flows _ r.0 c.0 in elim c.1 [
    | inl q ↦ (omega (arith, f.0), ap (proc g) q ∙ f.2 ∙ r.1)
    | inr q ↦ (omega (arith, f.1), ap (proc g) q ∙ f.3 ∙ r.1)
  ]
  keeps h (over {n = n} {b = b} {r = r} {x = x} i c j d) =
      let l = keeps h i in let f = fine.callers n l.0 c.0 in
      let q : r + x ≡ second g n + b % k = omega (arith, c.2, d.1) in
      (omega (arith, f.0, below b), ap (proc g) q ∙ f.1 (b % k) (below b) ∙ l.1)

  -- a call begins a procedure, with its shared value
  begins_call : (n m : ℕ) → n < t → kind g n ≡ 1 → m ≡ first g n + n % k → (m < t) × (proc g m + m % k ≡ m) × (m % k ≡ n % k)
  begins_call n m h z e = let f = fine.callees n h z in let r : m % k ≡ n % k = ap (λ a. a % k) e ∙ callee_mod n h z in
      (omega (arith, f.1, below n), omega (arith, ap (proc g) e, f.2 (n % k) (below n)), r)

  module _ {root : ℕ} (starts : Starts g k t root) where
    -- an entry is where its procedure begins, with its shared value
    pub begins : {e : ℕ} → Entered (words g k) root e → (e < t) × (proc g e + e % k ≡ e)
    begins pushdown.first = (starts.within, omega (arith, starts.own, starts.even))
    begins (enters {n = n} {m = m} r i c) = let b = begins_call n m (keeps (begins r).0 i).0 c.0 c.1 in (b.0, b.1)

    module _ {w : List ℕ} (closed : (n : ℕ) → n < t → Closed g k t w n) where
      -- an entry that can be inside at a return has that return
      return_on : {e b y : ℕ} → e < t → proc g e + e % k ≡ e → On w b (e % k) → Inside (words g k) e b → (kind g b ≡ 2) × (y ≡ b % k) → On w (t + e) y
      return_on {e} {b} {y} h s o i d = let l = keeps h i in let q : proc g b + e % k ≡ e = omega (arith, l.1) in
          subst (λ z. On w (t + e) z) (sym d.1) (subst (λ z. On w (t + z) (b % k)) q ((closed b l.0).back d.0 (e % k) (below e) o))

      -- where a call begins, its own shared value is set
      call_on : {n m x : ℕ} → n < t → x < k → kind g n ≡ 1 → m ≡ first g n + n % k → On w n x → On w m (m % k)
      call_on {n} {m} {x} h b z e o = subst (λ y. On w m y) (sym (begins_call n m h z e).2) (subst (λ y. On w y (n % k)) (sym e) ((closed n h).call z x b o))

      inside_on : {e n : ℕ} → e < t → proc g e + e % k ≡ e → On w e (e % k) → Inside (words g k) e n → On w n (e % k)
      inside_on {e} h b o here = o
      inside_on {e} h b o (on i c) = let r = (closed _ (keeps h i).0).flow c.0 (e % k) (omega (arith, below e, fine.few)) (inside_on h b o i) in elim c.1 [
        | inl q ↦ subst (λ m. On w m (e % k)) (sym q) r.0
        | inr q ↦ subst (λ m. On w m (e % k)) (sym q) r.1
      ]
      inside_on {e} h s o (over {n = n} {m = m} {b = b} {r = r} {x = x} i c j d) =
          let l : n < t = (keeps h i).0 in
          let p : On w n (e % k) = inside_on h s o i in
          let f = begins_call n m l c.0 c.1 in
          let back : On w (t + m) x = return_on f.0 f.1 (inside_on f.0 f.1 (call_on l (below e) c.0 c.1 p) j) j d in
          subst (λ a. On w (a + x) (e % k)) (sym c.2)
          ((closed n l).over c.0 (e % k) x (omega (arith, below e, fine.few)) (omega (arith, d.1, below b)) p (subst (λ a. On w (t + a) x) c.1 back))

      entered_on : On w root 0 → {e : ℕ} → Entered (words g k) root e → On w e (e % k)
      entered_on o pushdown.first = subst (λ x. On w root x) (sym starts.even) o
      entered_on o (enters {e} r i c) = let b = begins r in call_on (keeps b.0 i).0 (below e) c.0 c.1 (inside_on b.0 b.1 (entered_on o r) i)

      pub tells : On w root 0 → Sound g k t root w → Tells g k t root w
      tells o sound = record {
        inside = λ n x h b. (
          sound.can n x h (omega (arith, fine.few)),
          λ c. let s = begins c.2 in subst (λ y. On w n y) c.1 (inside_on s.0 s.1 (entered_on o c.2) c.3),
        );
        returns = λ e y r b. (
          sound.back e y (omega (arith, fine.few)),
          λ c. let s = begins r in return_on s.0 s.1 (inside_on s.0 s.1 (entered_on o r) c.1) c.1 c.2,
        );
      }
