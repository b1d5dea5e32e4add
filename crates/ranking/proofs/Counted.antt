-- The calls at one node are counted value by value, and so node by node.
use Rattle.std.proofs.Common.{◌≡◌, ℕ, suc, ◌+◌, ◌<◌, ◌≤◌, List, ◌++◌, length, get_or, set, take, sym, refl, ap, ◌∙◌, subst, inl, inr, add-one, arith}
use Rattle.std.proofs.lemmas.List.{get_or-set_same, length-append, length-take-le, set-append_left, set-append_right}
use lib.Seq.{get_or-append_right}
use lib.ListN.{get_or-append}
use borrow.Rule.Slice.PartMut.{put_mid, post_of}
use Rattle.std.proofs.lemmas.Bool.{cases_eq}
use Rattle.saturation.specs.Bits.{On}
use Rattle.saturation.specs.System.{kind, proc, Fine}
use Rattle.saturation.specs.declared.Node.{Node}
use Rattle.saturation.specs.declared.Node.TheVariants.{Flow, Call, Return}
use Rattle.saturation.specs.Node.{Is}
use Rattle.ranking.specs.Calls.{CallAt, Aligned}
use Rattle.ranking.specs.Counting.{Counts, none, one, skip, Counted}
use Rattle.ranking.proofs.Entries.{other_word}

-- the values below y have been counted at node n, and the others only below it
pub record Counting (g : List ℕ) (k t : ℕ) (w : List ℕ) (n : ℕ) (c : List ℕ) (y : ℕ) : Type 0 where
  pub done : (m x : ℕ) → m < t → x < k → x < y → Counts (CallAt g t w (proc g m) x) (suc n) (get_or c (proc g m + x) 0)
  pub rest : (m x : ℕ) → m < t → x < k → y ≤ x → Counts (CallAt g t w (proc g m) x) n (get_or c (proc g m + x) 0)

pub counted_none : (g : List ℕ) (k t : ℕ) (w c : List ℕ) → ((i : ℕ) → get_or c i 0 ≡ 0) → Counted g k t w 0 c
counted_none g k t w c z m x h l = subst (Counts (CallAt g t w (proc g m) x) 0) (sym (z (proc g m + x))) none

pub counting_first : {g : List ℕ} {k t : ℕ} {w : List ℕ} {n : ℕ} {c : List ℕ} → Counted g k t w n c → Counting g k t w n c 0
counting_first h = record { done = λ m x l b z. absurd (omega arith); rest = λ m x l b z. h m x l b }

pub counting_all : {g : List ℕ} {k t : ℕ} {w : List ℕ} {n : ℕ} {c : List ℕ} {y : ℕ} → Counting g k t w n c y → k ≤ y → Counted g k t w (n + 1) c
counting_all {n = n} h a m x l b = rw (add-one n) (h.done m x l b (omega arith))

-- what a node that is no call says
pub not_call : (g : List ℕ) (n : ℕ) (v : Node) → Is g n v → ((a b : ℕ) → v ≡ Call a b → ⊥) → kind g n ≡ 1 → ⊥
not_call g n (Flow a b) h z e = absurd (omega (arith, h.0))
not_call g n (Call a b) h z e = z a b refl
not_call g n (Return a b) h z e = absurd (omega (arith, h.0))

-- a node that does not call
pub counted_skip : (g : List ℕ) (k t : ℕ) (w : List ℕ) (n : ℕ) (c : List ℕ) → (kind g n ≡ 1 → ⊥) → Counted g k t w n c → Counted g k t w (n + 1) c
counted_skip g k t w n c z h m x l b = rw (add-one n) (skip (λ p. z p.calls) (h m x l b))

module _ {g : List ℕ} {k t : ℕ} {w : List ℕ} {n : ℕ} {c : List ℕ} {y : ℕ} (h : Counting g k t w n c y) (within : n < t) (calls : kind g n ≡ 1) (b : y < k) where
  pub counting_not : (On w n y → ⊥) → Counting g k t w n c (y + 1)
  counting_not no_bit = record {
    done = λ m x l d z. elim (cases_eq x y) [
      | inl e ↦ skip (λ p. no_bit (subst (On w n) e p.has)) (h.rest m x l d (omega arith))
      | inr e ↦ h.done m x l d (omega arith)
    ];
    rest = λ m x l d z. h.rest m x l d (omega arith);
  }

  pub counting_has : Aligned g k t → proc g n + y < length c → On w n y → (v : ℕ) → v ≡ get_or c (proc g n + y) 0 + 1 → Counting g k t w n (set c (proc g n + y) v) (y + 1)
  counting_has aligned long bit v is = record {
    done = λ m x l d z. elim (cases_eq x y) [
      | inl e ↦ elim (cases_eq (proc g m) (proc g n)) [
        | inl q ↦
            (let s : proc g m + x ≡ proc g n + y = omega arith in
            let u : suc (get_or c (proc g m + x) 0) ≡ get_or (set c (proc g n + y) v) (proc g m + x) 0 = ap (λ i. suc (get_or c i 0)) s ∙ omega arith ∙ sym (ap (λ i. get_or (set c (proc g n + y) v) i 0) s ∙ get_or-set_same c (proc g n + y) v 0 long) in
            subst (Counts (CallAt g t w (proc g m) x) (suc n)) u (one (record { within = within; calls = calls; whose = sym q; has = subst (On w n) (sym e) bit }) (h.rest m x l d (omega arith))))
        | inr q ↦ subst (Counts (CallAt g t w (proc g m) x) (suc n)) (sym (other_word aligned c m n x y v l within d b (inl q))) (skip (λ p. q (sym p.whose)) (h.rest m x l d (omega arith)))
      ]
      | inr e ↦ subst (Counts (CallAt g t w (proc g m) x) (suc n)) (sym (other_word aligned c m n x y v l within d b (inr e))) (h.done m x l d (omega arith))
    ];
    rest = λ m x l d z. subst (Counts (CallAt g t w (proc g m) x) n) (sym (other_word aligned c m n x y v l within d b (inr (omega arith)))) (h.rest m x l d (omega arith));
  }

-- the counts of a node's procedure, from b on
pub part_room : {g : List ℕ} {k t : ℕ} (c : List ℕ) {n b : ℕ} → Fine g k t → t ≤ length c → n < t → b ≡ proc g n → b + k ≤ length c
part_room c {n = n} fine l within e = omega (arith, fine.procs n within, e)

-- one part of the words, from b on, holds `own` now
module _ (c own : List ℕ) (b e : ℕ) (room : b ≤ length c) where
  pub part_read : (x : ℕ) → x < length own → get_or (put_mid b e c own) (b + x) 0 ≡ get_or own x 0
  part_read x l =
      let long = length-take-le b c room in
      get_or-append_right (take b c) _ (b + x) 0 (omega arith) ∙ ap (λ i. get_or (own ++ post_of b e c) i 0) (omega arith) ∙ get_or-append own _ 0 x l

  pub part_set : (x v : ℕ) → x < length own → set (put_mid b e c own) (b + x) v ≡ put_mid b e c (set own x v)
  part_set x v l =
      set-append_right (take b c) _ b (b + x) v (length-take-le b c room) (omega arith)
      ∙ ap (λ i. take b c ++ set (own ++ post_of b e c) i v) (omega arith)
      ∙ ap (λ s. take b c ++ s) (set-append_left own _ x v l)

  pub part_past : (x : ℕ) → x < length own → b + x < length (put_mid b e c own)
  part_past x l = omega (arith, length-take-le b c room, length-append (take b c) (own ++ post_of b e c), length-append own (post_of b e c))
