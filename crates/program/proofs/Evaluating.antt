-- Evaluating an expression where it stands: it stands in one way only, and each case of its value is
-- that of the parts which stand behind its first byte.
use Rattle.std.proofs.Common.{◌≡◌, ℕ, ◌+◌, ◌/◌, ◌^◌, ◌<◌, ◌≤◌, Bool, true, not, ◌&&◌, List, [], ◌∷◌, ◌++◌, length, get_or, drop, sym, refl, ap, ◌∙◌, subst, arith}
use Rattle.std.proofs.Math.Option.{some}
use Rattle.program.specs.declared.expressions.Valued.{Valued}
use Rattle.program.specs.Program.{E, var, not1, and1, or_f, value}
use Rattle.program.specs.Rows.{row_e, OkE}
use Rattle.program.specs.Reading.{Stands}
use Rattle.program.specs.Values.{odd, bits, Has, Evals, Tests}
use Rattle.program.proofs.Nums.{nth_bits}
use Rattle.program.proofs.Standing.{stands_byte, stands_left, stands_right, byte_at}
use Rattle.program.proofs.Prefix.{RestE, unknown_e}
use Rattle.program.proofs.ReadingExpr.{row_e_some, seen_e}

module _ (s : List ℕ) (at : ℕ) where
  in_range : (e : E) (end : ℕ) → Stands s at end (row_e e) → at < length s
  in_range e end k = omega (arith, row_e_some e, k.long, k.within)

  -- what stands here if the byte b comes first
  shape : (b : ℕ) → get_or s at 0 ≡ b → (e : E) (end : ℕ) → Stands s at end (row_e e) → RestE b (drop (at + 1) s) (drop end s) e
  shape b g e end k = seen_e 0 s at _ (stands_byte s at (in_range e end k)) b g e (drop end s) k.is

  -- the two parts of an `and`
  record Parts (n : ℕ) (f g : E) (end : ℕ) : Type 0 where
    mid : ℕ
    left : Stands s (at + 1) mid (row_e f)
    left_ok : OkE n f
    right : Stands s mid end (row_e g)
    right_ok : OkE n g

  parts : (n : ℕ) (f g : E) (end : ℕ) → Stands s at end (row_e (and1 f g)) → OkE n (and1 f g) → Parts n f g end
  parts n f g end k o =
      let m = stands_right s (3 ∷ []) (row_e f ++ row_e g) k in
      record { mid = at + 1 + length (row_e f); left = stands_left s (row_e f) (row_e g) m; left_ok = o.0; right = stands_right s (row_e f) (row_e g) m; right_ok = o.1 }

  module _ (n : ℕ) (p : Has n s at) where
    pub has_some : at < length s
    has_some = in_range p.1.it p.0 p.1.stands

    pub has_known : 4 ≤ get_or s at 0 → ⊥
    has_known g = unknown_e _ _ _ p.1.it g (shape _ refl p.1.it p.0 p.1.stands)

    pub has_var : get_or s at 0 ≡ 1 → (at + 1 < length s) × (get_or s (at + 1) 0 < n)
    has_var g =
        let l = shape 1 g p.1.it p.0 p.1.stands in
        let f = byte_at s (at + 1) l.0 _ l.2 in
        (f.0, omega (arith, f.1, subst (OkE n) l.1 p.1.fine))

    pub has_not : get_or s at 0 ≡ 2 → Has n s (at + 1)
    has_not g =
        let l = shape 2 g p.1.it p.0 p.1.stands in
        (p.0, record { it = l.0; stands = stands_right s (2 ∷ []) _ (subst (λ e. Stands s at p.0 (row_e e)) l.1 p.1.stands); fine = subst (OkE n) l.1 p.1.fine })

    halves : get_or s at 0 ≡ 3 → (f : E) × (g : E) × Parts n f g p.0
    halves g =
        let l = shape 3 g p.1.it p.0 p.1.stands in
        (l.0, l.1, parts n l.0 l.1 p.0 (subst (λ e. Stands s at p.0 (row_e e)) l.2 p.1.stands) (subst (OkE n) l.2 p.1.fine))

    pub has_left : get_or s at 0 ≡ 3 → Has n s (at + 1)
    has_left g = let h = halves g in (h.2.mid, record { it = h.0; stands = h.2.left; fine = h.2.left_ok })

    pub has_right : (v : ℕ) (r : Valued) → get_or s at 0 ≡ 3 → Evals s (at + 1) v r → (at < r.end) × Has n s r.end
    has_right v r g k =
        let h = halves g in
        let e = (k n h.0 h.2.mid h.2.left h.2.left_ok).1 in
        (omega (arith, e, h.2.left.long), (p.0, record { it = h.1; stands = subst (λ m. Stands s m p.0 (row_e h.1)) (sym e) h.2.right; fine = h.2.right_ok }))

  module _ (v : ℕ) where
    -- what `Evals` says of one expression
    abbrev Gives : ℕ → ℕ → Valued → E → Type 0
    Gives n end r e = Stands s at end (row_e e) → OkE n e → (r.holds ≡ value (bits n v) e) × (r.end ≡ end)

    pub gives_yes : get_or s at 0 ≡ 0 → Evals s at v (record { holds = true; end = at + 1 })
    gives_yes g n e end k o = subst (Gives n end _) (sym (shape 0 g e end k).0) (λ k o. (refl, k.long)) k o

    pub gives_var : (x : ℕ) (b : Bool) → get_or s at 0 ≡ 1 → x ≡ get_or s (at + 1) 0 → x < 32 → Tests v x b → Evals s at v (record { holds = b; end = at + 2 })
    gives_var x b g p few t n e end k o =
        let l = shape 1 g e end k in
        let f = byte_at s (at + 1) l.0 _ l.2 in
        let is : b ≡ or_f (some (odd (v / 2 ^ x))) = t (x + 1) (omega arith) (omega arith) ∙ ap or_f (nth_bits (x + 1) v x (omega arith)) in
        let here : Gives n end (record { holds = b; end = at + 2 }) (var l.0) = λ k o. (is ∙ ap (λ y. or_f (some (odd (v / 2 ^ y)))) (p ∙ f.1) ∙ sym (ap or_f (nth_bits n v l.0 o)), k.long) in
        subst (Gives n end _) (sym l.1) here k o

    pub gives_not : (r : Valued) → get_or s at 0 ≡ 2 → Evals s (at + 1) v r → Evals s at v (record { holds = not r.holds; end = r.end })
    gives_not r g q n e end k o =
        let l = shape 2 g e end k in
        let here : Gives n end (record { holds = not r.holds; end = r.end }) (not1 l.0) = λ k o. let m = q n l.0 end (stands_right s (2 ∷ []) _ k) o in (ap not m.0, m.1) in
        subst (Gives n end _) (sym l.1) here k o

    pub gives_and : (r r' : Valued) → get_or s at 0 ≡ 3 → Evals s (at + 1) v r → Evals s r.end v r' → Evals s at v (record { holds = r.holds && r'.holds; end = r'.end })
    gives_and r r' g q q' n e end k o =
        let l = shape 3 g e end k in
        let here : Gives n end (record { holds = r.holds && r'.holds; end = r'.end }) (and1 l.0 l.1) = λ k o.
        let p = parts n l.0 l.1 end k o in
        let a = q n l.0 p.mid p.left p.left_ok in
        let b = q' n l.1 end (subst (λ m. Stands s m end (row_e l.1)) (sym a.1) p.right) p.right_ok in
        ((λ i. a.0 i && b.0 i), b.1) in
        subst (Gives n end _) (sym l.2) here k o
