-- A row says one thing, and where it ends: no row is the beginning of another. What a row is goes by
-- its first byte, so that there is one case for each kind and not one for each pair.
use Rattle.std.proofs.Common.{◌≡◌, ℕ, zero, suc, ◌≤◌, List, [], ◌∷◌, ◌++◌, length, sym, refl, ap, ◌∙◌, subst, append_assoc, arith}
use Rattle.program.specs.Program.{E, yes, var, not1, and1, I, set, open1, go, call, return, Proc}
use Rattle.program.specs.Rows.{row_e, row_i, rows, row_p, OneProgram}
use Rattle.program.proofs.Standing.{heads, tails}

-- what an expression is whose row, with r behind it, is b and then t
abbrev pub RestE : ℕ → List ℕ → List ℕ → E → Type 0
RestE zero t r e = (e ≡ yes) × (t ≡ r)
RestE (suc zero) t r e = (x : ℕ) × (e ≡ var x) × (t ≡ x ∷ r)
RestE (suc (suc zero)) t r e = (f : E) × (e ≡ not1 f) × (t ≡ row_e f ++ r)
RestE (suc (suc (suc zero))) t r e = (f : E) × (g : E) × (e ≡ and1 f g) × (t ≡ row_e f ++ (row_e g ++ r))
RestE (suc (suc (suc (suc b)))) t r e = ⊥

pub rest_e : (e : E) (b : ℕ) (t r : List ℕ) → b ∷ t ≡ row_e e ++ r → RestE b t r e
rest_e yes b t r h = subst (λ n. RestE n t r yes) (sym (heads h)) (refl, tails h)
rest_e (var x) b t r h = subst (λ n. RestE n t r (var x)) (sym (heads h)) (x, refl, tails h)
rest_e (not1 e) b t r h = subst (λ n. RestE n t r (not1 e)) (sym (heads h)) (e, refl, tails h)
rest_e (and1 e f) b t r h = subst (λ n. RestE n t r (and1 e f)) (sym (heads h)) (e, f, refl, tails h ∙ append_assoc (row_e e) (row_e f) r)

pub unknown_e : (b : ℕ) (t r : List ℕ) (e : E) → 4 ≤ b → RestE b t r e → ⊥
unknown_e zero t r e h k = omega arith
unknown_e (suc zero) t r e h k = omega arith
unknown_e (suc (suc zero)) t r e h k = omega arith
unknown_e (suc (suc (suc zero))) t r e h k = omega arith
unknown_e (suc (suc (suc (suc b)))) t r e h k = k

-- the same for a step
abbrev pub RestI : ℕ → List ℕ → List ℕ → I → Type 0
RestI zero t r s = (x : ℕ) × (e : E) × (s ≡ set x e) × (t ≡ x ∷ (row_e e ++ r))
RestI (suc zero) t r s = (x : ℕ) × (s ≡ open1 x) × (t ≡ x ∷ r)
RestI (suc (suc zero)) t r s = (p : ℕ) × (e : E) × (s ≡ go e p) × (t ≡ p ∷ (row_e e ++ r))
RestI (suc (suc (suc zero))) t r s = (f : ℕ) × (s ≡ call f) × (t ≡ f ∷ r)
RestI (suc (suc (suc (suc zero)))) t r s = (s ≡ return) × (t ≡ r)
RestI (suc (suc (suc (suc (suc b))))) t r s = ⊥

pub rest_i : (s : I) (b : ℕ) (t r : List ℕ) → b ∷ t ≡ row_i s ++ r → RestI b t r s
rest_i (set x e) b t r h = subst (λ n. RestI n t r (set x e)) (sym (heads h)) (x, e, refl, tails h)
rest_i (open1 x) b t r h = subst (λ n. RestI n t r (open1 x)) (sym (heads h)) (x, refl, tails h)
rest_i (go e p) b t r h = subst (λ n. RestI n t r (go e p)) (sym (heads h)) (p, e, refl, tails h)
rest_i (call f) b t r h = subst (λ n. RestI n t r (call f)) (sym (heads h)) (f, refl, tails h)
rest_i return b t r h = subst (λ n. RestI n t r return) (sym (heads h)) (refl, tails h)

-- of two rows that begin alike, with anything behind them, both are the same, and so is what is behind
abbrev pub Prefixed : {A : Type 0} → (A → List ℕ) → Type 0
Prefixed {A} row = (a b : A) (r q : List ℕ) → row a ++ r ≡ row b ++ q → (a ≡ b) × (r ≡ q)

pub prefix_e : Prefixed row_e
prefix_e yes f r q h = let k = rest_e f 0 _ q h in (sym k.0, k.1)
prefix_e (var x) f r q h = let k = rest_e f 1 _ q h in (ap var (heads k.2) ∙ sym k.1, tails k.2)
prefix_e (not1 e) f r q h = let k = rest_e f 2 _ q h in let l = prefix_e e k.0 r q k.2 in (ap not1 l.0 ∙ sym k.1, l.1)
prefix_e (and1 e d) f r q h =
    let k = rest_e f 3 _ q h in
    let l = prefix_e e k.0 (row_e d ++ r) _ (sym (append_assoc (row_e e) (row_e d) r) ∙ k.3) in
    let m = prefix_e d k.1 r q l.1 in
    ((λ i. and1 (l.0 i) (m.0 i)) ∙ sym k.2, m.1)

pub prefix_i : Prefixed row_i
prefix_i (set x e) u r q h =
    let k = rest_i u 0 _ q h in
    let l = prefix_e e k.1 r q (tails k.3) in
    ((λ i. set (heads k.3 i) (l.0 i)) ∙ sym k.2, l.1)
prefix_i (open1 x) u r q h = let k = rest_i u 1 _ q h in (ap open1 (heads k.2) ∙ sym k.1, tails k.2)
prefix_i (go e p) u r q h =
    let k = rest_i u 2 _ q h in
    let l = prefix_e e k.1 r q (tails k.3) in
    ((λ i. go (l.0 i) (heads k.3 i)) ∙ sym k.2, l.1)
prefix_i (call f) u r q h = let k = rest_i u 3 _ q h in (ap call (heads k.2) ∙ sym k.1, tails k.2)
prefix_i return u r q h = let k = rest_i u 4 _ q h in (sym k.0, k.1)

-- as many rows, one after another
pub prefix_rows : {A : Type 0} (row : A → List ℕ) → Prefixed row → (xs ys : List A) (r q : List ℕ) → length xs ≡ length ys → rows row xs ++ r ≡ rows row ys ++ q → (xs ≡ ys) × (r ≡ q)
prefix_rows row p [] [] r q n h = (refl, h)
prefix_rows row p [] (y ∷ ys) r q n h = absurd (omega arith)
prefix_rows row p (x ∷ xs) [] r q n h = absurd (omega arith)
prefix_rows row p (x ∷ xs) (y ∷ ys) r q n h =
    let k = p x y _ _ (sym (append_assoc (row x) (rows row xs) r) ∙ h ∙ append_assoc (row y) (rows row ys) q) in
    let l = prefix_rows row p xs ys r q (omega arith) k.1 in
    ((λ i. k.0 i ∷ l.0 i), l.1)

pub prefix_p : Prefixed row_p
prefix_p p q r t h =
    let k = prefix_rows row_i prefix_i p.steps q.steps r t (heads (tails h)) (tails (tails h)) in
    ((λ i. record { own = heads h i; steps = k.0 i }), k.1)

-- procedures to the end of the bytes
pub one_list : (ps qs : List Proc) → rows row_p ps ≡ rows row_p qs → ps ≡ qs
one_list [] [] h = refl
one_list [] (q ∷ qs) h = absurd (omega (arith, ap length h))
one_list (p ∷ ps) [] h = absurd (omega (arith, ap length h))
one_list (p ∷ ps) (q ∷ qs) h =
    let k = prefix_p p q _ _ h in
    let l = one_list ps qs k.1 in
    λ i. k.0 i ∷ l i

pub one_program : OneProgram
one_program s g h a b =
    let e = a.bytes ∙ sym b.bytes in
    let k = one_list g.procs h.procs (tails e) in
    λ i. record { shared = heads e i; procs = k i }
