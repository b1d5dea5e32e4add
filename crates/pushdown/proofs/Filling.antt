-- Filling a finite set by rules that can be decided, until none gives more: what is left to add is a
-- list that gets shorter, so it ends, and there is nothing to count.
use mathlib.Core.Path.{◌≡◌, refl, sym, ap, subst}
use mathlib.Core.Logic.Dec
use mathlib.Core.Logic.{◌⊎◌, inl, inr, ⊎_elim}
use mathlib.Core.List.Memᴰ.{cases_cons}
use mathlib.Core.List.Memᴰ.{head}
use mathlib.Core.List.Memᴰ.{not-nil}
use mathlib.Core.List.Memᴰ.{tail}
use mathlib.Core.List.{List, [], ◌∷◌, Memᴰ as Mem}
use Prim.Native.Nat.{ℕ, zero, suc}
use native.Mathlib.Omega.{arith}
use lib.ListN.{length}

-- decided types
pub either? : {A B : Type 0} → Dec A → Dec B → Dec (A ⊎ B)
either? (yes a) b = yes (inl a)
either? (no h) (yes b) = yes (inr b)
either? (no h) (no k) = no (⊎_elim h k)

-- some member of the list
abbrev pub Any : {A : Type 0} → List A → (A → Type 0) → Type 0
Any {A} l P = (a : A) × Mem a l × P a

pub any? : {A : Type 0} (l : List A) (P : A → Type 0) → ((a : A) → Dec (P a)) → Dec (Any l P)
any? [] P p? = no (λ h. not-nil h.1)
any? {A} (a ∷ l) P p? = Dec.of_iff (to, from) (either? (p? a) (any? l P p?))
  where
    to : P a ⊎ Any l P → Any (a ∷ l) P
    to (inl h) = (a, head refl, h)
    to (inr h) = (h.0, tail h.1, h.2)

    from : Any (a ∷ l) P → P a ⊎ Any l P
    from h = ⊎_elim (λ e. inl (subst P e h.2)) (λ m. inr (h.0, m, h.2)) (cases_cons h.1)

pub mem? : {A : Type 0} → ((a b : A) → Dec (a ≡ b)) → (a : A) (l : List A) → Dec (Mem a l)
mem? same a [] = no not-nil
mem? same a (b ∷ l) = Dec.of_iff (⊎_elim head tail, cases_cons) (either? (same a b) (mem? same a l))

-- a member of which P holds, and the others
pub record Found {A : Type 0} (P : A → Type 0) (l : List A) : Type 0 where
  pub item : A
  pub holds : P item
  pub rest : List A
  pub shorter : length l ≡ suc (length rest)
  pub splits : (b : A) → Mem b l → (b ≡ item) ⊎ Mem b rest

pub pick : {A : Type 0} (P : A → Type 0) → ((a : A) → Dec (P a)) → (l : List A) → Found P l ⊎ ((a : A) → Mem a l → ¬ (P a))
pick P p? [] = inr (λ a m. absurd (not-nil m))
pick {A} P p? (a ∷ l) = go (p? a) (pick P p? l)
  where
    go : Dec (P a) → Found P l ⊎ ((b : A) → Mem b l → ¬ (P b)) → Found P (a ∷ l) ⊎ ((b : A) → Mem b (a ∷ l) → ¬ (P b))
    go (yes h) k = inl (record { item = a; holds = h; rest = l; shorter = refl; splits = λ b m. cases_cons m })
    go (no h) (inl f) = inl (record { item = f.item; holds = f.holds; rest = a ∷ f.rest; shorter = ap suc f.shorter; splits = λ b m. ⊎_elim (λ e. inr (head e)) (λ k. ⊎_elim inl (λ q. inr (tail q)) (f.splits b k)) (cases_cons m) })
    go (no h) (inr k) = inr (λ b m p. ⊎_elim (λ e. h (subst P e p)) (λ q. k b q p) (cases_cons m))

-- New s a: the rules give a from the members of s. D: what is to be filled in
module _ {A : Type 0} (New : List A → A → Type 0) (new? : (s : List A) (a : A) → Dec (New s a)) (D : A → Type 0) (sound : (s : List A) → ((a : A) → Mem a s → D a) → (a : A) → New s a → D a) where
  pub record Full (l s : List A) : Type 0 where
    pub out : List A
    pub right : (a : A) → Mem a out → D a
    pub keeps : (a : A) → Mem a s → Mem a out
    pub closed : (a : A) → Mem a l → New out a → Mem a out

  pub fill : (n : ℕ) (l s : List A) → length l ≡ n → ((a : A) → Mem a s → D a) → Full l s
  fill zero [] s e d = record { out = s; right = d; keeps = λ a m. m; closed = λ a m. absurd (not-nil m) }
  fill zero (x ∷ l) s e d = absurd (omega arith)
  fill (suc n) l s e d = go (fill n) (pick (New s) (new? s) l)
    where
      go : ((l s : List A) → length l ≡ n → ((a : A) → Mem a s → D a) → Full l s) → Found (New s) l ⊎ ((a : A) → Mem a l → ¬ (New s a)) → Full l s
      go ih (inr k) = record { out = s; right = d; keeps = λ a m. m; closed = λ a m h. absurd (k a m h) }
      go ih (inl f) =
          let g : Full f.rest (f.item ∷ s) = ih f.rest (f.item ∷ s) (omega (arith, f.shorter)) (λ a m. ⊎_elim (λ e. subst D (sym e) (sound s d f.item f.holds)) (d a) (cases_cons m)) in
          record {
            out = g.out;
            right = g.right;
            keeps = λ a m. g.keeps a (tail m);
            closed = λ a m h. ⊎_elim (λ e. g.keeps a (head e)) (λ q. g.closed a q h) (f.splits a m);
          }

  pub filled : (l : List A) → Full l []
  filled l = fill (length l) l [] refl (λ a m. absurd (not-nil m))
