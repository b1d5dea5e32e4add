-- Where the bytes of a procedure's places stand in the table of a program that was decided.
use Rattle.std.proofs.Common.{◌≡◌, ℕ, ◌+◌, ◌*◌, ◌^◌, ◌<◌, ◌≤◌, Bool, true, false, ◌↔◌, List, [], ◌∷◌, ◌++◌, length, get_or, take, drop, vec_items, sym, ap, ◌∙◌, subst, inl, inr, arith}
use mathlib.Core.Option.{some}
use Rattle.std.proofs.lemmas.List.{get_or_push, get_or_append_left}
use Rattle.std.proofs.lemmas.Bool.{cases_eq, cases_Bool}
use Rattle.program.specs.Program.{nth, Proc, Prog}
use Rattle.program.specs.Table.{before}
use Rattle.program.specs.Rows.{Reads}
use Rattle.program.specs.Reading.{HeaderOf}
use Rattle.report.specs.declared.loaded.Loaded.{Loaded}
use Rattle.report.specs.declared.queries.Part.{Part}
use Rattle.report.specs.Queries.{Parted}
use Rattle.answers.specs.declared.deciding.Decided.{Decided}
use Rattle.answers.specs.Deciding.{Holds}
use Rattle.answers.specs.Looking.{Comes}
use Rattle.answers.proofs.Looking.{within, comes}

-- procedure f is p, its bytes begin at the part's base, and a place has as many as its width
pub record Located (g : Prog) (f : ℕ) (part : Part) : Type 0 where
  pub p : Proc
  pub there : nth g.procs f ≡ some p
  pub steps : part.procedure.steps ≡ length p.steps
  pub base : part.base ≡ before g.shared g.procs f
  pub width : part.width ≡ 2 ^ (g.shared + p.own)

module _ {g : Prog} (d : Decided) (h : Holds g d) where
  pub located : {f : ℕ} {part : Part} (l : Loaded) → l.bytes.now ≡ vec_items d.bytes → l.header ≡ d.header → Parted l.bytes.now l.header f part → Located g f part
  located l bytes header q =
      let o = q.0 g (subst (λ s. Reads s g) (sym bytes) h.reads) (subst (HeaderOf g) (sym header) h.header) in
      record { p = o.p; there = o.there; steps = o.steps; base = o.base; width = o.width }

  module _ {f : ℕ} {part : Part} (l : Located g f part) (a : ℕ) (place : a ≤ length l.p.steps) (t : List ℕ) (e : t ≡ vec_items d.table) where
    pub inside : part.base + (a * part.width + part.width) ≤ length t
    inside = subst (λ z. part.base + (a * part.width + part.width) ≤ length z) (sym e) (subst (λ z. part.base + (a * z + z) ≤ length (vec_items d.table)) (sym l.width) (subst (λ z. z + (a * 2 ^ (g.shared + l.p.own) + 2 ^ (g.shared + l.p.own)) ≤ length (vec_items d.table)) (sym l.base) (within h.reads h.table f a l.p l.there place)))

    pub told : (b : List ℕ) → b ≡ take part.width (drop (part.base + a * part.width) t) → (P : ℕ → Type 0) → ((v : ℕ) × (v < length b) × (get_or b v 0 ≡ 1) × P v) ↔ Comes g f a P
    told b q P =
        let same : b ≡ take (2 ^ (g.shared + l.p.own)) (drop (before g.shared g.procs f + a * 2 ^ (g.shared + l.p.own)) (vec_items d.table)) = q ∙ λ i. take (l.width i) (drop (l.base i + a * l.width i) (e i)) in
        subst (λ z. ((v : ℕ) × (v < length z) × (get_or z v 0 ≡ 1) × P v) ↔ Comes g f a P) (sym same) (comes h.reads h.table f a l.p l.there place P)

-- one more flag
pub flags_more : (P : ℕ → Type 0) (xs ys : List Bool) (n : ℕ) (b : Bool) → ys ≡ xs ++ b ∷ [] → length xs ≡ n → ((a : ℕ) → a < n → (get_or xs a false ≡ true) ↔ P a) → ((b ≡ true) ↔ P n) → (a : ℕ) → a < n + 1 → (get_or ys a false ≡ true) ↔ P a
flags_more P xs ys n b e l old new a h = elim (cases_eq a n) [
  | inl q ↦
      (let s : get_or ys a false ≡ b = ap (λ z. get_or z a false) e ∙ get_or_push xs b false a (l ∙ sym q) in
      let k = subst (λ z. (b ≡ true) ↔ P z) (sym q) new in ((λ t. k.0 (sym s ∙ t)), (λ t. s ∙ k.1 t)))
  | inr q ↦
      (let s : get_or ys a false ≡ get_or xs a false = ap (λ z. get_or z a false) e ∙ get_or_append_left xs (b ∷ []) false a (omega arith) in
      let k = old a (omega arith) in ((λ t. k.0 (sym s ∙ t)), (λ t. s ∙ k.1 t)))
]

-- a test that says exactly when
pub said : {P : Type 0} (b : Bool) → (b ≡ true → P) → (b ≡ false → P → ⊥) → (b ≡ true) ↔ P
said b y n = (y, λ p. elim (cases_Bool b) [ inl e ↦ e | inr e ↦ absurd (n e p) ])
