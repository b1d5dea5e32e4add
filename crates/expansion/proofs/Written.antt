-- Nodes written one after another: a node's words stay as later ones are written.
use Rattle.std.proofs.Common.{◌≡◌, ℕ, ◌+◌, ◌*◌, ◌^◌, ◌<◌, List, get_or, Option, sym, ◌∙◌, subst, inl, inr, arith}
use Rattle.std.proofs.lemmas.Bool.{cases_eq}
use Rattle.program.specs.declared.steps.Step.{Step}
use Rattle.program.specs.Program.{nth, Proc, Prog}
use Rattle.program.specs.Table.{before}
use Rattle.program.specs.Numbers.{Loc, loc, move_at}
use Rattle.program.specs.Table.{total}
use Rattle.program.proofs.Numbered.{loc_inj}
use Rattle.program.proofs.Targets.{loc_lt}
use Rattle.expansion.specs.declared.nodes.Callers.{Callers}
use Rattle.expansion.specs.declared.nodes.Node.{Node}
use Rattle.expansion.specs.declared.nodes.Place.{Place}
use Rattle.expansion.specs.declared.nodes.Words.{Words}
use Rattle.expansion.specs.declared.source.Source.{Source}
use Rattle.expansion.specs.Words.{HoldsWords, WroteWords, Wrote, Codes, Upto}
use Rattle.expansion.specs.Nodes.{PlaceIs, NodeIs, PlaceDone}

-- earlier nodes
pub holds_on : {w w' : List ℕ} {n m : ℕ} {d e : Words} → m < n → WroteWords w w' n d → HoldsWords w m e → HoldsWords w' m e
holds_on {m = m} l r h = record {
  kind = r.others (4 * m) (omega arith) ∙ h.kind;
  first = r.others (4 * m + 1) (omega arith) ∙ h.first;
  second = r.others (4 * m + 2) (omega arith) ∙ h.second;
  base = r.others (4 * m + 3) (omega arith) ∙ h.base;
}

pub upto_more : {g : Prog} (starts : List ℕ) {w w' : List ℕ} {n f : ℕ} {p : Proc} {a v : ℕ} (d : Node) → Loc g n f p a v → Wrote w w' n d →
    Codes (2 ^ g.shared) n (before g.shared g.procs f) (get_or starts f 0) (get_or starts (f + 1) 0) d (move_at g f p a v (nth p.steps a)) → Upto g starts w n → Upto g starts w' (n + 1)
upto_more {g} starts {w} {w'} {n} {f} {p} {a} {v} d at r c u m f1 p1 a1 v1 l h = elim (cases_eq m n) [
  | inl e ↦ (let q = loc_inj at (subst (λ z. Loc g z f1 p1 a1 v1) e h) in (d, rw e r.holds, rw (e, ← q.0, ← q.1, ← q.2, ← q.3) c))
  | inr k ↦ (let x = u m f1 p1 a1 v1 (omega arith) h in (x.0, holds_on (omega arith) r x.1, x.2))
]

module _ {src : Source} {d : Option Step} {q : Place} {g : Prog} {f : ℕ} {p : Proc} {a : ℕ} (h : PlaceIs src d q g f p a) (v : ℕ) (l : v < q.width) where
  pub value_small : v < 2 ^ (g.shared + p.own)
  value_small = omega (arith, h.at.width)

  pub place_loc : Loc g (q.first + v) f p a v
  place_loc = record { there = h.its.there; place = h.place; small = value_small; is = omega (arith, h.at.first) }

  pub node_lt : q.first + v < total g.shared g.procs
  node_lt = loc_lt place_loc

-- one node more of a place
pub place_more : (src : Source) (d : Option Step) (q : Place) (k : Callers) (w w1 w2 : List ℕ) (v : ℕ) (r : Node) → v < q.width → NodeIs src d q k v r → Wrote w1 w2 (q.first + v) r → PlaceDone src d q k w w1 v → PlaceDone src d q k w w2 (v + 1)
place_more src d q k w w1 w2 v r l is wrote done g f p a h starts lo hi u =
    let at = place_loc h v l in
    let c = is g f p a h (value_small h v l) in
    let here : Upto g starts w1 (q.first + v) = subst (Upto g starts w1) (sym at.is) (done g f p a h starts lo hi u) in
    let B = before g.shared g.procs f in
    let M = move_at g f p a v (nth p.steps a) in
    let c1 = subst (λ b. Codes (2 ^ g.shared) (loc g f p a v) b k.from k.until r M) h.at.base c in
    let c2 = subst (λ z. Codes (2 ^ g.shared) (loc g f p a v) B z k.until r M) (sym lo) c1 in
    let c3 = subst (λ z. Codes (2 ^ g.shared) (loc g f p a v) B (get_or starts f 0) z r M) (sym hi) c2 in
    let words = upto_more starts r at wrote (subst (λ z. Codes (2 ^ g.shared) z B (get_or starts f 0) (get_or starts (f + 1) 0) r M) (sym at.is) c3) here in
    let next : q.first + v + 1 ≡ loc g f p a (v + 1) = omega (arith, h.at.first) in
    subst (Upto g starts w2) next words
