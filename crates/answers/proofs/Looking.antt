-- The byte of a place with values says whether a run comes there with them.
use Rattle.std.proofs.Common.{◌≡◌, ℕ, ◌+◌, ◌*◌, ◌^◌, ◌<◌, ◌≤◌, Bool, ◌↔◌, List, ◌++◌, length, get_or, take, drop, sym, ap, ◌∙◌, subst, add-mul, one-mul, arith, length-append, length-drop, take-append-drop, length-take, get_or-drop, get_or-take}
use mathlib.Core.Option.{Option, some}
use Rattle.std.proofs.lemmas.Nat.{mul-le}
use Rattle.program.specs.Program.{nth, Proc, Prog}
use Rattle.program.specs.Runs.{Can}
use Rattle.program.specs.Rows.{Reads}
use Rattle.program.specs.Table.{num, before, spot}
use Rattle.program.specs.Values.{bits}
use Rattle.program.proofs.Nums.{num_bits, length_bits, num_lt}
use Rattle.program.proofs.Kept.{good, reached_ok}
use Rattle.program.proofs.Sizes.{before_next, before_le}
use Rattle.report.proofs.Telling.{nth_get_or}
use Rattle.places.specs.Says.{Table}
use Rattle.answers.specs.Looking.{Comes}

pub same_some : {a b : Proc} → ◌≡◌ {A = Option Proc} (some a) (some b) → a ≡ b
same_some e = cc

module _ {s : List ℕ} {g : Prog} (r : Reads s g) {t : List ℕ} (table : Table g t) (f a : ℕ) (p : Proc) (there : nth g.procs f ≡ some p) (place : a ≤ length p.steps) where
  abbrev W : ℕ
  W = 2 ^ (g.shared + p.own)

  abbrev from : ℕ
  from = before g.shared g.procs f + a * W

  abbrev here : List ℕ
  here = take W (drop from t)

  -- the place's bytes are in the table
  pub within : before g.shared g.procs f + (a * W + W) ≤ length t
  within =
      omega (arith, table.long, before_next g.shared g.procs f p there, before_le g.shared g.procs (f + 1), mul-le (a + 1) W (length p.steps + 1) W (omega arith) (omega arith), add-mul a 1 W, one-mul W)

  here_long : length here ≡ W
  here_long = simp (length-take, length-drop) (omega (arith, within))

  byte_at : (sh own : List Bool) → length sh ≡ g.shared → length own ≡ p.own → (get_or here (num (sh ++ own)) 0 ≡ 1) ↔ Can g f a sh own
  byte_at sh own ls lo =
      let v = num (sh ++ own) in
      let small : v < W = subst (λ n. v < 2 ^ n) (length-append sh own ∙ λ i. ls i + lo i) (num_lt (sh ++ own)) in
      let n = table.tells f a p sh own there place ls lo in
      let at : spot g f p a sh own ≡ from + v = omega arith in
      let same : get_or here v 0 ≡ n.0 = get_or-take W (drop from t) v 0 small ∙ get_or-drop from t v 0 ∙ nth_get_or t (from + v) n.0 (subst (λ i. nth t i ≡ some n.0) at n.1) in
      ((λ e. n.3.1 (sym same ∙ e)), (λ c. same ∙ n.3.0 c))

  lengths : {sh own : List Bool} → Can g f a sh own → (length sh ≡ g.shared) × (length own ≡ p.own)
  lengths {sh} {own} c =
      let ok = reached_ok (good r) c.1 in
      let e : ok.top.p ≡ p = same_some (sym ok.top.there ∙ ap (nth g.procs) c.2 ∙ there) in
      (ap length (sym c.4) ∙ ok.shareds, ap length (sym c.5) ∙ ok.top.owns ∙ ap (λ (q : Proc). q.own) e)

  -- a run comes to the place with values of which P holds exactly if a byte says so
  pub comes : (P : ℕ → Type 0) → ((v : ℕ) × (v < length here) × (get_or here v 0 ≡ 1) × P v) ↔ Comes g f a P
  comes P = (
    λ q.
        let v = q.0 in
        let b = bits (g.shared + p.own) v in
        let small : v < W = omega (arith, q.1, here_long) in
        let join : num (take g.shared b ++ drop g.shared b) ≡ v = ap num (take-append-drop g.shared b) ∙ num_bits (g.shared + p.own) v small in
        let long : length b ≡ g.shared + p.own = length_bits (g.shared + p.own) v in
        let sh : length (take g.shared b) ≡ g.shared = simp length-take (omega arith) in
        let own : length (drop g.shared b) ≡ p.own = simp length-drop (omega arith) in
        (take g.shared b, drop g.shared b, (byte_at (take g.shared b) (drop g.shared b) sh own).0 (ap (λ i. get_or here i 0) join ∙ q.2), subst P (sym join) q.3),
    λ q.
        let l = lengths q.2 in
        let v = num (q.0 ++ q.1) in
        let small : v < W = subst (λ n. v < 2 ^ n) (length-append q.0 q.1 ∙ λ i. l.0 i + l.1 i) (num_lt (q.0 ++ q.1)) in
        (v, omega (arith, here_long), (byte_at q.0 q.1 l.0 l.1).1 q.2, q.3),
  )
