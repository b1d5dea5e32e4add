-- The nodes of a word of marks, visited one after another.
use Rattle.std.proofs.Common.{◌≡◌, ℕ, ◌+◌, ◌<◌, ◌≤◌, List, length, get_or, sym, refl, ap, ◌∙◌, subst, inl, inr, arith}
use Rattle.std.proofs.lemmas.Bool.{cases_Bool}
use Rattle.saturation.specs.declared.System.{System}
use Rattle.saturation.specs.declared.engine.Engine.{Engine}
use Rattle.saturation.specs.Bits.{Bit, On}
use Rattle.saturation.specs.System.{Fine, Starts, Tells}
use Rattle.saturation.specs.Marks.{In, Levels, total, SameSize, Clear, NodeTaken, WordTaken}
use Rattle.saturation.specs.Engine.{remaining, Begun}
use Rattle.saturation.specs.Steps.{Kept, Still, Inserted, Visited, Drained}
use Rattle.saturation.specs.Visits.{Sound, Covered, Visit}
use Rattle.saturation.proofs.Marking.{same_size}
use Rattle.saturation.proofs.Summary.{word_bit, summary_take, summary_next, summary_all, summary_more, none_marked}
use Rattle.saturation.proofs.Visiting.{covered_first, covered_visit, covered_past, covered_word, visit_less}
use Rattle.saturation.proofs.Soundness.{no_bits, sound_first}
use Rattle.saturation.proofs.Complete.{tells}

pub kept_both : {e f g : Engine} → Kept e f → Kept f g → Kept e g
kept_both p q = record { system = q.system ∙ p.system; sets = q.sets ∙ p.sets; marks = q.marks ∙ p.marks }

pub still_of : {e f : Engine} → f.system ≡ e.system → f.sets.ghost_name ≡ e.sets.ghost_name → f.marks.ghost_name ≡ e.marks.ghost_name → f.sets.now ≡ e.sets.now → Still e f
still_of a b c d = record { kept = record { system = a; sets = b; marks = c }; same = d }

-- a mark is taken away
module _ {e f g : Engine} {c n : ℕ} (d : Drained e f c) (s : Still f g) (tk : NodeTaken f.marks.now g.marks.now c n) where
  -- and its node visited
  visit_of : {h : Engine} (v : Visited g h n) → Visit e.system.graph.now e.system.shared e.system.nodes n f.sets.now g.marks.now h.sets.now h.marks.now v.new
  visit_of {h} v =
      subst (λ w. Visit e.system.graph.now e.system.shared e.system.nodes n w g.marks.now h.sets.now h.marks.now v.new) s.same
      (subst (λ y. Visit y.graph.now y.shared y.nodes n g.sets.now g.marks.now h.sets.now h.marks.now v.new) (s.kept.system ∙ d.kept.system) v.visit)

  size_of : {h : Engine} → Visited g h n → SameSize e.marks.now h.marks.now
  size_of v = same_size d.size (same_size tk.size (visit_of v).progress.kept.size)

  pub drain_less : {h : Engine} (len : ℕ) → length e.marks.now.nodes + length e.marks.now.words ≡ len → Visited g h n → remaining len h.sets.now h.marks.now < remaining len f.sets.now f.marks.now
  drain_less len q v = let z = size_of v in visit_less tk len (omega (arith, z.nodes, z.words)) (visit_of v)

  pub drained_visit : {h : Engine} → Visited g h n → Drained e h c
  drained_visit v = let p = visit_of v in record {
    kept = kept_both d.kept (kept_both s.kept v.kept);
    bits = λ i y q. p.progress.grew.kept i y (d.bits i y q);
    sound = λ root q. p.progress.sound root (d.sound root q);
    covered = λ q. covered_visit tk p (d.covered q);
    summary = λ q. p.progress.kept.summary c (summary_take tk (d.summary q));
    size = size_of v;
    less = λ len q. omega (arith, drain_less len q v, d.less len q);
  }

  -- and it was no node's
  pub drained_pass : f.system.nodes ≤ n → Drained e g c
  drained_pass b = record {
    kept = kept_both d.kept s.kept;
    bits = λ i y q. subst (λ w. Bit w i y) (sym s.same) (d.bits i y q);
    sound = λ root q. subst (λ w. Sound e.system.graph.now e.system.shared e.system.nodes root w) (sym s.same) (d.sound root q);
    covered = λ q j h. subst (λ w. Covered e.system.graph.now e.system.shared e.system.nodes w g.marks.now j) (sym s.same) (covered_past tk (subst (λ y. y.nodes ≤ n) d.kept.system b) (d.covered q) j h);
    summary = λ q. summary_take tk (d.summary q);
    size = same_size d.size tk.size;
    less = λ len q. subst (λ w. remaining len w g.marks.now ≤ remaining len e.sets.now e.marks.now) (sym s.same) (let z : total g.marks.now.words ≡ total f.marks.now.words = ap total tk.words in omega (arith, tk.nodes.less, d.less len q));
  }

pub still_none : (e : Engine) → Still e e
still_none e = still_of refl refl refl refl

pub still_both : {e f g : Engine} → Still e f → Still f g → Still e g
still_both p q = record { kept = kept_both p.kept q.kept; same = q.same ∙ p.same }

-- the mark of a word is taken away, and its nodes are visited
module _ {e f g h : Engine} {c : ℕ} (k : Kept e f) (s : Still f g) (tk : WordTaken f.marks.now g.marks.now c) (d : Drained g h c) where
  pub sweep_kept : Kept e h
  sweep_kept = kept_both k (kept_both s.kept d.kept)

  pub sweep_begun : {root : ℕ} → Begun e.system root f.sets.now f.marks.now → get_or h.marks.now.nodes c 0 ≡ 0 → Begun e.system root h.sets.now h.marks.now
  sweep_begun {root} b z =
      let q : g.system ≡ e.system = s.kept.system ∙ k.system in
      let r : Begun g.system root g.sets.now f.marks.now = subst (λ y. Begun y root g.sets.now f.marks.now) (sym q) (subst (λ w. Begun e.system root w f.marks.now) (sym s.same) b) in
      subst (λ y. Begun y root h.sets.now h.marks.now) q (record {
        root_on = d.bits _ _ r.root_on;
        sound = d.sound root r.sound;
        covered = d.covered (λ n l. covered_word tk n (r.covered n l));
        summary = summary_all h.marks.now c z (d.summary (summary_next tk r.summary));
      })

  pub sweep_size : SameSize e.marks.now f.marks.now → SameSize e.marks.now h.marks.now
  sweep_size z = same_size z (same_size tk.size d.size)

-- no word is marked
pub swept : {s : System} {root : ℕ} {w : List ℕ} {m : Levels} → Fine s.graph.now s.shared s.nodes → Begun s root w m → ((i : ℕ) → get_or m.words i 0 ≡ 0) → Tells s.graph.now s.shared s.nodes root w
swept {m = m} fine b z = tells fine b.sound.starts (λ n h. elim (b.covered n h) [ inl d ↦ d | inr o ↦ absurd (none_marked m b.summary z n o) ]) b.root_on b.sound

-- the entry alone is set, and marked
pub begun_first : {e f : Engine} {root many : ℕ} → Fine e.system.graph.now e.system.shared e.system.nodes → Starts e.system.graph.now e.system.shared e.system.nodes root →
    ((i : ℕ) → i < length e.sets.now → get_or e.sets.now i 0 ≡ 0) → Clear e.marks.now many → Inserted e f root 0 → Begun f.system root f.sets.now f.marks.now
begun_first {e} {f} {root} fine starts z clear i =
    let o : In f.marks.now root = elim (cases_Bool i.new) [
      | inl y ↦ i.marked.got y
      | inr y ↦ absurd (no_bits e.sets.now z _ _ (subst (λ w. On w root 0) (i.grew.same y) i.added.got))
    ] in
    subst (λ y. Begun y root f.sets.now f.marks.now) (sym i.kept.system) (record {
      root_on = i.added.got;
      sound = sound_first z starts i.added;
      covered = covered_first f.marks.now fine z i.added o;
      summary = summary_more i.marked.kept (λ n b. absurd (word_bit e.marks.now.nodes _ _ (clear.no_node _) b));
    })
