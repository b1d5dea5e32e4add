use Rattle.std.proofs.Common.{refl, ◌∙◌, arith, length-take}
use Rattle.places.proofs.Reading.{read_one}
use Rattle.places.proofs.Telling.{wanted, nodes_small}
use Rattle.places.proofs.Solved.{fine_at, sited_at, starts_root, listed_cut, settled_by, solved_by}
use Rattle.places.proofs.settling.settle.Goals as goal

pub divide-words-requires : goal.divide-words-requires
divide-words-requires c = let e = (read_one c.args.program.read).1 in omega (arith, wanted e _ refl, e.header.work, c.requires.room)

pub write_words-count-requires-clause-sites : goal.write_words-count-requires-clause-sites
write_words-count-requires-clause-sites c = λ g e. omega (arith, wanted e _ refl, e.header.work, c.requires.room, c.divide-words.ensures.sites)

pub shared_values-requires : goal.shared_values-requires
shared_values-requires c = let r = read_one c.args.program.read in omega (arith, r.1.reads.few, r.1.header.shared)

pub saturate-requires : goal.saturate-requires
saturate-requires c =
    let r = read_one c.args.program.read in
    let g = r.0 in
    let e = r.1 in
    let d = c.divide-words.ensures in
    let w = c.write_words-count.ensures in
    record {
      ready = record {
        fine = fine_at g e _ _ w.expanded _ c.shared_values.ensures (omega (arith, d.words, e.header.table));
        sited = sited_at g e _ _ w.expanded _ c.shared_values.ensures _ (listed_cut w.listed g e);
        long = omega (arith, d.sets);
        wide = omega (arith, d.marks);
        short = omega (arith, d.marks, nodes_small e);
      };
      starts = starts_root g e _ _ w.expanded _ c.shared_values.ensures;
    }

pub returns-clause-filled : goal.returns-clause-filled
returns-clause-filled c =
    let d = c.divide-words.ensures in
    let w = c.write_words-count.ensures in
    let same = c.write_words-count.auto in
    record {
      based = w.based;
      settled = settled_by w.expanded c.shared_values.ensures (listed_cut w.listed) c.saturate.ensures;
      shared = c.shared_values.ensures;
      nodes = refl;
      bases_long = same.bases ∙ simp length-take (omega (arith, c.requires.bases));
      starts_long = same.starts ∙ simp length-take (omega (arith, c.requires.starts));
      words_long = omega (arith, d.words, same.words);
      sets_long = omega (arith, d.sets, c.saturate.auto.work);
      level_long = d.level;
      next_long = d.next;
    }

pub returns-clause-solved : goal.returns-clause-solved
returns-clause-solved c = solved_by (returns-clause-filled c).settled
