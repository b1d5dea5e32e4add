-- `take`: the highest bit of a word that is not 0.
use Rattle.std.proofs.Common.{get_or, arith}
use Rattle.saturation.proofs.Marking.{top_shift, take_taken}
use Rattle.saturation.proofs.marks.take.Goals as goal

pub overflow_sub-words-2 : goal.overflow_sub-words-2
overflow_sub-words-2 c = let s = top_shift (get_or c.args.words.now c.args.i 0) (omega arith) (omega arith) in omega (arith, s.4, s.2)

pub returns : goal.returns
returns c = take_taken c.args.words.now c.args.i c.requires.0 (omega arith) (omega arith)
