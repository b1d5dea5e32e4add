use Rattle.std.proofs.Common.{◌≡◌, length}
use Rattle.syntax.specs.Words.{words_left}
use Rattle.syntax.proofs.words.Words.skip_gap.Given as goal

abbrev pub invariant-loop-b : goal.invariant-loop-b
invariant-loop-b l = (words_left l.self ≡ words_left l.initial.self) × (l.self.whole ≡ l.initial.self.whole)

abbrev pub decreases-loop-b : goal.decreases-loop-b
decreases-loop-b l = length l.self.rest.now
