use Rattle.std.proofs.Common.{vec_len}
use Rattle.text.proofs.printer.Printer.close.Given as goal

abbrev pub decreases-loop-operator : goal.decreases-loop-operator
decreases-loop-operator l = vec_len l.waiting
