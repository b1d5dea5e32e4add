use Rattle.expansion.proofs.Walking.{Listed}
use Rattle.expansion.proofs.programs.list_bases.Given as goal

abbrev pub invariant-loop-f : goal.invariant-loop-f
invariant-loop-f l = Listed l.bytes l.header l.bases l.f-iterator l.base
