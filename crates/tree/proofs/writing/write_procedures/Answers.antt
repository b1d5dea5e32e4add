use Rattle.std.proofs.Common.{subst}
use Rattle.program.specs.Rows.{OkP, Every}
use Rattle.tree.proofs.Rest.{rest_p_more}
use Rattle.tree.proofs.writing.write_procedures.Goals as goal

pub write_procedure-requires : goal.write_procedure-requires
write_procedure-requires c = (subst (Every (OkP 6 64)) (rest_p_more c.args.procedures.now c.loop-procedure.procedure-index c.procedure-item.result c.loop-procedure-test.true c.procedure-item.is) c.loop-procedure.invariant.0).0
