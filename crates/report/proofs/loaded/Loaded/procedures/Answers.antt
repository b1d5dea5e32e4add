use Rattle.std.proofs.Common.{[], sym, subst}
use Rattle.report.specs.Summaries.{Heads}
use Rattle.report.proofs.Walks.{walking, all_walked}
use Rattle.report.proofs.loaded.Loaded.procedures.Goals as goal

pub returns : goal.returns
returns c = λ g r h.
    let run = c.in_ok-collect.ensures.ran in
    let end = run.1.2 tt in
    subst (Heads g.procs) (sym run.2.0) (all_walked [] run.0 c.new.result run.1.0 end.0 (walking c.new.ensures) run.1.1 end.1 g r h)
