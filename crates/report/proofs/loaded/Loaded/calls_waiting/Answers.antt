use Rattle.std.proofs.Common.{arith}
use Rattle.report.proofs.Knowing.{endless}
use Rattle.report.proofs.loaded.Loaded.calls_waiting.Goals as goal

pub returns-in_default : goal.returns-in_default
returns-in_default c = endless c.depth.result c.depth.ensures c.args.self.read (omega (arith, c.in_ok-work.ensures.len)) c.in_default.not-AtMost
