use Rattle.std.proofs.Common.{vec_items, rules}
use Rattle.report.proofs.Refusals.{lists_none, lists_no_program}
use Rattle.report.proofs.files.File.load.Goals as goal

pub returns-in-Err : goal.returns-in-Err
returns-in-Err c = lists_none c.args.self.text.now c.in-Err.fault c.no_listing.result c.in-Err.ensures c.no_listing.ensures

pub returns-in-Err-read : goal.returns-in-Err-read
returns-in-Err-read c =
    lists_no_program c.args.self.text.now (vec_items c.in-Ok.listing.bytes) c.no_program.result c.in-Ok.ensures.0
    (λ g r. c.in-Err-read.ensures.reads g (search (rules, r)))
