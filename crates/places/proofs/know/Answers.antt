-- `know`: each answer, from what is found of the bytes and the words, and from the table that is told.
use Rattle.std.proofs.Common.{◌++◌, drop, sym, ◌∙◌, ap}
use Rattle.places.proofs.Reading.{read_one}
use Rattle.places.proofs.Answering.{no_program, few, full, told}
use Rattle.places.proofs.know.Goals as goal

pub returns-in-Err-NoProgram : goal.returns-in-Err-NoProgram
returns-in-Err-NoProgram c = no_program _ _ c.in-Err-NoProgram.ensures c.in-Err-NoProgram.field-0-is _

pub returns-in-Err-FewWords : goal.returns-in-Err-FewWords
returns-in-Err-FewWords c = few _ _ c.in-Err-FewWords.ensures c.in-Err-FewWords.field-0-is _

pub returns-then-table-bytes : goal.returns-then-table-bytes
returns-then-table-bytes c =
    let a = c.in-Ok.ensures in
    let r = read_one c.in-Ok.read.read in
    full a.0 r.1 _ a.1 _ c.if-table-bytes.true

pub returns-else-table-bytes : goal.returns-else-table-bytes
returns-else-table-bytes c =
    let a = c.in-Ok.ensures in
    let r = read_one c.in-Ok.read.read in
    let table = c.tell.ensures r.0 r.1 in
    told a.0 r.1 _ a.1 _ c.tell.new.table _ table (ap (λ n. c.tell.new.table ++ drop n c.args.table.now) (sym (table.long ∙ sym r.1.header.table)))
