use Rattle.std.proofs.Common.{Ok, sym, subst}
use Rattle.program.specs.Reading.{ReadProgram}
use Rattle.syntax.specs.Decimal.{Lists}
use Rattle.places.specs.Says.{Table}
use Rattle.report.specs.Queries.{Tells}
use Rattle.report.proofs.Telling.{tells}
use Rattle.report.proofs.queries.answer.Goals as goal

pub returns : goal.returns
returns c =
    let program = c.program-program.result in
    let lent = c.program-program.ensures in
    let s = program.bytes.now in
    let query = c.args.query in
    let loaded = c.in_ok-listed.ensures in
    let lists = subst (Lists c.args.text.now) (sym lent.bytes) loaded.0 in
    let read = subst (λ z. ReadProgram z (Ok program.header)) (sym lent.bytes) (subst (λ d. ReadProgram c.in_ok-listed.listed.listing.bytes.items (Ok d)) (sym lent.header) loaded.1) in
    let decided = c.in_ok-table.ensures in
    let table = subst (Table decided.0) (sym c.as_slice.ensures.value) decided.2 in
    let answer = tells s program.header query c.part.result c.in_ok-at.at c.as_slice.result.now c.reply.result.now read loaded.2 c.part.ensures c.in_ok-at.ensures c.reply.ensures.yes c.reply.ensures.no decided.0 decided.1 table in
    (s, decided.0, lists, decided.1, subst (Tells decided.0 query.procedure query.place query.values) (sym c.in_ok-from_str.ensures.ok) answer)
