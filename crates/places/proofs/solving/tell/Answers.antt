-- `tell`: a solved program's sets tell what is reached, and the table says what the sets tell.
use Rattle.std.proofs.Common.{sym, ◌∙◌, subst}
use Rattle.places.specs.Solving.{Written}
use Rattle.places.proofs.Reading.{read_one}
use Rattle.places.proofs.Telling.{parts, table_of}
use Rattle.places.proofs.solving.tell.Goals as goal

pub write_table-requires-clause-parts : goal.write_table-requires-clause-parts
write_table-requires-clause-parts c =
    let x = c.settle-sets.ensures.filled in
    parts (read_one c.args.program.read).1 _ _ x.bases_long c.requires.long x.based

pub returns : goal.returns
returns c = λ g h.
    let long = c.write_table.auto.table in
    table_of _ _ _ c.write_table.new.table c.settle-sets.ensures.solved (subst (Written _ 0 c.write_table.new.table) (sym long) c.write_table.ensures) g h (long ∙ c.requires.long ∙ h.header.table)
