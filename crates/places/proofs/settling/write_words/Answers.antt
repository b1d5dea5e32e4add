use Rattle.std.proofs.Common.{arith}
use Rattle.places.proofs.Reading.{read_one}
use Rattle.places.proofs.settling.write_words.Goals as goal

pub list_bases-requires : goal.list_bases-requires
list_bases-requires c = let r = read_one c.args.program.read in (r.0, r.1, omega (arith, c.requires.bases, r.1.header.procs))

pub list_sites-count-requires : goal.list_sites-count-requires
list_sites-count-requires c =
    let r = read_one c.args.program.read in
    let e = r.1 in
    (r.0, record { headed = e; begins = c.list_bases.ensures r.0 e }, omega (arith, c.requires.starts, e.header.procs), c.requires.sites r.0 e)

pub expand-requires : goal.expand-requires
expand-requires c =
    let r = read_one c.args.program.read in
    let e = r.1 in
    (r.0, record { headed = e; begins = c.list_bases.ensures r.0 e }, omega (arith, c.list_sites-count.auto.starts, c.requires.starts, e.header.procs), omega (arith, c.requires.words, e.header.table))
