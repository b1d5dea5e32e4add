-- `measure`: what ranking asks of the words of a solved program, and what it tells.
use Rattle.std.proofs.Common.{arith}
use Rattle.program.proofs.Proved.{laws}
use Rattle.places.proofs.Reading.{read_one}
use Rattle.places.proofs.Ranking.{fine_here, aligned_here, grouped_here, starts_here, told_here, measured}
use Rattle.places.proofs.measuring.measure.Goals as goal

pub rank-requires-clause-known : goal.rank-requires-clause-known
rank-requires-clause-known c =
    let read = read_one c.args.program.read in
    let e = read.1 in
    let x = c.settle-sets.ensures.filled in
    let small = laws.small_table _ read.0 e.reads in
    let parts = c.split_at_mut-entries.ensures in
    record {
      countable = record { fine = fine_here e x; aligned = aligned_here e x; small = omega (arith, x.nodes, e.header.table, small); sets_long = omega (arith, parts.front_len); counts_long = omega (arith, parts.back_len, x.sets_long, x.nodes) };
      grouped = grouped_here e x;
      next_long = omega (arith, x.next_long, x.bases_long, e.header.procs, e.reads.most);
    }

pub rank-requires-clause-short : goal.rank-requires-clause-short
rank-requires-clause-short c =
    let read = read_one c.args.program.read in
    omega (arith, c.split_at_mut-entries.ensures.front_len, c.settle-sets.ensures.filled.nodes, read.1.header.table, laws.small_table _ read.0 read.1.reads)

pub rank-requires-clause-starts : goal.rank-requires-clause-starts
rank-requires-clause-starts c = starts_here (read_one c.args.program.read).1 c.settle-sets.ensures.filled

pub rank-requires-clause-told : goal.rank-requires-clause-told
rank-requires-clause-told c =
    let parts = c.split_at_mut-entries.ensures in
    told_here (read_one c.args.program.read).1 c.settle-sets.ensures.filled _ _ parts.value parts.front_len

pub returns : goal.returns
returns c = λ g e. measured e c.settle-sets.ensures.filled _ c.rank.ensures
