-- What settling a program answers.
use Rattle.std.specs.Prelude.{◌≡◌, ◌+◌, ◌*◌, ◌^◌, length}
use Rattle.expansion.specs.Programs.{Based}
use Rattle.places.specs.declared.given.Program.{Program}
use Rattle.places.specs.declared.settling.Saturated.{Saturated}
use Rattle.places.specs.Solutions.{Settled}

-- the program is solved, and all parts of the answer are as long as they should be
pub record Filled (p : Program) (r : Saturated) : Type 0 where
  pub based : Based p.bytes.now p.header r.procedures.bases.now
  pub settled : Settled p.bytes.now p.header r.procedures.starts.now r.system.graph.now r.system.sites.now (length r.system.sites.now) r.sets.now
  pub shared : r.system.shared ≡ 2 ^ p.header.shared
  pub nodes : r.system.nodes ≡ p.header.table
  pub bases_long : length r.procedures.bases.now ≡ p.header.procs
  pub starts_long : length r.procedures.starts.now ≡ p.header.procs + 1
  pub words_long : length r.system.graph.now ≡ 4 * p.header.table
  pub sets_long : length r.sets.now ≡ 4 * p.header.table
  pub level_long : length r.level.now ≡ 128
  pub next_long : length r.next.now ≡ 128
