-- Programs and configurations in which every number names something and every list of values has its length.
use Rattle.std.specs.Prelude.{◌≡◌, ◌≤◌, length}
use Rattle.std.proofs.Math.Option.{some}
use Rattle.program.specs.Program.{nth, Proc, Prog, Frame, St}
use Rattle.program.specs.Rows.{Every, OkP}

pub record Good (g : Prog) : Type 0 where
  pub some_proc : 1 ≤ length g.procs
  pub procs : Every (OkP g.shared (length g.procs)) g.procs

pub record FrameOk (g : Prog) (f : Frame) : Type 0 where
  pub p : Proc
  pub there : nth g.procs f.proc ≡ some p
  pub place : f.at ≤ length p.steps
  pub owns : length f.vars ≡ p.own

pub record StOk (g : Prog) (s : St) : Type 0 where
  pub shareds : length s.shared ≡ g.shared
  pub top : FrameOk g s.top
  pub below : Every (FrameOk g) s.below
