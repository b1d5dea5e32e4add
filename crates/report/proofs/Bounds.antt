-- How large a program that was read is at most.
use Rattle.std.proofs.Common.{ℕ, ◌≤◌, List, Ok, arith}
use Rattle.std.proofs.Math.Logic.{∥∥₁_elim}
use Rattle.std.proofs.Math.Bridge.{le_prop}
use Rattle.program.specs.declared.programs.Header.{Header}
use Rattle.program.specs.Reading.{ReadProgram}

module _ {s : List ℕ} {h : Header} (read : ∥ ReadProgram s (Ok h) ∥₁) where
  pub shared_few : h.shared ≤ 6
  shared_few = ∥∥₁_elim read le_prop (λ r. omega (arith, r.2.shared, r.1.few))

  pub procs_few : h.procs ≤ 64
  procs_few = ∥∥₁_elim read le_prop (λ r. omega (arith, r.2.procs, r.1.most))
