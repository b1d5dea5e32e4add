use Rattle.std.proofs.Common.{◌≡◌, ℕ, ◌≤◌, List, ◌++◌, length, take, sym, ap, ◌∙◌, subst, rules, arith}
use Rattle.std.proofs.Math.Logic.{∥∥₁_elim}
use mathlib.Core.HLevel.{⊥_prop}
use Rattle.std.specs.Coded.{Coded-set, coded_ℕ}
use lib.Seq.{take-append-le}
use Rattle.places.specs.Says.{Table}
use Rattle.program.specs.Table.{total}
use Rattle.report.proofs.Knowing.{never}
use Rattle.report.proofs.loaded.Loaded.decide.Goals as goal

whole : (n : ℕ) (o x t : List ℕ) → n ≤ length o → n ≡ length t → take (length t) o ≡ t → t ≡ take n (o ++ x)
whole n o x t h e k = sym (take-append-le n o x h ∙ ap (λ m. take m o) e ∙ k)

pub unreachable-requires : goal.unreachable-requires
unreachable-requires c = ∥∥₁_elim c.args.self.read ⊥_prop (λ read.
    never c.know.result c.know.ensures read.0 read.1 (omega (arith, read.2.table, c.in_ok-table.ensures.len)) (omega (arith, read.2.work, c.in_ok-work.ensures.len)) c.in-NoProgram.is)

pub returns : goal.returns
returns c =
    let known = c.in-Told.ensures in
    let told = known.says in
    let size : c.args.self.header.table ≡ length told.1 = ∥∥₁_elim c.args.self.read (Coded-set coded_ℕ _ _) (λ read.
    let same = known.laws.one_program c.args.self.bytes.now told.0 read.0 told.2 read.1 in
    read.2.table ∙ sym (told.3.long ∙ ap (λ g. total g.shared g.procs) same)) in
    let long : c.in_ok-table.table.len ≡ c.args.self.header.table = search rules in
    let room : c.in_ok-table.table.len ≤ length c.know.new.table = search rules in
    (told.0, told.2, subst (Table told.0) (whole c.in_ok-table.table.len c.know.new.table _ told.1 room (long ∙ size) told.4) told.3)
