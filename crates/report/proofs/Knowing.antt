-- A program that was read, with as much memory as it wants, is told.
use Rattle.std.proofs.Common.{◌≡◌, ℕ, ◌≤◌, List, length, Ok, ◌⊎◌, ⊎_elim, refl, ap, ◌∙◌, arith}
use Rattle.std.proofs.Math.Logic.{∥∥₁_elim}
use mathlib.Core.HLevel.{⊥_prop}
use Rattle.program.specs.declared.programs.Header.{Header}
use Rattle.program.specs.Reading.{ReadProgram}
use Rattle.program.specs.Program.{Prog}
use Rattle.program.specs.Rows.{Reads}
use Rattle.program.specs.Table.{total, wants}
use Rattle.places.specs.declared.Known.{Known}
use Rattle.places.specs.declared.Known.TheVariants.{Told, NoProgram, OutFull, Few}
use Rattle.places.specs.declared.Deep.{Deep}
use Rattle.places.specs.declared.Deep.TheVariants.{AtMost, Endless, Unread, Short}
use Rattle.places.specs.Says.{KnownPost, DeepPost, Unbounded}

code : Known → ℕ
code Told = 0
code k = 1

apart : {k : Known} → Told ≡ k → code k ≡ 1 → ⊥
unfolding code
apart e h = let z : ◌≡◌ {A = ℕ} 0 1 = ap code e ∙ h in omega arith

pub never : {s o n : List ℕ} {w : ℕ} (r : Known) → KnownPost s o n w r → (g : Prog) → Reads s g → total g.shared g.procs ≤ length o → wants g ≤ w → ((r ≡ NoProgram) ⊎ ((r ≡ OutFull) ⊎ (r ≡ Few))) → ⊥
unfolding code
never Told k g r room work is = ⊎_elim (λ e. apart e refl) (⊎_elim (λ e. apart e refl) (λ e. apart e refl)) is
never NoProgram k g r room work is = k.says.0 g r
never {s} OutFull k g r room work is =
    let full = k.says in
    let same = k.laws.one_program s full.0 g full.1 r in
    let e : total full.0.shared full.0.procs ≡ total g.shared g.procs = ap (λ (h : Prog). total h.shared h.procs) same in
    absurd (omega (arith, full.2, e))
never {s} Few k g r room work is =
    let few = k.few.1 refl in
    let same = k.laws.one_program s few.0 g few.1 r in
    let e : wants few.0 ≡ wants g = ap wants same in
    absurd (omega (arith, few.2, e))

-- and where no greatest number of waiting calls is told, there is none
pub endless : {s : List ℕ} {h : Header} {w : ℕ} (r : Deep) → DeepPost s w r → ∥ ReadProgram s (Ok h) ∥₁ → h.work ≤ w → ((d : ℕ) → r ≡ AtMost d → ⊥) → (g : Prog) × Reads s g × Unbounded g
endless (AtMost d) k read room not = absurd (not d refl)
endless Endless k read room not = k.says
endless Unread k read room not = absurd (∥∥₁_elim read ⊥_prop (λ r. k.says r.0 r.1))
endless {s} Short k read room not = absurd (∥∥₁_elim read ⊥_prop (λ r.
    let short = k.short.1 refl in
    let e : wants short.0 ≡ wants r.0 = ap wants (k.laws.one_program s short.0 r.0 short.1 r.1) in
    absurd (omega (arith, short.2, e, r.2.work, room))))
