-- The byte that an expression or a step of each kind begins with.
use Rattle.std.specs.Prelude.{◌≡◌, ℕ, ◌≤◌, Ok, Err, Result}
use Rattle.program.specs.declared.refusals.Reason.{Reason}
use Rattle.program.specs.declared.refusals.Reason.TheVariants.{UnknownStep, UnknownExpression}
use Rattle.program.specs.declared.kinds.ExpressionKind.{ExpressionKind}
use Rattle.program.specs.declared.kinds.ExpressionKind.TheVariants.{Yes, Var, Not, And}
use Rattle.program.specs.declared.kinds.StepKind.{StepKind}
use Rattle.program.specs.declared.kinds.StepKind.TheVariants.{Set, Open, Go, Call, Return}

abbrev pub byte_e : ExpressionKind → ℕ
byte_e Yes = 0
byte_e Var = 1
byte_e Not = 2
byte_e And = 3

-- the kind that begins with byte b, or that none does
abbrev pub KindOfE : ℕ → Result ExpressionKind Reason → Type 0
KindOfE b (Ok k) = b ≡ byte_e k
KindOfE b (Err e) = (4 ≤ b) × (e ≡ UnknownExpression)

abbrev pub byte_i : StepKind → ℕ
byte_i Set = 0
byte_i Open = 1
byte_i Go = 2
byte_i Call = 3
byte_i Return = 4

abbrev pub KindOfI : ℕ → Result StepKind Reason → Type 0
KindOfI b (Ok k) = b ≡ byte_i k
KindOfI b (Err e) = (5 ≤ b) × (e ≡ UnknownStep)
