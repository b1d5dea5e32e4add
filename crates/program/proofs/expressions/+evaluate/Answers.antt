use Rattle.std.proofs.Common.{ap, ◌∙◌, arith}
use Rattle.program.specs.Kinds.{byte_e}
use Rattle.program.proofs.Evaluating.{has_some, has_known, has_var, has_not, has_left, has_right, gives_yes, gives_var, gives_not, gives_and}
use Rattle.program.proofs.expressions.+evaluate.Goals as goal

pub bounds-bytes-at : goal.bounds-bytes-at
bounds-bytes-at t c = has_some _ _ _ c.requires

pub bounds-bytes-at-in-Var : goal.bounds-bytes-at-in-Var
bounds-bytes-at-in-Var t c = (has_var _ _ _ c.requires (c.in-Ok.ensures ∙ ap byte_e c.in-Var.is)).0

pub test_bit-requires : goal.test_bit-requires
test_bit-requires t c = omega (arith, c.from.ensures, (has_var _ _ _ c.requires (c.in-Ok.ensures ∙ ap byte_e c.in-Var.is)).1)

pub evaluate-part-requires : goal.evaluate-part-requires
evaluate-part-requires t c = (omega (arith, has_some _ _ _ c.requires), has_not _ _ _ c.requires (c.in-Ok.ensures ∙ ap byte_e c.in-Not.is))

pub evaluate-left-requires : goal.evaluate-left-requires
evaluate-left-requires t c = (omega (arith, has_some _ _ _ c.requires), has_left _ _ _ c.requires (c.in-Ok.ensures ∙ ap byte_e c.in-And.is))

pub evaluate-right-requires : goal.evaluate-right-requires
evaluate-right-requires t c =
    let h = has_right _ _ _ c.requires _ _ (c.in-Ok.ensures ∙ ap byte_e c.in-And.is) c.evaluate-left.ensures in
    (omega (arith, has_some _ _ _ c.requires, h.0), h.1)

pub unreachable-requires : goal.unreachable-requires
unreachable-requires t c = has_known _ _ _ c.requires c.in_default.ensures.0

pub returns-in-Yes : goal.returns-in-Yes
returns-in-Yes t c = gives_yes _ _ _ (c.in-Ok.ensures ∙ ap byte_e c.in-Yes.is)

pub returns-in-Var : goal.returns-in-Var
returns-in-Var t c =
    let k = c.in-Ok.ensures ∙ ap byte_e c.in-Var.is in
    gives_var _ _ _ _ _ k c.from.ensures (omega (arith, c.from.ensures, (has_var _ _ _ c.requires k).1)) c.test_bit.ensures

pub returns-in-Not : goal.returns-in-Not
returns-in-Not t c = gives_not _ _ _ _ (c.in-Ok.ensures ∙ ap byte_e c.in-Not.is) c.evaluate-part.ensures

pub returns-in-And : goal.returns-in-And
returns-in-And t c = gives_and _ _ _ _ _ (c.in-Ok.ensures ∙ ap byte_e c.in-And.is) c.evaluate-left.ensures c.evaluate-right.ensures
