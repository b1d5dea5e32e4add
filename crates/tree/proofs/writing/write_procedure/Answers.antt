use Rattle.std.proofs.Common.{[], ◌∷◌, vec_items, arith}
use Rattle.std.proofs.lemmas.Result.{IfOk-weaker}
use Rattle.tree.proofs.Rest.{body_long, procedure_bytes}
use Rattle.tree.proofs.Appending.{adds, adds_both, adds_as}
use Rattle.tree.proofs.Wider.{steps_small}
use Rattle.tree.proofs.writing.write_procedure.Goals as goal

pub overflow_cast-statements : goal.overflow_cast-statements
overflow_cast-statements c = let short = c.requires.short in omega (arith, body_long c.args.procedure.now)

pub write_body-requires : goal.write_body-requires
write_body-requires c = rw c.deref.ensures.value (steps_small _ c.requires)

pub returns : goal.returns
returns c =
    let p = c.args.procedure.now in
    let head = adds (p.own ∷ c.len-statements.result ∷ []) (vec_items c.args.out.now) c.in_ok-extend_from_slice.ensures.items in
    IfOk-weaker c.write_body.result _ _ (λ _ e. adds_as (procedure_bytes p c.deref.ensures.value c.len-statements.ensures) (adds_both head e)) c.write_body.ensures
