-- `settle_procedure`: value after value.
use Rattle.std.proofs.Common.{◌≡◌, ◌+◌, get_or, refl, subst, sym, below_more}
use Rattle.saturation.specs.Bits.{On}
use Rattle.ranking.specs.Calls.{Done}
use Rattle.ranking.proofs.Steps.{before, step_then}
use Rattle.ranking.proofs.levels.Ranker.settle_procedure.Goals as goal
use Rattle.ranking.proofs.levels.Ranker.settle_procedure.Goals.{then-is_reached, else-is_reached}

pub loop-value-preserved : goal.loop-value-preserved
loop-value-preserved c =
    let r = c.args.self.now in
    let i = c.loop-value.invariant in
    let b = get_or r.procedures.bases.now c.args.f 0 in
    let v = c.loop-value.value in
    let reached : On c.loop-value.self.level.now c.args.f v → On r.level.now c.args.f v = before i.0 (λ y p l. On l c.args.f v) in
    elim c.if-is_reached.branch [
      | then-is_reached w ↦ simp w.self-is (
        step_then i.0 (λ d e. (c.args.f, v, c.requires, c.loop-value-test.true, reached (w.if-is_reached.ensures.yes refl), before i.0 (λ y p l. d ≡ get_or p.bases.now c.args.f 0 + v) e)) w.settle_callers.ensures.settles,
        below_more (λ x. On r.level.now c.args.f x → Done r.system.graph.now r.system.shared r.system.nodes w.settle_callers.new.self.sets.now (b + x)) v
            (λ x h q n z hn kn e hz o. i.1 x h q n z hn kn e hz (w.settle_callers.ensures.settles.settles.fewer n z o)) (λ q. before i.0 (λ y p l. Done y.graph.now y.shared y.nodes w.settle_callers.new.self.sets.now (get_or p.bases.now c.args.f 0 + v)) w.settle_callers.ensures.gone),
      )
      | else-is_reached w ↦ simp w.self-is (
        i.0,
        below_more (λ x. On r.level.now c.args.f x → Done r.system.graph.now r.system.shared r.system.nodes c.loop-value.self.sets.now (b + x)) v i.1 (λ q. absurd (w.if-is_reached.ensures.no refl (subst (λ l. On l c.args.f v) (sym i.0.level) q))),
      )
    ]
