-- `settle_level`: procedure after procedure.
use Rattle.std.proofs.Common.{refl, sym, subst, arith, below_more}
use Rattle.saturation.specs.Bits.{On}
use Rattle.ranking.specs.Levels.{OfLevel, ProcedureDone}
use Rattle.ranking.proofs.Facts.{facts}
use Rattle.ranking.proofs.Steps.{before, step_then}
use Rattle.ranking.proofs.levels.Ranker.settle_level.Goals as goal
use Rattle.ranking.proofs.levels.Ranker.settle_level.Goals.{then-has_reached, else-has_reached}

pub loop-f-preserved : goal.loop-f-preserved
loop-f-preserved c =
    let r = c.args.self.now in
    let i = c.loop-f.invariant in
    elim c.if-has_reached.branch [
      | then-has_reached w ↦ simp w.self-is (
        step_then i.0 (λ d. before i.0 (λ y p l. OfLevel y p l d)) w.settle_procedure.ensures.settles,
        below_more (ProcedureDone r.system r.procedures r.level.now w.settle_procedure.new.self.sets.now) c.loop-f.f
            (λ h l x hx q n z hn kn e hz o. i.1 h l x hx q n z hn kn e hz (w.settle_procedure.ensures.settles.settles.fewer n z o)) (before i.0 (λ y p l. ProcedureDone y p l w.settle_procedure.new.self.sets.now c.loop-f.f) w.settle_procedure.ensures.gone),
      )
      | else-has_reached w ↦ simp w.self-is (
        i.0,
        below_more (ProcedureDone r.system r.procedures r.level.now c.loop-f.self.sets.now) c.loop-f.f i.1 (λ x hx q. absurd (w.if-has_reached.ensures.no refl x (omega (arith, (facts r.known).countable.fine.few)) (subst (λ l. On l c.loop-f.f x) (sym i.0.level) q))),
      )
    ]
