-- `settle_place`: node after node, as far apart as there are shared values.
use Rattle.std.proofs.Common.{◌+◌, get_or, refl, arith}
use Rattle.saturation.specs.System.{site_begin}
use Rattle.ranking.proofs.Facts.{facts}
use Rattle.ranking.proofs.Passing.{PlacePassed, base_even, place_first, place_call, place_other}
use Rattle.ranking.proofs.levels.Ranker.settle_place.Goals as goal
use Rattle.ranking.proofs.levels.Ranker.settle_place.Goals.{Joined-calls, then-calls, else-calls}

pub place-place-requires-clause-fine : goal.place-place-requires-clause-fine
place-place-requires-clause-fine c = (facts c.args.self.now.known).countable.fine

pub place-place-requires-clause-within : goal.place-place-requires-clause-within
place-place-requires-clause-within c = ((facts c.args.self.now.known).sites c.args.site c.requires.listed).0

pub loop-n-init : goal.loop-n-init
loop-n-init c =
    let r = c.args.self.now in
    let k = facts r.known in
    rw c.place-place.ensures.begin (place_first r k.countable.fine _ _ c.args.begun.value (base_even k _ c.requires.entry.0) c.requires.entry.1 (k.sites c.args.site c.requires.listed).2)

pub calls-requires-clause-fine : goal.calls-requires-clause-fine
calls-requires-clause-fine c = (facts c.args.self.now.known).countable.fine

pub calls-requires-clause-within : goal.calls-requires-clause-within
calls-requires-clause-within c =
    let k = facts c.args.self.now.known in
    let a = k.sites c.args.site c.requires.listed in
    omega (arith, (k.countable.fine.callers _ a.0 a.1).0, c.place-place.ensures.end, c.loop-n-test.true)

pub settle_call-requires-clause-within : goal.settle_call-requires-clause-within
settle_call-requires-clause-within c =
    let k = facts c.args.self.now.known in
    let a = k.sites c.args.site c.requires.listed in
    rw c.loop-n.invariant.settled.system (omega (arith, (k.countable.fine.callers _ a.0 a.1).0, c.place-place.ensures.end, c.loop-n-test.true))

passed : (c : Joined-calls) → PlacePassed c.args.self.now c.if-calls.self (get_or c.args.self.now.procedures.bases.now c.args.begun.procedure 0) (site_begin c.args.self.now.system.sites.now c.args.site) c.args.begun.value (c.loop-n.n + c.args.self.now.system.shared)
passed c =
    let r = c.args.self.now in
    let k = facts r.known in
    let even = base_even k _ c.requires.entry.0 in
    elim c.if-calls.branch [
      | then-calls w ↦ simp w.self-is (place_call r k.countable.fine _ _ _ even c.requires.entry.1 c.loop-n.invariant (w.if-calls.ensures.yes refl).1 w.settle_call.ensures.settles w.settle_call.ensures.gone)
      | else-calls w ↦ simp w.self-is (place_other r k.countable.fine _ _ _ even c.requires.entry.1 c.loop-n.invariant (w.if-calls.ensures.no refl))
    ]

pub loop-n-preserved : goal.loop-n-preserved
loop-n-preserved c = passed (goal.at.loop-n-preserved c).Joined-calls

pub returns-after-calls : goal.returns-after-calls
returns-after-calls c =
    let l = passed (goal.at.returns-after-calls c).Joined-calls in
    record { settles = l.settled; gone = λ n x hn kn q. l.gone n x hn kn (q.0, omega (arith, q.1, c.place-place.ensures.end), q.2) }
