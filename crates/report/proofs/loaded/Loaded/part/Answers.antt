use Rattle.std.proofs.Common.{◌≡◌, ◌+◌, ◌<◌, refl, sym, subst, inl, rules, arith}
use Rattle.report.specs.Queries.{Parted}
use Rattle.report.proofs.Bounds.{shared_few}
use Rattle.report.proofs.Parts.{Passing, passing, pass, found, not_passed, left_few, own_come, upto_small}
use Rattle.report.proofs.loaded.Loaded.part.Goals as goal

pub loop-i-init : goal.loop-i-init
loop-i-init c =
    let first : Passing (c.args.self.bytes.now) c.args.self.header c.args.number 0 c.into_iter-i-iterator.result.count c.into_iter-i-iterator.result.iter = passing c.args.number c.into_iter-i-iterator.result.count c.new.ensures refl (cc) (cc) in
    ((tt, tt, inl (omega (arith, left_few first c.args.self.read))), tt, first)

pub width-requires : goal.width-requires
width-requires c = (shared_few c.args.self.read, own_come c.loop-i.invariant.2 c.args.self.read c.next.new.self.iter c.in-Some.procedure c.in-Some.ensures.steps.0)

pub returns-then-i-number : goal.returns-then-i-number
returns-then-i-number c =
    let here : c.loop-i.i-iterator.count ≡ c.args.number = omega (arith, c.in-Some.ensures.steps.1, c.if-i-number.true) in
    subst (λ f. Parted (c.args.self.bytes.now) c.args.self.header f (record { procedure = c.in-Some.procedure; base = c.loop-i.base; width = c.width.result })) here (found c.loop-i.invariant.2 c.args.self.read c.next.new.self.iter c.in-Some.procedure c.in-Some.ensures.steps.0 _ c.width.ensures)

pub table_size-base-requires : goal.table_size-base-requires
table_size-base-requires c = (shared_few c.args.self.read, own_come c.loop-i.invariant.2 c.args.self.read c.next.new.self.iter c.in-Some.procedure c.in-Some.ensures.steps.0)

pub overflow_add-base : goal.overflow_add-base
overflow_add-base c = omega (arith, upto_small c.loop-i.invariant.2.upto c.args.self.read, c.table_size-base.ensures.small)

pub loop-i-preserved : goal.loop-i-preserved
loop-i-preserved c =
    let more : c.loop-i.i-iterator.count < c.args.number = omega (arith, c.loop-i.invariant.2.below, c.in-Some.ensures.steps.1, c.if-i-number.false) in
    let on = pass c.loop-i.invariant.2 c.args.self.read c.next.new.self.iter c.in-Some.procedure c.in-Some.ensures.steps.0 more _ c.table_size-base.ensures.is in
    let next : Passing (c.args.self.bytes.now) c.args.self.header c.args.number (c.loop-i.base + c.table_size-base.result) c.next.new.self.count c.next.new.self.iter = subst (λ n. Passing (c.args.self.bytes.now) c.args.self.header c.args.number (c.loop-i.base + c.table_size-base.result) n c.next.new.self.iter) (sym c.in-Some.ensures.steps.2) on in
    ((tt, tt, inl (omega (arith, left_few next c.args.self.read))), tt, next)

pub unreachable-requires : goal.unreachable-requires
unreachable-requires c = not_passed c.loop-i.invariant.2 c.args.self.read c.next.new.self.iter c.in-None.ensures.steps.0 (search rules)
