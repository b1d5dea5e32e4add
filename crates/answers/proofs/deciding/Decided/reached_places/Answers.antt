-- `reached_places`: a place is reached exactly if one of its bytes is 1.
use Rattle.std.proofs.Common.{◌≡◌, ◌+◌, length, ap, ◌∙◌, arith, length-append}
use Rattle.std.proofs.Math.Logic.{∥∥₁_elim}
use Rattle.std.proofs.Math.Bridge.{le_prop}
use Rattle.answers.specs.Looking.{Comes}
use Rattle.answers.proofs.Locating.{located, inside, told, flags_more, said}
use Rattle.answers.proofs.deciding.Decided.reached_places.Goals as goal

pub place_bytes-bytes-requires : goal.place_bytes-bytes-requires
place_bytes-bytes-requires c = ∥∥₁_elim c.args.self.now.holds le_prop (λ held.
    let l = located c.args.self.now held.1 c.program.result c.program.ensures.bytes c.program.ensures.header c.part-part.ensures in
    inside c.args.self.now held.1 l c.loop-place.place (omega (arith, c.loop-place-test.true, l.steps, c.from-place-end.ensures)) _ c.as_slice.ensures.value)

pub loop-place-preserved : goal.loop-place-preserved
loop-place-preserved c =
    let items = c.in_ok-push.ensures.items in
    let old = c.loop-place.invariant in
    let n = c.loop-place.place in (
      ap length items ∙ simp length-append (omega (arith, old.0)),
      λ g h.
          let l = located c.args.self.now h c.program.result c.program.ensures.bytes c.program.ensures.header c.part-part.ensures in
          let t = told c.args.self.now h l n (omega (arith, c.loop-place-test.true, l.steps, c.from-place-end.ensures)) _ c.as_slice.ensures.value _ c.place_bytes-bytes.ensures (λ v. Unit {0}) in
          flags_more (λ a. Comes g c.args.f a (λ v. Unit {0})) _ _ n c.is_reached.result items old.0 (old.1 g h)
          (said c.is_reached.result (λ e. let v = c.is_reached.ensures.yes e in t.0 (v.0, v.1, v.2, tt)) (λ e k. let v = t.1 k in c.is_reached.ensures.no e (v.0, v.1, v.2))),
    )

pub returns : goal.returns
returns c = λ g h.
    let l = located c.args.self.now h c.program.result c.program.ensures.bytes c.program.ensures.header c.part-part.ensures in
    let n : c.loop-place.place ≡ length l.p.steps + 1 = omega (arith, c.loop-place-test.false, l.steps, c.from-place-end.ensures) in
    record { p = l.p; there = l.there; long = c.loop-place.invariant.0 ∙ n; tell = λ a place. c.loop-place.invariant.1 g h a (omega arith) }
