-- `look`: the bytes of the place say which values there are.
use Rattle.std.proofs.Common.{◌≡◌, ◌≤◌, length, arith}
use Rattle.std.proofs.Math.Logic.{∥∥₁_elim}
use Rattle.std.proofs.Math.Bridge.{le_prop}
use lib.Bits.{bit_and}
use Rattle.answers.proofs.Locating.{located, inside, told}
use Rattle.answers.proofs.deciding.Decided.look.Goals as goal

pub place_bytes-bytes-requires : goal.place_bytes-bytes-requires
place_bytes-bytes-requires c = ∥∥₁_elim c.args.self.now.holds le_prop (λ held.
    let l = located c.args.self.now held.1 c.program.result c.program.ensures.bytes c.program.ensures.header c.part-part.ensures in
    inside c.args.self.now held.1 l c.args.question.place (omega (arith, l.steps, c.from.ensures)) _ c.as_slice.ensures.value)

pub returns : goal.returns
returns c = λ g h.
    let l = located c.args.self.now h c.program.result c.program.ensures.bytes c.program.ensures.header c.part-part.ensures in
    let place : c.args.question.place ≤ length l.p.steps = omega (arith, l.steps, c.from.ensures) in
    let t = told c.args.self.now h l c.args.question.place place _ c.as_slice.ensures.value _ c.place_bytes-bytes.ensures (λ v. bit_and v c.args.question.pattern.mask ≡ c.args.question.pattern.want) in
    let m = c.in_ok-matching.ensures in
    record { p = l.p; there = l.there; place = place; tell = ((λ k. let v = m.0 k in t.0 (v.0, v.1.0, v.1.1, v.1.2)), (λ k. let v = t.1 k in m.1 (v.0, (v.1, v.2, v.3)))) }
