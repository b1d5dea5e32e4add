use Rattle.std.proofs.Common.{◌≡◌, ◌<◌, ◌≤◌, MatchResult, ap, subst, ◌∙◌, arith, rules}
use Rattle.std.specs.List.{AllByRecursion}
use Rattle.std.proofs.lemmas.List.{take_all}
use Rattle.std.proofs.lemmas.Result.{MatchResult-weaker}
use Rattle.syntax.proofs.Values.{Digit, capped, too_large, number_is}
use Rattle.syntax.proofs.decimal.number.Goals as goal

pub returns : goal.returns
returns c =
    let w = c.args.word.now in
    let whole = take_all c.loop-digit.digit-index w c.loop-digit-test.false in
    let all = subst (AllByRecursion Digit) whole c.loop-digit.invariant.0 in
    let value = c.loop-digit.invariant.1 ∙ ap capped whole in
    let fits : MatchResult c.map_err.result (λ n. (n ≡ c.loop-digit.value) × (c.loop-digit.value < 256)) (λ _. 256 ≤ c.loop-digit.value) = search rules in
    MatchResult-weaker c.map_err.result fits (λ n k. let small = k.1 in number_is w n all (k.0 ∙ value) (omega (arith, k.0))) (λ _ k. too_large w _ value k)
