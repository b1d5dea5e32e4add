use Rattle.std.proofs.Common.{not, length, refl, sym, ap, ◌∙◌, rules, arith}
use Rattle.std.proofs.lemmas.List.Sums.{prefix_len-le-length}
use Rattle.syntax.specs.Decimal.{ends}
use Rattle.syntax.proofs.Splitting.{word_begins, next_word}
use Rattle.syntax.proofs.words.WordsIterator.next.Goals as goal

-- the first word lies within what is left
pub split_at-requires : goal.split_at-requires
split_at-requires c = omega (arith, c.in_ok-inner.ensures.cases.1, prefix_len-le-length (λ b. not (ends b)) c.in_ok-inner.inner.now)

pub overflow_add-word_len : goal.overflow_add-word_len
overflow_add-word_len c = omega (arith, split_at-requires c)

pub returns-clause-steps : goal.returns-clause-steps
returns-clause-steps c =
    let long = word_begins c.skip_gap.new.self.rest.now c.in_ok-inner.ensures.cases.0 c.skip_gap.ensures.begins c.word_len.ensures in
    let next = next_word c.skip_gap.new.self.rest.now long c.split_at.ensures.front c.split_at.ensures.back (omega arith) in
    (sym c.skip_gap.ensures.left ∙ next, refl, omega arith, c.skip_gap.ensures.whole)

pub returns-clause-goes : goal.returns-clause-goes
returns-clause-goes c = record { on = λ f. (search rules, search rules, omega (arith, ap length (returns-clause-steps c).0)); keeps = search rules; rests = search rules }
