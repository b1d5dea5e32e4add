use Rattle.std.proofs.Common.{◌≡◌, ◌==◌, not, ◌∙◌, rules, tests}
use Rattle.std.proofs.lemmas.Iterator.{YieldsList-from_slice}
use Rattle.std.proofs.lemmas.Iterator.Consumers.{YieldsList-at, count_from_yields_List}
use Rattle.std.proofs.lemmas.Iterator.Search.{YieldsList-from_take_while}
use Rattle.std.proofs.lemmas.List.Folds.{length-prefix_len}
use Rattle.syntax.proofs.Splitting.{comment_of, comment_past}
use Rattle.syntax.proofs.words.comment_len.Goals as goal

comment_is : (c : goal.After-count) → c.count.result ≡ comment_of c.args.rest.now
comment_is c = count_from_yields_List c.take_while.result c.count.result c.count.ensures.ran (YieldsList-from_take_while _ (λ b. not (b == 10)) (YieldsList-at c.take_while.ensures.source (YieldsList-from_slice c.args.rest.now cc)) c.take_while.ensures.closure c.take_while.ensures.done (λ x b q k. search (rules, tests))) ∙ length-prefix_len (λ b. not (b == 10)) c.args.rest.now

pub returns-clause-skips : goal.returns-clause-skips
returns-clause-skips c = rw (comment_is c) (comment_past c.args.rest.now)
