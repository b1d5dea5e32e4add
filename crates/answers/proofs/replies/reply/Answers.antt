-- `reply`: the text begins with the verdict.
use Rattle.std.proofs.Common.{[], ◌++◌, sym, ap, ◌∙◌, append-nil, rules}
use Rattle.answers.proofs.Replying.{says}
use Rattle.answers.proofs.replies.reply.Goals as goal

pub returns-in_default : goal.returns-in_default
returns-in_default c = λ g h. says _ c.verdict.result.now [] (c.in_ok-matches.ensures g h) (search rules) (search rules) (c.in_ok-told.ensures.ok ∙ sym (append-nil _))

pub returns : goal.returns
returns c = λ g h. says _ c.verdict.result.now c.as_str.result.now (c.in_ok-matches.ensures g h) (search rules) (search rules) (c.in_ok-push_str.ensures.bytes ∙ ap (λ z. z ++ c.as_str.result.now) c.in_ok-told.ensures.ok)
