use Rattle.std.proofs.Common.{◌+◌, length, rules, tests, arith}
use Rattle.std.proofs.lemmas.Iterator.{YieldsList-from_slice, YieldsList-from_map}
use Rattle.std.proofs.lemmas.Iterator.Consumers.{YieldsList-at, fold_from_yields_List}
use Rattle.program.specs.Rows.{row_p}
use Rattle.tree.specs.Meaning.{meaning_p}
use Rattle.tree.specs.Sizes.{counted}
use Rattle.tree.proofs.Sizing.{procedures_added}
use Rattle.tree.proofs.sizes.procedures_size.Goals as goal

pub returns : goal.returns
returns c =
    let total = fold_from_yields_List _ (λ m n. counted (m + n)) 0 c.fold.result c.fold.ensures.ran (YieldsList-from_map _ (λ p. counted (length (row_p (meaning_p p)))) (YieldsList-at c.map.ensures.source (YieldsList-from_slice c.args.procedures.now cc)) c.map.ensures.closure (λ x r q k. search (rules, tests))) (λ a x b q k. search (rules, tests)) in
    omega (arith, total, procedures_added 0 c.args.procedures.now (omega arith))
