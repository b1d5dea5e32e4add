-- `is_empty`: both words are 0, or one has a bit.
use Rattle.std.proofs.Common.{◌≡◌, ◌+◌, ◌*◌, ◌<◌, get_or, subst, arith}
use Rattle.std.proofs.lemmas.Bool.{eqb-true, eqb-false}
use Rattle.saturation.proofs.Nodes.{empty_yes, empty_no}
use Rattle.saturation.proofs.bits.is_empty.Goals as goal

pub returns-then-table-n-eq0 : goal.returns-then-table-n-eq0
returns-then-table-n-eq0 c = record {
  yes = λ e. empty_yes c.args.table.now c.args.n c.if-table-n-eq0.true (eqb-true _ _ e);
  no = λ e. let z = eqb-false _ _ e in empty_no c.args.table.now c.args.n 1 (omega arith) (omega arith) (omega (arith, c.type_inv.table (2 * c.args.n + 1)));
}

pub returns-else-table-n-eq0 : goal.returns-else-table-n-eq0
returns-else-table-n-eq0 c = record {
  yes = λ e. absurd (c.if-table-n-eq0.false (eqb-true _ _ e));
  no = λ e. let z : 2 * c.args.n ≡ 2 * c.args.n + 0 = omega arith in
      let nz : 0 < get_or c.args.table.now (2 * c.args.n) 0 = omega arith in
      empty_no c.args.table.now c.args.n 0 (omega arith) (subst (λ i. 0 < get_or c.args.table.now i 0) z nz) (omega (arith, c.type_inv.table (2 * c.args.n + 0)));
}
