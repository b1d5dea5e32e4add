-- `has`: the bit, shifted down and masked.
use Rattle.saturation.specs.Bits.{Bit}
use lib.Bits.{and_mask}
use Rattle.std.proofs.lemmas.Bool.{eqb-true, eqb-false}
use Rattle.std.proofs.Common.{ℕ, ◌+◌, ◌*◌, ◌/◌, ◌%◌, ◌^◌, get_or, sym, ◌∙◌}
use Rattle.saturation.proofs.bits.has.Goals as goal

pub returns : goal.returns
unfolding Bit
returns c = let w : ℕ = get_or c.args.table.now (2 * c.args.n + c.args.x / 32) 0 / 2 ^ (c.args.x % 32) in
    record { yes = λ e. sym (and_mask w 1) ∙ eqb-true _ _ e; no = λ e o. eqb-false _ _ e (and_mask w 1 ∙ o) }
