use Rattle.tree.proofs.Wider.{kept_small}
use Rattle.tree.proofs.encoding.encode.Goals as goal

pub write_procedures-requires : goal.write_procedures-requires
write_procedures-requires c = kept_small c.args.tree.now c.deref.ensures.value c.in_ok-check_tree.ensures
