use Rattle.qz_values.proofs.Truths.{first_true}
use Rattle.qz_codec.proofs.triggers.put_trigger.Goals as goal

pub put_spec-requires : goal.put_spec-requires
put_spec-requires c = first_true _ _ c.row.invariant
