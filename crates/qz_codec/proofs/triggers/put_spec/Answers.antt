use Rattle.qz_values.proofs.Truths.{first_true, last_true}
use Rattle.qz_codec.proofs.triggers.put_spec.Goals as goal

pub put_key-requires : goal.put_key-requires
put_key-requires c = first_true _ _ (first_true _ _ (first_true _ _ c.requires))

pub put_key-requires-2 : goal.put_key-requires-2
put_key-requires-2 c = last_true _ _ (first_true _ _ (first_true _ _ c.requires))

pub put_calendar-requires : goal.put_calendar-requires
put_calendar-requires c = last_true _ _ (first_true _ _ c.requires)

pub put_timing-requires : goal.put_timing-requires
put_timing-requires c = last_true _ _ c.requires
