use Rattle.qz_types.specs.Entries.{is_entry}
use Rattle.qz_values.proofs.Truths.{first_true}
use Rattle.qz_codec.proofs.entries.put_entry.Goals as goal

pub put_whole_command-requires : goal.put_whole_command-requires
unfolding is_entry
put_whole_command-requires c = first_true _ _ c.e.invariant
