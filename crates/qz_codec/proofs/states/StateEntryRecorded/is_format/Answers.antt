use Rattle.qz_codec.proofs.StateFormats.{state_entry_format}
use Rattle.qz_codec.proofs.states.StateEntryRecorded.is_format.Goals as goal

pub returns-clause-format : goal.returns-clause-format
returns-clause-format c = λ version. state_entry_format
