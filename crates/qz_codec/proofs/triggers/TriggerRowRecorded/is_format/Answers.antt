use Rattle.qz_codec.proofs.RowRecordFormats.{trigger_format}
use Rattle.qz_codec.proofs.triggers.TriggerRowRecorded.is_format.Goals as goal

pub returns-clause-format : goal.returns-clause-format
returns-clause-format c = trigger_format
