use Rattle.qz_codec.proofs.RowRecordFormats.{state_format}
use Rattle.qz_codec.proofs.check_ins.StateRowRecorded.is_format.Goals as goal

pub returns-clause-format : goal.returns-clause-format
returns-clause-format c = λ version. state_format
