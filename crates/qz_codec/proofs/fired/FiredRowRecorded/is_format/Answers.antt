use Rattle.qz_codec.proofs.RowRecordFormats.{fired_format}
use Rattle.qz_codec.proofs.fired.FiredRowRecorded.is_format.Goals as goal

pub returns-clause-format : goal.returns-clause-format
returns-clause-format c = λ version. fired_format
