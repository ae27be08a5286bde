use Rattle.qz_values.proofs.NameFormats.{name_format}
use Rattle.qz_codec.proofs.groups.TextRecorded.is_format.Goals as goal

pub returns-clause-format : goal.returns-clause-format
returns-clause-format c = λ version. name_format
