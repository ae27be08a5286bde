use Rattle.qz_codec.proofs.RowFormats.{member_format}
use Rattle.qz_codec.proofs.members.MemberRowRecorded.is_format.Goals as goal

pub returns-clause-format : goal.returns-clause-format
returns-clause-format c = λ version. member_format
