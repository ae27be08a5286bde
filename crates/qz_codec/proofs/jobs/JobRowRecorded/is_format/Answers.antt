use Rattle.qz_codec.proofs.RowFormats.{job_format}
use Rattle.qz_codec.proofs.jobs.JobRowRecorded.is_format.Goals as goal

pub returns-clause-format : goal.returns-clause-format
returns-clause-format c = λ version. job_format
