use Rattle.qz_codec.proofs.EntryFormats.{entry_format}
use Rattle.qz_codec.proofs.entries.EntryRecorded.is_format.Goals as goal

pub returns-clause-format : goal.returns-clause-format
returns-clause-format c = entry_format
