use Rattle.qz_codec.proofs.RowFormats.{zone_row_format}
use Rattle.qz_codec.proofs.zones.ZoneRowRecorded.is_format.Goals as goal

pub returns-clause-format : goal.returns-clause-format
returns-clause-format c = zone_row_format
