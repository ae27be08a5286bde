use Rattle.qz_codec.proofs.RowFormats.{calendar_row_format}
use Rattle.qz_codec.proofs.calendars.CalendarRowRecorded.is_format.Goals as goal

pub returns-clause-format : goal.returns-clause-format
returns-clause-format c = calendar_row_format
