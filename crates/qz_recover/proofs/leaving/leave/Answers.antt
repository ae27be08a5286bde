use Rattle.qz_recover.proofs.Facts.{fired_ordered}
use Rattle.qz_recover.proofs.leaving.leave.Goals as goal

pub end_rows-requires : goal.end_rows-requires
end_rows-requires c = record { sorted = fired_ordered c.args.tables.now.tables c.requires.valid }
