use Rattle.qz_top.proofs.MomentLaws.{Shows-none}
use Rattle.qz_top.proofs.load_on_disk.load.Goals as goal

pub returns-in-Err-clause-shows : goal.returns-in-Err-clause-shows
returns-in-Err-clause-shows g c = Shows-none _ _
