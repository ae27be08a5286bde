use Rattle.qz_journal.proofs.TailBytes.{never_late}
use Rattle.qz_journal.proofs.TrueTails.{in_use_early}
use Rattle.qz_journal.proofs.journal.Journal.mount_tail_or_salvage.Goals as goal

pub returns-in-Err-clause-refused : goal.returns-in-Err-clause-refused
returns-in-Err-clause-refused g c h = c.in-Err.ensures.refused h _

pub returns-in-Err-clause-version : goal.returns-in-Err-clause-version
returns-in-Err-clause-version g c h at is late = absurd (never_late c.in-Err.error _ c.args.kind at is late in_use_early (c.in-Err.ensures.refused h))
