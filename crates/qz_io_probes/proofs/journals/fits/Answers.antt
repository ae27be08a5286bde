use Rattle.std.proofs.Common.{rules}
use Rattle.qz_io_probes.proofs.journals.fits.Goals as goal

pub returns-clause-full : goal.returns-clause-full
returns-clause-full c = search rules

pub returns-clause-ok : goal.returns-clause-ok
returns-clause-ok c = search rules
