use Rattle.std.proofs.Common.{sym, subst}
use Rattle.qz_model.specs.Invariant.{TablesValid}
use Rattle.qz_model.proofs.Kept.{valid-empty}
use Rattle.qz_model.proofs.Histories.{valid-replay}
use Rattle.qz_model.proofs.laws.exclusive_executions_are_alone.Goals as goal

pub returns : goal.returns
returns c h version begins good legal job = (valid-replay h.base h.entries good (subst TablesValid (sym begins) (valid-empty version)) legal).one_exclusive.one job
