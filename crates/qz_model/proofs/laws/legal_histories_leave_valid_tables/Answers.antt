use Rattle.std.proofs.Common.{sym, subst}
use Rattle.qz_model.specs.Invariant.{TablesValid}
use Rattle.qz_model.proofs.Kept.{valid-empty}
use Rattle.qz_model.proofs.Histories.{valid-replay}
use Rattle.qz_model.proofs.laws.legal_histories_leave_valid_tables.Goals as goal

pub returns : goal.returns
returns c h version begins good legal = valid-replay h.base h.entries good (subst TablesValid (sym begins) (valid-empty version)) legal
