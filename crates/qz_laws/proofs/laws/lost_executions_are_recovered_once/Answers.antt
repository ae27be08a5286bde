use Rattle.std.proofs.Common.{sym, subst}
use Rattle.qz_model.specs.Invariant.{TablesValid}
use Rattle.qz_model.proofs.Kept.{valid-empty}
use Rattle.std.specs.List.{AllByRecursion}
use Rattle.qz_types.specs.Tables.{SchedulerTables}
use Rattle.qz_model.specs.History.{IsLegalFrom, replies_from}
use Rattle.qz_laws.specs.Losses.{lost_from, IsBegunByOne}
use Rattle.qz_laws.proofs.Beginnings.{begun_by_replies}
use Rattle.qz_laws.proofs.Histories.{exact}
use Rattle.qz_laws.proofs.laws.lost_executions_are_recovered_once.Goals as goal

pub returns-clause-new_store : goal.returns-clause-new_store
returns-clause-new_store c h version begins good legal = exact h.base h.entries (subst TablesValid (sym begins) (valid-empty version)) good legal

pub returns-clause-any_store : goal.returns-clause-any_store
returns-clause-any_store c T es valid good legal = exact T es valid good legal

pub returns-clause-begun : goal.returns-clause-begun
returns-clause-begun c h version begins good legal =
    subst (λ (T : SchedulerTables). IsLegalFrom T h.entries → AllByRecursion (λ l. IsBegunByOne l.row (replies_from T h.entries)) (lost_from T h.entries)) (sym begins) (begun_by_replies version h.entries good) legal
