use Rattle.std.proofs.Common.{◌≡◌, ap}
use Rattle.qz_types.specs.Words.{with_trigger, same_key}
use Rattle.qz_tables.proofs.tables.Tables.change_trigger.Goals as goal

rows : (c : goal.After-change) → c.change.new.self.rows ≡ with_trigger c.args.row.spec.key (λ _. c.args.row) c.self.inside.triggers.rows
unfolding with_trigger same_key
rows c = c.change.ensures.rows

pub returns-clause-tables : goal.returns-clause-tables
returns-clause-tables c =
    rw (rows c) (ap (λ v. record v.tables { triggers = with_trigger c.args.row.spec.key (λ _. c.args.row) v.tables.triggers }) c.self.view_is)
