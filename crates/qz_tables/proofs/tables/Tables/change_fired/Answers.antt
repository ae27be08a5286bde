use Rattle.std.proofs.Common.{◌≡◌, ap, ◌∙◌}
use Rattle.qz_types.specs.Words.{with_fired}
use Rattle.qz_tables.proofs.FiredWords.{with_fired-is}
use Rattle.qz_tables.proofs.tables.Tables.change_fired.Goals as goal

pub returns-clause-tables : goal.returns-clause-tables
returns-clause-tables c =
    let rows : c.change-old.new.self.rows ≡ with_fired c.args.row.entry (λ _. c.args.row) c.self.inside.fired.rows = c.change-old.ensures.rows ∙ with_fired-is c.args.row.entry (λ _. c.args.row) c.self.inside.fired.rows in
    rw rows (ap (λ v. record v.tables { fired = with_fired c.args.row.entry (λ _. c.args.row) v.tables.fired }) c.self.view_is)
