use Rattle.std.proofs.Common.{subst}
use Rattle.qz_tables.specs.Changes.{IsFit}
use Rattle.qz_tables.proofs.YearLaws.{trigger_again}
use Rattle.qz_tables.proofs.edits.TriggerEditEditTriggerRow.edit.Goals as goal

pub invariant_of-row-in-Years : goal.invariant_of-row-in-Years
invariant_of-row-in-Years c =
    trigger_again c.in-Years.change (subst (λ e. IsFit e c.args.row.now) c.in-Years.is c.requires) (record { spec = c.row-in-Years.inside.spec; next = c.row-in-Years.inside.next; prev = c.row-in-Years.inside.prev; times = c.row-in-Years.inside.times; state = c.row-in-Years.inside.state }) _ c.change_kind.ensures c.row-in-Years.invariant
