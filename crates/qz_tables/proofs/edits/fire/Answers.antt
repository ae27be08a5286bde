use Rattle.std.proofs.Common.{arith}
use Rattle.qz_types.specs.Rows.{is_trigger_spec}
use Rattle.qz_tables.proofs.Counts.{times_within, within_again}
use Rattle.qz_tables.proofs.edits.fire.Goals as goal

pub overflow_add-row-inside : goal.overflow_add-row-inside
overflow_add-row-inside c = omega (arith, times_within (is_trigger_spec c.row.inside.spec) c.row.inside.times c.row.invariant)

pub invariant_of-row : goal.invariant_of-row
invariant_of-row c = within_again (is_trigger_spec c.row.inside.spec) c.row.inside.times c.min-row-inside.result c.row.invariant (omega arith)
