use Rattle.std.proofs.Common.{◌≡◌, ◌≤◌, ◌-◌, length}
use Rattle.qz_tables.specs.Changes.{changed_first}
use Rattle.qz_tables.proofs.indexed.Indexed.edit_all.Given as goal

abbrev pub invariant-loop-place : goal.invariant-loop-place
invariant-loop-place g l = record {
  within : l.place ≤ length l.fn.self.rows;
  rows : l.self.rows ≡ changed_first (g.E.Edit.edited l.edit) l.place l.fn.self.rows;
  spare : l.fn.self.spare ≤ l.self.spare;
}

abbrev pub decreases-loop-place : goal.decreases-loop-place
decreases-loop-place g l = l.count - l.place
