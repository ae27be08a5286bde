use Rattle.std.proofs.Common.{◌≡◌, ◌≤◌, ◌-◌, length}
use Rattle.qz_tables.specs.Changes.{trigger_edited, changed_first}
use Rattle.qz_tables.specs.Links.{KeepsLinks}
use Rattle.qz_tables.proofs.linked.Linked.edit_all.Given as goal

abbrev pub invariant-loop-place : goal.invariant-loop-place
invariant-loop-place l = record {
  within : l.place ≤ length l.fn.self.rows;
  rows : l.self.rows ≡ changed_first (trigger_edited l.edit) l.place l.fn.self.rows;
  links : KeepsLinks l.fn.self.links l.self.links;
  spare : l.fn.self.spare ≤ l.self.spare;
}

abbrev pub decreases-loop-place : goal.decreases-loop-place
decreases-loop-place l = l.count - l.place
