use Rattle.std.proofs.Common.{◌≡◌, ◌≤◌, ◌-◌, length}
use Rattle.qz_tables.specs.Changes.{changed, changed_first}
use Rattle.qz_tables.specs.Links.{KeepsLinks}
use Rattle.qz_tables.proofs.BulkLemmas.{changed_if}
use Rattle.qz_tables.proofs.linked.Linked.change_states.Given as goal

abbrev pub invariant-loop-place : goal.invariant-loop-place
invariant-loop-place g l = record {
  within : l.place ≤ length l.fn.self.rows;
  rows : l.self.rows ≡ changed_first (changed_if (changed l.fn.change) (g.T.Test.test l.test)) l.place l.fn.self.rows;
  links : KeepsLinks l.fn.self.links l.self.links;
  spare : l.fn.self.spare ≤ l.self.spare;
}

abbrev pub decreases-loop-place : goal.decreases-loop-place
decreases-loop-place g l = l.count - l.place
