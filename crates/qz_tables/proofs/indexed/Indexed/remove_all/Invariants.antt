use Rattle.std.proofs.Common.{◌≡◌, ◌≤◌, length, not}
use Rattle.qz_tables.proofs.BulkLemmas.{filtered_from}
use Rattle.qz_tables.proofs.indexed.Indexed.remove_all.Given as goal

abbrev pub invariant-loop-place : goal.invariant-loop-place
invariant-loop-place g l = record {
  within : l.place ≤ length l.fn.self.rows;
  rows : l.self.rows ≡ filtered_from (λ r. not (g.T.Test.test l.test r)) l.place l.fn.self.rows;
  spare : l.fn.self.spare ≤ l.self.spare;
}

abbrev pub decreases-loop-place : goal.decreases-loop-place
decreases-loop-place g l = l.place
