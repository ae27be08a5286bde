use Rattle.std.proofs.Common.{◌≡◌, ◌≤◌, length, not, filter}
use Rattle.qz_types.specs.Words.{same_key}
use Rattle.qz_tables.specs.Links.{KeepsOtherLinks}
use Rattle.qz_tables.proofs.linked.Linked.remove_job.Given as goal

abbrev pub invariant-loop-row : goal.invariant-loop-row
invariant-loop-row l = record {
  rows : filter (λ t. not (same_key l.job t.spec.job)) l.self.rows ≡ filter (λ t. not (same_key l.job t.spec.job)) l.fn.self.rows;
  links : KeepsOtherLinks l.job l.fn.self.links l.self.links;
  spare : l.fn.self.spare ≤ l.self.spare;
}

abbrev pub decreases-loop-row : goal.decreases-loop-row
decreases-loop-row l = length l.self.rows
