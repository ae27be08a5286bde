use Rattle.qz_model.proofs.DueOrder.{ordered-in_due_order, same-in_due_order}
use Rattle.qz_model.proofs.laws.due_order_is_sorted.Goals as goal

pub returns-clause-sorted : goal.returns-clause-sorted
returns-clause-sorted c ts = ordered-in_due_order ts

pub returns-clause-same : goal.returns-clause-same
returns-clause-same c p ts = same-in_due_order p ts
