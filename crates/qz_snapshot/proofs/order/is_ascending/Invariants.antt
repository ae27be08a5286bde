use Rattle.qz_snapshot.proofs.Orders.{Rises}
use Rattle.qz_snapshot.proofs.order.is_ascending.Given as goal

abbrev pub invariant-loop-next : goal.invariant-loop-next
invariant-loop-next g l = Rises g.R.Id.Ord.cmp g.R.Keyed.id l.next l.rows
