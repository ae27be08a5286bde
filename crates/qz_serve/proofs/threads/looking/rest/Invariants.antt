use Rattle.std.proofs.Common.{◌≡◌, false}
use Rattle.qz_row_lock.specs.Seats.{IsOf, mine, is_out}
use Rattle.qz_serve.specs.Asking.{KeepsSeat, deeds}
use Rattle.qz_serve.proofs.threads.looking.rest.Given as goal

abbrev pub invariant-rests : goal.invariant-rests
invariant-rests g l = record {
  of : IsOf l.row l.seat;
  home : is_out l.seat ≡ false;
  same : KeepsSeat l.fn.seat l.seat;
  mine : mine l.seat ≡ mine l.fn.seat;
  deeds : deeds l.row l.seat ≡ deeds l.row l.fn.seat;
}
