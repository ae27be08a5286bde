use Rattle.std.proofs.Common.{◌≡◌, false}
use Rattle.std.specs.Prelude.{IfSome}
use Rattle.qz_row_lock.specs.Seats.{IsOf, seen, ids, is_out, first_value}
use Rattle.qz_shared.specs.Calls.{known}
use Rattle.qz_rounds.specs.Looking.{LeavesRows, HasCheckedIn}
use Rattle.qz_rounds.specs.Adding.{AddsRounds}
use Rattle.qz_rounds.proofs.rounds.check_rounds.Given as goal

abbrev pub invariant-rounds : goal.invariant-rounds
invariant-rounds g l = record {
  of : IsOf l.row l.seat × IsOf l.states l.state;
  home : (is_out l.seat ≡ false) × (is_out l.state ≡ false);
  same : (l.seat.number ≡ l.fn.seat.number) × (l.seat.more ≡ l.fn.seat.more) × (l.seat.parts ≡ l.fn.seat.parts) × (ids l.seat ≡ ids l.fn.seat);
  same_state : (l.state.number ≡ l.fn.state.number) × (l.state.more ≡ l.fn.state.more) × (l.state.parts ≡ l.fn.state.parts) × (ids l.state ≡ ids l.fn.state);
  checked : IfSome l.last (λ before. HasCheckedIn (g.T.RowStore.listed (g.T.RowStore.state (first_value l.states).opened.value).history) l.me.node before (seen l.state));
  adds : AddsRounds (g.C.SharedClock.shows l.clock) (LeavesRows g.T.RowStore.kind g.T.RowStore.listed g.T.RowStore.state g.T.RoundStore.tables (g.T.RowStore.state (first_value l.states).opened.value))
      (g.T.RowStore.listed (g.T.RowStore.state (first_value l.states).opened.value).history) l.me (known l.seat) (known l.state);
}
