use Rattle.std.proofs.Common.{◌≡◌, ◌≤◌, ◌<◌, ◌+◌, ◌^◌, take, length}
use Rattle.std.specs.Io.KnownBytes.{Appends}
use Rattle.qz_stores.specs.Opening.{AreTaken}
use Rattle.qz_trigger_store.specs.Kinds.{trigger_kind}
use Rattle.qz_history.specs.Told.{told_from}
use Rattle.qz_history.proofs.telling.tell_each.Given as goal

-- the payloads so far were taken, and what is told of them was written
abbrev pub invariant-loop-payload : goal.invariant-loop-payload
invariant-loop-payload g l = record {
  small : l.teller.base_count < 2 ^ 32;
  from_is : l.teller.from ≡ l.fn.teller.from;
  count_is : l.teller.base_count ≡ l.fn.teller.base_count;
  base_is : l.teller.base.value.tables ≡ l.fn.teller.base.value.tables;
  taken : AreTaken trigger_kind l.fn.teller.base.value.tables (take l.payload-index l.payloads) l.teller.entries.items;
  few : length l.teller.entries.items ≤ l.payload-index;
  later : g.K.Sink.faults l.fn.out ≤ g.K.Sink.faults l.out;
  written : Appends (g.K.Sink.held l.fn.out) (g.K.Sink.held l.out) (told_from l.fn.teller.from (l.fn.teller.base_count + 1) l.fn.teller.base.value.tables l.teller.entries.items);
}
