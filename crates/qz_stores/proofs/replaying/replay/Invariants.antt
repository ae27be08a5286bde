use Rattle.std.proofs.Common.{◌≡◌, ◌≤◌, ◌<◌, ◌^◌, take, length}
use Rattle.qz_journal.specs.Layout.{end_from}
use Rattle.qz_stores.specs.Opening.{IsBase, AreTaken}
use Rattle.qz_stores.proofs.replaying.replay.Given as goal

-- the payloads so far were taken, from the base on
abbrev pub invariant-loop-payload : goal.invariant-loop-payload
invariant-loop-payload g l = record {
  version_is : l.reread.version ≡ l.version;
  base : IsBase g.K.Kind.kind l.fn.slot l.version l.payloads (g.K.Kind.state l.reread.base.value) l.reread.base_count;
  small : l.reread.base_count < 2 ^ 32;
  taken : AreTaken g.K.Kind.kind (g.K.Kind.state l.reread.base.value) (take l.payload-index l.payloads) l.reread.entries.items;
  few : length l.reread.entries.items ≤ l.payload-index;
  gate_is : l.gate ≡ end_from l.start (take l.payload-index l.payloads);
}
