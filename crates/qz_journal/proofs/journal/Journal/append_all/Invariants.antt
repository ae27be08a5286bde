use Rattle.std.proofs.Common.{◌≡◌, ℕ, ◌+◌, ◌-◌, ◌<◌, ◌≤◌, [], List, ◌++◌, length, take}
use Rattle.std.specs.Prelude.{None}
use Rattle.qz_disk.specs.Disk.{LeavesOnly}
use Rattle.qz_journal.specs.Layout.{Holds, HoldFirst, blocks, end_of}
use Rattle.qz_journal.specs.View.{payloads_of, capacity_of}
use Rattle.qz_journal.specs.declared.layout.TheConstants.{MAX_BLOCK}
use Rattle.qz_journal.proofs.journal.Journal.append_all.Given as goal

abbrev pub invariant-groups : goal.invariant-groups
invariant-groups g l = record {
  within : l.start ≤ length l.payloads;
  none : payloads_of l.group ≡ [];
  wide : MAX_BLOCK < capacity_of l.group;
  ready : l.self.closed ≡ None;
  version : l.self.version ≡ l.initial.self.version;
  kind : l.self.kind ≡ l.initial.self.kind;
  slots : l.self.slots ≡ l.initial.self.slots;
  gate : l.self.gate ≡ l.initial.self.gate + length (blocks (take l.start l.payloads));
  count : l.self.count ≡ l.initial.self.count + l.start;
  later : g.D.Disk.faults l.initial.self.disk ≤ g.D.Disk.faults l.self.disk;
  reads : g.D.Disk.honest → (g.D.Disk.state l.self.disk).bytes_read ≡ (g.D.Disk.state l.initial.self.disk).bytes_read;
  stands : g.D.Disk.honest → (all : List (List ℕ)) → Holds (g.D.Disk.state l.initial.self.disk).content l.initial.self.version l.initial.self.kind all
      → l.initial.self.gate ≡ end_of all
      → Holds (g.D.Disk.state l.self.disk).content l.initial.self.version l.initial.self.kind (all ++ take l.start l.payloads);
  any_moment : g.D.Disk.honest → (all : List (List ℕ)) → Holds (g.D.Disk.state l.initial.self.disk).content l.initial.self.version l.initial.self.kind all
      → l.initial.self.gate ≡ end_of all
      → LeavesOnly (g.D.Disk.state l.initial.self.disk) (g.D.Disk.state l.self.disk) (HoldFirst l.initial.self.version l.initial.self.kind all l.payloads);
  front : g.D.Disk.honest → LeavesOnly (g.D.Disk.state l.initial.self.disk) (g.D.Disk.state l.self.disk) (λ b. take l.initial.self.gate b ≡ take l.initial.self.gate (g.D.Disk.state l.initial.self.disk).content);
}

abbrev pub decreases-groups : goal.decreases-groups
decreases-groups g l = length l.payloads - l.start
