use Rattle.std.proofs.Common.{◌≡◌, ◌≤◌, take}
use Rattle.qz_journal.specs.View.{payloads_of, capacity_of}
use Rattle.qz_journal.proofs.filling.fill.Given as goal

abbrev pub invariant-loop-place : goal.invariant-loop-place
invariant-loop-place l = record {
  so_far : payloads_of l.group ≡ take l.place l.payloads;
  capacity : capacity_of l.initial.group ≤ capacity_of l.group;
}
