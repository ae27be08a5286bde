use Rattle.std.proofs.Common.{◌≡◌}
use Rattle.qz_disk.proofs.Handles.{IsWaiting}
use Rattle.qz_disk.proofs.file.measure.Given as goal

abbrev pub invariant-loop-try : goal.invariant-loop-try
invariant-loop-try g l = IsWaiting l._try (g.H.FileHandle.faults l.fn.handle) (g.H.FileHandle.faults l.handle) g.H.FileHandle.honest (g.H.FileHandle.len l.handle ≡ g.H.FileHandle.len l.fn.handle) (g.H.FileHandle.state l.fn.handle) (g.H.FileHandle.state l.handle)
