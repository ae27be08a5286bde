use Rattle.qz_disk.proofs.Handles.{IsWaiting}
use Rattle.qz_disk.proofs.file.reopen.Given as goal

abbrev pub invariant-loop-try : goal.invariant-loop-try
invariant-loop-try g l = IsWaiting l._try (g.H.FileHandle.faults l.fn.handle) (g.H.FileHandle.faults l.handle) g.H.FileHandle.honest (Unit {0}) (g.H.FileHandle.state l.fn.handle) (g.H.FileHandle.state l.handle)
