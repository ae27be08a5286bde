-- What the disk of a state store may hold after a crash.
use Rattle.std.proofs.Common.{ℕ, List}
use Rattle.qz_disk.specs.Disk.{IsLawful}
use Rattle.qz_disk.specs.declared.disk.Disk.{Ghosts}
use Rattle.qz_stores.proofs.Moments as store
use Rattle.qz_checkin.specs.Laws.{state_lawful}
use Rattle.qz_checkin.specs.Bytes.{Whole, MayBe}
use Rattle.qz_checkin.specs.View.{view, disk_state, GoesOnFrom, LeavesEither}
use Rattle.qz_checkin.specs.declared.stores.StateStore.{StateStore}

-- its history, or that with the undecided entry
pub now : {D : Type 0} {g : Ghosts D} (s : StateStore D g) → g.honest → (w : Whole) → GoesOnFrom s w → (b : List ℕ) → (disk_state s).IsImage b → MayBe w (view s).history (view s).undecided b
now s = store.now state_lawful s.store

-- a call that did nothing leaves that at any moment
pub rests : {D : Type 0} {g : Ghosts D} (s : StateStore D g) → IsLawful (disk_state s) → g.honest → LeavesEither s s
rests s = store.rests state_lawful s.store
