-- What the disk of a trigger store may hold after a crash.
use Rattle.std.proofs.Common.{ℕ, List}
use Rattle.qz_disk.specs.Disk.{IsLawful}
use Rattle.qz_disk.specs.declared.disk.Disk.{Ghosts}
use Rattle.qz_stores.proofs.Moments as store
use Rattle.qz_trigger_store.specs.Bytes.{Whole, MayBe}
use Rattle.qz_trigger_store.specs.Laws.{trigger_lawful}
use Rattle.qz_trigger_store.specs.View.{view, disk_state, GoesOnFrom, IsAsBefore, LeavesEither}
use Rattle.qz_trigger_store.specs.declared.stores.TriggerStore.{TriggerStore}

module _ {D : Type 0} {g : Ghosts D} where
  -- its history, or that with the undecided entry
  pub now : (s : TriggerStore D g) → g.honest → (w : Whole) → GoesOnFrom s w → (b : List ℕ) → (disk_state s).IsImage b → MayBe w (view s).history (view s).undecided b
  now s = store.now trigger_lawful s.store

  -- a call that did nothing leaves that at any moment
  pub rests : (s : TriggerStore D g) → IsLawful (disk_state s) → g.honest → LeavesEither s s
  rests s = store.rests trigger_lawful s.store

  pub rests_as_before : (s t : TriggerStore D g) → IsAsBefore s t → IsLawful (disk_state s) → g.honest → LeavesEither s t
  rests_as_before s t same = store.rests_as_before trigger_lawful s.store t.store same.0

  -- and what was done before a call that changed nothing is of the call
  pub then_as_before : (s t u : TriggerStore D g) → IsAsBefore s t → LeavesEither t u → LeavesEither s u
  then_as_before s t u same = store.then_as_before trigger_lawful s.store t.store u.store same.0
