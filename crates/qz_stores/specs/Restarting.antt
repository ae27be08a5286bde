-- What a restart read from a disk.
use Rattle.std.specs.Prelude.{◌≡◌, ℕ, List, None}
use Rattle.qz_disk.specs.declared.disk.Disk.{Ghosts}
use Rattle.qz_journal.specs.Layout.{end_from}
use Rattle.qz_journal.specs.Slots.{slots_of as slots_in, slot_in_use}
use Rattle.qz_journal.specs.Tails.{start_of, IsTail, IsCounted}
use Rattle.qz_journal.specs.View.{version_of, gate_of, count_of, closed_at, slots_of}
use Rattle.qz_stores.specs.Opening.{IsRead}
use Rattle.qz_stores.specs.View.{disk_state}
use Rattle.qz_stores.specs.declared.kinds.Kind.{Ghosts as Kinds}
use Rattle.qz_stores.specs.declared.rereads.Reread.{Reread}
use Rattle.qz_stores.specs.declared.stores.Store.{Store}

-- the entries that were read
abbrev pub read_of : {K E R C : Type 0} {k : Kinds K E R C} → Reread K E R C k → List E
read_of reread = reread.entries.items

-- and their history, which begins with the base that was read
abbrev pub history_read : {K E R C : Type 0} {k : Kinds K E R C} → Reread K E R C k → k.History
history_read {k = k} reread = k.kind.history reread.base_count (k.state reread.base.value) reread.entries.items

-- The journal of a store was read anew from the slot in use on: it is open after the payloads that were read, which are those
-- of what was read, and an honest disk has these payloads there.
pub record IsReread {D K E R C : Type 0} {g : Ghosts D} {k : Kinds K E R C} (reread : Reread K E R C k) (s : Store D K E R C g k) : Type 0 where
  pub is_open : closed_at s.journal ≡ None
  pub version : version_of s.journal ≡ reread.version
  pub payloads : List (List ℕ)
  pub read : IsRead k.kind (slot_in_use (slots_of s.journal)) reread.version payloads reread.base_count (k.state reread.base.value) (read_of reread)
  pub gate : gate_of s.journal ≡ end_from (start_of (slots_of s.journal)) payloads
  pub count : IsCounted (slot_in_use (slots_of s.journal)) (count_of s.journal) payloads
  pub slots : g.honest → slots_of s.journal ≡ slots_in (disk_state s).content
  pub tail : g.honest → IsTail (disk_state s).content reread.version k.kind.number (start_of (slots_of s.journal)) payloads
