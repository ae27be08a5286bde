-- What is known of the bytes of both disks when the stores on them are opened.
use Rattle.std.specs.Prelude.{ℕ, ◌+◌, length}
use Rattle.qz_disk.specs.declared.disk.Disk.{Ghosts}
use Rattle.qz_model.specs.History.{History}
use Rattle.qz_trigger_store.specs.Bytes.{Whole, IsWhole}
use Rattle.qz_trigger_store.specs.View.{base_count_of, base_of, found_of}
use Rattle.qz_trigger_store.specs.declared.stores.TriggerStore.{TriggerStore}
use Rattle.qz_checkin.specs.Bytes.{Whole as WholeRows, IsWhole as IsWholeRows}
use Rattle.qz_cluster.specs.Found.{IsFoundIn, AreFoundIn}
use Rattle.qz_cluster.specs.Steps.{ClusterState}

-- how many entries there are in all, those before the base counted
abbrev pub count_of : History → ℕ
count_of h = h.base_count + length h.entries

-- the history that a store had when it was opened
abbrev pub found_history : {D : Type 0} {g : Ghosts D} → TriggerStore D g → History
found_history s = record { base_count = base_count_of s; base = base_of s; entries = found_of s }

-- what was opened is what the bytes of both disks tell
abbrev pub IsFoundOn : {D : Type 0} → Ghosts D → D → D → ClusterState → Type 0
IsFoundOn g triggers states opened = IsFoundIn (g.state triggers).content opened.triggers × AreFoundIn (g.state states).content opened.states

-- The disks are honest, and that of triggers holds a whole list, with true snapshots. (That of states always does, once its
-- store is open.)
abbrev pub IsTold : {D : Type 0} → Ghosts D → D → Type 0
IsTold g triggers = g.honest × ∥ ((w : Whole) × IsWhole w (g.state triggers).content) ∥₁

-- Both disks are honest, and hold these whole lists.
pub record HoldWhole {D : Type 0} (g : Ghosts D) (triggers states : D) (w : Whole) (v : WholeRows) : Type 0 where
  pub honest : g.honest
  pub entries : IsWhole w (g.state triggers).content
  pub rows : IsWholeRows v (g.state states).content
