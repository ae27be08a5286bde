-- The headline of a call on the system's clock: what holds of both stores whatever the nodes' threads did and however they ran.
use Rattle.std.specs.Prelude.{◌≡◌, ◌⊎◌, Some, Result, Ok, Err}
use Rattle.qz_disk.specs.declared.disk.Disk.{Ghosts}
use Rattle.qz_io.specs.Outside.{Outside}
use Rattle.qz_words.specs.declared.serves.Serving.{Serving}
use Rattle.qz_words.specs.declared.wishes.WordFault.{WordFault}
use Rattle.qz_top.specs.HeadlineByWords.{HeadlineOfWork, OnlyLooked, OpenedNone}
use Rattle.qz_top.specs.declared.ended.Ended.{Ended}
use Rattle.qz_top.specs.declared.statuses.Status.TheVariants as status
use Rattle.qz_serve.specs.Serves.{EndsAs, GaveUp}
use Rattle.qz_serve.specs.declared.served.Served.{Served}

-- Both stores were opened, and the call's nodes added entries to them, or for them. The disks came back.
pub record HeadlineOfNodes {D : Type 0} (g : Ghosts D) (triggers states : D) (s : Served D) : Type 0 where
  pub triggers_end : D
  pub states_end : D
  pub disks : s.disks ≡ Some (triggers_end, states_end)
  pub work : HeadlineOfWork g triggers states triggers_end states_end

-- No stores were opened for nodes to work on, and the disks were read at most. The trigger store is old, or a store wasn't opened:
-- on disks of the premise one of them failed or memory ran out then.
pub record HadNoStores {D : Type 0} (g : Ghosts D) (triggers states : D) (s : Served D) : Type 0 where
  pub ended : Ended D g
  pub ends : EndsAs ended s
  pub why : OpenedNone triggers states ended ⊎ (OnlyLooked triggers states ended × (ended.status ≡ status.OldStore))

-- Where memory ran out for a lock row or a board, the disks were given up with the stores, and of them nothing is said.
abbrev pub HeadlineOfServe : {D : Type 0} → Ghosts D → Result Serving WordFault → D → D → Served D → Outside → Outside → Type 0
HeadlineOfServe g (Ok p) triggers states s old new = HeadlineOfNodes g triggers states s ⊎ HadNoStores g triggers states s ⊎ GaveUp g s old new
HeadlineOfServe g (Err fault) triggers states s old new = s.disks ≡ Some (triggers, states)
