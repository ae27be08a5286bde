-- What both stores keep while a call works on them.
use Rattle.std.specs.Prelude.{⊤, ◌≡◌, ℕ, ℤ, List, Result, Ok, Err, IfErr, OnOk}
use Rattle.qz_disk.specs.declared.disk.Disk.{Ghosts}
use Rattle.qz_trigger_store.specs.declared.stores.TriggerStore.{TriggerStore}
use Rattle.qz_checkin.specs.declared.stores.StateStore.{StateStore}
use Rattle.qz_cluster.specs.Steps.{ClusterState}
use Rattle.qz_run.specs.declared.commands.Declined.{Declined}
use Rattle.qz_run.specs.declared.commands.Declined.TheVariants as why
use Rattle.qz_run_stores.specs.Going.{StatesWent}
use Rattle.qz_shared_stores.specs.Going.{TriggersWentOn}
use Rattle.qz_top.specs.NodeRuns.{both}
use Rattle.qz_serve.specs.declared.both_stores.BothStores.{BothStores}
use Rattle.qz_serve.specs.Courses.{AreBothOpen, OneIsClosed}
use Rattle.qz_serve.specs.Declining.{AtLimit}
use Rattle.qz_serve.specs.Limits.{StoresGrew, WasDeclined}
use Rattle.qz_serve.specs.Ours.{CameAndWent}

-- whether it went well, whatever it gave
abbrev pub unit_of : {A E : Type 0} → Result A E → Result ⊤ E
unit_of (Ok _) = Ok tt
unit_of (Err e) = Err e

module _ {D : Type 0} {g : Ghosts D} where
  -- the stores themselves
  abbrev pub triggers_of : BothStores D g → TriggerStore D g
  triggers_of s = s.triggers.store

  abbrev pub states_of : BothStores D g → StateStore D g
  states_of s = s.states.store

  -- both at this moment
  abbrev pub state_of_both : BothStores D g → ClusterState
  state_of_both s = both s.triggers.store s.states.store

  -- What they have kept since any earlier moment they keep still.
  pub record KeepOn (s t : BothStores D g) : Type 0 where
    pub triggers : (first : TriggerStore D g) → TriggersWentOn first (triggers_of s) → TriggersWentOn first (triggers_of t)
    pub states : (first : StateStore D g) → StatesWent first (states_of s) → StatesWent first (states_of t)

  -- Some of the call's nodes came and went, and this came of it: a store that is open stays so unless the disk fails. At a limit or a
  -- full journal a store declined what one of them asked.
  pub record Moves (shows : ℤ → Type 0) (names : List (List ℕ)) (result : Result ⊤ Declined) (s t : BothStores D g) : Type 0 where
    pub moved : CameAndWent shows names (state_of_both s) (state_of_both t)
    pub keeps : KeepOn s t
    pub stays : AreBothOpen (state_of_both s) → OnOk result (AreBothOpen (state_of_both t))
    pub fault : result ≡ Err why.Fault → OneIsClosed (state_of_both t)
    pub grew : StoresGrew (state_of_both s) (state_of_both t)
    pub declined : (until : ℤ) → IfErr result (AtLimit (WasDeclined shows until names (state_of_both s) (state_of_both t)))
