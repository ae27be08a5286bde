-- What becomes of both stores from one moment of a call to another.
use Rattle.std.specs.Prelude.{◌≡◌, Option, Some, None}
use Rattle.qz_disk.specs.declared.disk.Disk.{Ghosts}
use Rattle.qz_run.specs.declared.commands.Declined.{Declined}
use Rattle.qz_run.specs.declared.commands.Declined.TheVariants as why
use Rattle.qz_run_stores.specs.Going.{StatesWent}
use Rattle.qz_shared_stores.specs.Going.{TriggersWentOn}
use Rattle.qz_serve.specs.declared.both_stores.BothStores.{BothStores}
use Rattle.qz_serve.specs.Courses.{AreBothOpen, OneIsClosed}
use Rattle.qz_serve.specs.Going.{triggers_of, states_of, state_of_both}
use Rattle.qz_serve.specs.Limits.{StoresGrew}

module _ {D : Type 0} {g : Ghosts D} where
  -- Both stores went on by further entries alone: what they were opened on is as it was, and one that was closed had its disk fail.
  pub record Kept (s t : BothStores D g) : Type 0 where
    pub triggers : ∥ TriggersWentOn (triggers_of s) (triggers_of t) ∥₁
    pub states : ∥ StatesWent (states_of s) (states_of t) ∥₁
    pub grew : StoresGrew (state_of_both s) (state_of_both t)

  -- A part of the work came to its end, or to an early one: both stores are open where it didn't end early, and one is closed
  -- after a fault.
  pub record Proceeds (cause : Option Declined) (s t : BothStores D g) : Type 0 where
    pub kept : Kept s t
    pub stays : cause ≡ None → AreBothOpen (state_of_both t)
    pub fault : cause ≡ Some why.Fault → OneIsClosed (state_of_both t)
