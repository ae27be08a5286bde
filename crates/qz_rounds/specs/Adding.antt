-- Which entries the check-in thread of a member adds. `shows` says which readings its clock shows, `leaves` which rows a
-- list of state entries leaves; `first` are the entries of the opened state store, and `seen` all that the thread has seen
-- of it.
use Rattle.std.specs.Prelude.{◌≡◌, ℕ, ℤ, List}
use Rattle.std.specs.List.{AllByRecursion}
use Rattle.qz_types.specs.Rows.{EvidenceData, MemberData}
use Rattle.qz_types.specs.Entries.{EntryData, StateEntryData}
use Rattle.qz_types.specs.declared.commands.Actor.TheVariants.{Node}
use Rattle.qz_types.specs.declared.commands.Command.TheVariants.{Recover}
use Rattle.qz_types.specs.declared.states.StateCommand.{StateCommand}
use Rattle.qz_types.specs.declared.states.StateCommand.TheVariants.{CheckIn, Forget}
use Rattle.qz_checkin.specs.Rows.{StateTables}
use Rattle.qz_run.specs.declared.stores.TheConstants.{CHECK_IN_INTERVAL}
use Rattle.qz_shared.specs.Calls.{Known}
use Rattle.qz_rounds.specs.Looking.{FindsLate}

module _ (shows : ℤ → Type 0) (leaves : List StateEntryData → StateTables → Type 0) (first : List StateEntryData) where
  -- To the trigger store: the member recovers a node that it found late at this reading.
  pub record IsRecovery (me : MemberData) (seen : List StateEntryData) (e : EntryData) : Type 0 where
    pub found : EvidenceData
    pub actor : e.actor ≡ Node me
    pub command : e.command ≡ Recover found.node
    pub shown : shows e.at
    pub late : FindsLate leaves first me.node e.at seen found

  -- the node checks in, or forgets one that it found late, by the evidence that it had
  abbrev pub IsOfRound : List ℕ → List StateEntryData → ℤ → StateCommand → Type 0
  IsOfRound own seen at (CheckIn node interval) = (node ≡ own) × (interval ≡ CHECK_IN_INTERVAL)
  IsOfRound own seen at (Forget node last) = (found : EvidenceData) × (node ≡ found.node) × (last ≡ found.last) × FindsLate leaves first own at seen found

  -- To the state store: the node checks in, or forgets one.
  pub record IsRoundEntry (own : List ℕ) (seen : List StateEntryData) (e : StateEntryData) : Type 0 where
    pub shown : shows e.at
    pub command : IsOfRound own seen e.at e.command

  -- All that a thread added is such, by what its two seats know.
  pub record AddsRounds (me : MemberData) (trigger : Known EntryData) (state : Known StateEntryData) : Type 0 where
    pub recoveries : AllByRecursion (IsRecovery me state.seen) trigger.mine
    pub entries : AllByRecursion (IsRoundEntry me.node state.seen) state.mine
