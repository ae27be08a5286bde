-- Why a node's thread stops.
use Rattle.std.specs.Prelude.{⊤, ◌≡◌, true, List, Option, Some, None, IsOk, Ok, Err}
use Rattle.std.specs.declared.result.Result.{Result}
use Rattle.qz_types.specs.declared.errors.SubmitError.{SubmitError}
use Rattle.qz_types.specs.declared.errors.SubmitError.TheVariants as submit
use Rattle.qz_types.specs.declared.limits.TheConstants.{STATE_LIMIT}
use Rattle.qz_types.specs.declared.replies.Refusal.TheVariants as refusal
use Rattle.qz_journal.specs.Commits.{IsFull}
use Rattle.qz_stores.specs.Stores.{EntryKind, StoreState}
use Rattle.qz_run.specs.declared.commands.Declined.{Declined}
use Rattle.qz_run.specs.declared.commands.Declined.TheVariants as declined
use Rattle.qz_shared.specs.Calls.{Known}
use Rattle.qz_shared.specs.Since.{history_at, gate_at, payloads_at}

-- what a thread is told of a store's error; none of a refusal that ends nothing
abbrev pub declined_of : SubmitError → Option Declined
declined_of (submit.Refused (refusal.TooMany count)) = Some (declined.TooMany count)
declined_of (submit.Refused refusal.RowsFull) = Some (declined.TooMany STATE_LIMIT)
declined_of (submit.Refused (refusal.Fenced live)) = Some declined.Fenced
declined_of (submit.Refused other) = None
declined_of (submit.JournalFull need room) = Some (declined.JournalFull need room)
declined_of submit.NoMemory = Some declined.NoMemory
declined_of submit.Fault = Some declined.Fault
declined_of (submit.Closed at) = Some declined.Fault

-- a thread goes on where there is no reason to stop
abbrev pub stopped_by : Option Declined → Result ⊤ Declined
stopped_by None = Ok tt
stopped_by (Some why) = Err why

-- whether a thread goes on after this answer, or why it stops
abbrev pub goes_on_after : {A : Type 0} → Result A SubmitError → Result ⊤ Declined
goes_on_after (Ok _) = Ok tt
goes_on_after (Err error) = stopped_by (declined_of error)

module _ {H E R : Type 0} (kind : EntryKind H E R) (listed : H → List E) (opened : StoreState H E) where
  -- Why an error was answered to an entry, by a seat that knows this afterwards: the entry is refused at all that was seen, or
  -- finds no room after it, or the store is closed. Want of memory has no such cause.
  abbrev pub IsCause : E → Known E → SubmitError → Type 0
  IsCause e s (submit.Refused x) = kind.answer (history_at kind listed opened s.seen) e ≡ Err x
  IsCause e s (submit.JournalFull need room) = IsOk (kind.answer (history_at kind listed opened s.seen) e)
      × IsFull (gate_at kind listed opened s.seen) (payloads_at listed opened s.seen) (kind.size e) need room
  IsCause e s submit.NoMemory = ⊤
  IsCause e s submit.Fault = s.shut ≡ true
  IsCause e s (submit.Closed at) = s.shut ≡ true

  -- A thread stopped for this reason at an error that was answered to one of these entries.
  pub record IsStopped (IsOne : E → Type 0) (s : Known E) (why : Declined) : Type 0 where
    pub entry : E
    pub error : SubmitError
    pub is_one : IsOne entry
    pub cause : IsCause entry s error
    pub reason : declined_of error ≡ Some why
