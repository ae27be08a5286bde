-- What one round of a check-in thread comes to.
use Rattle.std.specs.Prelude.{⊤, ◌≡◌, ◌⊎◌, ◌≤ℤ◌, ℕ, ℤ, pos, ◌+ℤ◌, List, Bool, true, false, int_le, ◌||◌, Option, Some, None, Ok, Err, MatchBool, MatchResult}
use Rattle.std.specs.declared.result.Result.{Result}
use Rattle.qz_types.specs.Rows.{MemberData}
use Rattle.qz_types.specs.Entries.{EntryData, StateEntryData}
use Rattle.qz_types.specs.declared.errors.SubmitError.{SubmitError}
use Rattle.qz_types.specs.declared.errors.SubmitError.TheVariants as submit
use Rattle.qz_types.specs.declared.replies.Reply.{Reply}
use Rattle.qz_stores.specs.Stores.{EntryKind, StoreState}
use Rattle.qz_checkin.specs.Rows.{StateTables}
use Rattle.qz_shared.specs.Calls.{Known, Called}
use Rattle.qz_rounds.specs.Declining.{goes_on_after}
use Rattle.qz_rounds.specs.Looking.{check_in_by}
use Rattle.qz_rounds.specs.Recovering.{LooksAndRecovers}

-- A round is due at this reading: at the first one, 7500 ms after that of the last round, and once the end has come.
abbrev pub is_round_due : Option ℤ → ℤ → ℤ → Bool
is_round_due None at until = true
is_round_due (Some last) at until = int_le until at || int_le (last +ℤ pos 7500) at

-- the error alone
abbrev pub without_reply : {A : Type 0} → Result A SubmitError → Result ⊤ SubmitError
without_reply (Ok _) = Ok tt
without_reply (Err error) = Err error

module _ {H : Type 0} (kind : EntryKind H StateEntryData ⊤) (listed : H → List StateEntryData) (opened : StoreState H StateEntryData) where
  -- A node submits a check-in, unless there is no memory for its name.
  abbrev pub ChecksIn : StateEntryData → Result ⊤ SubmitError → Known StateEntryData → Known StateEntryData → Type 0
  ChecksIn e result s t = ((result ≡ Err submit.NoMemory) × (t ≡ s)) ⊎ Called kind listed opened e result s t

  module _ {G : Type 0} (trigger_kind : EntryKind G EntryData Reply) (trigger_listed : G → List EntryData) (trigger_opened : StoreState G EntryData) where
    -- A member that has checked in looks once for a late node, and recovers it. The reply isn't told.
    pub record LooksOnce (leaves : List StateEntryData → StateTables → Type 0) (before : ℤ) (at : ℤ) (me : MemberData) (trigger_seat state_seat : ℕ) (result : Result ⊤ SubmitError) (s t : Known EntryData) (u v : Known StateEntryData) : Type 0 where
      pub answer : Result (Option Reply) SubmitError
      pub looks : LooksAndRecovers kind listed opened trigger_kind trigger_listed trigger_opened leaves (Some before) at me trigger_seat state_seat answer s t u v
      pub result_is : result ≡ without_reply answer

    -- After its check-in it looks, but not in its first round: it can't tell how long it stood still before that.
    abbrev pub LooksIfLater : (List StateEntryData → StateTables → Type 0) → Option ℤ → ℤ → MemberData → ℕ → ℕ → Result ⊤ SubmitError
        → Known EntryData → Known EntryData → Known StateEntryData → Known StateEntryData → Type 0
    LooksIfLater leaves None at me trigger_seat state_seat result s t u v = (result ≡ Ok tt) × (t ≡ s) × (v ≡ u)
    LooksIfLater leaves (Some before) at me trigger_seat state_seat result s t u v = LooksOnce leaves before at me trigger_seat state_seat result s t u v

    -- A member checks in, and where that was accepted looks once, both at this reading. `before` is that of its last round.
    pub record MakesRound (leaves : List StateEntryData → StateTables → Type 0) (before : Option ℤ) (at : ℤ) (me : MemberData) (trigger_seat state_seat : ℕ) (result : Result ⊤ SubmitError) (s t : Known EntryData) (u v : Known StateEntryData) : Type 0 where
      pub answer : Result ⊤ SubmitError
      pub checked_in : Known StateEntryData
      pub checks_in : ChecksIn (check_in_by at state_seat me.node) answer u checked_in
      pub goes_on : MatchResult answer
          (λ _. LooksIfLater leaves before at me trigger_seat state_seat result s t checked_in v)
          (λ error. (result ≡ Err error) × (t ≡ s) × (v ≡ checked_in))

    -- A thread made a round at this reading, whose answer lets it go on.
    pub record MadeRound (leaves : List StateEntryData → StateTables → Type 0) (before : Option ℤ) (at : ℤ) (me : MemberData) (trigger_seat state_seat : ℕ) (s t : Known EntryData) (u v : Known StateEntryData) : Type 0 where
      pub answer : Result ⊤ SubmitError
      pub makes : MakesRound leaves before at me trigger_seat state_seat answer s t u v
      pub goes_on : goes_on_after answer ≡ Ok tt

    -- What a thread made of one reading that its clock shows, where it goes on: a round where one is due, of which it keeps the reading,
    -- and else nothing. `ended` says whether this was its last round.
    pub record ReadOnce (shows : ℤ → Type 0) (until : ℤ) (leaves : List StateEntryData → StateTables → Type 0) (me : MemberData) (trigger_seat state_seat : ℕ) (before now : Option ℤ) (ended : Bool) (s t : Known EntryData) (u v : Known StateEntryData) : Type 0 where
      pub at : ℤ
      pub shown : shows at
      pub does : MatchBool (is_round_due before at until)
          ((now ≡ Some at) × (ended ≡ int_le until at) × MadeRound leaves before at me trigger_seat state_seat s t u v)
          ((now ≡ before) × (ended ≡ false) × (t ≡ s) × (v ≡ u))

    -- The last round of a thread, by what its two seats know after it: it was made at a reading that the clock shows and that isn't
    -- before the thread's end, and its answer lets the thread go on.
    pub record MadeLastRound (shows : ℤ → Type 0) (until : ℤ) (leaves : List StateEntryData → StateTables → Type 0) (me : MemberData) (trigger_seat state_seat : ℕ) (t : Known EntryData) (v : Known StateEntryData) : Type 0 where
      pub at : ℤ
      pub shown : shows at
      pub late : until ≤ℤ at
      pub trigger : Known EntryData
      pub state : Known StateEntryData
      pub before : Option ℤ
      pub made : MadeRound leaves before at me trigger_seat state_seat trigger t state v
