-- Why a thread stops after a round, and what has been seen where it doesn't.
use Rattle.std.proofs.Common.{◌≡◌, ℕ, ℤ, List, [], ◌∷◌, ◌++◌, Bool, true, false, ◌⊎◌, inl, inr, refl, sym, ap, ◌∙◌, subst}
use Rattle.std.specs.Prelude.{⊤, Option, Some, None, IfSome, Ok, Err, MatchBool, MatchOption, MatchResult}
use Rattle.std.specs.declared.result.Result.{Result}
use Rattle.qz_types.specs.Rows.{EvidenceData, MemberData}
use Rattle.qz_types.specs.Entries.{EntryData, StateEntryData}
use Rattle.qz_types.specs.declared.errors.SubmitError.{SubmitError}
use Rattle.qz_types.specs.declared.errors.SubmitError.TheVariants as submit
use Rattle.qz_types.specs.declared.replies.Refusal.{Refusal}
use Rattle.qz_types.specs.declared.replies.Refusal.TheVariants.{RowsFull}
use Rattle.qz_types.specs.declared.replies.Reply.{Reply}
use Rattle.qz_types.specs.declared.states.StateCommand.TheVariants.{CheckIn}
use Rattle.qz_run.specs.declared.commands.Declined.{Declined}
use Rattle.qz_run.specs.declared.stores.TheConstants.{CHECK_IN_INTERVAL}
use Rattle.qz_stores.specs.Stores.{EntryKind, StoreState}
use Rattle.qz_checkin.specs.Rows.{StateTables}
use Rattle.qz_shared.specs.Since.{history_at}
use Rattle.qz_shared.specs.Calls.{Known, Called}
use Rattle.qz_rounds.specs.Looking.{HasCheckedIn, HasCheckedInAgain, FindsLate, found_in, check_in_by}
use Rattle.qz_rounds.specs.Adding.{IsRecovery, IsRoundEntry, AddsRounds}
use Rattle.qz_rounds.specs.Declining.{declined_of, stopped_by, goes_on_after, IsCause, IsStopped}
use Rattle.qz_rounds.specs.Recovering.{SubmitsNone, Forgets, Recovers, Decides, LooksAndRecovers, is_gone, told, unless_broken, recover_by, forget_by}
use Rattle.qz_rounds.specs.Rounds.{ChecksIn, LooksIfLater, MakesRound, without_reply}
use Rattle.qz_rounds.proofs.Lists.{prefix_refl}
use Rattle.qz_rounds.proofs.Seen.{sees_on, cause_of}
use Rattle.qz_rounds.proofs.Lasting.{checked_on, has_checked_in, finds_on}
use Rattle.qz_rounds.proofs.Keeping.{checks_keep, finds, checked_in_on, has_checked_in_since, later_keep}

error_of : (error : SubmitError) (why : Declined) (o : Option Declined) → declined_of error ≡ o → stopped_by o ≡ Err why → declined_of error ≡ Some why
error_of error why None is stop = absurd cc
error_of error why (Some other) is stop = cc

-- a thread stops at an error alone
pub stops_at : (r : Result ⊤ SubmitError) (why : Declined) → goes_on_after r ≡ Err why → (error : SubmitError) × (r ≡ Err error) × (declined_of error ≡ Some why)
stops_at (Ok x) why stop = absurd cc
stops_at (Err error) why stop = (error, refl, error_of error why (declined_of error) refl stop)

told_error : (answer : Result Reply SubmitError) (error : SubmitError) → told answer ≡ Err error → answer ≡ Err error
told_error (Ok reply) error is = absurd cc
told_error (Err other) error is = cc

reply_error : (answer : Result (Option Reply) SubmitError) (error : SubmitError) → without_reply answer ≡ Err error → answer ≡ Err error
reply_error (Ok reply) error is = absurd cc
reply_error (Err other) error is = cc

module _ {H G : Type 0} (kind : EntryKind H StateEntryData ⊤) (listed : H → List StateEntryData) (opened : StoreState H StateEntryData)
    (trigger_kind : EntryKind G EntryData Reply) (trigger_listed : G → List EntryData) (trigger_opened : StoreState G EntryData)
    (lists : (e : StateEntryData) (h : H) → listed (kind.with_entry e h) ≡ listed h ++ e ∷ [])
    (trigger_lists : (e : EntryData) (h : G) → trigger_listed (trigger_kind.with_entry e h) ≡ trigger_listed h ++ e ∷ [])
    (shows : ℤ → Type 0) (leaves : List StateEntryData → StateTables → Type 0)
    (at : ℤ) (shown : shows at) (me : MemberData) (trigger_seat state_seat : ℕ) where
  abbrev first : List StateEntryData
  first = listed opened.history

  -- the error was answered to a recovery, or to an entry of the state store
  abbrev TriggerStops : Known EntryData → Known StateEntryData → SubmitError → Type 0
  TriggerStops t v error = (e : EntryData) × IsRecovery shows leaves first me v.seen e × IsCause trigger_kind trigger_listed trigger_opened e t error

  abbrev StateStops : Known StateEntryData → SubmitError → Type 0
  StateStops v error = (e : StateEntryData) × IsRoundEntry shows leaves first me.node v.seen e × IsCause kind listed opened e v error

  abbrev Stops : Known EntryData → Known StateEntryData → SubmitError → Type 0
  Stops t v error = TriggerStops t v error ⊎ StateStops v error

  abbrev checking : StateEntryData
  checking = check_in_by at state_seat me.node

  is_checking : (seen : List StateEntryData) → IsRoundEntry shows leaves first me.node seen checking
  is_checking seen = record { shown = shown; command = (refl, refl) }

  starved : (error : SubmitError) (t : Known EntryData) (v : Known StateEntryData) → submit.NoMemory ≡ error → Stops t v error
  starved error t v is = inr (checking, is_checking v.seen, subst (λ x. IsCause kind listed opened checking v x) is tt)

  -- an error of the entry by which a row is forgotten, or of the Recover before it
  broken : (e : StateEntryData) (forgot : Result ⊤ SubmitError) (answer result : Result (Option Reply) SubmitError) (t : Known EntryData) (u v : Known StateEntryData) (error : SubmitError)
      → Called kind listed opened e forgot u v → IsRoundEntry shows leaves first me.node v.seen e → result ≡ unless_broken forgot answer → result ≡ Err error
      → (answer ≡ Err error → Stops t v error) → Stops t v error
  broken e (Ok x) answer result t u v error c is result_is err before = before (sym result_is ∙ err)
  broken e (Err (submit.Refused refusal)) answer result t u v error c is result_is err before = before (sym result_is ∙ err)
  broken e (Err (submit.Closed gate)) answer result t u v error c is result_is err before = inr (e, is, cause_of kind listed lists opened e (Err (submit.Closed gate)) error u v (cc) c)
  broken e (Err (submit.JournalFull need room)) answer result t u v error c is result_is err before = inr (e, is, cause_of kind listed lists opened e (Err (submit.JournalFull need room)) error u v (cc) c)
  broken e (Err submit.NoMemory) answer result t u v error c is result_is err before = inr (e, is, cause_of kind listed lists opened e (Err submit.NoMemory) error u v (cc) c)
  broken e (Err submit.Fault) answer result t u v error c is result_is err before = inr (e, is, cause_of kind listed lists opened e (Err submit.Fault) error u v (cc) c)

  recovers_stops : (found : EvidenceData) (gone : Bool) (answer : Result Reply SubmitError) (result : Result (Option Reply) SubmitError) (s t : Known EntryData) (u v : Known StateEntryData) (error : SubmitError)
      → FindsLate leaves first me.node at u.seen found
      → Called trigger_kind trigger_listed trigger_opened (recover_by at trigger_seat me found.node) answer s t
      → MatchBool gone (Forgets kind listed opened (forget_by at state_seat found.node found.last) (told answer) result u v) ((result ≡ told answer) × (v ≡ u))
      → result ≡ Err error → Stops t v error
  recovers_stops found true answer result s t u v error late c f err =
      let e : StateEntryData = forget_by at state_seat found.node found.last in
      let r : EntryData = recover_by at trigger_seat me found.node in
      let p = sees_on kind listed lists opened e f.forgot u v f.called in
      let on = finds_on shows leaves first me.node at u.seen v.seen found p late in
      broken e f.forgot (told answer) result t u v error f.called (record { shown = shown; command = (found, refl, refl, on) }) f.result_is err
      (λ is. inl (r, record { found = found; actor = refl; command = refl; shown = shown; late = on }, cause_of trigger_kind trigger_listed trigger_lists trigger_opened r answer error s t (told_error answer error is) c))
  recovers_stops found false answer result s t u v error late c f err =
      let r : EntryData = recover_by at trigger_seat me found.node in
      subst (λ k. Stops t k error) (sym f.1)
      (inl (r, record { found = found; actor = refl; command = refl; shown = shown; late = late }, cause_of trigger_kind trigger_listed trigger_lists trigger_opened r answer error s t (told_error answer error (sym f.0 ∙ err)) c))

  -- the node checked in at the reading of the round before, and again at this one
  abbrev CheckedIn : ℤ → List StateEntryData → Type 0
  CheckedIn before seen = HasCheckedIn first me.node at seen × HasCheckedInAgain first me.node before at seen

  decides_stops : (before : ℤ) (result : Result (Option Reply) SubmitError) (s t : Known EntryData) (u v : Known StateEntryData) (T : StateTables) (late : Option EvidenceData) (error : SubmitError)
      → CheckedIn before u.seen → leaves u.seen T → found_in (Some before) T at me.node ≡ late
      → MatchOption late (SubmitsNone (Ok None) result s t u v) (λ found. Recovers kind listed opened trigger_kind trigger_listed trigger_opened (recover_by at trigger_seat me found.node) (forget_by at state_seat found.node found.last) result s t u v)
      → result ≡ Err error → Stops t v error
  decides_stops before result s t u v T None error checked rows is n err = let none = n.result_is in absurd cc
  decides_stops before result s t u v T (Some found) error checked rows is r err =
      recovers_stops found (is_gone r.answer) r.answer result s t u v error (finds kind listed opened trigger_kind trigger_listed trigger_opened lists trigger_lists shows leaves at shown me trigger_seat state_seat before u.seen T found checked rows is) r.called r.follows err

  does_stop : (before : ℤ) (result : Result (Option Reply) SubmitError) (s t : Known EntryData) (u v : Known StateEntryData) (error : SubmitError) → CheckedIn before u.seen
      → SubmitsNone (Err submit.NoMemory) result s t u v ⊎ Decides kind listed opened trigger_kind trigger_listed trigger_opened leaves (Some before) at me trigger_seat state_seat result s t u v
      → result ≡ Err error → Stops t v error
  does_stop before result s t u v error checked (inl n) err = let none = n.result_is in starved error t v cc
  does_stop before result s t u v error checked (inr d) err = decides_stops before result s t u v d.tables (found_in (Some before) d.tables at me.node) error checked d.rows refl d.does err

  looks_stop : (before : ℤ) (result : Result (Option Reply) SubmitError) (s t : Known EntryData) (u v : Known StateEntryData) (error : SubmitError) → CheckedIn before u.seen
      → LooksAndRecovers kind listed opened trigger_kind trigger_listed trigger_opened leaves (Some before) at me trigger_seat state_seat result s t u v → result ≡ Err error → Stops t v error
  looks_stop before result s t u v error checked l err =
      does_stop before result s t l.looked v error (checked_in_on kind listed opened trigger_kind trigger_listed trigger_opened lists trigger_lists shows leaves at shown me trigger_seat state_seat before u.seen l.looked.seen l.looks.begins checked) l.does err

  later_stops : (before : Option ℤ) (result : Result ⊤ SubmitError) (s t : Known EntryData) (u v : Known StateEntryData) (error : SubmitError) → IfSome before (λ b. CheckedIn b u.seen)
      → LooksIfLater kind listed opened trigger_kind trigger_listed trigger_opened leaves before at me trigger_seat state_seat result s t u v → result ≡ Err error → Stops t v error
  later_stops None result s t u v error checked l err = let none = l.0 in absurd cc
  later_stops (Some before) result s t u v error checked l err = looks_stop before l.answer s t u v error checked l.looks (reply_error l.answer error (sym l.result_is ∙ err))

  checks_stop : (r : Result ⊤ SubmitError) (t : Known EntryData) (u v : Known StateEntryData) (error : SubmitError) → ChecksIn kind listed opened checking r u v → r ≡ Err error → Stops t v error
  checks_stop r t u v error (inl n) err = let none = n.0 in starved error t v cc
  checks_stop r t u v error (inr c) err = inr (checking, is_checking v.seen, cause_of kind listed lists opened checking r error u v err c)

  goes_stop : (before : Option ℤ) (r result : Result ⊤ SubmitError) (s t : Known EntryData) (u k v : Known StateEntryData) (error : SubmitError) → IfSome before (λ b. HasCheckedIn first me.node b u.seen)
      → ChecksIn kind listed opened checking r u k
      → MatchResult r
      (λ _. LooksIfLater kind listed opened trigger_kind trigger_listed trigger_opened leaves before at me trigger_seat state_seat result s t k v)
      (λ error. (result ≡ Err error) × (t ≡ s) × (v ≡ k))
      → result ≡ Err error → Stops t v error
  goes_stop before (Ok x) result s t u k v error h c l err = later_stops before result s t k v error (has_checked_in_since kind listed opened trigger_kind trigger_listed trigger_opened lists trigger_lists shows leaves at shown me trigger_seat state_seat before x u k h c) l err
  goes_stop before (Err other) result s t u k v error h c l err = subst (λ w. Stops t w error) (sym l.2) (checks_stop (Err other) t u k error c (sym l.0 ∙ err))

  is_stopped : (error : SubmitError) (why : Declined) (t : Known EntryData) (v : Known StateEntryData) → declined_of error ≡ Some why → Stops t v error
      → IsStopped trigger_kind trigger_listed trigger_opened (IsRecovery shows leaves first me v.seen) t why ⊎ IsStopped kind listed opened (IsRoundEntry shows leaves first me.node v.seen) v why
  is_stopped error why t v reason (inl s) = inl (record { entry = s.0; error = error; is_one = s.1; cause = s.2; reason = reason })
  is_stopped error why t v reason (inr s) = inr (record { entry = s.0; error = error; is_one = s.1; cause = s.2; reason = reason })

  -- A thread stops after a round only where an entry of it was declined.
  pub round_stops : (before : Option ℤ) (result : Result ⊤ SubmitError) (why : Declined) (s t : Known EntryData) (u v : Known StateEntryData) → IfSome before (λ b. HasCheckedIn first me.node b u.seen)
      → MakesRound kind listed opened trigger_kind trigger_listed trigger_opened leaves before at me trigger_seat state_seat result s t u v → goes_on_after result ≡ Err why
      → IsStopped trigger_kind trigger_listed trigger_opened (IsRecovery shows leaves first me v.seen) t why ⊎ IsStopped kind listed opened (IsRoundEntry shows leaves first me.node v.seen) v why
  round_stops before result why s t u v h m stop =
      let err = stops_at result why stop in
      is_stopped err.0 why t v err.2 (goes_stop before m.answer result s t u m.checked_in v err.0 h m.checks_in m.goes_on err.1)

  module _ (refused : (h : H) (e : StateEntryData) (node : List ℕ) (interval : ℤ) (refusal : Refusal) → e.command ≡ CheckIn node interval → kind.answer h e ≡ Err refusal → refusal ≡ RowsFull) where
    -- A thread doesn't go on where its check-in wasn't accepted.
    unaccepted : (error : SubmitError) (u k : Known StateEntryData) → ChecksIn kind listed opened checking (Err error) u k → goes_on_after {A = ⊤} (Err error) ≡ Ok tt → ⊥
    unaccepted (submit.Refused refusal) u k (inl n) on = let is = n.0 in cc
    unaccepted (submit.Refused refusal) u k (inr c) on =
        let full = refused (history_at kind listed opened k.seen) checking me.node CHECK_IN_INTERVAL refusal refl (cause_of kind listed lists opened checking (Err (submit.Refused refusal)) (submit.Refused refusal) u k refl c) in
        let stops : goes_on_after {A = ⊤} (Err (submit.Refused RowsFull)) ≡ Ok tt = subst (λ x. goes_on_after {A = ⊤} (Err (submit.Refused x)) ≡ Ok tt) full on in
        cc
    unaccepted (submit.Closed gate) u k c on = cc
    unaccepted (submit.JournalFull need room) u k c on = cc
    unaccepted submit.NoMemory u k c on = cc
    unaccepted submit.Fault u k c on = cc

    goes_end : (before : Option ℤ) (r result : Result ⊤ SubmitError) (s t : Known EntryData) (u k v : Known StateEntryData) → IfSome before (λ b. HasCheckedIn first me.node b u.seen)
        → ChecksIn kind listed opened checking r u k
        → MatchResult r
        (λ _. LooksIfLater kind listed opened trigger_kind trigger_listed trigger_opened leaves before at me trigger_seat state_seat result s t k v)
        (λ error. (result ≡ Err error) × (t ≡ s) × (v ≡ k))
        → AddsRounds shows leaves first me s k → goes_on_after result ≡ Ok tt → HasCheckedIn first me.node at v.seen
    goes_end before (Ok x) result s t u k v h c l a on =
        let checked = has_checked_in kind listed opened lists at me.node state_seat x u k c in
        checked_on first me.node at k.seen v.seen (later_keep kind listed opened trigger_kind trigger_listed trigger_opened lists trigger_lists shows leaves at shown me trigger_seat state_seat before result s t k v (has_checked_in_since kind listed opened trigger_kind trigger_listed trigger_opened lists trigger_lists shows leaves at shown me trigger_seat state_seat before x u k h c) l a).1 checked
    goes_end before (Err error) result s t u k v h c l a on = absurd (unaccepted error u k c (sym (ap (λ r. goes_on_after {A = ⊤} r) l.0) ∙ on))

    -- Where it goes on, its check-in has been seen.
    pub round_checks : (before : Option ℤ) (result : Result ⊤ SubmitError) (s t : Known EntryData) (u v : Known StateEntryData) → IfSome before (λ b. HasCheckedIn first me.node b u.seen)
        → MakesRound kind listed opened trigger_kind trigger_listed trigger_opened leaves before at me trigger_seat state_seat result s t u v
        → AddsRounds shows leaves first me s u → goes_on_after result ≡ Ok tt → HasCheckedIn first me.node at v.seen
    round_checks before result s t u v h m a on = goes_end before m.answer result s t u m.checked_in v h m.checks_in m.goes_on
        (checks_keep kind listed opened trigger_kind trigger_listed trigger_opened lists trigger_lists shows leaves at shown me trigger_seat state_seat m.answer s u m.checked_in m.checks_in a) on
