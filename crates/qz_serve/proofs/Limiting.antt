-- How stores grow in the parts of a call, and what they decline on the way.
use Rattle.std.proofs.Common.{◌≡◌, ◌⊎◌, inl, inr, ℕ, ℤ, List, ◌∷◌, ◌++◌, append_assoc, refl, sym, ap, ◌∙◌, subst}
use Rattle.std.specs.Prelude.{⊤, Contains, Option, Result, Ok, Err, IfErr, IfSome}
use mathlib.Core.List.{IsPrefix}
use Rattle.qz_types.specs.Entries.{EntryData, StateEntryData}
use Rattle.qz_types.specs.Rows.{EvidenceData, MemberData}
use Rattle.qz_types.specs.declared.states.StateCommand.{StateCommand}
use Rattle.qz_types.specs.declared.states.StateCommand.TheVariants.{CheckIn, Forget}
use Rattle.qz_checkin.specs.Entries.{StatesState, of_states}
use Rattle.qz_checkin.specs.History.{replay_states}
use Rattle.qz_checkin.specs.Rows.{StateTables}
use Rattle.qz_cluster.specs.Steps.{ClusterState}
use Rattle.qz_run.specs.declared.commands.Declined.{Declined}
use Rattle.qz_trigger_store.specs.Entries.{trigger_entry}
use Rattle.qz_shared.specs.Since.{further, IsSince}
use Rattle.qz_rounds.specs.Adding.{IsOfRound, IsRecovery}
use Rattle.qz_rounds.specs.Looking.{FindsLate, HasCheckedIn, HasCheckedInAgain, check_in_by}
use Rattle.qz_serve.specs.Courses.{Leaves, row_entries_of}
use Rattle.qz_serve.specs.Declining.{AtLimit, Declines, DeclinedOnTheWay, HasGrown}
use Rattle.qz_serve.specs.Entries.{IsScheduled}
use Rattle.qz_serve.specs.Limits.{IsOfOurs, IsRowOfOurs, StoresGrew, WasDeclined}
use Rattle.qz_serve.specs.Once.{AddsNone, AddsOne}
use Rattle.qz_serve.specs.Ours.{IsCheckIn, IsForget, IsJoin, IsLeave}
use Rattle.qz_serve.proofs.Growing.{declined_now, declined_then, grown_more, grown_none, grown_same, grown_since, grown_then, later_history, limit_map}
use Rattle.qz_serve.proofs.Stopping.{some_map}

-- The stores grew.

pub grew_none : (S : ClusterState) → StoresGrew S S
grew_none S = record { triggers = grown_none trigger_entry (λ h. h.entries) S.triggers; states = grown_none of_states (λ h. h.entries) S.states }

pub grew_then : (S T U : ClusterState) → StoresGrew S T → StoresGrew T U → StoresGrew S U
grew_then S T U one two = record {
  triggers = grown_then trigger_entry (λ h. h.entries) S.triggers T.triggers U.triggers one.triggers two.triggers;
  states = grown_then of_states (λ h. h.entries) S.states T.states U.states one.states two.states;
}

-- by one transaction
pub grew_by_entry : (S T : ClusterState) (e : EntryData) → AddsOne trigger_entry e S.triggers T.triggers ⊎ AddsNone S.triggers T.triggers → T.states ≡ S.states → StoresGrew S T
grew_by_entry S T e adds same = record { triggers = by adds; states = subst (λ (s : StatesState). HasGrown of_states (λ h. h.entries) S.states s) (sym same) (grown_none of_states (λ h. h.entries) S.states) } where
  by : AddsOne trigger_entry e S.triggers T.triggers ⊎ AddsNone S.triggers T.triggers → HasGrown trigger_entry (λ h. h.entries) S.triggers T.triggers
  by (inl more) = grown_more trigger_entry (λ h. h.entries) (λ x h. refl) S.triggers T.triggers e more.history more.gate more.payloads
  by (inr none) = grown_same trigger_entry (λ h. h.entries) S.triggers T.triggers none.history none.gate none.payloads

pub grew_by_row : (S T : ClusterState) (e : StateEntryData) → AddsOne of_states e S.states T.states ⊎ AddsNone S.states T.states → T.triggers ≡ S.triggers → StoresGrew S T
grew_by_row S T e adds same = record { triggers = subst (λ s. HasGrown trigger_entry (λ h. h.entries) S.triggers s) (sym same) (grown_none trigger_entry (λ h. h.entries) S.triggers); states = by adds } where
  by : AddsOne of_states e S.states T.states ⊎ AddsNone S.states T.states → HasGrown of_states (λ h. h.entries) S.states T.states
  by (inl more) = grown_more of_states (λ h. h.entries) (λ x h. refl) S.states T.states e more.history more.gate more.payloads
  by (inr none) = grown_same of_states (λ h. h.entries) S.states T.states none.history none.gate none.payloads

-- while threads worked
pub grew_since : (S T : ClusterState) → IsSince trigger_entry (λ h. h.entries) S.triggers T.triggers → IsSince of_states (λ h. h.entries) S.states T.states → StoresGrew S T
grew_since S T one two = record {
  triggers = grown_since trigger_entry (λ h. h.entries) (λ x h. refl) S.triggers T.triggers one;
  states = grown_since of_states (λ h. h.entries) (λ x h. refl) S.states T.states two;
}

pub grew_alone : (S T : ClusterState) → IsSince trigger_entry (λ h. h.entries) S.triggers T.triggers → T.states ≡ S.states → StoresGrew S T
grew_alone S T one same = record {
  triggers = grown_since trigger_entry (λ h. h.entries) (λ x h. refl) S.triggers T.triggers one;
  states = subst (λ (s : StatesState). HasGrown of_states (λ h. h.entries) S.states s) (sym same) (grown_none of_states (λ h. h.entries) S.states);
}

-- What a node found late after some part of a call, it found late since an earlier moment.
module _ (b s : StatesState) (grown : HasGrown of_states (λ h. h.entries) b s) where
  leaves_before : (es : List StateEntryData) (T : StateTables) → IsPrefix s.history.entries es → Leaves s es T → Leaves b es T
  leaves_before es T begins is = is ∙ ap replay_states (later_history of_states (λ h. h.entries) b s es grown begins)

  checked_before : (own : List ℕ) (at : ℤ) (es : List StateEntryData) → HasCheckedIn s.history.entries own at es → HasCheckedIn b.history.entries own at es
  checked_before own at es c = record {
    before = further (λ h. h.entries) b s.history.entries ++ c.before;
    seat = c.seat;
    later = c.later;
    entries_are = c.entries_are
        ∙ ap (λ l. (l ++ c.before) ++ check_in_by at c.seat own ∷ c.later) grown.entries
        ∙ ap (λ l. l ++ check_in_by at c.seat own ∷ c.later) (append_assoc b.history.entries (further (λ h. h.entries) b s.history.entries) c.before);
  }

  again_before : (own : List ℕ) (before at : ℤ) (es : List StateEntryData) → HasCheckedInAgain s.history.entries own before at es → HasCheckedInAgain b.history.entries own before at es
  again_before own before at es c = record { earlier = c.earlier; seat = c.seat; later = c.later; checked_in = checked_before own before c.earlier c.checked_in; entries_are = c.entries_are }

  has_first : (own : List ℕ) (at : ℤ) (es : List StateEntryData) → HasCheckedIn s.history.entries own at es → IsPrefix s.history.entries es
  has_first own at es c = (c.before ++ check_in_by at c.seat own ∷ c.later, sym (append_assoc s.history.entries c.before (check_in_by at c.seat own ∷ c.later)) ∙ sym c.entries_are)

  late_before : (own : List ℕ) (at : ℤ) (seen : List StateEntryData) (found : EvidenceData) → FindsLate (Leaves s) s.history.entries own at seen found → FindsLate (Leaves b) b.history.entries own at seen found
  late_before own at seen found late = record {
    looked = late.looked;
    tables = late.tables;
    begins = late.begins;
    checked_in = checked_before own at late.looked late.checked_in;
    rows = leaves_before late.looked late.tables (has_first own at late.looked late.checked_in) late.rows;
    found_is = late.found_is;
    before = late.before;
    again = again_before own late.before at late.looked late.again;
    awake = late.awake;
  }

  module _ (shows : ℤ → Type 0) (seen : List StateEntryData) where
    asked_before : (until : ℤ) (me : MemberData) (number : ℕ) (e : EntryData) → IsScheduled shows until me number e ⊎ IsRecovery shows (Leaves s) s.history.entries me seen e → IsScheduled shows until me number e ⊎ IsRecovery shows (Leaves b) b.history.entries me seen e
    asked_before until me number e (inl is) = inl is
    asked_before until me number e (inr is) = inr (record { found = is.found; actor = is.actor; command = is.command; shown = is.shown; late = late_before me.node e.at seen is.found is.late })

    round_before : (own : List ℕ) (at : ℤ) (command : StateCommand) → IsOfRound shows (Leaves s) s.history.entries own seen at command → IsOfRound shows (Leaves b) b.history.entries own seen at command
    round_before own at (CheckIn node interval) is = is
    round_before own at (Forget node last) is = (is.0, is.1, is.2, late_before own at seen is.0 is.3)

-- Among more names.
module _ (shows : ℤ → Type 0) (names more : List (List ℕ)) (within : (name : List ℕ) → Contains names name → Contains more name) where
  pub entry_wider : (e : EntryData) → IsJoin shows names e ⊎ IsLeave shows names e → IsJoin shows more e ⊎ IsLeave shows more e
  entry_wider e (inl join) = inl (record { node = join.node; ours = within join.node join.ours; is = join.is; shown = join.shown })
  entry_wider e (inr leave) = inr (record { me = leave.me; ours = within leave.me.node leave.ours; is = leave.is; shown = leave.shown })

  pub row_wider : (e : StateEntryData) → IsCheckIn shows names e ⊎ IsForget shows names e → IsCheckIn shows more e ⊎ IsForget shows more e
  row_wider e (inl check) = inl (record { node = check.node; ours = within check.node check.ours; is = check.is; shown = check.shown })
  row_wider e (inr forget) = inr (record { node = forget.node; last = forget.last; ours = within forget.node forget.ours; is = forget.is; shown = forget.shown })

-- An entry by which one of the nodes comes or goes is one of theirs.
module _ (shows : ℤ → Type 0) (until : ℤ) (names : List (List ℕ)) (S T : ClusterState) where
  pub coming : (e : EntryData) → IsJoin shows names e ⊎ IsLeave shows names e → IsOfOurs shows until names S T e
  coming e (inl join) = inl join
  coming e (inr leave) = inr (inl leave)

  pub row_coming : (e : StateEntryData) → IsCheckIn shows names e ⊎ IsForget shows names e → IsRowOfOurs shows until names S T e
  row_coming e (inl check) = inl check
  row_coming e (inr forget) = inr (inl forget)

  -- what was declined of one transaction
  pub asked_declined : (e : EntryData) → IsJoin shows names e ⊎ IsLeave shows names e → StoresGrew S T → (w : Declined) → AtLimit (Declines trigger_entry S.triggers e) w → AtLimit (WasDeclined shows until names S T) w
  asked_declined e ours grew w d =
      limit_map (Declines trigger_entry S.triggers e) (WasDeclined shows until names S T)
      (λ v x. record { by = inl (declined_now trigger_entry (λ h. h.entries) (IsOfOurs shows until names S T) S.triggers T.triggers e v (coming e ours) grew.triggers x) }) w d

  pub told_declined : (e : StateEntryData) → IsCheckIn shows names e ⊎ IsForget shows names e → StoresGrew S T → (w : Declined) → AtLimit (Declines of_states S.states e) w → AtLimit (WasDeclined shows until names S T) w
  told_declined e ours grew w d =
      limit_map (Declines of_states S.states e) (WasDeclined shows until names S T)
      (λ v x. record { by = inr (declined_now of_states (λ h. h.entries) (IsRowOfOurs shows until names S T) S.states T.states e v (row_coming e ours) grew.states x) }) w d

module _ (shows : ℤ → Type 0) (until : ℤ) where
  -- A part of the call came before, and more nodes are counted.
  module _ (names more : List (List ℕ)) (within : (name : List ℕ) → Contains names name → Contains more name) (S T U : ClusterState) (grew : StoresGrew S T) where
    ours_before : (e : EntryData) → IsOfOurs shows until names T U e → IsOfOurs shows until more S U e
    ours_before e (inl join) = inl (record { node = join.node; ours = within join.node join.ours; is = join.is; shown = join.shown })
    ours_before e (inr (inl leave)) = inr (inl (record { me = leave.me; ours = within leave.me.node leave.ours; is = leave.is; shown = leave.shown }))
    ours_before e (inr (inr of)) = inr (inr (record { me = of.me; number = of.number; ours = within of.me.node of.ours; asked = asked_before S.states T.states grew.states shows (row_entries_of U) until of.me of.number e of.asked }))

    rows_before : (e : StateEntryData) → IsRowOfOurs shows until names T U e → IsRowOfOurs shows until more S U e
    rows_before e (inl check) = inl (record { node = check.node; ours = within check.node check.ours; is = check.is; shown = check.shown })
    rows_before e (inr (inl forget)) = inr (inl (record { node = forget.node; last = forget.last; ours = within forget.node forget.ours; is = forget.is; shown = forget.shown }))
    rows_before e (inr (inr of)) =
        inr (inr (record { me = of.me; ours = within of.me.node of.ours; asked = record { shown = of.asked.shown; command = round_before S.states T.states grew.states shows (row_entries_of U) of.me.node e.at e.command of.asked.command } }))

    declined_before : (w : Declined) → WasDeclined shows until names T U w → WasDeclined shows until more S U w
    declined_before w d = of d.by where
      of : DeclinedOnTheWay trigger_entry (λ h. h.entries) (IsOfOurs shows until names T U) T.triggers U.triggers w ⊎ DeclinedOnTheWay of_states (λ h. h.entries) (IsRowOfOurs shows until names T U) T.states U.states w → WasDeclined shows until more S U w
      of (inl x) = record { by = inl (declined_then trigger_entry (λ h. h.entries) (IsOfOurs shows until names T U) (IsOfOurs shows until more S U) ours_before S.triggers T.triggers U.triggers w grew.triggers x) }
      of (inr x) = record { by = inr (declined_then of_states (λ h. h.entries) (IsRowOfOurs shows until names T U) (IsRowOfOurs shows until more S U) rows_before S.states T.states U.states w grew.states x) }

    pub was_declined : (w : Declined) → AtLimit (WasDeclined shows until names T U) w → AtLimit (WasDeclined shows until more S U) w
    was_declined w d = limit_map (WasDeclined shows until names T U) (WasDeclined shows until more S U) declined_before w d

    pub if_declined : (o : Option Declined) → IfSome o (AtLimit (WasDeclined shows until names T U)) → IfSome o (AtLimit (WasDeclined shows until more S U))
    if_declined o d = some_map (AtLimit (WasDeclined shows until names T U)) (AtLimit (WasDeclined shows until more S U)) was_declined o d

pub err_map : (P Q : Declined → Type 0) (r : Result ⊤ Declined) → ((w : Declined) → P w → Q w) → IfErr r P → IfErr r Q
err_map P Q (Ok _) f p = tt
err_map P Q (Err w) f p = f w p
