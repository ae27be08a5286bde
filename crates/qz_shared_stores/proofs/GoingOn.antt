-- One call of a store lets it go on.
use Rattle.std.proofs.Common.{◌≡◌, ◌≤◌, ◌++◌, List, length, length-append, take, drop, sym, ap, ◌∙◌, arith}
use Rattle.std.proofs.Math.Seq.{take-append_seam}
use Rattle.std.proofs.lemmas.List.{take-append-drop}
use Rattle.std.specs.Prelude.{⊤, Result}
use Rattle.qz_disk.specs.declared.disk.Disk.{Ghosts}
use Rattle.qz_types.specs.Entries.{EntryData, StateEntryData}
use Rattle.qz_types.specs.declared.replies.Reply.{Reply}
use Rattle.qz_types.specs.declared.errors.SubmitError.{SubmitError}
use Rattle.qz_stores.specs.Stores.{Submits}
use Rattle.qz_trigger_store.specs.Entries.{trigger_entry}
use Rattle.qz_trigger_store.specs.View.{view, keeps_of, IsOpenedAsBefore, LeavesEither}
use Rattle.qz_trigger_store.specs.declared.stores.TriggerStore.{TriggerStore}
use Rattle.qz_checkin.specs.Entries.{of_states}
use Rattle.qz_checkin.specs.View.{view as states_view, LeavesEither as LeaveEither}
use Rattle.qz_checkin.specs.declared.stores.StateStore.{StateStore}
use Rattle.qz_run_stores.specs.Going.{Went, StatesWent}
use Rattle.qz_run_stores.proofs.Going.{submit_went, went_on, entries_stay_then, stay_then, states_went}
use Rattle.qz_run_stores.proofs.Ways.{triggers_kept, states_kept}
use Rattle.qz_shared_stores.specs.Going.{TriggersWentOn}

-- entries that begin with these
module _ {E : Type 0} (before : List E) where
  no_fewer : (added es : List E) → es ≡ before ++ added → length before ≤ length es
  no_fewer added es is = omega (arith, ap length is, length-append before added)

  begin : (added es : List E) → es ≡ before ++ added → take (length before) es ≡ before
  begin added es is = ap (take (length before)) is ∙ take-append_seam before added

  with_rest : (es : List E) → take (length before) es ≡ before → es ≡ before ++ drop (length before) es
  with_rest es is = sym (take-append-drop (length before) es) ∙ ap (λ xs. xs ++ drop (length before) es) is

module _ {D : Type 0} {g : Ghosts D} where
  pub triggers_on : (b s t : TriggerStore D g) (e : EntryData) (r : Result Reply SubmitError) → Submits trigger_entry e r (view s) (view t) → IsOpenedAsBefore s t → keeps_of t ≡ keeps_of s
      → (g.honest → LeavesEither s t) → TriggersWentOn b s → TriggersWentOn b t
  triggers_on b s t e r done opened keeps leaves far =
      let before : List EntryData = (view b).history.entries in
      let within : length before ≤ length (view s).history.entries = no_fewer before far.added (view s).history.entries far.entries in
      let begins = begin before far.added (view s).history.entries far.entries in
      record {
        went = went_on (view b) (view s) (view t) far.went (submit_went trigger_entry e r (view s) (view t) done);
        version = opened.0 ∙ far.version;
        base = (opened.1 ∙ far.base.0, opened.2 ∙ far.base.1);
        found = opened.3 ∙ far.found;
        keeps = keeps ∙ far.keeps;
        added = drop (length before) (view t).history.entries;
        entries = with_rest before (view t).history.entries (entries_stay_then (length before) before e r (view s) (view t) done within begins);
        kept = triggers_kept b s t e r within done leaves far.kept;
      }

  pub states_on : (b s t : StateStore D g) (e : StateEntryData) (r : Result ⊤ SubmitError) → Submits of_states e r (states_view s) (states_view t) → (g.honest → LeaveEither s t) → StatesWent b s → StatesWent b t
  states_on b s t e r done leaves far =
      let before : List StateEntryData = (states_view b).history.entries in
      let within : length before ≤ length (states_view s).history.entries = no_fewer before far.added (states_view s).history.entries far.entries in
      let begins = begin before far.added (states_view s).history.entries far.entries in
      let went : Went (states_view b) (states_view t) = went_on (states_view b) (states_view s) (states_view t) far.went (submit_went of_states e r (states_view s) (states_view t) done) in
      states_went (length before) b t (stay_then (length before) before e r (states_view s) (states_view t) done within begins) (states_kept b s t e r within done leaves far.kept) went.later went.closes
