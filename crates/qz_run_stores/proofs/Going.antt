-- Each call of a store lets it go on.
use Rattle.std.proofs.Common.{◌≡◌, ◌+◌, ◌≤◌, ◌∷◌, ◌++◌, [], List, true, false, Bool, length, length-append, take, drop, sym, refl, ap, ◌∙◌, subst, arith}
use Rattle.std.proofs.lemmas.List.{append-nil, take-append-le, take-append-drop}
use Rattle.std.specs.Prelude.{⊤, ℕ, Result, Ok, Err}
use Rattle.qz_civil.specs.Causes.{Rose}
use Rattle.qz_disk.specs.declared.disk.Disk.{Ghosts}
use Rattle.qz_types.specs.Entries.{EntryData, StateEntryData}
use Rattle.qz_types.specs.declared.replies.Reply.{Reply}
use Rattle.qz_types.specs.declared.errors.SubmitError.{SubmitError}
use Rattle.qz_types.specs.declared.errors.SubmitError.TheVariants as submit
use Rattle.qz_stores.specs.Stores.{EntryKind, StoreState, Same, Submits}
use Rattle.qz_model.specs.History.{History, replay}
use Rattle.qz_trigger_store.specs.Entries.{TriggerState, is_old, trigger_entry}
use Rattle.qz_trigger_store.proofs.Horizons.{stays_current}
use Rattle.qz_run_stores.proofs.Declining.{same_history}
use Rattle.qz_trigger_store.specs.View.{view, version_of, base_count_of, base_of, found_of, keeps_of}
use Rattle.qz_trigger_store.specs.declared.stores.TriggerStore.{TriggerStore}
use Rattle.qz_checkin.specs.Entries.{StatesState, of_states}
use Rattle.qz_checkin.specs.History.{StateHistory, replay_states}
use Rattle.qz_checkin.specs.View.{view as states_view}
use Rattle.qz_checkin.specs.declared.stores.StateStore.{StateStore}
use Rattle.qz_run.specs.Stores.{RowState}
use Rattle.qz_run_stores.specs.Accounts.{row_events_onto}
use Rattle.qz_run_stores.specs.Asked.{AreAsked}
use Rattle.qz_run_stores.specs.Logs.{has_row}
use Rattle.qz_run_stores.specs.Ways.{KeepsTriggers, KeepsStates}
use Rattle.qz_run_stores.specs.Going.{Went, TriggersWent, StatesWent}

not_both : {A : Type 0} (b : Bool) → b ≡ true → b ≡ false → A
not_both b p q = let bad : true ≡ false = sym p ∙ q in absurd cc

same_went : {H E : Type 0} (s t : StoreState H E) → Same s t → Went s t
same_went s t same = record { later = same.later; closes = λ was is. not_both s.is_open was (sym same.is_open ∙ is) }

-- what one submission lets happen
pub submit_went : {H E R : Type 0} (kind : EntryKind H E R) (e : E) (r : Result R SubmitError) (s t : StoreState H E) → Submits kind e r s t → Went s t
submit_went kind e (Ok reply) s t done = record { later = done.later; closes = λ was is. not_both t.is_open done.is_open is }
submit_went kind e (Err (submit.Closed at)) s t done = same_went s t done.0.same
submit_went kind e (Err (submit.Refused refusal)) s t done = same_went s t done.same
submit_went kind e (Err (submit.JournalFull need room)) s t done = same_went s t done.same
submit_went kind e (Err submit.NoMemory) s t done = same_went s t done.same
submit_went kind e (Err submit.Fault) s t done = record { later = done.later; closes = λ was is. done.rose }

rose_then : (a b c : ℕ) → Rose a b → b ≤ c → Rose a c
rose_then a b c rose later = omega (arith, rose, later)

then_rose : (a b c : ℕ) → a ≤ b → Rose b c → Rose a c
then_rose a b c later rose = omega (arith, rose, later)

closes_by : {H E : Type 0} (s t u : StoreState H E) (b : Bool) → t.is_open ≡ b → Went s t → Went t u → s.is_open ≡ true → u.is_open ≡ false → Rose s.faults u.faults
closes_by s t u true is p q was now = then_rose s.faults t.faults u.faults p.later (q.closes is now)
closes_by s t u false is p q was now = rose_then s.faults t.faults u.faults (p.closes was is) q.later

pub went_on : {H E : Type 0} (s t u : StoreState H E) → Went s t → Went t u → Went s u
went_on s t u p q = record { later = omega (arith, p.later, q.later); closes = closes_by s t u t.is_open refl p q }

pub went_nowhere : {H E : Type 0} (s : StoreState H E) → Went s s
went_nowhere s = record { later = omega arith; closes = λ was is. not_both s.is_open was is }

-- The same facts one by one, as the fields of the stores in a run have them.

pub later_then : {H E R : Type 0} (kind : EntryKind H E R) (e : E) (r : Result R SubmitError) (b : ℕ) (s t : StoreState H E) → Submits kind e r s t → b ≤ s.faults → b ≤ t.faults
later_then kind e r b s t done later = omega (arith, later, (submit_went kind e r s t done).later)

pub closes_then : {H E R : Type 0} (kind : EntryKind H E R) (e : E) (r : Result R SubmitError) (b s t : StoreState H E) → Submits kind e r s t → b.faults ≤ s.faults
    → (b.is_open ≡ true → s.is_open ≡ false → Rose b.faults s.faults) → b.is_open ≡ true → t.is_open ≡ false → Rose b.faults t.faults
closes_then kind e r b s t done later closes = (went_on b s t (record { later = later; closes = closes }) (submit_went kind e r s t done)).closes

-- What one submission adds to a history whose entries are these.
module _ {H E R : Type 0} (kind : EntryKind H E R) (entries : H → List E) (grows : (e : E) (h : H) → entries (kind.with_entry e h) ≡ entries h ++ (e ∷ [])) where
  abbrev Adds : StoreState H E → StoreState H E → Type 0
  Adds s t = (more : List E) × (entries t.history ≡ entries s.history ++ more)

  adds_none : (s t : StoreState H E) → t.history ≡ s.history → Adds s t
  adds_none s t same = ([], ap entries same ∙ sym (append-nil _))

  submit_adds : (e : E) (r : Result R SubmitError) (s t : StoreState H E) → Submits kind e r s t → Adds s t
  submit_adds e (Ok reply) s t done = (e ∷ [], ap entries done.history ∙ grows e s.history)
  submit_adds e (Err (submit.Closed at)) s t done = adds_none s t done.0.same.history
  submit_adds e (Err (submit.Refused refusal)) s t done = adds_none s t done.same.history
  submit_adds e (Err (submit.JournalFull need room)) s t done = adds_none s t done.same.history
  submit_adds e (Err submit.NoMemory) s t done = adds_none s t done.same.history
  submit_adds e (Err submit.Fault) s t done = adds_none s t done.history

  -- The entries of the beginning are still the first ones.
  stay_by : (n : ℕ) (before : List E) (e : E) (r : Result R SubmitError) (s t : StoreState H E) → Submits kind e r s t → n ≤ length (entries s.history)
      → take n (entries s.history) ≡ before → take n (entries t.history) ≡ before
  stay_by n before e r s t done within same =
      let more = submit_adds e r s t done in
      ap (take n) more.1 ∙ take-append-le n (entries s.history) more.0 within ∙ same

  -- They are no fewer.
  within_by : (n : ℕ) (e : E) (r : Result R SubmitError) (s t : StoreState H E) → Submits kind e r s t → n ≤ length (entries s.history) → n ≤ length (entries t.history)
  within_by n e r s t done within =
      let more = submit_adds e r s t done in
      let longer : length (entries t.history) ≡ length (entries s.history) + length more.0 = ap length more.1 ∙ length-append (entries s.history) more.0 in
      omega (arith, within, longer)

-- A store that isn't old doesn't become so, whatever it answers.
pub current_then : (e : EntryData) (r : Result Reply SubmitError) (s t : TriggerState) → is_old (replay s.history) ≡ false → Submits trigger_entry e r s t → is_old (replay t.history) ≡ false
current_then e (Ok r) s t new is = stays_current e r s t new is
current_then e (Err x) s t new is = subst (λ (h : History). is_old (replay h) ≡ false) (sym (same_history trigger_entry e x s t is)) new

pub stay_then : (n : ℕ) (before : List StateEntryData) (e : StateEntryData) (r : Result ⊤ SubmitError) (s t : StatesState) → Submits of_states e r s t → n ≤ length s.history.entries
    → take n s.history.entries ≡ before → take n t.history.entries ≡ before
stay_then = stay_by of_states (λ (h : StateHistory). h.entries) (λ e h. refl)

pub entries_stay_then : (n : ℕ) (before : List EntryData) (e : EntryData) (r : Result Reply SubmitError) (s t : TriggerState) → Submits trigger_entry e r s t → n ≤ length s.history.entries
    → take n s.history.entries ≡ before → take n t.history.entries ≡ before
entries_stay_then = stay_by trigger_entry (λ (h : History). h.entries) (λ e h. refl)

pub within_then : (n : ℕ) (e : StateEntryData) (r : Result ⊤ SubmitError) (s t : StatesState) → Submits of_states e r s t → n ≤ length s.history.entries → n ≤ length t.history.entries
within_then = within_by of_states (λ (h : StateHistory). h.entries) (λ e h. refl)

pub entries_within_then : (n : ℕ) (e : EntryData) (r : Result Reply SubmitError) (s t : TriggerState) → Submits trigger_entry e r s t → n ≤ length s.history.entries → n ≤ length t.history.entries
entries_within_then = within_by trigger_entry (λ (h : History). h.entries) (λ e h. refl)

-- After an error a run sees the rows as they were.
abbrev pub rows_at : ℕ → StateHistory → RowState
rows_at n h = record { has = has_row (replay_states h); log = row_events_onto [] (drop n h.entries) }

pub same_rows : (n : ℕ) (e : StateEntryData) (x : SubmitError) (s t : StatesState) → Submits of_states e (Err x) s t → rows_at n t.history ≡ rows_at n s.history
same_rows n e x s t is = ap (rows_at n) (same_history of_states e x s t is)

-- The entries of a history whose first ones are those of the beginning.
went_on_with : {E : Type 0} (n : ℕ) (before es : List E) → take n es ≡ before → es ≡ before ++ drop n es
went_on_with n before es stay = sym (take-append-drop n es) ∙ ap (λ xs. xs ++ drop n es) stay

-- How the stores went on, in one.
module _ {D : Type 0} {g : Ghosts D} where
  pub triggers_went : (n : ℕ) (b s : TriggerStore D g) → version_of s ≡ version_of b → base_count_of s ≡ base_count_of b → base_of s ≡ base_of b → found_of s ≡ found_of b → keeps_of s ≡ keeps_of b → take n (view s).history.entries ≡ (view b).history.entries → ∥ AreAsked (replay (view b).history) (drop n (view s).history.entries) ∥₁ → ∥ KeepsTriggers b s ∥₁
      → (view b).faults ≤ (view s).faults → ((view b).is_open ≡ true → (view s).is_open ≡ false → Rose (view b).faults (view s).faults) → TriggersWent b s
  triggers_went n b s version count base found keeps stay asked kept later closes =
      let es = (view s).history.entries in
      record { went = record { later = later; closes = closes }; version = version; base = (count, base); found = found; keeps = keeps; added = drop n es; entries = went_on_with n _ es stay; asked = asked; kept = kept }

  pub states_went : (n : ℕ) (b s : StateStore D g) → take n (states_view s).history.entries ≡ (states_view b).history.entries → ∥ KeepsStates b s ∥₁ → (states_view b).faults ≤ (states_view s).faults
      → ((states_view b).is_open ≡ true → (states_view s).is_open ≡ false → Rose (states_view b).faults (states_view s).faults) → StatesWent b s
  states_went n b s stay kept later closes =
      let es = (states_view s).history.entries in
      record { went = record { later = later; closes = closes }; added = drop n es; entries = went_on_with n _ es stay; kept = kept }
