-- What the stores keep through the parts of a call.
use Rattle.std.proofs.Common.{◌≡◌, inl, inr, ◌+◌, ◌≤◌, ◌++◌, List, ℕ, ℤ, true, length, take, length-append, append_assoc, refl, sym, ap, ◌∙◌, subst, arith}
use Rattle.std.proofs.Math.Logic.{∥∥₁_elim, ∥∥₁_map}
use Rattle.std.proofs.Math.Seq.{take-length}
use Rattle.std.proofs.lemmas.List.{take-append-le}
use Rattle.std.specs.Prelude.{Option, Some, None, Ok, Err}
use Rattle.qz_disk.specs.declared.disk.Disk.{Ghosts}
use Rattle.qz_disk.proofs.Moments.{then_leaves}
use Rattle.qz_types.specs.Entries.{EntryData, StateEntryData}
use Rattle.qz_model.specs.History.{History}
use Rattle.qz_stores.specs.Stores.{EntryKind, StoreState, MayBeOf}
use Rattle.qz_trigger_store.specs.Bytes.{Stands}
use Rattle.qz_trigger_store.specs.Entries.{trigger_entry}
use Rattle.qz_trigger_store.specs.View.{view as triggers_view, disk_state}
use Rattle.qz_trigger_store.specs.declared.stores.TriggerStore.{TriggerStore}
use Rattle.qz_checkin.specs.Bytes.{Stands as RowsStand}
use Rattle.qz_checkin.specs.Entries.{of_states}
use Rattle.qz_checkin.specs.History.{StateHistory}
use Rattle.qz_checkin.specs.View.{view as states_view, disk_state as states_disk_state}
use Rattle.qz_checkin.specs.declared.stores.StateStore.{StateStore}
use Rattle.qz_run.specs.declared.commands.Declined.{Declined}
use Rattle.qz_run.specs.declared.commands.Declined.TheVariants as why
use Rattle.qz_run_stores.specs.Going.{StatesWent}
use Rattle.qz_run_stores.specs.Ways.{IsBetween, first_entries, first_rows, KeepsTriggers, KeepsStates}
use Rattle.qz_run_stores.proofs.Going.{went_on}
use Rattle.qz_shared_stores.specs.Going.{TriggersWentOn}
use Rattle.qz_cluster.specs.Steps.{ClusterState}
use Rattle.qz_serve.specs.Courses.{AreBothOpen, EndsBy, OneIsClosed}
use Rattle.qz_serve.specs.Going.{KeepOn, Moves, state_of_both, states_of, triggers_of}
use Rattle.qz_serve.specs.Keeping.{Kept, Proceeds}
use Rattle.qz_serve.specs.Limits.{StoresGrew}
use Rattle.qz_serve.specs.declared.both_stores.BothStores.{BothStores}
use Rattle.qz_serve.proofs.Limiting.{grew_then}

-- Between two moments, the second of which goes on from an open store.
module _ {H E R : Type 0} (kind : EntryKind H E R) (Stand : List ℕ → H → Type 0) (first : ℕ → H → H) (size : H → ℕ) where
  abbrev Between : StoreState H E → StoreState H E → List ℕ → Type 0
  Between b s bytes = IsBetween kind Stand first size b s bytes

  module _ (b s t : StoreState H E) (none : s.undecided ≡ None) (within : size b.history ≤ size s.history) (longer : size s.history ≤ size t.history)
      (front : (k : ℕ) → k ≤ size s.history → first k t.history ≡ first k s.history) (whole : first (size s.history) s.history ≡ s.history) where
    between_first : (bytes : List ℕ) → Between b s bytes → Between b t bytes
    between_first bytes (inl on) = inl (on.0, on.1, omega (arith, on.2, longer), subst (λ (h : H). Stand bytes h) (sym (front on.0 on.2)) on.3)
    between_first bytes (inr may) = inl (
      size s.history,
      within,
      longer,
      subst (λ (h : H). Stand bytes h) (sym (front (size s.history) (omega arith) ∙ whole)) (subst (λ (u : Option E). MayBeOf kind Stand s.history u bytes) none may),
    )

    between_second : (bytes : List ℕ) → Between s t bytes → Between b t bytes
    between_second bytes (inl on) = inl (on.0, omega (arith, within, on.1), on.2, on.3)
    between_second bytes (inr may) = inr may

longer_by : {E : Type 0} (es xs more : List E) → xs ≡ es ++ more → length es ≤ length xs
longer_by es xs more is = let longer : length xs ≡ length es + length more = ap length is ∙ length-append es more in omega (arith, longer)

module _ {D : Type 0} {g : Ghosts D} where
  -- The trigger store.

  keeps_then : (b s t : TriggerStore D g) (a q : List EntryData) → (triggers_view s).is_open ≡ true → (triggers_view s).history.entries ≡ (triggers_view b).history.entries ++ a → (triggers_view t).history.entries ≡ (triggers_view s).history.entries ++ q
      → (triggers_view t).history ≡ record (triggers_view s).history { entries = (triggers_view t).history.entries } → KeepsTriggers b s → KeepsTriggers s t → KeepsTriggers b t
  keeps_then b s t a q was_open more further same one two honest w on =
      let first = one honest w on in
      let second = two honest w first.0 in
      let size : History → ℕ = λ (h : History). length h.entries in
      let within : size (triggers_view b).history ≤ size (triggers_view s).history = longer_by _ _ a more in
      let longer : size (triggers_view s).history ≤ size (triggers_view t).history = longer_by _ _ q further in
      let whole : first_entries (size (triggers_view s).history) (triggers_view s).history ≡ (triggers_view s).history = λ i. record (triggers_view s).history { entries = take-length (triggers_view s).history.entries i } in
      let front : (k : ℕ) → k ≤ size (triggers_view s).history → first_entries k (triggers_view t).history ≡ first_entries k (triggers_view s).history =
      λ k le. ap (first_entries k) same ∙ (λ i. record (triggers_view s).history { entries = (ap (take k) further ∙ take-append-le k (triggers_view s).history.entries q le) i }) in (
        second.0,
        then_leaves (disk_state b) (disk_state s) (disk_state t) _ _ _ first.1 second.1
            (between_first trigger_entry (Stands w) first_entries size (triggers_view b) (triggers_view s) (triggers_view t) (s.store.settled was_open) within longer front whole)
            (between_second trigger_entry (Stands w) first_entries size (triggers_view b) (triggers_view s) (triggers_view t) (s.store.settled was_open) within longer front whole),
      )

  pub triggers_then : (b s t : TriggerStore D g) → (triggers_view s).is_open ≡ true → TriggersWentOn b s → TriggersWentOn s t → TriggersWentOn b t
  triggers_then b s t was_open one two = record {
    went = went_on (triggers_view b) (triggers_view s) (triggers_view t) one.went two.went;
    version = two.version ∙ one.version;
    base = (two.base.0 ∙ one.base.0, two.base.1 ∙ one.base.1);
    found = two.found ∙ one.found;
    keeps = two.keeps ∙ one.keeps;
    added = one.added ++ two.added;
    entries = two.entries ∙ ap (λ es. es ++ two.added) one.entries ∙ append_assoc _ one.added two.added;
    kept = ∥∥₁_elim one.kept squash₁ (λ k. ∥∥₁_map two.kept (λ l. keeps_then b s t one.added two.added was_open one.entries two.entries
        (λ i. record { base_count = two.base.0 i; base = two.base.1 i; entries = (triggers_view t).history.entries }) k l));
  }

  -- The state store.

  rows_then : (b s t : StateStore D g) (a q : List StateEntryData) → (states_view s).is_open ≡ true → (states_view s).history.entries ≡ (states_view b).history.entries ++ a → (states_view t).history.entries ≡ (states_view s).history.entries ++ q
      → (states_view t).history ≡ record (states_view s).history { entries = (states_view t).history.entries } → KeepsStates b s → KeepsStates s t → KeepsStates b t
  rows_then b s t a q was_open more further same one two honest v on =
      let first = one honest v on in
      let second = two honest v first.0 in
      let size : StateHistory → ℕ = λ (h : StateHistory). length h.entries in
      let within : size (states_view b).history ≤ size (states_view s).history = longer_by _ _ a more in
      let longer : size (states_view s).history ≤ size (states_view t).history = longer_by _ _ q further in
      let whole : first_rows (size (states_view s).history) (states_view s).history ≡ (states_view s).history = λ i. record (states_view s).history { entries = take-length (states_view s).history.entries i } in
      let front : (k : ℕ) → k ≤ size (states_view s).history → first_rows k (states_view t).history ≡ first_rows k (states_view s).history =
      λ k le. ap (first_rows k) same ∙ (λ i. record (states_view s).history { entries = (ap (take k) further ∙ take-append-le k (states_view s).history.entries q le) i }) in (
        second.0,
        then_leaves (states_disk_state b) (states_disk_state s) (states_disk_state t) _ _ _ first.1 second.1
            (between_first of_states (RowsStand v) first_rows size (states_view b) (states_view s) (states_view t) (s.store.settled was_open) within longer front whole)
            (between_second of_states (RowsStand v) first_rows size (states_view b) (states_view s) (states_view t) (s.store.settled was_open) within longer front whole),
      )

  pub states_then : (b s t : StateStore D g) → (states_view s).is_open ≡ true → StatesWent b s → StatesWent s t → StatesWent b t
  states_then b s t was_open one two = record {
    went = went_on (states_view b) (states_view s) (states_view t) one.went two.went;
    added = one.added ++ two.added;
    entries = two.entries ∙ ap (λ es. es ++ two.added) one.entries ∙ append_assoc _ one.added two.added;
    kept = ∥∥₁_elim one.kept squash₁ (λ k. ∥∥₁_map two.kept (λ l. rows_then b s t one.added two.added was_open one.entries two.entries
        (λ i. record { base_count = (t.store.new_count refl ∙ sym (s.store.new_count refl)) i; base = (t.store.new_base refl ∙ sym (s.store.new_base refl)) i; entries = (states_view t).history.entries }) k l));
  }

  -- Both.

  pub kept_then : (b s t : BothStores D g) → AreBothOpen (state_of_both s) → Kept b s → Kept s t → Kept b t
  kept_then b s t was_open one two = record {
    triggers = ∥∥₁_elim one.triggers squash₁ (λ k. ∥∥₁_map two.triggers (λ l. triggers_then (triggers_of b) (triggers_of s) (triggers_of t) was_open.0 k l));
    states = ∥∥₁_elim one.states squash₁ (λ k. ∥∥₁_map two.states (λ l. states_then (states_of b) (states_of s) (states_of t) was_open.1 k l));
    grew = grew_then (state_of_both b) (state_of_both s) (state_of_both t) one.grew two.grew;
  }

  -- One part of the work after another.
  pub proceeds_then : (cause : Option Declined) (b s t : BothStores D g) → Proceeds None b s → Proceeds cause s t → Proceeds cause b t
  proceeds_then cause b s t one two = record { kept = kept_then b s t (one.stays refl) one.kept two.kept; stays = two.stays; fault = two.fault }

  pub proceeds_none : (s t : BothStores D g) → Kept s t → AreBothOpen (state_of_both t) → Proceeds None s t
  proceeds_none s t kept was_open = record { kept = kept; stays = λ is. was_open; fault = λ is. absurd (cc) }

-- Nodes came and went: that is a part of the work, where both stores were open. A store to which nothing was done has kept all.
module _ {D : Type 0} {g : Ghosts D} where
  kept_on : (s t : BothStores D g) → Kept s s → KeepOn s t → StoresGrew (state_of_both s) (state_of_both t) → Kept s t
  kept_on s t kept keeps grew = record { grew = grew; triggers = ∥∥₁_map kept.triggers (keeps.triggers (triggers_of s)); states = ∥∥₁_map kept.states (keeps.states (states_of s)) }

  -- it went well
  pub moved_well : (shows : ℤ → Type 0) (names : List (List ℕ)) (s t : BothStores D g) → Kept s s → AreBothOpen (state_of_both s) → Moves shows names (Ok tt) s t → Proceeds None s t
  moved_well shows names s t kept was_open moves = record { kept = kept_on s t kept moves.keeps moves.grew; stays = λ is. moves.stays was_open; fault = λ is. absurd (cc) }

  -- or it ended early
  pub moved_short : (shows : ℤ → Type 0) (names : List (List ℕ)) (w : Declined) (s t : BothStores D g) → Kept s s → Moves shows names (Err w) s t → Proceeds (Some w) s t
  moved_short shows names w s t kept moves = record { kept = kept_on s t kept moves.keeps moves.grew; stays = λ is. absurd (cc); fault = λ is. let same : w ≡ why.Fault = cc in moves.fault (ap Err same) }

  -- there was no memory to begin with
  pub proceeds_starved : (s : BothStores D g) → Kept s s → Proceeds (Some why.NoMemory) s s
  proceeds_starved s kept = record { kept = kept; stays = λ is. absurd (cc); fault = λ is. absurd (cc) }

  pub proceeds_as : (cause other : Option Declined) (s t : BothStores D g) → cause ≡ other → Proceeds cause s t → Proceeds other s t
  proceeds_as cause other s t same proceeds = subst (λ (x : Option Declined). Proceeds x s t) same proceeds

-- How work ends that was cut short.
pub ends_short : (shows : ℤ → Type 0) (until : ℤ) (names : List (List ℕ)) (w : Declined) (S : ClusterState) → (Some w ≡ Some why.Fault → OneIsClosed S) → EndsBy shows until names (Some w) S
ends_short shows until names why.Fault S closed = closed refl
ends_short shows until names (why.TooMany count) S closed = tt
ends_short shows until names (why.JournalFull need room) S closed = tt
ends_short shows until names why.NoMemory S closed = tt
ends_short shows until names why.Fenced S closed = tt

module _ {D : Type 0} {g : Ghosts D} (shows : ℤ → Type 0) (until : ℤ) (names : List (List ℕ)) (w : Declined) (s t : BothStores D g) where
  pub ends_moved : (ours : List (List ℕ)) → Moves shows ours (Err w) s t → EndsBy shows until names (Some w) (state_of_both t)
  ends_moved ours moves = ends_short shows until names w (state_of_both t) (λ is. let same : w ≡ why.Fault = cc in moves.fault (ap Err same))

  pub ends_proceeds : Proceeds (Some w) s t → EndsBy shows until names (Some w) (state_of_both t)
  ends_proceeds proceeds = ends_short shows until names w (state_of_both t) proceeds.fault
