-- What a crash on the way of a run leaves goes on with each call of a store.
use Rattle.std.proofs.Common.{◌≡◌, inl, inr, ◌⊎◌, ◌≤◌, ◌∷◌, ◌++◌, [], List, ℕ, length, length-append, sym, ◌∙◌, subst, true, arith}
use Rattle.std.proofs.Math.Logic.{∥∥₁_map}
use Rattle.std.proofs.Math.Seq.{take-length}
use Rattle.std.proofs.lemmas.List.{take-append-le}
use Rattle.std.specs.Prelude.{⊤, Option, None, Some, Result, Ok, Err}
use Rattle.qz_disk.specs.declared.disk.Disk.{Ghosts}
use Rattle.qz_disk.specs.Disk.{IsLawful}
use Rattle.qz_disk.proofs.Moments.{started, then_leaves}
use Rattle.qz_types.specs.Entries.{EntryData, StateEntryData}
use Rattle.qz_types.specs.declared.replies.Reply.{Reply}
use Rattle.qz_types.specs.declared.errors.SubmitError.{SubmitError}
use Rattle.qz_types.specs.declared.errors.SubmitError.TheVariants as submit
use Rattle.qz_stores.specs.Stores.{EntryKind, StoreState, Submits, MayBeOf}
use Rattle.qz_stores.proofs.Moments.{now}
use Rattle.qz_model.specs.History.{History}
use Rattle.qz_trigger_store.specs.Bytes.{Stands}
use Rattle.qz_trigger_store.specs.Entries.{trigger_entry}
use Rattle.qz_trigger_store.specs.Laws.{trigger_lawful}
use Rattle.qz_trigger_store.specs.View.{view, disk_of, disk_state, LeavesEither}
use Rattle.qz_trigger_store.specs.declared.stores.TriggerStore.{TriggerStore}
use Rattle.qz_checkin.specs.Bytes.{Stands as RowsStand}
use Rattle.qz_checkin.specs.Entries.{of_states}
use Rattle.qz_checkin.specs.History.{StateHistory}
use Rattle.qz_checkin.specs.Laws.{state_lawful}
use Rattle.qz_checkin.specs.View.{view as states_view, disk_of as states_disk_of, disk_state as states_disk_state, LeavesEither as LeaveEither}
use Rattle.qz_checkin.specs.declared.stores.StateStore.{StateStore}
use Rattle.qz_run_stores.specs.Ways.{IsBetween, first_entries, first_rows, KeepsTriggers, KeepsStates}

-- One submission to a store whose histories have first parts.
module _ {H E R : Type 0} (kind : EntryKind H E R) (Stand : List ℕ → H → Type 0) (first : ℕ → H → H) (size : H → ℕ)
    (grows : (e : E) (h : H) → size h ≤ size (kind.with_entry e h)) (whole : (h : H) → first (size h) h ≡ h)
    (front : (e : E) (h : H) (k : ℕ) → k ≤ size h → first k (kind.with_entry e h) ≡ first k h) where
  abbrev Between : StoreState H E → StoreState H E → List ℕ → Type 0
  Between b s bytes = IsBetween kind Stand first size b s bytes

  between_same : (b s t : StoreState H E) (bytes : List ℕ) → t.history ≡ s.history → t.undecided ≡ s.undecided → Between b s bytes → Between b t bytes
  between_same b s t bytes same undecided (inl on) = inl (on.0, on.1, subst (λ (h : H). on.0 ≤ size h) (sym same) on.2, subst (λ (h : H). Stand bytes (first on.0 h)) (sym same) on.3)
  between_same b s t bytes same undecided (inr may) =
      inr (subst (λ (u : Option E). MayBeOf kind Stand t.history u bytes) (sym undecided) (subst (λ (h : H). MayBeOf kind Stand h s.undecided bytes) (sym same) may))

  -- an open store has no undecided entry
  stands_now : (s : StoreState H E) (bytes : List ℕ) → s.undecided ≡ None → MayBeOf kind Stand s.history s.undecided bytes → Stand bytes s.history
  stands_now s bytes none may = subst (λ (u : Option E). MayBeOf kind Stand s.history u bytes) none may

  between_more : (b s t : StoreState H E) (e : E) (bytes : List ℕ) → size b.history ≤ size s.history → s.undecided ≡ None → t.history ≡ kind.with_entry e s.history → Between b s bytes → Between b t bytes
  between_more b s t e bytes within none more (inl on) = inl (
    on.0,
    on.1,
    subst (λ (h : H). on.0 ≤ size h) (sym more) (omega (arith, on.2, grows e s.history)),
    subst (λ (h : H). Stand bytes (first on.0 h)) (sym more) (subst (Stand bytes) (sym (front e s.history on.0 on.2)) on.3),
  )
  between_more b s t e bytes within none more (inr may) = inl (
    size s.history,
    within,
    subst (λ (h : H). size s.history ≤ size h) (sym more) (grows e s.history),
    subst (λ (h : H). Stand bytes (first (size s.history) h)) (sym more) (subst (Stand bytes) (sym (front e s.history (size s.history) (omega arith) ∙ whole s.history)) (stands_now s bytes none may)),
  )

  between_failed : (b s t : StoreState H E) (e : E) (bytes : List ℕ) → s.undecided ≡ None → t.history ≡ s.history → t.undecided ≡ Some e → Between b s bytes → Between b t bytes
  between_failed b s t e bytes none same failed (inl on) = inl (on.0, on.1, subst (λ (h : H). on.0 ≤ size h) (sym same) on.2, subst (λ (h : H). Stand bytes (first on.0 h)) (sym same) on.3)
  between_failed b s t e bytes none same failed (inr may) =
      inr (subst (λ (u : Option E). MayBeOf kind Stand t.history u bytes) (sym failed) (inl (subst (Stand bytes) (sym same) (stands_now s bytes none may))))

  between_then : (b s t : StoreState H E) (e : E) (r : Result R SubmitError) (bytes : List ℕ) → size b.history ≤ size s.history → (s.is_open ≡ true → s.undecided ≡ None) → Submits kind e r s t → Between b s bytes → Between b t bytes
  between_then b s t e (Ok reply) bytes within settled done was = between_more b s t e bytes within (settled done.was_open) done.history was
  between_then b s t e (Err (submit.Closed at)) bytes within settled done was = between_same b s t bytes done.0.same.history done.0.same.undecided was
  between_then b s t e (Err (submit.Refused refusal)) bytes within settled done was = between_same b s t bytes done.same.history done.same.undecided was
  between_then b s t e (Err (submit.JournalFull need room)) bytes within settled done was = between_same b s t bytes done.same.history done.same.undecided was
  between_then b s t e (Err submit.NoMemory) bytes within settled done was = between_same b s t bytes done.same.history done.same.undecided was
  between_then b s t e (Err submit.Fault) bytes within settled done was = between_failed b s t e bytes (settled done.was_open) done.history done.undecided was

  -- what the call may leave is on the way, too
  either_between : (b s t : StoreState H E) (e : E) (r : Result R SubmitError) (bytes : List ℕ) → size b.history ≤ size s.history → (s.is_open ≡ true → s.undecided ≡ None) → Submits kind e r s t
      → MayBeOf kind Stand s.history s.undecided bytes ⊎ MayBeOf kind Stand t.history t.undecided bytes → Between b t bytes
  either_between b s t e r bytes within settled done (inl was) = between_then b s t e r bytes within settled done (inr was)
  either_between b s t e r bytes within settled done (inr now) = inr now

longer : {E : Type 0} (es : List E) (e : E) → length es ≤ length (es ++ e ∷ [])
longer es e = omega (arith, length-append es (e ∷ []))

module _ {D : Type 0} {g : Ghosts D} where
  pub triggers_begin : ((d : D) → g.honest → IsLawful (g.state d)) → (s : TriggerStore D g) → ∥ KeepsTriggers s s ∥₁
  triggers_begin lawful s = ∣ (λ honest w on. (on, started (disk_state s) _ (lawful (disk_of s) honest) (λ bytes is. inr (now trigger_lawful s.store honest w on bytes is)))) ∣₁

  pub states_begin : ((d : D) → g.honest → IsLawful (g.state d)) → (s : StateStore D g) → ∥ KeepsStates s s ∥₁
  states_begin lawful s = ∣ (λ honest v on. (on, started (states_disk_state s) _ (lawful (states_disk_of s) honest) (λ bytes is. inr (now state_lawful s.store honest v on bytes is)))) ∣₁

  pub triggers_kept : (b s t : TriggerStore D g) (e : EntryData) (r : Result Reply SubmitError) → length (view b).history.entries ≤ length (view s).history.entries → Submits trigger_entry e r (view s) (view t)
      → (g.honest → LeavesEither s t) → ∥ KeepsTriggers b s ∥₁ → ∥ KeepsTriggers b t ∥₁
  triggers_kept b s t e r within done leaves kept =
      let size : History → ℕ = λ (h : History). length h.entries in
      let grows : (e : EntryData) (h : History) → size h ≤ size (trigger_entry.with_entry e h) = λ e h. longer h.entries e in
      let whole : (h : History) → first_entries (size h) h ≡ h = λ h i. record h { entries = take-length h.entries i } in
      let front : (e : EntryData) (h : History) (k : ℕ) → k ≤ size h → first_entries k (trigger_entry.with_entry e h) ≡ first_entries k h = λ e h k le i. record h { entries = take-append-le k h.entries (e ∷ []) le i } in
      ∥∥₁_map kept (λ so_far honest w on.
      let first = so_far honest w on in
      let second = leaves honest w first.0 in (
        second.0,
        then_leaves (disk_state b) (disk_state s) (disk_state t) _ _ _ first.1 second.1
            (λ bytes was. between_then trigger_entry (Stands w) first_entries size grows whole front (view b) (view s) (view t) e r bytes within s.store.settled done was)
            (λ bytes is. either_between trigger_entry (Stands w) first_entries size grows whole front (view b) (view s) (view t) e r bytes within s.store.settled done is),
      ))

  pub states_kept : (b s t : StateStore D g) (e : StateEntryData) (r : Result ⊤ SubmitError) → length (states_view b).history.entries ≤ length (states_view s).history.entries → Submits of_states e r (states_view s) (states_view t)
      → (g.honest → LeaveEither s t) → ∥ KeepsStates b s ∥₁ → ∥ KeepsStates b t ∥₁
  states_kept b s t e r within done leaves kept =
      let size : StateHistory → ℕ = λ (h : StateHistory). length h.entries in
      let grows : (e : StateEntryData) (h : StateHistory) → size h ≤ size (of_states.with_entry e h) = λ e h. longer h.entries e in
      let whole : (h : StateHistory) → first_rows (size h) h ≡ h = λ h i. record h { entries = take-length h.entries i } in
      let front : (e : StateEntryData) (h : StateHistory) (k : ℕ) → k ≤ size h → first_rows k (of_states.with_entry e h) ≡ first_rows k h = λ e h k le i. record h { entries = take-append-le k h.entries (e ∷ []) le i } in
      ∥∥₁_map kept (λ so_far honest v on.
      let first = so_far honest v on in
      let second = leaves honest v first.0 in (
        second.0,
        then_leaves (states_disk_state b) (states_disk_state s) (states_disk_state t) _ _ _ first.1 second.1
            (λ bytes was. between_then of_states (RowsStand v) first_rows size grows whole front (states_view b) (states_view s) (states_view t) e r bytes within s.store.settled done was)
            (λ bytes is. either_between of_states (RowsStand v) first_rows size grows whole front (states_view b) (states_view s) (states_view t) e r bytes within s.store.settled done is),
      ))
