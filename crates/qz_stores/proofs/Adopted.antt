-- What an error before any device call says of an entry whose record is taken over, and what is submitted as such an entry.
use Rattle.std.proofs.Common.{◌≡◌, ℕ, ◌+◌, List, ◌++◌, length, true, refl, sym, ◌∙◌, ap, subst}
use Rattle.std.specs.Prelude.{Err, None, Ok}
use Rattle.std.specs.declared.result.Result.{Result}
use Rattle.qz_disk.specs.declared.disk.Disk.{Ghosts}
use Rattle.qz_types.specs.Errors.{submit_error}
use Rattle.qz_types.specs.declared.errors.StepRefused.{StepRefused}
use Rattle.qz_types.specs.declared.errors.StepRefused.TheVariants as step
use Rattle.qz_types.specs.declared.errors.SubmitError.{SubmitError}
use Rattle.qz_types.specs.declared.errors.SubmitError.TheVariants as submit
use Rattle.qz_journal.specs.Commits.{need_of}
use Rattle.qz_stores.specs.Adopting.{adopted}
use Rattle.qz_stores.specs.Stores.{StoreState, HasRoom, IsUnwritten, Appends, Fails, Submits}
use Rattle.qz_stores.specs.Kinds.{StoreKind, IsLawful, IsAccepted, IsErrorOf, replay, entry_kind}
use Rattle.qz_stores.specs.View.{view, base_count_of, base_of, found_of, added_of, state_of, IsAsBefore}
use Rattle.qz_stores.specs.declared.kinds.Kind.{Ghosts as Kinds}
use Rattle.qz_stores.specs.declared.stores.Store.{Store}
use Rattle.qz_stores.proofs.Committing.{current_answer, current_passes, state_is}
use Rattle.qz_stores.proofs.Moments.{view_as_before}
use Rattle.qz_stores.proofs.Refused.{same_itself}

module _ {H S E R : Type 0} (k : StoreKind H S E R) (b : List ℕ) where
  error_at : (T : S) (s : StoreState H E) (e : E) (x : StepRefused) → T ≡ replay k s.history → s.is_open ≡ true → IsErrorOf k T e x → Submits (adopted k b) e (Err (submit_error x)) s s
  error_at T s e (step.Refused r) state is_open is = record { was_open = is_open; refused_as = subst (λ (U : S). k.answer U e ≡ Err r) state is; same = same_itself s }
  error_at T s e step.NoMemory state is_open is = record { was_open = is_open; passes = subst (λ (U : S). IsAccepted k U e) state is; same = same_itself s }

  -- the state refuses it, or there is no memory for it
  pub adopt_error_is : (T : S) (s : StoreState H E) (e : E) (x : StepRefused) (y : SubmitError) → T ≡ replay k s.history → s.is_open ≡ true → IsErrorOf k T e x → y ≡ submit_error x → Submits (adopted k b) e (Err y) s s
  adopt_error_is T s e x y state is_open is error = subst (λ (z : SubmitError). Submits (adopted k b) e (Err z) s s) (sym error) (error_at T s e x state is_open is)

  -- its record has no room, or there is no memory for it
  pub adopt_unwritten_is : (T : S) (s : StoreState H E) (e : E) (y : SubmitError) → T ≡ replay k s.history → s.is_open ≡ true → IsAccepted k T e → IsUnwritten (length b) s y → Submits (adopted k b) e (Err y) s s
  adopt_unwritten_is T s e (submit.JournalFull need room) state is_open is unwritten =
      record { was_open = is_open; passes = subst (λ (U : S). IsAccepted k U e) state is; full = unwritten; same = same_itself s }
  adopt_unwritten_is T s e submit.NoMemory state is_open is unwritten = record { was_open = is_open; passes = subst (λ (U : S). IsAccepted k U e) state is; same = same_itself s }
  adopt_unwritten_is T s e (submit.Refused x) state is_open is unwritten = absurd unwritten
  adopt_unwritten_is T s e (submit.Closed at) state is_open is unwritten = absurd unwritten
  adopt_unwritten_is T s e submit.Fault state is_open is unwritten = absurd unwritten

-- An entry that the version of the store lets through is submitted as one that is adopted by the record that is written of it.
module _ {H S E R : Type 0} (k : StoreKind H S E R) (T : S) (s t : StoreState H E) (e : E) (b : List ℕ) (state : T ≡ replay k s.history) (none : k.version_refusal T e ≡ None) (is : b ≡ k.record_of e) where
  none_now : k.version_refusal (replay k s.history) e ≡ None
  none_now = subst (λ (U : S). k.version_refusal U e ≡ None) state none

  pub submitted_ok : (r : R) → Appends (adopted k b) e r s t → Appends (entry_kind k) e r s t
  submitted_ok r done = record {
    was_open = done.was_open;
    accepted_as = current_answer k (replay k s.history) (replay k s.history) e (Ok r) refl none_now done.accepted_as;
    written = subst (λ (x : List ℕ). k.IsRecordOf x e) is done.written;
    room = subst (λ (x : List ℕ). HasRoom (length x) s) is done.room;
    history = done.history;
    gate = subst (λ (x : List ℕ). t.gate ≡ s.gate + need_of (length x)) is done.gate;
    payloads = done.payloads;
    is_open = done.is_open;
    undecided = done.undecided;
    later = done.later;
  }

  failed : Fails (adopted k b) e s t → Fails (entry_kind k) e s t
  failed done = record {
    was_open = done.was_open;
    passes = current_passes k (replay k s.history) (replay k s.history) e refl none_now done.passes;
    room = subst (λ (x : List ℕ). HasRoom (length x) s) is done.room;
    history = done.history;
    gate = done.gate;
    payloads = done.payloads;
    is_open = done.is_open;
    undecided = done.undecided;
    rose = done.rose;
    later = done.later;
  }

  pub submitted_fault : (y : SubmitError) → y ≡ submit.Fault → Submits (adopted k b) e (Err y) s t → Submits (entry_kind k) e (Err y) s t
  submitted_fault y fault done =
      subst (λ (z : SubmitError). Submits (entry_kind k) e (Err z) s t) (sym fault) (failed (subst (λ (z : SubmitError). Submits (adopted k b) e (Err z) s t) fault done))

-- The same of a store, after calls that changed nothing.
module _ {D K E R C : Type 0} {g : Ghosts D} {k : Kinds K E R C} (lawful : IsLawful k.kind) (s m t : Store D K E R C g k) (e : E) (b : List ℕ) (same : IsAsBefore s m) (none : k.kind.version_refusal (state_of s) e ≡ None) (is : b ≡ k.kind.record_of e) where
  state_now : state_of m ≡ replay k.kind (view m).history
  state_now = state_is k.kind lawful (base_count_of m) (base_of m) (state_of m) (found_of m ++ added_of m) m.replayed

  none_before : k.kind.version_refusal (state_of m) e ≡ None
  none_before = ap (λ T. k.kind.version_refusal T e) same.4 ∙ none

  pub submits_ok : (r : R) → Appends (adopted k.kind b) e r (view m) (view t) → Appends (entry_kind k.kind) e r (view s) (view t)
  submits_ok r done = subst (λ v. Appends (entry_kind k.kind) e r v (view t)) (view_as_before lawful s m same) (submitted_ok k.kind (state_of m) (view m) (view t) e b state_now none_before is r done)

  pub submits_fault : (y : SubmitError) → y ≡ submit.Fault → Submits (adopted k.kind b) e (Err y) (view m) (view t) → Submits (entry_kind k.kind) e (Err y) (view s) (view t)
  submits_fault y fault done =
      subst (λ v. Submits (entry_kind k.kind) e (Err y) v (view t)) (view_as_before lawful s m same) (submitted_fault k.kind (state_of m) (view m) (view t) e b state_now none_before is y fault done)

-- what was adopted so
pub adopts_as_before : {D K E R C : Type 0} {g : Ghosts D} {k : Kinds K E R C} → IsLawful k.kind → (s m t : Store D K E R C g k) (e : E) (b : List ℕ) → IsAsBefore s m → (x : Result R SubmitError)
    → Submits (adopted k.kind b) e x (view m) (view t) → Submits (adopted k.kind b) e x (view s) (view t)
adopts_as_before {k = k} lawful s m t e b same x = subst (λ v. Submits (adopted k.kind b) e x v (view t)) (view_as_before lawful s m same)
