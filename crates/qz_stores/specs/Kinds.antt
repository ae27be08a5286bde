-- What a kind of store is: its entries and their records, its states, and its histories. Whatever is said of stores is
-- said of all kinds at once, and a store of triggers or of states is one of these.
use Rattle.std.specs.Prelude.{◌≡◌, ℕ, ◌≤◌, Bool, true, false, List, [], ◌∷◌, ◌++◌, length, Option, Some, None, IsOk, Err}
use Rattle.std.specs.List.{AllByRecursion}
use Rattle.std.specs.declared.result.Result.{Result}
use Rattle.qz_types.specs.declared.replies.Refusal.{Refusal}
use Rattle.qz_types.specs.declared.errors.StepRefused.{StepRefused}
use Rattle.qz_types.specs.declared.errors.StepRefused.TheVariants as step
use Rattle.qz_journal.specs.Slots.{IsHead, number_at}
use Rattle.qz_journal.specs.Layout.{is_version}
use Rattle.qz_stores.specs.Stores.{EntryKind}

-- A kind, by the types of its histories, its states, its entries and the replies to them.
pub record StoreKind (H S E R : Type 0) : Type 1 where
  -- as the header of a file has it
  pub number : ℕ
  -- the record of an entry, as it is written
  pub record_of : E → List ℕ
  -- The bytes are a record of the entry, in a version that is read. An entry may have a record of each version.
  pub IsRecordOf : List ℕ → E → Type 0
  -- Which payloads are parts of snapshots, and which payloads begin with a snapshot of this state, before which so many
  -- payloads and so many entries come. A kind may have none.
  pub is_part : List ℕ → Bool
  pub BeginSnapshot : List (List ℕ) → S → ℕ → ℕ → Type 0
  -- which payloads begin a snapshot that may go on after them, since it says that it has more
  pub AreCutShort : List (List ℕ) → Type 0
  pub has_snapshots : Bool
  -- the payloads of the snapshot that is written of this state, before which so many payloads and so many entries come
  pub snapshot_of : S → ℕ → ℕ → List (List ℕ)
  -- the entries that a caller may submit
  pub IsProper : E → Type 0
  -- the state of a new store of this format version
  pub empty : ℕ → S
  -- what holds of each state that a store comes to
  pub IsValid : S → Type 0
  -- that two states are the same, or two lists of entries, is known in one way at most
  pub states_once : (T U : S) → IsProp (T ≡ U)
  pub lists_once : (es fs : List E) → IsProp (es ≡ fs)
  -- Why the version of the store refuses an entry that is submitted at this state, if it does. It has no say over the
  -- entries of a history, which were accepted before.
  pub version_refusal : S → E → Option Refusal
  -- what an entry comes to at a state, which is its reply or why it is refused; and the state that it leaves
  pub answer : S → E → Result R Refusal
  pub after : S → E → S
  -- the state after the last of some entries, and that each is accepted at the state which those before it leave
  pub replay_from : S → List E → S
  pub IsLegalFrom : S → List E → Type 0
  -- A history begins with a base: how many entries came before those that it lists, and the state that they left.
  pub history : ℕ → S → List E → H
  pub base_count : H → ℕ
  pub base : H → S
  pub entries : H → List E

-- the entry has a record
abbrev pub HasRecord : {H S E R : Type 0} → StoreKind H S E R → E → Type 0
HasRecord k e = (bytes : List ℕ) × k.IsRecordOf bytes e

-- the entry is accepted at this state
abbrev pub IsAccepted : {H S E R : Type 0} → StoreKind H S E R → S → E → Type 0
IsAccepted k T e = IsOk (k.answer T e)

-- why it is refused, or None where it is accepted
abbrev pub IsRefusalOf : {H S E R : Type 0} → StoreKind H S E R → S → E → Option Refusal → Type 0
IsRefusalOf k T e None = IsAccepted k T e
IsRefusalOf k T e (Some refusal) = k.answer T e ≡ Err refusal

-- The error is right for what the entry comes to: a refusal is its own, and memory is wanted only for one that is accepted.
abbrev pub IsErrorOf : {H S E R : Type 0} → StoreKind H S E R → S → E → StepRefused → Type 0
IsErrorOf k T e (step.Refused refusal) = k.answer T e ≡ Err refusal
IsErrorOf k T e step.NoMemory = IsAccepted k T e

-- this refusal, or the answer where there is none
abbrev pub unless_refused : {R : Type 0} → Option Refusal → Result R Refusal → Result R Refusal
unless_refused None answer = answer
unless_refused (Some refusal) answer = Err refusal

-- what an entry that is submitted at this state is answered: the version of the store is asked first
abbrev pub submitted : {H S E R : Type 0} → StoreKind H S E R → S → E → Result R Refusal
submitted k T e = unless_refused (k.version_refusal T e) (k.answer T e)

-- the state after the last entry of a history, and that it is legal
abbrev pub replay : {H S E R : Type 0} → StoreKind H S E R → H → S
replay k h = k.replay_from (k.base h) (k.entries h)

abbrev pub IsLegal : {H S E R : Type 0} → StoreKind H S E R → H → Type 0
IsLegal k h = k.IsLegalFrom (k.base h) (k.entries h)

-- a history with one entry more
abbrev pub with_entry : {H S E R : Type 0} → StoreKind H S E R → E → H → H
with_entry k e h = k.history (k.base_count h) (k.base h) (k.entries h ++ e ∷ [])

-- the history of these entries from a new store of this format version on
abbrev pub history_of : {H S E R : Type 0} → StoreKind H S E R → ℕ → List E → H
history_of k version entries = k.history 0 (k.empty version) entries

-- what the entries of a store of this kind are to it
abbrev pub entry_kind : {H S E R : Type 0} → StoreKind H S E R → EntryKind H E R
entry_kind k = record {
  answer = λ h e. submitted k (replay k h) e;
  with_entry = with_entry k;
  size = λ e. length (k.record_of e);
  IsWritten = λ e. k.IsRecordOf (k.record_of e) e;
}

-- What has to hold of a kind, so that a store can be kept of it.
pub record IsLawful {H S E R : Type 0} (k : StoreKind H S E R) : Type 0 where
  -- a header without a kind has the number 0
  pub numbered : 1 ≤ k.number
  -- bytes are a record of one entry at most
  pub records_once : (bytes : List ℕ) (e f : E) → k.IsRecordOf bytes e → k.IsRecordOf bytes f → e ≡ f
  -- no part of a snapshot is one
  pub records_apart : (bytes : List ℕ) (e : E) → k.IsRecordOf bytes e → k.is_part bytes ≡ false
  -- a snapshot begins with a head, which says how many payloads come before
  pub headed : (payloads : List (List ℕ)) (T : S) (before entries : ℕ) → k.BeginSnapshot payloads T before entries
      → (head : List ℕ) × (more : List (List ℕ)) × (payloads ≡ head ∷ more) × IsHead head × (number_at 1 head ≡ before)
  -- payloads begin with one snapshot at most, whatever comes after it
  pub snapshots_once : (payloads : List (List ℕ)) (T U : S) (before other entries others : ℕ) → k.BeginSnapshot payloads T before entries → k.BeginSnapshot payloads U other others → (T ≡ U) × (entries ≡ others)
  pub snapshot_more : (payloads more : List (List ℕ)) (T : S) (before entries : ℕ) → k.BeginSnapshot payloads T before entries → k.BeginSnapshot (payloads ++ more) T before entries
  pub none_made : k.has_snapshots ≡ false → (payloads : List (List ℕ)) (T : S) (before entries : ℕ) → k.BeginSnapshot payloads T before entries → ⊥
  -- entries are replayed one by one
  pub replay_none : (T : S) → k.replay_from T [] ≡ T
  pub replay_more : (T : S) (es : List E) (e : E) → k.replay_from T (es ++ e ∷ []) ≡ k.after (k.replay_from T es) e
  -- and are legal if each is accepted
  pub legal_none : (T : S) → k.IsLegalFrom T []
  pub legal_more : (T : S) (es : List E) (e : E) → k.IsLegalFrom T es → IsAccepted k (k.replay_from T es) e → k.IsLegalFrom T (es ++ e ∷ [])
  pub legal_at : (T : S) (es : List E) (e : E) (fs : List E) → k.IsLegalFrom T (es ++ e ∷ fs) → IsAccepted k (k.replay_from T es) e
  -- the state of a new store is valid, and entries that are accepted from a valid state on leave a valid one
  pub valid_new : (version : ℕ) → is_version version ≡ true → ∥ k.IsValid (k.empty version) ∥₁
  pub valid_left : (T : S) (es : List E) → k.IsValid T → AllByRecursion (HasRecord k) es → k.IsLegalFrom T es → ∥ k.IsValid (k.replay_from T es) ∥₁
  -- a history is its base and its list
  pub whole : (h : H) → k.history (k.base_count h) (k.base h) (k.entries h) ≡ h
  pub base_count_is : (n : ℕ) (T : S) (es : List E) → k.base_count (k.history n T es) ≡ n
  pub base_is : (n : ℕ) (T : S) (es : List E) → k.base (k.history n T es) ≡ T
  pub entries_are : (n : ℕ) (T : S) (es : List E) → k.entries (k.history n T es) ≡ es

-- An entry leaves a valid state.
abbrev pub StaysValid : {H S E R : Type 0} → StoreKind H S E R → Type 0
StaysValid {S = S} {E = E} k = (T : S) (e : E) → k.IsProper e → k.IsValid T → k.IsValid (k.after T e)
