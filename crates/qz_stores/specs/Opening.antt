-- What an opening finds in the bytes of a disk, from the slot in use on.
use Rattle.std.specs.Prelude.{⊤, ◌≡◌, ◌≢◌, ◌⊎◌, ℕ, ◌+◌, ◌≤◌, Bool, true, false, List, [], ◌∷◌, ◌++◌, length, take, All, Option, Some, None}
use Rattle.std.specs.List.{AllByRecursion}
use Rattle.qz_journal.specs.Layout.{IsHeader, HasHeader, IsPayload, end_from}
use Rattle.qz_journal.specs.Opening.{EndsAt}
use Rattle.qz_journal.specs.Slots.{slots_of, slot_in_use}
use Rattle.qz_journal.specs.Tails.{start_of, IsTail, IsMisled}
use Rattle.qz_journal.specs.declared.errors.MountError.{MountError}
use Rattle.qz_journal.specs.declared.errors.MountError.TheVariants as mount
use Rattle.qz_stores.specs.Stores.{StoreState}
use Rattle.qz_stores.specs.Kinds.{StoreKind, HasRecord, IsAccepted, IsLegal, replay}
use Rattle.qz_stores.specs.Bases.{RecordEntries}
use Rattle.qz_stores.specs.Bytes.{BeginsNew}

-- What holds of a store at each moment, whatever its disk tells: its base is a valid state, or that of a new store where the
-- kind has no snapshots; its history is legal, and leaves a valid state. While it is open, no more entries than payloads come
-- before its gate: the journal of a closed one may have been read anew.
pub record IsSound {H S E R : Type 0} (k : StoreKind H S E R) (s : StoreState H E) : Type 0 where
  pub version : ℕ
  pub begins : k.has_snapshots ≡ false → BeginsNew k version s.history
  pub base : ∥ k.IsValid (k.base s.history) ∥₁
  pub legal : IsLegal k s.history
  pub state : ∥ k.IsValid (replay k s.history) ∥₁
  pub counted : s.is_open ≡ true → k.base_count s.history + length (k.entries s.history) ≤ s.payloads

-- a store that was just opened
pub record IsOpened {H S E R : Type 0} (k : StoreKind H S E R) (s : StoreState H E) : Type 0 where
  pub is_open : s.is_open ≡ true
  pub settled : s.undecided ≡ None
  pub sound : IsSound k s
  pub valid : AllByRecursion (HasRecord k) (k.entries s.history)

-- Payloads begin with a snapshot that an opening takes: of a valid state, and with no more entries than payloads before it.
pub record BeginWell {H S E R : Type 0} (k : StoreKind H S E R) (payloads : List (List ℕ)) (T : S) (entries : ℕ) : Type 0 where
  pub before : ℕ
  pub snapshot : k.BeginSnapshot payloads T before entries
  pub counted : entries ≤ before
  pub valid : k.IsValid T

-- What the entries of these payloads begin with: where a slot is in use, what the snapshot there says, and else a new store.
abbrev pub IsBase : {H S E R : Type 0} → StoreKind H S E R → Option ℕ → ℕ → List (List ℕ) → S → ℕ → Type 0
IsBase k None version payloads T entries = (T ≡ k.empty version) × (entries ≡ 0)
IsBase k (Some gate) version payloads T entries = BeginWell k payloads T entries

-- A payload stands at the slot in use, and no snapshot that an opening takes begins there. (Where not even one stands, a bad
-- gate does; and where one cuts the snapshot off, `IsCut` says so.)
abbrev pub IsUnread : {H S E R : Type 0} → StoreKind H S E R → Option ℕ → List (List ℕ) → Type 0
IsUnread k None payloads = ⊥
IsUnread {S = S} k (Some gate) payloads = (payloads ≢ []) × ((T : S) (entries : ℕ) → BeginWell k payloads T entries → ⊥)

-- Payloads are parts of snapshots and records of these entries, which are accepted one by one from this state on.
pub record AreTaken {H S E R : Type 0} (k : StoreKind H S E R) (T : S) (payloads : List (List ℕ)) (entries : List E) : Type 0 where
  pub recorded : RecordEntries k payloads entries
  pub valid : AllByRecursion (HasRecord k) entries
  pub legal : k.IsLegalFrom T entries

-- It is a record of no entry that is accepted at this state: it is no record at all, or its command is refused.
abbrev pub IsUnfit : {H S E R : Type 0} → StoreKind H S E R → S → List ℕ → Type 0
IsUnfit {E = E} k T payload = (e : E) → k.IsRecordOf payload e → IsAccepted k T e → ⊥

-- Of these payloads, which stand from this offset on, the first that is no part of a snapshot and unfit has its gate at this
-- place.
pub record HaveUnfit {H S E R : Type 0} (k : StoreKind H S E R) (T : S) (start : ℕ) (payloads : List (List ℕ)) (at : ℕ) : Type 0 where
  pub taken : List (List ℕ)
  pub entries : List E
  pub are_taken : AreTaken k T taken entries
  pub payload : List ℕ
  pub more : List (List ℕ)
  pub whole : payloads ≡ taken ++ payload ∷ more
  pub at_is : at ≡ end_from start taken
  pub no_part : k.is_part payload ≡ false
  pub unfit : IsUnfit k (k.replay_from T entries) payload

-- The payloads from the slot in use on are those of this history: it begins with the base that stands there, and its entries
-- are recorded.
pub record IsRead {H S E R : Type 0} (k : StoreKind H S E R) (slot : Option ℕ) (version : ℕ) (payloads : List (List ℕ)) (n : ℕ) (T : S) (entries : List E) : Type 0 where
  pub base : IsBase k slot version payloads T n
  pub taken : AreTaken k T payloads entries

-- The bytes from the slot in use on are those of this history.
pub record StandsFrom {H S E R : Type 0} (k : StoreKind H S E R) (version : ℕ) (bytes : List ℕ) (h : H) : Type 0 where
  pub payloads : List (List ℕ)
  pub tail : IsTail bytes version k.number (start_of (slots_of bytes)) payloads
  pub read : IsRead k (slot_in_use (slots_of bytes)) version payloads (k.base_count h) (k.base h) (k.entries h)

-- Why payloads that stand from this offset on are refused at this place, where a slot, if one is in use, leads to a head:
-- no snapshot that an opening takes begins there, and the slot's gate is named; or a payload is unfit.
abbrev pub IsStopped : {H S E R : Type 0} → StoreKind H S E R → Option ℕ → ℕ → ℕ → List (List ℕ) → ℕ → Type 0
IsStopped {S = S} k slot version start payloads at =
    ((slot ≡ Some at) × IsUnread k slot payloads) ⊎ ((T : S) × (n : ℕ) × IsBase k slot version payloads T n × HaveUnfit k T start payloads at)

-- There are none, or all are taken.
abbrev pub AreAllTaken : {H S E R : Type 0} → StoreKind H S E R → Option ℕ → ℕ → List (List ℕ) → Type 0
AreAllTaken {S = S} {E = E} k slot version payloads = (payloads ≡ []) ⊎ ((n : ℕ) × (T : S) × (entries : List E) × IsRead k slot version payloads n T entries)

-- These payloads stand at the slot in use, and the snapshot there goes on after them.
abbrev pub IsCut : {H S E R : Type 0} → StoreKind H S E R → Option ℕ → List (List ℕ) → Type 0
IsCut k None payloads = ⊥
IsCut k (Some gate) payloads = k.AreCutShort payloads

-- After these payloads comes a bad gate, at this offset. Where it cuts the snapshot off, this is the first bad place. Else that is
-- an earlier one, or it.
abbrev pub IsFirstBad : {H S E R : Type 0} → StoreKind H S E R → Option ℕ → ℕ → ℕ → List (List ℕ) → ℕ → ℕ → Type 0
IsFirstBad k slot version start payloads at place = (IsCut k slot payloads × (place ≡ at))
    ⊎ ((IsCut k slot payloads → ⊥) × (IsStopped k slot version start payloads place ⊎ ((place ≡ at) × AreAllTaken k slot version payloads)))

-- Why a store is damaged at this place, where these payloads stand from this offset on: they are refused there, and the gate after
-- them is closed; or that gate is bad.
abbrev pub IsCauseOf : {H S E R : Type 0} → StoreKind H S E R → Option ℕ → ℕ → ℕ → List (List ℕ) → Bool → ℕ → Type 0
IsCauseOf k slot version start payloads true place = IsStopped k slot version start payloads place
IsCauseOf k slot version start payloads false place = IsFirstBad k slot version start payloads (end_from start payloads) place

-- Of a store of this kind, these payloads stand from the slot in use on, and then a gate that is closed or bad; and this is
-- the least bad place. The slot in use, if there is one, leads to a head.
pub record IsDamagedFrom {H S E R : Type 0} (k : StoreKind H S E R) (bytes : List ℕ) (at : ℕ) : Type 0 where
  pub version : ℕ
  pub payloads : List (List ℕ)
  pub is_whole : Bool
  pub header : IsHeader version k.number (take 16 bytes)
  pub sizes : All IsPayload payloads
  pub ends : EndsAt bytes (start_of (slots_of bytes)) payloads is_whole
  pub led : (gate : ℕ) → IsMisled bytes (slots_of bytes) gate → ⊥
  pub cause : IsCauseOf k (slot_in_use (slots_of bytes)) version (start_of (slots_of bytes)) payloads is_whole at

-- why an opening of these bytes is refused; that the disk or memory failed isn't seen in them
abbrev pub IsRefused : {H S E R : Type 0} → StoreKind H S E R → List ℕ → MountError → Type 0
IsRefused k bytes mount.NotAStore = HasHeader k.number bytes → ⊥
IsRefused k bytes (mount.Damaged at) = HasHeader k.number bytes × (IsMisled bytes (slots_of bytes) at ⊎ IsDamagedFrom k bytes at)
IsRefused k bytes mount.Fault = ⊤
IsRefused k bytes mount.NoMemory = ⊤

-- why payloads aren't taken
abbrev pub IsStop : {H S E R : Type 0} → StoreKind H S E R → Option ℕ → ℕ → ℕ → List (List ℕ) → MountError → Type 0
IsStop k slot version start payloads (mount.Damaged at) = IsStopped k slot version start payloads at
IsStop k slot version start payloads mount.NoMemory = ⊤
IsStop k slot version start payloads mount.NotAStore = ⊥
IsStop k slot version start payloads mount.Fault = ⊥

abbrev pub IsFirst : {H S E R : Type 0} → StoreKind H S E R → Option ℕ → ℕ → ℕ → List (List ℕ) → ℕ → MountError → Type 0
IsFirst k slot version start payloads at (mount.Damaged place) = IsFirstBad k slot version start payloads at place
IsFirst k slot version start payloads at mount.NoMemory = ⊤
IsFirst k slot version start payloads at mount.NotAStore = ⊥
IsFirst k slot version start payloads at mount.Fault = ⊥

-- Each history that an opening may take from these bytes lists so many entries after its base.
abbrev pub OpensWith : {H S E R : Type 0} → StoreKind H S E R → List ℕ → ℕ → Type 0
OpensWith {H = H} k bytes many = (version : ℕ) (h : H) → StandsFrom k version bytes h → length (k.entries h) ≡ many
