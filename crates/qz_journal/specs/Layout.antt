-- The bytes of a store file: a header of 16 bytes, a block for each payload, and one byte that ends them.
use Rattle.std.specs.Prelude.{◌≡◌, ◌≢◌, ◌⊎◌, ◌||◌, Bool, true, ℕ, ◌+◌, ◌<◌, ◌≤◌, List, [], ◌∷◌, ◌++◌, length, take, drop, replicate, slice_index, All, if◌then◌else◌, ◌==◌}
use Rattle.std.specs.Int.{w32, to_be_bytes}
use Rattle.qz_journal.specs.declared.layout.TheConstants.{TRIGGERS, STATES, OPEN_GATE, MAX_PAYLOAD}

-- `QZ23`, a version and a kind
abbrev pub front_of : ℕ → ℕ → List ℕ
front_of version kind = 81 ∷ 90 ∷ 50 ∷ 51 ∷ version ∷ kind ∷ []

-- the versions that are read
abbrev pub is_version : ℕ → Bool
is_version version = (version == 1) || (version == 2)

-- The first 16 bytes of a store of this version and kind. Six of them say so; the other ten are the slots.
pub record IsHeader (version kind : ℕ) (head : List ℕ) : Type 0 where
  pub known : is_version version ≡ true
  pub front : take 6 head ≡ front_of version kind
  pub long : length head ≡ 16

-- the header that a new store is given, with both slots closed
abbrev pub new_header : ℕ → ℕ → List ℕ
new_header version kind = front_of version kind ++ replicate 10 0

-- The bytes begin with the header of a store of this kind, in a version that is read.
abbrev pub HasHeader : ℕ → List ℕ → Type 0
HasHeader kind bytes = (version : ℕ) × IsHeader version kind (take 16 bytes)

-- the kind of the other store: `T` of triggers, `S` of states
abbrev pub other_kind : ℕ → ℕ
other_kind kind = if kind == TRIGGERS then STATES else TRIGGERS

-- the first six bytes of a store of this kind, of any version
abbrev pub IsFront : ℕ → List ℕ → Type 0
IsFront kind front = (version : ℕ) × (front ≡ front_of version kind)

-- The bytes begin as a store of this kind does, in any version and whatever follows.
abbrev pub IsStore : ℕ → List ℕ → Type 0
IsStore kind bytes = IsFront kind (take 6 bytes)

-- The bytes begin as a store does, of this kind or of the other.
abbrev pub HasStore : ℕ → List ℕ → Type 0
HasStore kind bytes = IsStore kind bytes ⊎ IsStore (other_kind kind) bytes

-- the byte of an open gate; any other closes the file
abbrev pub open_gate : ℕ
open_gate = OPEN_GATE

abbrev pub IsPayload : List ℕ → Type 0
IsPayload payload = (1 ≤ length payload) × (length payload ≤ MAX_PAYLOAD)

-- what follows an open gate: the length of the payload, and the payload
abbrev pub body_of : List ℕ → List ℕ
body_of payload = to_be_bytes w32 (length payload) ++ payload

-- for each payload an open gate, its length and its bytes
abbrev pub blocks : List (List ℕ) → List ℕ
blocks [] = []
blocks (p ∷ ps) = open_gate ∷ (body_of p ++ blocks ps)

-- the offset after them, where the first stands at this offset
abbrev pub end_from : ℕ → List (List ℕ) → ℕ
end_from start ps = start + length (blocks ps)

-- the offset after them, where the first follows the header
abbrev pub end_of : List (List ℕ) → ℕ
end_of ps = 16 + length (blocks ps)

abbrev pub BeginsWith : List ℕ → List ℕ → Type 0
BeginsWith front bytes = take (length front) bytes ≡ front

-- The bytes hold these payloads, in this version: the header, a block for each, one byte that is no open gate, and then any bytes.
pub record Holds (bytes : List ℕ) (version kind : ℕ) (payloads : List (List ℕ)) : Type 0 where
  pub sizes : All IsPayload payloads
  pub header : IsHeader version kind (take 16 bytes)
  pub blocks_stand : BeginsWith (blocks payloads) (drop 16 bytes)
  pub gate : end_of payloads < length bytes
  pub shut : slice_index bytes (end_of payloads) ≢ open_gate

-- without these further payloads, or with all of them
abbrev pub IsWithoutOrWithAll : ℕ → ℕ → List (List ℕ) → List (List ℕ) → List ℕ → Type 0
IsWithoutOrWithAll version kind payloads news bytes =
    Holds bytes version kind payloads ⊎ Holds bytes version kind (payloads ++ news)

-- without this further payload, or with it
abbrev pub IsBeforeOrAfter : ℕ → ℕ → List (List ℕ) → List ℕ → List ℕ → Type 0
IsBeforeOrAfter version kind payloads payload bytes = IsWithoutOrWithAll version kind payloads (payload ∷ []) bytes

-- The bytes hold these payloads and the first of the further ones.
pub record HoldFirst (version kind : ℕ) (payloads news : List (List ℕ)) (bytes : List ℕ) : Type 0 where
  pub many : ℕ
  pub holds : Holds bytes version kind (payloads ++ take many news)
