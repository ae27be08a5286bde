-- The payloads of a trigger store, as far as its bytes are there.
use Rattle.std.specs.Prelude.{◌≡◌, ◌≢◌, ◌⊎◌, ⊤, ℕ, true, ◌+◌, ◌<◌, ◌≤◌, List, [], ◌∷◌, ◌++◌, All, length, take}
use Rattle.std.specs.Int.{w32, from_be_bytes}
use Rattle.qz_journal.specs.Layout.{front_of, is_version, IsPayload, open_gate, body_of, blocks, end_of}
use Rattle.qz_journal.specs.declared.layout.TheConstants.{MAX_PAYLOAD, TRIGGERS}
use Rattle.qz_stream.specs.declared.blocks.TheConstants.{MAX_BYTES}
use Rattle.qz_stream.specs.Front.{MayBegin, IsBadFront}

-- The bytes are a header, the blocks of these payloads, and this tail. What the ten bytes after the front say is left open.
pub record Splits (bytes : List ℕ) (payloads : List (List ℕ)) (tail : List ℕ) : Type 0 where
  pub head : List ℕ
  pub long : length head ≡ 16
  pub front : MayBegin head
  pub sizes : All IsPayload payloads
  pub whole : bytes ≡ head ++ (blocks payloads ++ tail)

-- no whole block stands here
abbrev pub HasNoBlock : List ℕ → Type 0
HasNoBlock tail = (payload rest : List ℕ) → IsPayload payload → tail ≢ open_gate ∷ (body_of payload ++ rest)

-- all whole payloads before the first gate that isn't open
abbrev pub AreTaken : List ℕ → List (List ℕ) → Type 0
AreTaken bytes payloads =
    ((tail : List ℕ) × Splits bytes payloads tail × HasNoBlock tail)
    ⊎ ((payloads ≡ []) × ((others : List (List ℕ)) (tail : List ℕ) → Splits bytes others tail → ⊥))

-- the length that these four bytes say; further ones may follow
abbrev pub announced : List ℕ → ℕ
announced behind = from_be_bytes w32 (take 4 behind)

-- A payload of this length may follow an open gate at this offset: the gate after it still is within the limit of bytes.
pub record MayFollow (gate size : ℕ) : Type 0 where
  pub some : 1 ≤ size
  pub short : size ≤ MAX_PAYLOAD
  pub within : gate + (5 + size) < MAX_BYTES

-- Nothing stands here, or an open gate and less than four bytes, or less than the length and payload that these announce.
abbrev pub IsUnfinished : ℕ → List ℕ → Type 0
IsUnfinished gate [] = ⊤
IsUnfinished gate (first ∷ behind) = (first ≡ open_gate) × ((length behind < 4) ⊎ (MayFollow gate (announced behind) × (length behind < 4 + announced behind)))

-- Just one block stands here.
pub record IsBlock (gate : ℕ) (tail : List ℕ) : Type 0 where
  pub payload : List ℕ
  pub may_follow : MayFollow gate (length payload)
  pub is : tail ≡ open_gate ∷ body_of payload

-- A gate that isn't open stands here.
pub record IsShut (tail : List ℕ) : Type 0 where
  pub gate : ℕ
  pub rest : List ℕ
  pub is : tail ≡ gate ∷ rest
  pub shut : gate ≢ open_gate

-- An open gate stands here, and four bytes that announce a payload which may not follow.
pub record IsBadBlock (gate : ℕ) (tail : List ℕ) : Type 0 where
  pub behind : List ℕ
  pub is : tail ≡ open_gate ∷ behind
  pub long : 4 ≤ length behind
  pub bad : MayFollow gate (announced behind) → ⊥

-- The gate after these payloads is within the limit of bytes.
abbrev pub AreWithin : List (List ℕ) → Type 0
AreWithin payloads = end_of payloads < MAX_BYTES

-- After these payloads a gate isn't open.
pub record IsEnd (bytes : List ℕ) (payloads : List (List ℕ)) (gate : ℕ) : Type 0 where
  pub tail : List ℕ
  pub splits : Splits bytes payloads tail
  pub within : AreWithin payloads
  pub gate_is : gate ≡ end_of payloads
  pub shut : IsShut tail

-- After these payloads stands a bad block.
pub record IsBadGate (bytes : List ℕ) (payloads : List (List ℕ)) (gate : ℕ) : Type 0 where
  pub tail : List ℕ
  pub splits : Splits bytes payloads tail
  pub within : AreWithin payloads
  pub gate_is : gate ≡ end_of payloads
  pub bad : IsBadBlock gate tail

-- The first bad place of the bytes, and the payloads before it
abbrev pub IsBadPlace : List ℕ → List (List ℕ) → ℕ → Type 0
IsBadPlace bytes payloads at = (IsBadFront bytes at × (payloads ≡ [])) ⊎ IsBadGate bytes payloads at

-- No more stands here than a gate and four bytes, or than the block that these announce.
abbrev pub IsNoLonger : ℕ → List ℕ → Type 0
IsNoLonger gate [] = ⊤
IsNoLonger gate (first ∷ behind) = (length behind ≤ 4) ⊎ (length behind ≤ 4 + announced behind)

-- The bytes of a trigger store: its front, ten bytes of any value, the blocks of the payloads, a gate that isn't open, and any bytes.
pub record IsStoreBytes (bytes : List ℕ) (version : ℕ) (payloads : List (List ℕ)) : Type 0 where
  pub known : is_version version ≡ true
  pub slots : List ℕ
  pub ten : length slots ≡ 10
  pub sizes : All IsPayload payloads
  pub gate : ℕ
  pub shut : gate ≢ open_gate
  pub rest : List ℕ
  pub whole : bytes ≡ front_of version TRIGGERS ++ slots ++ blocks payloads ++ gate ∷ rest
