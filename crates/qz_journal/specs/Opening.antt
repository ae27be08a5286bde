-- What an opening or a creation finds in the bytes of a disk.
use Rattle.std.specs.Prelude.{⊤, Bool, true, false, ◌≡◌, ◌≢◌, ◌⊎◌, ℕ, List, [], ◌∷◌, ◌++◌, drop, All, Ok, Err}
use Rattle.std.specs.declared.result.Result.{Result}
use Rattle.qz_journal.specs.declared.errors.CreateError.{CreateError}
use Rattle.qz_journal.specs.declared.errors.CreateError.TheVariants as create
use Rattle.qz_journal.specs.declared.errors.MountError.{MountError}
use Rattle.qz_journal.specs.declared.errors.MountError.TheVariants as mount
use Rattle.qz_journal.specs.Layout.{HasHeader, IsStore, HasStore, IsPayload, other_kind, open_gate, body_of, blocks, end_of}

-- no length and payload stand here: the length is out of range, or it or the payload passes the end
abbrev pub IsCut : List ℕ → Type 0
IsCut bytes = (payload rest : List ℕ) → IsPayload payload → bytes ≢ body_of payload ++ rest

-- the gate is missing, or it is open and what follows it is cut
abbrev pub IsBad : List ℕ → Type 0
IsBad tail = (tail ≡ []) ⊎ ((rest : List ℕ) × (tail ≡ open_gate ∷ rest) × IsCut rest)

-- a gate that isn't open
abbrev pub IsShut : List ℕ → Type 0
IsShut tail = (gate : ℕ) × (rest : List ℕ) × (tail ≡ gate ∷ rest) × (gate ≢ open_gate)

-- Behind the blocks of these payloads, at this offset, the gate is missing, or it is open and what follows it is cut.
pub record IsDamagedBehind (bytes : List ℕ) (kind : ℕ) (payloads : List (List ℕ)) (at : ℕ) : Type 0 where
  pub sizes : All IsPayload payloads
  pub tail : List ℕ
  pub header : HasHeader kind bytes
  pub whole : drop 16 bytes ≡ blocks payloads ++ tail
  pub at_is : at ≡ end_of payloads
  pub bad : IsBad tail

-- From this offset on the blocks of these payloads stand, and after them a gate is closed, or else it is missing or what
-- follows it is cut.
pub record EndsAt (bytes : List ℕ) (start : ℕ) (payloads : List (List ℕ)) (is_whole : Bool) : Type 0 where
  pub tail : List ℕ
  pub whole : drop start bytes ≡ blocks payloads ++ tail
  pub shut : is_whole ≡ true → IsShut tail
  pub stuck : is_whole ≡ false → IsBad tail

-- Behind the blocks of some payloads the bytes are damaged, at this offset. Since all before it is whole, it is the
-- least such place.
pub record IsDamaged (bytes : List ℕ) (kind at : ℕ) : Type 0 where
  pub payloads : List (List ℕ)
  pub behind : IsDamagedBehind bytes kind payloads at

-- why an opening of these bytes is refused; that the disk or memory failed isn't seen in them
abbrev pub IsRefused : List ℕ → ℕ → MountError → Type 0
IsRefused bytes kind mount.NotAStore = HasHeader kind bytes → ⊥
IsRefused bytes kind (mount.Damaged at) = IsDamaged bytes kind at
IsRefused bytes kind mount.Fault = ⊤
IsRefused bytes kind mount.NoMemory = ⊤

-- the same, with the payloads that stand before a bad place
abbrev pub IsRefusedBehind : List ℕ → ℕ → List (List ℕ) → MountError → Type 0
IsRefusedBehind bytes kind payloads mount.NotAStore = HasHeader kind bytes → ⊥
IsRefusedBehind bytes kind payloads (mount.Damaged at) = IsDamagedBehind bytes kind payloads at
IsRefusedBehind bytes kind payloads mount.Fault = ⊤
IsRefusedBehind bytes kind payloads mount.NoMemory = ⊤

-- What a creation finds: no store, one of this kind, or one of the other. That the disk failed isn't seen in the bytes.
abbrev pub IsFound : List ℕ → ℕ → Result (Unit {0}) CreateError → Type 0
IsFound bytes kind (Ok _) = HasStore kind bytes → ⊥
IsFound bytes kind (Err create.Exists) = IsStore kind bytes
IsFound bytes kind (Err create.OtherKind) = IsStore (other_kind kind) bytes
IsFound bytes kind (Err create.Fault) = ⊤
