-- Where a stream stands after the bytes that were fed.
use Rattle.std.specs.Prelude.{◌≡◌, ⊤, ℕ, ◌<◌, ◌≤◌, Option, Some, None, Result, Ok, Err, List, [], ◌∷◌, ◌++◌, length, take, drop}
use Rattle.qz_journal.specs.Layout.{open_gate, body_of, end_of}
use Rattle.qz_journal.specs.Slots.{slots_of}
use Rattle.qz_journal.specs.declared.slots.Slots.{Slots}
use Rattle.qz_stream.specs.declared.place.BadStream.{BadStream}
use Rattle.qz_stream.specs.declared.place.Next.{Next}
use Rattle.qz_stream.specs.declared.place.Next.TheVariants as next
use Rattle.qz_stream.specs.declared.place.Place.{Place}
use Rattle.qz_stream.specs.declared.place.Place.TheVariants as place
use Rattle.qz_stream.specs.Blocks.{Splits, AreWithin, IsUnfinished, IsBlock, IsShut, IsBadBlock, IsEnd, IsBadPlace}
use Rattle.qz_stream.specs.Front.{MayBegin, IsVersionOf}

-- What a stream keeps. `slots` are those of the header, and both closed until it is whole. `tail` are the bytes that are there of
-- the header, or of the block from the gate at the offset `gate` on. In `Bad` the offset is that of the bad place.
pub record Standing : Type 0 where
  pub version : Option ℕ
  pub slots : Slots
  pub place : Place
  pub gate : ℕ
  pub tail : List ℕ

-- both slots closed
abbrev pub no_slots : Slots
no_slots = record { a = None; b = None }

-- before any byte
abbrev pub fresh : Standing
fresh = record { version = None; slots = no_slots; place = place.Header; gate = 0; tail = [] }

-- the payload of a whole block
abbrev pub payload_of : List ℕ → List ℕ
payload_of block = drop 5 block

abbrev pub handed_at : Place → List ℕ → List (List ℕ)
handed_at place.Header tail = []
handed_at place.Block tail = []
handed_at place.Whole tail = payload_of tail ∷ []
handed_at place.Ended tail = []
handed_at place.Bad tail = []

-- the payload that is handed out here, if one is
abbrev pub handed : Standing → List (List ℕ)
handed s = handed_at s.place s.tail

-- The header isn't whole.
pub record IsInHeader (fed : List ℕ) (payloads : List (List ℕ)) (gate : ℕ) (tail : List ℕ) : Type 0 where
  pub short : length fed < 16
  pub front : MayBegin fed
  pub none : payloads ≡ []
  pub gate_is : gate ≡ 0
  pub tail_is : tail ≡ fed

-- The payloads are followed by less than a block.
pub record IsInBlock (fed : List ℕ) (payloads : List (List ℕ)) (gate : ℕ) (tail : List ℕ) : Type 0 where
  pub splits : Splits fed payloads tail
  pub within : AreWithin payloads
  pub gate_is : gate ≡ end_of payloads
  pub unfinished : IsUnfinished gate tail

-- The last payload was just read.
pub record IsAfterBlock (fed : List ℕ) (payloads : List (List ℕ)) (gate : ℕ) (tail : List ℕ) : Type 0 where
  pub before : List (List ℕ)
  pub payload : List ℕ
  pub payloads_are : payloads ≡ before ++ payload ∷ []
  pub tail_is : tail ≡ open_gate ∷ body_of payload
  pub gate_is : gate ≡ end_of before
  pub splits : Splits fed payloads []
  pub within : AreWithin payloads

abbrev pub StandsAt : Place → List ℕ → List (List ℕ) → ℕ → List ℕ → Type 0
StandsAt place.Header fed payloads gate tail = IsInHeader fed payloads gate tail
StandsAt place.Block fed payloads gate tail = IsInBlock fed payloads gate tail
StandsAt place.Whole fed payloads gate tail = IsAfterBlock fed payloads gate tail
StandsAt place.Ended fed payloads gate tail = IsEnd fed payloads gate
StandsAt place.Bad fed payloads gate tail = IsBadPlace fed payloads gate

-- the slots of a header that is whole, and has no bad byte
abbrev pub HasSlots : List ℕ → Slots → Type 0
HasSlots fed slots = MayBegin fed → 16 ≤ length fed → slots ≡ slots_of fed

-- After these bytes were fed, in whatever pieces, these payloads were handed out, and the stream stands so.
pub record IsAfter (fed : List ℕ) (payloads : List (List ℕ)) (s : Standing) : Type 0 where
  pub version : IsVersionOf fed s.version
  pub slots : HasSlots fed s.slots
  pub stands : StandsAt s.place fed payloads s.gate s.tail

-- These bytes more were fed. A payload is handed out where it is whole now.
abbrev pub Feeds : List ℕ → Standing → Standing → Type 0
Feeds bytes old new = (fed : List ℕ) (payloads : List (List ℕ)) → IsAfter fed payloads old → IsAfter (fed ++ bytes) (payloads ++ handed new) new

-- the header isn't whole, or a block isn't
abbrev pub IsReading : Place → Type 0
IsReading place.Header = ⊤
IsReading place.Block = ⊤
IsReading place.Whole = ⊥
IsReading place.Ended = ⊥
IsReading place.Bad = ⊥

-- what an answer says of the place, and of the piece that was given
abbrev pub Tells : Result Next BadStream → List ℕ → Standing → Type 0
Tells (Ok (next.Payload used)) piece new = (new.place ≡ place.Whole) × (1 ≤ used) × (used ≤ length piece)
Tells (Ok next.More) piece new = IsReading new.place
Tells (Ok next.Ended) piece new = new.place ≡ place.Ended
Tells (Err e) piece new = (new.place ≡ place.Bad) × (e.at ≡ new.gate)

-- the bytes of a piece that were fed: up to the end of a payload, else all
abbrev pub fed_of : Result Next BadStream → List ℕ → List ℕ
fed_of (Ok (next.Payload used)) piece = take used piece
fed_of (Ok next.More) piece = piece
fed_of (Ok next.Ended) piece = piece
fed_of (Err e) piece = piece

-- what the bytes from a gate on are
abbrev pub IsFound : Place → ℕ → List ℕ → Type 0
IsFound place.Header gate tail = ⊥
IsFound place.Block gate tail = IsUnfinished gate tail
IsFound place.Whole gate tail = IsBlock gate tail
IsFound place.Ended gate tail = IsShut tail
IsFound place.Bad gate tail = IsBadBlock gate tail

-- what is always so, whatever was fed
abbrev pub IsSoundAt : Place → ℕ → List ℕ → Type 0
IsSoundAt place.Header gate tail = length tail < 16
IsSoundAt place.Block gate tail = IsUnfinished gate tail
IsSoundAt place.Whole gate tail = IsBlock gate tail
IsSoundAt place.Ended gate tail = ⊤
IsSoundAt place.Bad gate tail = ⊤

abbrev pub length_at : Place → List ℕ → Option ℕ
length_at place.Header tail = Some (length tail)
length_at place.Block tail = None
length_at place.Whole tail = None
length_at place.Ended tail = None
length_at place.Bad tail = None

-- how many bytes of the header are there, where it isn't whole
abbrev pub header_length_of : Standing → Option ℕ
header_length_of s = length_at s.place s.tail
