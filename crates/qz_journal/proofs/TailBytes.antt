-- Whether the slot in use leads to a head, seen from what was read there.
use Rattle.std.proofs.Common.{◌≡◌, ◌⊎◌, inl, inr, ℕ, ◌+◌, ◌-◌, ◌<◌, ◌≤◌, ◌^◌, Bool, false, List, [], ◌∷◌, ◌++◌, length, take, drop, get_or, Option, Some, None, refl, sym, ap, subst, ◌∙◌, arith, append_assoc, length-drop}
use Rattle.std.specs.Prelude.{All, Ok, Err, IfOk, IfErr, max}
use Rattle.std.specs.declared.result.Result.{Result}
use Rattle.std.proofs.lemmas.List.{get_or-drop}
use Rattle.qz_journal.specs.Layout.{IsHeader, HasHeader, IsPayload, body_of, blocks, end_from}
use Rattle.qz_journal.specs.Opening.{EndsAt, IsBad, IsRefusedBehind}
use Rattle.qz_journal.specs.Slots.{slots_of, slot_in_use, IsHead}
use Rattle.qz_journal.specs.Tails.{start_of, IsAstray, IsMisled, IsDamagedTail, IsTailRefused, IsLed, HasNoHead}
use Rattle.qz_journal.specs.declared.errors.MountError.{MountError}
use Rattle.qz_journal.specs.declared.errors.MountError.TheVariants as mount
use Rattle.qz_journal.specs.declared.slots.Slots.{Slots}
use Rattle.qz_journal.specs.declared.tail_reading.Tail.{Tail}
use Rattle.qz_journal.specs.Through.{OnlyReadsUnless, ReadsBetween}
use Rattle.qz_disk.specs.Disk.{DiskState, IsLawful}
use Rattle.qz_journal.proofs.Once.{same_bodies}
use Rattle.qz_journal.proofs.Opened.{damaged_anywhere}
use Rattle.qz_journal.proofs.Calls.{between_then}

-- the byte at an offset is the first of what stands from there on
first_at : (bytes tail : List ℕ) (start n : ℕ) → drop start bytes ≡ n ∷ tail → get_or bytes start 0 ≡ n
first_at bytes tail start n is = ap (λ k. get_or bytes k 0) (omega arith) ∙ sym (get_or-drop start bytes 0 0) ∙ ap (λ (l : List ℕ). get_or l 0 0) is

small : (p : List ℕ) → IsPayload p → length p < 2 ^ 32
small p size = omega (arith, size.1)

-- a head that was read stands there
pub head_not_astray : (bytes head more : List ℕ) (start : ℕ) → 16 ≤ start → start < length bytes → IsPayload head → IsHead head → drop start bytes ≡ 165 ∷ (body_of head ++ more) → IsAstray bytes start → ⊥
head_not_astray bytes head more start from there size is whole (inl (inl before)) = absurd (omega (arith, before, from))
head_not_astray bytes head more start from there size is whole (inl (inr after)) = absurd (omega (arith, after, there))
head_not_astray bytes head more start from there size is whole (inr (inl shut)) = shut (first_at bytes (body_of head ++ more) start 165 whole)
head_not_astray bytes head more start from there size is whole (inr (inr other)) =
    let inner : body_of head ++ more ≡ body_of other.payload ++ other.rest = ap (λ (l : List ℕ). drop 1 l) (sym whole ∙ other.whole) in
    let same = same_bodies head other.payload more other.rest (small head size) (small other.payload other.size) inner in
    other.no_head (subst IsHead same.0 is)

-- nor leads a gate astray after which a block is cut
cut_not_astray : (bytes tail : List ℕ) (start : ℕ) → 16 ≤ start → start < length bytes → IsBad tail → drop start bytes ≡ tail → IsAstray bytes start → ⊥
cut_not_astray bytes tail start from there bad whole (inl (inl before)) = absurd (omega (arith, before, from))
cut_not_astray bytes tail start from there bad whole (inl (inr after)) = absurd (omega (arith, after, there))
cut_not_astray bytes tail start from there (inl none) whole (inr astray) = absurd (omega (arith, there, ap length (whole ∙ none), length-drop start bytes))
cut_not_astray bytes tail start from there (inr cut) whole (inr (inl shut)) = shut (first_at bytes cut.0 start 165 (whole ∙ cut.1))
cut_not_astray bytes tail start from there (inr cut) whole (inr (inr other)) =
    cut.2 other.payload other.rest other.size (ap (λ (l : List ℕ). drop 1 l) (sym cut.1 ∙ sym whole ∙ other.whole))

led_by : (o : Option ℕ) (bytes : List ℕ) (start : ℕ) (ps : List (List ℕ)) (w : Bool) → 16 ≤ start → ((gate : ℕ) → o ≡ Some gate → start < length bytes) → All IsPayload ps → EndsAt bytes start ps w → IsLed o ps w → (gate : ℕ) → o ≡ Some gate → IsAstray bytes start → ⊥
led_by None bytes start ps w from inside sizes ends led gate is astray = absurd (cc)
led_by (Some slot) bytes start [] w from inside sizes ends led gate is astray = cut_not_astray bytes ends.tail start from (inside gate is) (ends.stuck led) ends.whole astray
led_by (Some slot) bytes start (p ∷ ps) w from inside sizes ends led gate is astray =
    head_not_astray bytes p (blocks ps ++ ends.tail) start from (inside gate is) (sizes 0 [] (omega arith)) led (ends.whole ∙ ap (λ (l : List ℕ). 165 ∷ l) (append_assoc (body_of p) (blocks ps) ends.tail)) astray

pub not_misled : (bytes : List ℕ) (s : Slots) (start : ℕ) (ps : List (List ℕ)) (w : Bool) → start ≡ start_of s → 16 ≤ start → ((gate : ℕ) → slot_in_use s ≡ Some gate → start < length bytes) → All IsPayload ps → EndsAt bytes start ps w → IsLed (slot_in_use s) ps w
    → (gate : ℕ) → IsMisled bytes s gate → ⊥
not_misled bytes s start ps w start_is from inside sizes ends led gate misled = led_by (slot_in_use s) bytes start ps w from inside sizes ends led gate misled.in_use (subst (IsAstray bytes) (sym start_is) misled.astray)

-- no head was read
astray_by : (bytes : List ℕ) (start : ℕ) (ps : List (List ℕ)) (w : Bool) → All IsPayload ps → EndsAt bytes start ps w → HasNoHead ps w → IsAstray bytes start
astray_by bytes start [] w sizes ends none =
    let shut = ends.shut none in
    inr (inl (λ is. shut.3 (sym (first_at bytes shut.1 start shut.0 (ends.whole ∙ shut.2)) ∙ is)))
astray_by bytes start (p ∷ ps) w sizes ends none = inr (inr (record {
  payload = p;
  rest = blocks ps ++ ends.tail;
  size = sizes 0 [] (omega arith);
  whole = ends.whole ∙ ap (λ (l : List ℕ). 165 ∷ l) (append_assoc (body_of p) (blocks ps) ends.tail);
  no_head = none;
}))

pub misled : (bytes : List ℕ) (s : Slots) (at start : ℕ) (ps : List (List ℕ)) (w : Bool) → slot_in_use s ≡ Some at → start ≡ start_of s → All IsPayload ps → EndsAt bytes start ps w → HasNoHead ps w → IsMisled bytes s at
misled bytes s at start ps w in_use start_is sizes ends none = record { in_use = in_use; astray = subst (IsAstray bytes) start_is (astray_by bytes start ps w sizes ends none) }

-- an error that names a place
pub one_place : (a b : ℕ) → mount.Damaged a ≡ mount.Damaged b → a ≡ b
one_place a b same = cc

pub one_error : {T : Type 0} (r : Result T MountError) (a b : MountError) → r ≡ Err a → r ≡ Err b → a ≡ b
one_error r a b one other = cc

-- The answers of an opening.

-- only its header is why
pub header_refused : (e : MountError) (bytes content : List ℕ) (kind : ℕ) → bytes ≡ content → ((ps : List (List ℕ)) → IsRefusedBehind bytes kind ps e) → (ps : List (List ℕ)) → IsTailRefused content kind ps e
header_refused mount.NotAStore bytes content kind same refused ps = subst (λ (b : List ℕ). HasHeader kind b → ⊥) same (refused [])
header_refused (mount.Damaged at) bytes content kind same refused ps = absurd (damaged_anywhere (mount.Damaged at) bytes kind at refl refused)
header_refused mount.Fault bytes content kind same refused ps = tt
header_refused mount.NoMemory bytes content kind same refused ps = tt

-- a gate after the payloads that were read is bad
pub tail_damaged : (r : Result Tail MountError) (version kind : ℕ) (s : Slots) (bytes content : List ℕ) → bytes ≡ content → s ≡ slots_of bytes → IsHeader version kind (take 16 bytes) → IfOk r (λ t. (t.start ≡ start_of s) × (16 ≤ t.start))
    → IfOk r (λ t. All IsPayload t.found.payloads) → IfOk r (λ t. EndsAt bytes t.start t.found.payloads t.found.is_whole) → IfOk r (λ t. t.found.gate ≡ end_from t.start t.found.payloads) → IfOk r (λ _. (gate : ℕ) → IsMisled bytes s gate → ⊥)
    → IfOk r (λ t. t.found.is_whole ≡ false → IsTailRefused content kind t.found.payloads (mount.Damaged t.found.gate))
tail_damaged (Err e) version kind s bytes content same slots header start sizes ends gate led = tt
tail_damaged (Ok t) version kind s bytes content same slots header start sizes ends gate led = λ is.
    let from : t.start ≡ start_of (slots_of bytes) = start.0 ∙ ap start_of slots in
    let damaged : IsDamagedTail bytes t.found.payloads t.found.gate = record {
      sizes = sizes;
      ends = subst (λ n. EndsAt bytes n t.found.payloads false) from (subst (EndsAt bytes t.start t.found.payloads) is ends);
      at_is = gate ∙ ap (λ n. end_from n t.found.payloads) from;
      led = subst (λ (x : Slots). (gate : ℕ) → IsMisled bytes x gate → ⊥) slots led;
    } in
    subst (λ (b : List ℕ). HasHeader kind b × (IsMisled b (slots_of b) t.found.gate ⊎ IsDamagedTail b t.found.payloads t.found.gate)) same ((version, header), inr damaged)

pub tail_unless : (r : Result Tail MountError) (len start : ℕ) (s m t : DiskState) → IsLawful m → len ≡ length s.content → 16 ≤ len → ReadsBetween 0 16 s m → ReadsBetween 0 (len - max 16 start) m t → IfErr r (λ e. OnlyReadsUnless (e ≡ mount.Fault) s t)
tail_unless (Ok f) len start s m t lawful long from front reads = tt
tail_unless (Err e) len start s m t lawful long from front reads = record {
  content = λ _. reads.content ∙ front.content;
  any_moment = (between_then 0 16 (16 + (len - max 16 start)) s m t lawful front (record { content = reads.content; any_moment = reads.any_moment; bytes_read = omega (arith, reads.bytes_read) })).any_moment;
  bytes_read = omega (arith, reads.bytes_read, front.bytes_read, long, from);
}

-- a place after the header is one that payloads were read up to
pub never_late : (e : MountError) (bytes : List ℕ) (kind at : ℕ) → e ≡ mount.Damaged at → 16 ≤ at → ((s : Slots) (n : ℕ) → slot_in_use s ≡ Some n → n < 16) → ((ps : List (List ℕ)) → IsTailRefused bytes kind ps e) → ⊥
never_late e bytes kind at is late early refused = at_two (named []) (named ([] ∷ []))
  where
    named : (ps : List (List ℕ)) → HasHeader kind bytes × (IsMisled bytes (slots_of bytes) at ⊎ IsDamagedTail bytes ps at)
    named ps = subst (IsTailRefused bytes kind ps) is (refused ps)

    at_two : HasHeader kind bytes × (IsMisled bytes (slots_of bytes) at ⊎ IsDamagedTail bytes [] at) → HasHeader kind bytes × (IsMisled bytes (slots_of bytes) at ⊎ IsDamagedTail bytes ([] ∷ []) at) → ⊥
    at_two (h, inl misled) (k, other) = absurd (omega (arith, late, early (slots_of bytes) at misled.in_use))
    at_two (h, inr none) (k, inl misled) = absurd (omega (arith, late, early (slots_of bytes) at misled.in_use))
    at_two (h, inr none) (k, inr one) = let size = one.sizes 0 [] (omega arith) in absurd (omega (arith, size.0))
