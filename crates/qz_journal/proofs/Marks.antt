-- A slot that is closed or set, by one write and one sync or by two.
use Rattle.std.proofs.Common.{◌≡◌, inl, inr, ⊎_elim, ℕ, ◌+◌, ◌<◌, ◌≤◌, ◌^◌, List, [], ◌∷◌, ◌++◌, length, take, drop, get_or, Option, Some, None, Result, true, false, refl, sym, ap, subst, ◌∙◌, arith, length-take, append_assoc, nat_lt, if◌then◌else◌}
use Rattle.std.specs.Prelude.{Ok, Err, OnOk}
use Rattle.std.specs.Result.{is_err}
use Rattle.std.specs.Int.{w32, to_be_bytes, from_be_bytes}
use Rattle.std.proofs.lemmas.List.{get_or_at, take_at, drop_at}
use Rattle.std.proofs.lemmas.Nat.{from_be_bytes-to_be_bytes_4}
use Rattle.qz_disk.specs.Disk.{DiskState, Torn, Only, LeavesOnly, IsLawful, written}
use Rattle.qz_disk.proofs.Moments.{started, then_leaves, weaker, content_among}
use Rattle.qz_disk.proofs.Torn.{torn-written}
use Rattle.qz_journal.specs.Layout.{Holds}
use Rattle.qz_journal.specs.Slots.{IsSlot, other_slot, number_at, slot, free_slot, offset_in, with_offset, IsSlotWrite, gate_of_greater, other_than}
use Rattle.qz_journal.specs.Through.{PutsThrough}
use Rattle.qz_journal.specs.declared.slots.Slots.{Slots}
use Rattle.qz_journal.proofs.Append.{on_ok}
use Rattle.qz_journal.proofs.SlotBytes.{shut_slot, open_slot, offset_torn, gate_torn, open_number, slot_write_then, keeps_payloads}

-- what stands where it was written
written_take : (at : ℕ) (bytes old : List ℕ) → at ≤ length old → take (length bytes) (drop at (written at bytes old)) ≡ bytes
written_take at bytes old le =
    let long : length (take at old) ≡ at = omega (arith, length-take at old) in
    let rest = drop (at + length bytes) old in
    ap (take (length bytes)) (ap (drop at) (append_right at bytes old) ∙ drop_at (take at old) (bytes ++ rest) at long) ∙ take_at bytes rest (length bytes) refl
  where
    append_right : (at : ℕ) (bytes old : List ℕ) → written at bytes old ≡ take at old ++ (bytes ++ drop (at + length bytes) old)
    append_right at bytes old = append_assoc (take at old) bytes (drop (at + length bytes) old)

written_byte : (at n : ℕ) (old : List ℕ) → at ≤ length old → get_or (written at (n ∷ []) old) at 0 ≡ n
written_byte at n old le =
    let long : length (take at old) ≡ at = omega (arith, length-take at old) in
    ap (λ (l : List ℕ). get_or l at 0) (append_assoc (take at old) (n ∷ []) (drop (at + 1) old)) ∙ get_or_at (take at old) n (drop (at + 1) old) 0 at long

slot_within : (gate : ℕ) → IsSlot gate → gate + 5 ≤ 16
slot_within gate (inl is) = omega (arith, is)
slot_within gate (inr is) = omega (arith, is)

pub same_bytes : {T E : Type 0} {r : Result T E} {at : ℕ} {bytes others : List ℕ} {s t : DiskState} → bytes ≡ others → PutsThrough at bytes r s t → PutsThrough at others r s t
same_bytes {r = r} {at = at} {s = s} {t = t} same puts = subst (λ (l : List ℕ). PutsThrough at l r s t) same puts

-- a gate that is closed
pub close_leaves : {T E : Type 0} (r : Result T E) (gate offset : ℕ) (s t : DiskState) → IsSlot gate → 16 ≤ length s.content → Only s.content s → slot gate s.content ≡ Some offset → PutsThrough gate (0 ∷ []) r s t → LeavesOnly s t (IsSlotWrite gate (Some offset) s.content)
close_leaves r gate offset s t is long durable opened puts =
    weaker s t (Torn gate 1 s.content) _ (puts.any_moment s.content durable) (λ b torn. gate_torn gate offset s.content b is long torn (open_number gate offset s.content opened))

pub closes : {T E : Type 0} (r : Result T E) (gate : ℕ) (s t : DiskState) → IsSlot gate → 16 ≤ length s.content → PutsThrough gate (0 ∷ []) r s t → OnOk r (slot gate t.content ≡ None)
closes (Ok x) gate s t is long puts =
    let within = slot_within gate is in
    shut_slot gate t.content (λ shut. let zero_is : 0 ≡ 165 = sym (ap (λ (l : List ℕ). get_or l gate 0) puts.content ∙ written_byte gate 0 s.content (omega (arith, within, long))) ∙ shut in absurd (omega (arith, zero_is)))
closes (Err e) gate s t is long puts = tt

-- an offset that is written, and then a gate that is opened
pub offset_leaves : {T E : Type 0} (r : Result T E) (gate offset : ℕ) (s t : DiskState) → IsSlot gate → 16 ≤ length s.content → Only s.content s → slot gate s.content ≡ None → PutsThrough (gate + 1) (to_be_bytes w32 offset) r s t → LeavesOnly s t (IsSlotWrite gate (Some offset) s.content)
offset_leaves r gate offset s t is long durable none puts = weaker s t (Torn (gate + 1) 4 s.content) _ (puts.any_moment s.content durable) (λ b torn. offset_torn gate (Some offset) s.content b is long torn none)

module _ {T E U F : Type 0} (q : Result T E) (r : Result U F) (gate offset : ℕ) (s m t : DiskState) (is : IsSlot gate) (long : 16 ≤ length s.content) (small : offset < 2 ^ 32) (ok : is_err q ≡ false)
    (first : PutsThrough (gate + 1) (to_be_bytes w32 offset) q s m) (second : PutsThrough gate (165 ∷ []) r m t) where
  mid_torn : Torn (gate + 1) 4 s.content m.content
  mid_torn = subst (Torn (gate + 1) 4 s.content) (sym (on_ok q _ ok first.content)) (torn-written (gate + 1) (to_be_bytes w32 offset) s.content (let within = slot_within gate is in omega (arith, within, long)))

  mid_long : 16 ≤ length m.content
  mid_long = let a = mid_torn.no_shorter in omega (arith, a, long)

  mid_number : number_at (gate + 1) m.content ≡ offset
  mid_number =
      let within = slot_within gate is in
      ap (from_be_bytes w32) (ap (λ (l : List ℕ). take 4 (drop (gate + 1) l)) (on_ok q _ ok first.content) ∙ written_take (gate + 1) (to_be_bytes w32 offset) s.content (omega (arith, within, long)))
      ∙ from_be_bytes-to_be_bytes_4 offset small

  pub opens_leaves : IsLawful m → Only s.content s → slot gate s.content ≡ None → LeavesOnly s t (IsSlotWrite gate (Some offset) s.content)
  opens_leaves lawful durable none =
      let so_far = offset_leaves q gate offset s m is long durable none first in
      let here = content_among s m _ lawful so_far in
      then_leaves s m t _ (Torn gate 1 m.content) _ so_far (second.any_moment m.content (on_ok q _ ok first.durable)) (λ b x. x)
      (λ b torn. slot_write_then gate (Some offset) s.content m.content b here (gate_torn gate offset m.content b is mid_long torn mid_number))

  pub opens : OnOk r (slot gate t.content ≡ Some offset)
  opens = opened r second
    where
      opened : {U F : Type 0} (r : Result U F) → PutsThrough gate (165 ∷ []) r m t → OnOk r (slot gate t.content ≡ Some offset)
      opened (Ok x) second =
          let within = slot_within gate is in
          let le : gate ≤ length m.content = let l = mid_long in omega (arith, within, l) in
          let torn : Torn gate 1 m.content t.content = subst (Torn gate 1 m.content) (sym second.content) (torn-written gate (165 ∷ []) m.content le) in
          let byte : get_or t.content gate 0 ≡ 165 = ap (λ (l : List ℕ). get_or l gate 0) second.content ∙ written_byte gate 165 m.content le in
          let w = gate_torn gate offset m.content t.content is mid_long torn mid_number in
          ⊎_elim (λ none. let both : Some (number_at (gate + 1) t.content) ≡ None = sym (open_slot gate t.content byte) ∙ none in absurd (cc)) (λ some. some) w.this
      opened (Err e) second = tt

-- The free slot is one of the two.

greater_is : (a b : Option ℕ) → IsSlot (other_than (gate_of_greater a b))
greater_is None None = inl refl
greater_is (Some a) None = inr refl
greater_is None (Some b) = inl refl
greater_is (Some a) (Some b) = elim (nat_lt a b) as (λ c. IsSlot (other_than (if c then Some 11 else Some 6))) [ true ↦ inl refl | false ↦ inr refl ]

pub free_is : (s : Slots) → IsSlot (free_slot s)
free_is s = greater_is s.a s.b

-- Both slots, where one was written.

-- the fields of a journal are the slots of its content
pub record AreSlots (s : Slots) (bytes : List ℕ) : Type 0 where
  pub a : s.a ≡ slot 6 bytes
  pub b : s.b ≡ slot 11 bytes

pub offset_is : (gate : ℕ) (s : Slots) (bytes : List ℕ) → IsSlot gate → AreSlots s bytes → offset_in s gate ≡ slot gate bytes
offset_is gate s bytes (inl is) are = subst (λ g. offset_in s g ≡ slot g bytes) (sym is) are.a
offset_is gate s bytes (inr is) are = subst (λ g. offset_in s g ≡ slot g bytes) (sym is) are.b

pub still_slots : (gate : ℕ) (offset wanted : Option ℕ) (s : Slots) (old new : List ℕ) → IsSlot gate → AreSlots s old → IsSlotWrite gate wanted old new → slot gate new ≡ offset → AreSlots (with_offset gate offset s) new
still_slots gate offset wanted s old new (inl is) are w this =
    subst (λ g. slot (other_slot g) new ≡ slot (other_slot g) old → slot g new ≡ offset → AreSlots (with_offset g offset s) new) (sym is)
    (λ other this. record { a = sym this; b = are.b ∙ sym other }) w.other this
still_slots gate offset wanted s old new (inr is) are w this =
    subst (λ g. slot (other_slot g) new ≡ slot (other_slot g) old → slot g new ≡ offset → AreSlots (with_offset g offset s) new) (sym is)
    (λ other this. record { a = are.a ∙ sym other; b = sym this }) w.other this

-- nothing was written
pub nothing_written : (gate : ℕ) (bytes : List ℕ) → IsSlotWrite gate (slot gate bytes) bytes bytes
nothing_written gate bytes = record { front = refl; behind = refl; same_length = refl; other = refl; this = inr refl }

pub none_written : (gate : ℕ) (wanted : Option ℕ) (s : DiskState) → IsLawful s → Only s.content s → wanted ≡ slot gate s.content → LeavesOnly s s (IsSlotWrite gate wanted s.content)
none_written gate wanted s lawful durable is = started s _ lawful (λ b image. subst (IsSlotWrite gate wanted s.content) (sym (durable b image)) (subst (λ o. IsSlotWrite gate o s.content s.content) (sym is) (nothing_written gate s.content)))

pub leaves_payloads : (gate : ℕ) (wanted : Option ℕ) (s t : DiskState) (version kind : ℕ) (ps : List (List ℕ)) → LeavesOnly s t (IsSlotWrite gate wanted s.content) → Holds s.content version kind ps → LeavesOnly s t (λ b. Holds b version kind ps)
leaves_payloads gate wanted s t version kind ps leaves holds = weaker s t _ _ leaves (λ b w. keeps_payloads gate wanted s.content b version kind ps w holds)

-- the free slot of a journal, where it is closed
pub free_none : (gate : ℕ) (s : Slots) (bytes : List ℕ) → gate ≡ free_slot s → s.a ≡ slot 6 bytes → s.b ≡ slot 11 bytes → offset_in s (free_slot s) ≡ None → slot gate bytes ≡ None
free_none gate s bytes is a b none = ap (λ g. slot g bytes) is ∙ sym (offset_is (free_slot s) s bytes (free_is s) (record { a = a; b = b })) ∙ none

-- a free slot that is closed is still the free one
cleared_greater : (a b : Option ℕ) → free_slot (with_offset (other_than (gate_of_greater a b)) None (record { a = a; b = b })) ≡ other_than (gate_of_greater a b)
cleared_greater None None = refl
cleared_greater (Some a) None = refl
cleared_greater None (Some b) = refl
cleared_greater (Some a) (Some b) = elim (nat_lt a b) as (λ c. free_slot (with_offset (other_than (if c then Some 11 else Some 6)) None (record { a = Some a; b = Some b })) ≡ other_than (if c then Some 11 else Some 6)) [ true ↦ refl | false ↦ refl ]

put_in : (gate : ℕ) (offset : Option ℕ) (s : Slots) → IsSlot gate → offset_in (with_offset gate offset s) gate ≡ offset
put_in gate offset s (inl is) = subst (λ g. offset_in (with_offset g offset s) g ≡ offset) (sym is) refl
put_in gate offset s (inr is) = subst (λ g. offset_in (with_offset g offset s) g ≡ offset) (sym is) refl

-- what is left where it was closed
pub record IsCleared (s t : Slots) : Type 0 where
  pub free : free_slot t ≡ free_slot s
  pub closed : offset_in t (free_slot t) ≡ None

pub cleared : (s t : Slots) → t ≡ with_offset (free_slot s) None s → IsCleared s t
cleared s t is =
    let same : free_slot t ≡ free_slot s = ap free_slot is ∙ cleared_greater s.a s.b in
    record { free = same; closed = ap (λ g. offset_in t g) same ∙ ap (λ (x : Slots). offset_in x (free_slot s)) is ∙ put_in (free_slot s) None s (free_is s) }
