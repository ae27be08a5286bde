-- What writes leave of the slots.
use Rattle.std.proofs.Common.{◌≡◌, ◌≢◌, ◌⊎◌, inl, inr, ⊎_elim, ℕ, zero, suc, ◌+◌, ◌-◌, ◌<◌, ◌≤◌, min, List, [], ◌∷◌, ◌++◌, length, take, drop, get_or, slice_index, true, false, ◌==◌, Option, Some, None, refl, sym, ap, subst, ◌∙◌, arith, append_assoc, length-take, if◌then◌else◌}
use Rattle.std.proofs.lemmas.Bool.Decides.{Decides-eqb}
use Rattle.std.specs.Int.{w32, from_be_bytes}
use Rattle.std.proofs.lemmas.List.{get_or-drop, drop-drop, get_or-take, take-take}
use Rattle.qz_disk.specs.Disk.{Torn}
use Rattle.qz_journal.specs.Layout.{Holds, open_gate, blocks}
use Rattle.qz_journal.specs.Slots.{IsSlot, other_slot, number_at, slot, slots_of, IsSlotWrite, HasTrueSlots, IsTrueOffset}

-- lists that begin alike begin alike shorter, too
pub take-shorter : (n m : ℕ) (a b : List ℕ) → n ≤ m → take m a ≡ take m b → take n a ≡ take n b
take-shorter zero m a b le e = refl
take-shorter (suc n) zero a b le e = absurd (omega arith)
take-shorter (suc n) (suc m) [] [] le e = refl
take-shorter (suc n) (suc m) [] (y ∷ b) le e = absurd (cc)
take-shorter (suc n) (suc m) (x ∷ a) [] le e = absurd (cc)
take-shorter (suc n) (suc m) (x ∷ a) (y ∷ b) le e =
    let head : x ≡ y = cc in
    let tail : take m a ≡ take m b = cc in
    ap (λ (z : ℕ). z ∷ take n a) head ∙ ap (λ (zs : List ℕ). y ∷ zs) (take-shorter n m a b (omega arith) tail)

drop-more : (n k : ℕ) (a b : List ℕ) → drop n a ≡ drop n b → drop (n + k) a ≡ drop (n + k) b
drop-more n k a b e = sym (drop-drop k n a) ∙ ap (drop k) e ∙ drop-drop k n b

take-drop-take : (k n m : ℕ) (xs : List ℕ) → n + k ≤ m → take k (drop n xs) ≡ take k (drop n (take m xs))
take-drop-take zero n m xs le = refl
take-drop-take (suc k) n zero [] le = refl
take-drop-take (suc k) n (suc m) [] le = refl
take-drop-take (suc k) n zero (x ∷ xs) le = absurd (omega arith)
take-drop-take (suc k) zero (suc m) (x ∷ xs) le = ap (λ (ys : List ℕ). x ∷ ys) (take-drop-take k zero m xs (omega arith))
take-drop-take (suc k) (suc n) (suc m) (x ∷ xs) le = take-drop-take (suc k) n m xs (omega arith)

same_before : (n i : ℕ) (old new : List ℕ) → i < n → take n new ≡ take n old → get_or new i 0 ≡ get_or old i 0
same_before n i old new lt e = sym (get_or-take n new i 0 lt) ∙ ap (λ (xs : List ℕ). get_or xs i 0) e ∙ get_or-take n old i 0 lt

same_behind : (n i : ℕ) (old new : List ℕ) → drop n new ≡ drop n old → get_or new (n + i) 0 ≡ get_or old (n + i) 0
same_behind n i old new e = sym (get_or-drop n new i 0) ∙ ap (λ (xs : List ℕ). get_or xs i 0) e ∙ get_or-drop n old i 0

before_is : (at count n : ℕ) (old new : List ℕ) → n ≤ at → n ≤ length old → Torn at count old new → take n new ≡ take n old
before_is at count n old new le within torn = take-shorter n (min at (length old)) new old (omega arith) torn.before

behind_is : (at count k n : ℕ) (old new : List ℕ) → at + count + k ≡ n → Torn at count old new → drop n new ≡ drop n old
behind_is at count k n old new place torn = subst (λ (m : ℕ). drop m new ≡ drop m old) place (drop-more (at + count) k new old torn.behind)

same_length : (at count : ℕ) (old new : List ℕ) → at + count ≤ length old → Torn at count old new → length new ≡ length old
same_length at count old new within torn = let a = torn.no_shorter in let b = torn.no_longer in omega arith

-- Slots.

pub shut_slot : (gate : ℕ) (bytes : List ℕ) → slice_index bytes gate ≢ open_gate → slot gate bytes ≡ None
unfolding slot
shut_slot gate bytes differs = elim (slice_index bytes gate == open_gate) as (λ b. (slice_index bytes gate == open_gate) ≡ b → (if b then Some (number_at (gate + 1) bytes) else None) ≡ None) [
  | true ↦ λ e. absurd (differs ((Decides-eqb (slice_index bytes gate) open_gate).0 e))
  | false ↦ λ e. refl
] refl

pub open_slot : (gate : ℕ) (bytes : List ℕ) → slice_index bytes gate ≡ open_gate → slot gate bytes ≡ Some (number_at (gate + 1) bytes)
unfolding slot
open_slot gate bytes is = rw is refl

-- a closed slot has another byte than an open gate
pub none_shut : (gate : ℕ) (bytes : List ℕ) → slot gate bytes ≡ None → slice_index bytes gate ≢ open_gate
none_shut gate bytes none is = let both : Some (number_at (gate + 1) bytes) ≡ None = sym (open_slot gate bytes is) ∙ none in absurd (cc)

-- it is closed, or open with the number that stands there
pub slot_cases : (gate : ℕ) (bytes : List ℕ) → (slot gate bytes ≡ None) ⊎ (slot gate bytes ≡ Some (number_at (gate + 1) bytes))
unfolding slot
slot_cases gate bytes = elim (slice_index bytes gate == open_gate) as (λ b. ((if b then Some (number_at (gate + 1) bytes) else None) ≡ None) ⊎ ((if b then Some (number_at (gate + 1) bytes) else None) ≡ Some (number_at (gate + 1) bytes))) [
  | true ↦ inr refl
  | false ↦ inl refl
]

same_slot : (gate : ℕ) (old new : List ℕ) → slice_index new gate ≡ slice_index old gate → number_at (gate + 1) new ≡ number_at (gate + 1) old → slot gate new ≡ slot gate old
unfolding slot
same_slot gate old new gates numbers = rw (gates, numbers) refl

number_before : (at n : ℕ) (old new : List ℕ) → at + 4 ≤ n → take n new ≡ take n old → number_at at new ≡ number_at at old
number_before at n old new le e =
    ap (from_be_bytes w32)
    (take-drop-take 4 at n new le ∙ ap (λ (xs : List ℕ). take 4 (drop at xs)) e ∙ sym (take-drop-take 4 at n old le))

-- a slot in bytes that begin alike
pub slot_before : (gate n : ℕ) (old new : List ℕ) → gate + 5 ≤ n → take n new ≡ take n old → slot gate new ≡ slot gate old
slot_before gate n old new le e = same_slot gate old new (same_before n gate old new (omega arith) e) (number_before (gate + 1) n old new (omega arith) e)

slot_behind : (n i k : ℕ) (old new : List ℕ) → n + i ≡ 11 → n + k ≡ 12 → drop n new ≡ drop n old → slot 11 new ≡ slot 11 old
slot_behind n i k old new gate number e = same_slot 11 old new
    (subst (λ (m : ℕ). slice_index new m ≡ slice_index old m) gate (same_behind n i old new e))
    (ap (λ (xs : List ℕ). from_be_bytes w32 (take 4 xs)) (subst (λ (m : ℕ). drop m new ≡ drop m old) number (drop-more n k new old e)))

-- the slots in the first 16 bytes
pub slots_in_front : (front bytes : List ℕ) → front ≡ take 16 bytes → slots_of front ≡ slots_of bytes
slots_in_front front bytes is =
    let same : take 16 front ≡ take 16 bytes = ap (take 16) is ∙ take-take 16 16 bytes (omega arith) in
    ap (λ (o : Option ℕ). record { a = o; b = slot 11 front }) (slot_before 6 16 bytes front (omega arith) same)
    ∙ ap (λ (o : Option ℕ). record { a = slot 6 bytes; b = o }) (slot_before 11 16 bytes front (omega arith) same)

-- a torn write of the offset of a slot that is closed, and of a gate
record TornOffset (gate : ℕ) (old new : List ℕ) : Type 0 where
  pub this : slot gate new ≡ None
  pub other : slot (other_slot gate) new ≡ slot (other_slot gate) old

record TornGate (gate : ℕ) (old new : List ℕ) : Type 0 where
  pub number : number_at (gate + 1) new ≡ number_at (gate + 1) old
  pub other : slot (other_slot gate) new ≡ slot (other_slot gate) old

torn_offset : (gate : ℕ) (old new : List ℕ) → IsSlot gate → 16 ≤ length old → Torn (gate + 1) 4 old new → slot gate old ≡ None → TornOffset gate old new
torn_offset gate old new (inl is) long torn none = subst (λ g. Torn (g + 1) 4 old new → slot g old ≡ None → TornOffset g old new) (sym is) (λ torn none. record {
  this = shut_slot 6 new (λ e. none_shut 6 old none (sym (same_before 7 6 old new (omega arith) (before_is 7 4 7 old new (omega arith) (omega arith) torn)) ∙ e));
  other = slot_behind 11 0 1 old new refl refl torn.behind;
}) torn none
torn_offset gate old new (inr is) long torn none = subst (λ g. Torn (g + 1) 4 old new → slot g old ≡ None → TornOffset g old new) (sym is) (λ torn none. record {
  this = shut_slot 11 new (λ e. none_shut 11 old none (sym (same_before 12 11 old new (omega arith) (before_is 12 4 12 old new (omega arith) (omega arith) torn)) ∙ e));
  other = slot_before 6 12 old new (omega arith) (before_is 12 4 12 old new (omega arith) (omega arith) torn);
}) torn none

torn_gate : (gate : ℕ) (old new : List ℕ) → IsSlot gate → 16 ≤ length old → Torn gate 1 old new → TornGate gate old new
torn_gate gate old new (inl is) long torn = subst (λ g. Torn g 1 old new → TornGate g old new) (sym is) (λ torn. record {
  number = ap (λ (xs : List ℕ). from_be_bytes w32 (take 4 xs)) torn.behind;
  other = slot_behind 7 4 5 old new refl refl torn.behind;
}) torn
torn_gate gate old new (inr is) long torn = subst (λ g. Torn g 1 old new → TornGate g old new) (sym is) (λ torn. record {
  number = ap (λ (xs : List ℕ). from_be_bytes w32 (take 4 xs)) torn.behind;
  other = slot_before 6 11 old new (omega arith) (before_is 11 1 11 old new (omega arith) (omega arith) torn);
}) torn

-- both write inside the ten bytes
inside : (gate n at count : ℕ) (offset : Option ℕ) (old new : List ℕ) → 16 ≤ length old → 6 ≤ at → at + count ≤ 16 → Torn at count old new → slot (other_slot gate) new ≡ slot (other_slot gate) old → (slot gate new ≡ None) ⊎ (slot gate new ≡ offset) → IsSlotWrite gate offset old new
inside gate n at count offset old new long from until torn other this = record {
  front = before_is at count 6 old new from (omega arith) torn;
  behind = behind_is at count (16 - (at + count)) 16 old new (omega arith) torn;
  same_length = same_length at count old new (omega arith) torn;
  other = other;
  this = this;
}

slot_place : (gate : ℕ) → IsSlot gate → (6 ≤ gate) × (gate + 5 ≤ 16)
slot_place gate (inl is) = (omega arith, omega arith)
slot_place gate (inr is) = (omega arith, omega arith)

-- the offset of a slot that is closed is written
pub offset_torn : (gate : ℕ) (offset : Option ℕ) (old new : List ℕ) → IsSlot gate → 16 ≤ length old → Torn (gate + 1) 4 old new → slot gate old ≡ None → IsSlotWrite gate offset old new
offset_torn gate offset old new is long torn none =
    let t = torn_offset gate old new is long torn none in
    let place = slot_place gate is in
    inside gate 0 (gate + 1) 4 offset old new long (omega (arith, place.0)) (omega (arith, place.1)) torn t.other (inl t.this)

-- its gate is
pub gate_torn : (gate : ℕ) (offset : ℕ) (old new : List ℕ) → IsSlot gate → 16 ≤ length old → Torn gate 1 old new → number_at (gate + 1) old ≡ offset → IsSlotWrite gate (Some offset) old new
gate_torn gate offset old new is long torn number =
    let t = torn_gate gate old new is long torn in
    let place = slot_place gate is in
    inside gate 0 gate 1 (Some offset) old new long place.0 (omega (arith, place.1)) torn t.other (⊎_elim inl (λ some. inr (some ∙ ap Some (t.number ∙ number))) (slot_cases gate new))

-- the number of a slot that is open
pub open_number : (gate offset : ℕ) (bytes : List ℕ) → slot gate bytes ≡ Some offset → number_at (gate + 1) bytes ≡ offset
open_number gate offset bytes opened = ⊎_elim
    (λ none. let both : None ≡ Some offset = sym none ∙ opened in absurd (cc))
    (λ some. let both : Some (number_at (gate + 1) bytes) ≡ Some offset = sym some ∙ opened in one both)
    (slot_cases gate bytes)
  where
    one : {x y : ℕ} → Some x ≡ Some y → x ≡ y
    one same = cc

-- one after the other
pub slot_write_then : (gate : ℕ) (offset : Option ℕ) (a b c : List ℕ) → IsSlotWrite gate offset a b → IsSlotWrite gate offset b c → IsSlotWrite gate offset a c
slot_write_then gate offset a b c first second = record {
  front = second.front ∙ first.front;
  behind = second.behind ∙ first.behind;
  same_length = second.same_length ∙ first.same_length;
  other = second.other ∙ first.other;
  this = second.this;
}

-- The payloads stay, and with them what is true of slots.

pub keeps_payloads : (gate : ℕ) (offset : Option ℕ) (old new : List ℕ) (version kind : ℕ) (ps : List (List ℕ)) → IsSlotWrite gate offset old new → Holds old version kind ps → Holds new version kind ps
keeps_payloads gate offset old new version kind ps w h = record {
  sizes = h.sizes;
  header = record {
    known = h.header.known;
    front = take-take 6 16 new (omega arith) ∙ w.front ∙ sym (take-take 6 16 old (omega arith)) ∙ h.header.front;
    long = omega (arith, length-take 16 new, length-take 16 old, h.header.long, w.same_length);
  };
  blocks_stand = ap (take (length (blocks ps))) w.behind ∙ h.blocks_stand;
  gate = omega (arith, h.gate, w.same_length);
  shut = λ e. h.shut (sym (same_behind 16 (length (blocks ps)) old new w.behind) ∙ e);
}

either_slot : (gate g : ℕ) → IsSlot gate → IsSlot g → (g ≡ gate) ⊎ (g ≡ other_slot gate)
either_slot gate g (inl a) (inl b) = inl (b ∙ sym a)
either_slot gate g (inl a) (inr b) = inr (b ∙ ap other_slot (sym a))
either_slot gate g (inr a) (inl b) = inr (b ∙ ap other_slot (sym a))
either_slot gate g (inr a) (inr b) = inl (b ∙ sym a)

pub keeps_true_slots : (gate : ℕ) (offset : Option ℕ) (old new : List ℕ) (ps : List (List ℕ)) → IsSlot gate → IsSlotWrite gate offset old new → ((o : ℕ) → offset ≡ Some o → IsTrueOffset ps o) → HasTrueSlots old ps → HasTrueSlots new ps
keeps_true_slots gate offset old new ps is w true_offset true_slots g o g_is opened =
    let here : g ≡ gate → IsTrueOffset ps o = λ same. ⊎_elim
    (λ none. let both : None ≡ Some o = sym none ∙ ap (λ k. slot k new) (sym same) ∙ opened in absurd (cc))
    (λ some. true_offset o (sym some ∙ ap (λ k. slot k new) (sym same) ∙ opened)) w.this in
    let there : g ≡ other_slot gate → IsTrueOffset ps o = λ differs.
    true_slots g o g_is (ap (λ k. slot k old) differs ∙ sym w.other ∙ ap (λ k. slot k new) (sym differs) ∙ opened) in
    ⊎_elim here there (either_slot gate g is g_is)

true_pushed : (ps : List (List ℕ)) (p : List ℕ) (o : ℕ) → IsTrueOffset ps o → IsTrueOffset (ps ++ p ∷ []) o
true_pushed ps p o t = record {
  before = t.before;
  head = t.head;
  after = t.after ++ p ∷ [];
  parts = ap (λ (l : List (List ℕ)). l ++ p ∷ []) t.parts ∙ append_assoc t.before (t.head ∷ t.after) (p ∷ []);
  offset_is = t.offset_is;
  is_head = t.is_head;
  number_is = t.number_is;
}

pub appended_slots : (old new : List ℕ) (ps : List (List ℕ)) (p : List ℕ) → take 16 new ≡ take 16 old → HasTrueSlots old ps → HasTrueSlots new (ps ++ p ∷ [])
appended_slots old new ps p same slots gate o is opened =
    let within : gate + 5 ≤ 16 = (slot_place gate is).1 in
    true_pushed ps p o (slots gate o is (sym (slot_before gate 16 old new within same) ∙ opened))
