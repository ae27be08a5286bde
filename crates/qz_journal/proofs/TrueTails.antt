-- A tail that was read from a slot that is true is the rest of the payloads.
use Rattle.std.proofs.Common.{◌≡◌, ◌≢◌, ◌⊎◌, inl, inr, ⊎_elim, ℕ, suc, ◌<◌, ◌^◌, true, false, nat_lt, List, [], ◌∷◌, ◌++◌, length, take, drop, get_or, Option, Some, None, refl, sym, ap, subst, ◌∙◌, arith, append_assoc, length-append, length-drop, if◌then◌else◌}
use Rattle.std.specs.Prelude.{All, unwrap_or}
use Rattle.std.proofs.lemmas.List.{drop_at, drop-drop}
use Rattle.qz_journal.specs.Layout.{IsPayload, Holds, body_of, blocks, end_from, end_of}
use Rattle.qz_journal.specs.Opening.{EndsAt}
use Rattle.qz_journal.specs.Slots.{IsSlot, slot, slots_of, gate_of_greater, slot_in_use, offset_in, number_at, IsHead, IsTrueOffset, HasTrueSlots}
use Rattle.qz_journal.specs.Tails.{start_at, start_of, IsTail, IsCounted, IsRest, IsAstray, IsMisled, IsDamagedTail, IsTailRefused, IsLed}
use Rattle.qz_journal.specs.declared.errors.MountError.{MountError}
use Rattle.qz_journal.specs.declared.errors.MountError.TheVariants as mount
use Rattle.qz_journal.specs.declared.slots.Slots.{Slots}
use Rattle.qz_journal.proofs.Once.{same_blocks, same_start, behind_header}
use Rattle.qz_journal.proofs.Parts.{parts}
use Rattle.qz_journal.proofs.Headers.{one_version}
use Rattle.qz_journal.proofs.Marks.{offset_is}
use Rattle.qz_journal.proofs.TailBytes.{head_not_astray, not_misled}

-- the slot in use is one of the two, and is open
pub record InUse (s : Slots) : Type 0 where
  pub gate : ℕ
  pub offset : ℕ
  pub in_use : slot_in_use s ≡ Some gate
  pub is_slot : IsSlot gate
  pub offset_is : offset_in s gate ≡ Some offset

pub greater_in_use : (a b : Option ℕ) → (gate_of_greater a b ≡ None) ⊎ InUse (record { a = a; b = b })
greater_in_use None None = inl refl
greater_in_use (Some a) None = inr (record { gate = 6; offset = a; in_use = refl; is_slot = inl refl; offset_is = refl })
greater_in_use None (Some b) = inr (record { gate = 11; offset = b; in_use = refl; is_slot = inr refl; offset_is = refl })
greater_in_use (Some a) (Some b) = elim (nat_lt a b) as (λ c. nat_lt a b ≡ c → (gate_of_greater (Some a) (Some b) ≡ None) ⊎ InUse (record { a = Some a; b = Some b })) [
  | true ↦ λ is. inr (record { gate = 11; offset = b; in_use = ap (λ c. if c then Some 11 else Some 6) is; is_slot = inr refl; offset_is = refl })
  | false ↦ λ is. inr (record { gate = 6; offset = a; in_use = ap (λ c. if c then Some 11 else Some 6) is; is_slot = inl refl; offset_is = refl })
] refl

-- the head that stands at the slot in use tells how many payloads come before
record TrueHead (rest : List (List ℕ)) (count : ℕ) : Type 0 where
  pub head : List ℕ
  pub more : List (List ℕ)
  pub rest_is : rest ≡ head ∷ more
  pub is_head : IsHead head
  pub number_is : number_at 1 head ≡ count

-- a tail begins where some of the payloads end
record TrueStart (payloads : List (List ℕ)) (o : Option ℕ) (start : ℕ) : Type 0 where
  pub before : List (List ℕ)
  pub rest : List (List ℕ)
  pub parts : payloads ≡ before ++ rest
  pub start_is : start ≡ end_of before
  pub none : o ≡ None → before ≡ []
  pub headed : (gate : ℕ) → o ≡ Some gate → TrueHead rest (length before)

true_start : (bytes : List ℕ) (payloads : List (List ℕ)) → HasTrueSlots bytes payloads → TrueStart payloads (slot_in_use (slots_of bytes)) (start_of (slots_of bytes))
true_start bytes payloads slots = ⊎_elim unused used (greater_in_use (slot 6 bytes) (slot 11 bytes))
  where
    unused : slot_in_use (slots_of bytes) ≡ None → TrueStart payloads (slot_in_use (slots_of bytes)) (start_of (slots_of bytes))
    unused is = record {
      before = [];
      rest = payloads;
      parts = refl;
      start_is = ap (λ o. start_at o (slots_of bytes)) is;
      none = λ _. refl;
      headed = λ gate used. let both : None ≡ Some gate = sym is ∙ used in absurd (cc);
    }

    used : InUse (slots_of bytes) → TrueStart payloads (slot_in_use (slots_of bytes)) (start_of (slots_of bytes))
    used u =
        let opened : slot u.gate bytes ≡ Some u.offset = sym (offset_is u.gate (slots_of bytes) bytes u.is_slot (record { a = refl; b = refl })) ∙ u.offset_is in
        let t : IsTrueOffset payloads u.offset = slots u.gate u.offset u.is_slot opened in
        record {
          before = t.before;
          rest = t.head ∷ t.after;
          parts = t.parts;
          start_is = ap (λ o. start_at o (slots_of bytes)) u.in_use ∙ ap (λ o. unwrap_or o 16) u.offset_is ∙ t.offset_is;
          none = λ none. let both : None ≡ Some u.gate = sym none ∙ u.in_use in absurd (cc);
          headed = λ gate is. record { head = t.head; more = t.after; rest_is = refl; is_head = t.is_head; number_is = t.number_is };
        }

pub blocks-append : (ps qs : List (List ℕ)) → blocks (ps ++ qs) ≡ blocks ps ++ blocks qs
blocks-append [] qs = refl
blocks-append (p ∷ ps) qs = ap (λ (l : List ℕ). 165 ∷ l) (ap (λ (l : List ℕ). body_of p ++ l) (blocks-append ps qs) ∙ sym (append_assoc (body_of p) (blocks ps) (blocks qs)))

-- what stands from the end of some first payloads on
record Behind (bytes : List ℕ) (before rest : List (List ℕ)) : Type 0 where
  pub gate : ℕ
  pub shut : gate ≢ 165
  pub more : List ℕ
  pub whole : drop (end_of before) bytes ≡ blocks rest ++ gate ∷ more

behind : (bytes : List ℕ) (version kind : ℕ) (before rest : List (List ℕ)) → Holds bytes version kind (before ++ rest) → Behind bytes before rest
behind bytes version kind before rest holds =
    let p = parts bytes version kind (before ++ rest) holds in
    let n = length (blocks before) in
    let whole : drop 16 bytes ≡ blocks before ++ (blocks rest ++ p.gate ∷ p.rest) = behind_header bytes version kind (before ++ rest) holds ∙ ap (λ (l : List ℕ). l ++ p.gate ∷ p.rest) (blocks-append before rest) ∙ append_assoc (blocks before) (blocks rest) (p.gate ∷ p.rest) in
    record {
      gate = p.gate;
      shut = p.shut;
      more = p.rest;
      whole = sym (drop-drop n 16 bytes) ∙ ap (λ (l : List ℕ). drop n l) whole ∙ drop_at (blocks before) (blocks rest ++ p.gate ∷ p.rest) n refl;
    }

all_later : (before rest : List (List ℕ)) → All IsPayload (before ++ rest) → All IsPayload rest
all_later [] rest all = all
all_later (p ∷ before) rest all = all_later before rest (λ k d lt. all (suc k) d (omega (arith, lt)))

small : (ps : List (List ℕ)) → All IsPayload ps → (k : ℕ) → k < length ps → length (get_or ps k []) < 2 ^ 32
small ps sizes k lt = let size = sizes k [] lt in omega (arith, size.1)

rest_one : (bytes : List ℕ) (version kind : ℕ) (before rest tail : List (List ℕ)) → Holds bytes version kind (before ++ rest) → All IsPayload tail → EndsAt bytes (end_of before) tail true → tail ≡ rest
rest_one bytes version kind before rest tail holds sizes ends =
    let b = behind bytes version kind before rest holds in
    let shut = ends.shut refl in
    same_blocks tail rest shut.0 b.gate shut.1 b.more (small tail sizes) (small rest (all_later before rest holds.sizes)) shut.3 b.shut
    (ap (λ (l : List ℕ). blocks tail ++ l) (sym shut.2) ∙ sym ends.whole ∙ b.whole)

not_bad : (bytes : List ℕ) (version kind : ℕ) (before rest tail : List (List ℕ)) → Holds bytes version kind (before ++ rest) → All IsPayload tail → EndsAt bytes (end_of before) tail false → ⊥
not_bad bytes version kind before rest tail holds sizes ends =
    let b = behind bytes version kind before rest holds in
    same_start tail rest ends.tail b.gate b.more (small tail sizes) (all_later before rest holds.sizes) (ends.stuck refl) b.shut (sym ends.whole ∙ b.whole)

counted_all : (o : Option ℕ) (payloads before rest : List (List ℕ)) (count : ℕ) → payloads ≡ before ++ rest → (o ≡ None → before ≡ []) → ((gate : ℕ) → o ≡ Some gate → TrueHead rest (length before)) → IsCounted o count rest → count ≡ length payloads
counted_all None payloads before rest count is none headed counted = counted ∙ sym (ap length (is ∙ ap (λ (l : List (List ℕ)). l ++ rest) (none refl)))
counted_all (Some gate) payloads before rest count is none headed counted =
    let h = headed gate refl in
    let here : IsCounted (Some gate) count (h.head ∷ h.more) = subst (IsCounted (Some gate) count) h.rest_is counted in
    omega (arith, here.1, h.number_is, ap length is, length-append before rest, ap length h.rest_is)

rest_is : (bytes : List ℕ) (version found kind gate count : ℕ) (payloads tail : List (List ℕ)) → Holds bytes version kind payloads → HasTrueSlots bytes payloads → IsTail bytes found kind (start_of (slots_of bytes)) tail
    → gate ≡ end_from (start_of (slots_of bytes)) tail → IsCounted (slot_in_use (slots_of bytes)) count tail → IsRest payloads tail (start_of (slots_of bytes)) gate count
rest_is bytes version found kind gate count payloads tail holds slots is gate_is counted =
    let t = true_start bytes payloads slots in
    let all : Holds bytes version kind (t.before ++ t.rest) = subst (Holds bytes version kind) t.parts holds in
    let same : tail ≡ t.rest = rest_one bytes version kind t.before t.rest tail all is.sizes (subst (λ n. EndsAt bytes n tail true) t.start_is is.ends) in
    record {
      before = t.before;
      parts = t.parts ∙ ap (λ (l : List (List ℕ)). t.before ++ l) (sym same);
      start_is = t.start_is;
      gate_is = omega (arith, gate_is, t.start_is, ap (λ (l : List (List ℕ)). length (blocks l)) same, ap (λ (l : List (List ℕ)). length (blocks l)) t.parts, ap length (blocks-append t.before t.rest), length-append (blocks t.before) (blocks t.rest));
      count_is = counted_all (slot_in_use (slots_of bytes)) payloads t.before t.rest count t.parts t.none t.headed (subst (IsCounted (slot_in_use (slots_of bytes)) count) same counted);
    }

-- what an opening found, in the bytes that it found
pub whole_tail : (bytes content : List ℕ) (found version kind start gate count : ℕ) (s : Slots) (payloads tail : List (List ℕ)) → bytes ≡ content → s ≡ slots_of bytes → start ≡ start_of s → IsTail bytes found kind start tail → gate ≡ end_from start tail → IsCounted (slot_in_use s) count tail
    → Holds content version kind payloads → HasTrueSlots content payloads → (found ≡ version) × IsRest payloads tail start gate count
whole_tail bytes content found version kind start gate count s payloads tail same slots_are start_is is gate_is counted holds slots =
    let all : Holds bytes version kind payloads = subst (λ (b : List ℕ). Holds b version kind payloads) (sym same) holds in
    let true_slots : HasTrueSlots bytes payloads = subst (λ (b : List ℕ). HasTrueSlots b payloads) (sym same) slots in
    let from : start ≡ start_of (slots_of bytes) = start_is ∙ ap start_of slots_are in
    let rest : IsRest payloads tail (start_of (slots_of bytes)) gate count = rest_is bytes version found kind gate count payloads tail all true_slots (subst (λ n. IsTail bytes found kind n tail) from is)
    (gate_is ∙ ap (λ n. end_from n tail) from) (subst (λ (x : Slots). IsCounted (slot_in_use x) count tail) slots_are counted) in
    (one_version found version kind (take 16 bytes) is.header all.header, subst (λ n. IsRest payloads tail n gate count) (sym from) rest)

-- A slot in use is one of the two.
pub in_use_early : (s : Slots) (at : ℕ) → slot_in_use s ≡ Some at → at < 16
in_use_early s at is = ⊎_elim (λ none. let both : None ≡ Some at = sym none ∙ is in absurd (cc))
    (λ (u : InUse s). let same : u.gate ≡ at = one (sym u.in_use ∙ is) in ⊎_elim (λ a. omega (arith, a, same)) (λ b. omega (arith, b, same)) u.is_slot)
    (greater_in_use s.a s.b)
  where
    one : {x y : ℕ} → Some x ≡ Some y → x ≡ y
    one same = cc

-- A true slot leads to a head, and no block after it is cut.

true_not_misled : (bytes : List ℕ) (version kind gate : ℕ) (payloads : List (List ℕ)) → Holds bytes version kind payloads → HasTrueSlots bytes payloads → IsMisled bytes (slots_of bytes) gate → ⊥
true_not_misled bytes version kind gate payloads holds slots misled =
    let t = true_start bytes payloads slots in
    let h = t.headed gate misled.in_use in
    let all : Holds bytes version kind (t.before ++ t.rest) = subst (Holds bytes version kind) t.parts holds in
    let b = behind bytes version kind t.before t.rest all in
    let size : IsPayload h.head = subst (All IsPayload) h.rest_is (all_later t.before t.rest all.sizes) 0 [] (omega arith) in
    let there : end_of t.before < length bytes = omega (arith, all.gate, ap length (blocks-append t.before t.rest), length-append (blocks t.before) (blocks t.rest)) in
    head_not_astray bytes h.head (blocks h.more ++ b.gate ∷ b.more) (end_of t.before) (omega arith) there size h.is_head
    (b.whole ∙ ap (λ (l : List (List ℕ)). blocks l ++ b.gate ∷ b.more) h.rest_is ∙ ap (λ (l : List ℕ). 165 ∷ l) (append_assoc (body_of h.head) (blocks h.more) (b.gate ∷ b.more)))
    (subst (IsAstray bytes) t.start_is misled.astray)

true_not_damaged : (bytes : List ℕ) (version kind at : ℕ) (payloads tail : List (List ℕ)) → Holds bytes version kind payloads → HasTrueSlots bytes payloads → IsDamagedTail bytes tail at → ⊥
true_not_damaged bytes version kind at payloads tail holds slots damaged =
    let t = true_start bytes payloads slots in
    not_bad bytes version kind t.before t.rest tail (subst (Holds bytes version kind) t.parts holds) damaged.sizes (subst (λ n. EndsAt bytes n tail false) t.start_is damaged.ends)

pub tail_only_outside : (bytes : List ℕ) (version kind : ℕ) (payloads tail : List (List ℕ)) (e : MountError) → Holds bytes version kind payloads → HasTrueSlots bytes payloads → IsTailRefused bytes kind tail e → (e ≡ mount.Fault) ⊎ (e ≡ mount.NoMemory)
tail_only_outside bytes version kind payloads tail mount.Fault holds slots refused = inl refl
tail_only_outside bytes version kind payloads tail mount.NoMemory holds slots refused = inr refl
tail_only_outside bytes version kind payloads tail mount.NotAStore holds slots refused = absurd (refused (version, holds.header))
tail_only_outside bytes version kind payloads tail (mount.Damaged at) holds slots (header, inl misled) = absurd (true_not_misled bytes version kind at payloads holds slots misled)
tail_only_outside bytes version kind payloads tail (mount.Damaged at) holds slots (header, inr damaged) = absurd (true_not_damaged bytes version kind at payloads tail holds slots damaged)

-- An opening of a tail has one answer.

pub tail_once : (bytes : List ℕ) (v w kind start : ℕ) (ps qs : List (List ℕ)) → IsTail bytes v kind start ps → IsTail bytes w kind start qs → ps ≡ qs
tail_once bytes v w kind start ps qs one other =
    let a = one.ends.shut refl in
    let b = other.ends.shut refl in
    same_blocks ps qs a.0 b.0 a.1 b.1 (small ps one.sizes) (small qs other.sizes) a.3 b.3
    (ap (λ (l : List ℕ). blocks ps ++ l) (sym a.2) ∙ sym one.ends.whole ∙ other.ends.whole ∙ ap (λ (l : List ℕ). blocks qs ++ l) b.2)

led_if_counted : (o : Option ℕ) (count : ℕ) (ps : List (List ℕ)) → IsCounted o count ps → IsLed o ps true
led_if_counted None count ps counted = tt
led_if_counted (Some gate) count [] counted = absurd counted
led_if_counted (Some gate) count (p ∷ ps) counted = counted.0

within : (bytes : List ℕ) (start : ℕ) (ps : List (List ℕ)) → EndsAt bytes start ps true → start < length bytes
within bytes start ps ends =
    let a = ends.shut refl in
    omega (arith, ap length (ends.whole ∙ ap (λ (l : List ℕ). blocks ps ++ l) a.2), length-append (blocks ps) (a.0 ∷ a.1), length-drop start bytes)

pub tail_not_refused : (bytes : List ℕ) (version kind count at : ℕ) (ps qs : List (List ℕ)) → IsTail bytes version kind (start_of (slots_of bytes)) ps → IsCounted (slot_in_use (slots_of bytes)) count ps → IsTailRefused bytes kind qs (mount.Damaged at) → ⊥
tail_not_refused bytes version kind count at ps qs is counted (header, inl misled) =
    not_misled bytes (slots_of bytes) (start_of (slots_of bytes)) ps true refl is.from (λ gate used. within bytes (start_of (slots_of bytes)) ps is.ends) is.sizes is.ends (led_if_counted (slot_in_use (slots_of bytes)) count ps counted) at misled
tail_not_refused bytes version kind count at ps qs is counted (header, inr damaged) =
    let a = is.ends.shut refl in
    same_start qs ps damaged.ends.tail a.0 a.1 (small qs damaged.sizes) is.sizes (damaged.ends.stuck refl) a.3
    (sym damaged.ends.whole ∙ is.ends.whole ∙ ap (λ (l : List ℕ). blocks ps ++ l) a.2)
