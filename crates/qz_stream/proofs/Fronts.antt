-- Fronts under more bytes.
use Rattle.std.proofs.Common.{◌≡◌, ⊎_elim, ℕ, ◌<◌, ◌≤◌, List, ◌++◌, length, get_or, sym, ◌∙◌, subst, arith, length-append}
use Rattle.std.specs.Prelude.{Option, Some, None}
use Rattle.std.proofs.lemmas.Bool.{cases_lt}
use Rattle.std.proofs.lemmas.List.{get_or_append_left, take-append-le}
use Rattle.qz_journal.proofs.SlotBytes.{slot_before}
use Rattle.qz_journal.specs.Slots.{slots_of}
use Rattle.qz_journal.specs.declared.slots.Slots.{Slots}
use Rattle.qz_stream.specs.Front.{IsFrontByte, IsFrontBelow, IsBadFront, IsVersionOf}
use Rattle.qz_stream.specs.Standing.{HasSlots}

-- a byte that is there stays
pub get_or-append : (xs ys : List ℕ) (i : ℕ) → i < length xs → get_or (xs ++ ys) i 0 ≡ get_or xs i 0
get_or-append xs ys i there = get_or_append_left xs ys 0 i there

pub below-less : (bytes more : List ℕ) (end : ℕ) → end ≤ length bytes → IsFrontBelow end (bytes ++ more) → IsFrontBelow end bytes
below-less bytes more end long below at lt there = subst (IsFrontByte at) (get_or-append bytes more at there) (below at lt (omega (arith, length-append bytes more)))

pub below-more : (bytes more : List ℕ) (end : ℕ) → end ≤ length bytes → IsFrontBelow end bytes → IsFrontBelow end (bytes ++ more)
below-more bytes more end long below at lt there = let here : at < length bytes = omega arith in subst (IsFrontByte at) (sym (get_or-append bytes more at here)) (below at lt here)

-- the version stays, once five bytes are there
pub version-more : (bytes more : List ℕ) (version : Option ℕ) → 5 ≤ length bytes → IsVersionOf bytes version → IsVersionOf (bytes ++ more) version
version-more bytes more None long is = λ _ below. is long (below-less bytes more 5 long below)
version-more bytes more (Some v) long is = (omega (arith, length-append bytes more), below-more bytes more 5 long is.1, get_or-append bytes more 4 (omega arith) ∙ is.2)

pub bad-more : (bytes more : List ℕ) (at : ℕ) → IsBadFront bytes at → IsBadFront (bytes ++ more) at
bad-more bytes more at is = record {
  early = is.early;
  there = omega (arith, length-append bytes more, is.there);
  before = below-more bytes more at (omega (arith, is.there)) is.before;
  bad = λ right. is.bad (subst (IsFrontByte at) (get_or-append bytes more at is.there) right);
}

-- so does that of bytes with a bad place
pub version-bad : (bytes more : List ℕ) (at : ℕ) (version : Option ℕ) → IsBadFront bytes at → IsVersionOf bytes version → IsVersionOf (bytes ++ more) version
version-bad bytes more at None bad is = λ long below.
    ⊎_elim (λ short. bad.bad (subst (IsFrontByte at) (get_or-append bytes more at bad.there) (below at (omega (arith, bad.there, short)) (omega (arith, bad.there, length-append bytes more)))))
    (λ has. is has (below-less bytes more 5 has below)) (cases_lt (length bytes) 5)
version-bad bytes more at (Some v) bad is = version-more bytes more (Some v) is.0 is

-- the slots stay, once the header is whole
pub slots_more : (bytes more : List ℕ) → 16 ≤ length bytes → slots_of (bytes ++ more) ≡ slots_of bytes
slots_more bytes more long =
    let same = take-append-le 16 bytes more long in
    λ i. record { a = slot_before 6 16 bytes (bytes ++ more) (omega arith) same i; b = slot_before 11 16 bytes (bytes ++ more) (omega arith) same i }

pub slots-more : (bytes more : List ℕ) (s : Slots) → 16 ≤ length bytes → HasSlots bytes s → HasSlots (bytes ++ more) s
slots-more bytes more s long has front later = has (below-less bytes more 6 (omega (arith, long)) front) long ∙ sym (slots_more bytes more long)

-- bytes with a bad front have none
pub slots-bad : (bytes : List ℕ) (at : ℕ) (s : Slots) → IsBadFront bytes at → HasSlots bytes s
slots-bad bytes at s bad front long = absurd (bad.bad (front at bad.early bad.there))
