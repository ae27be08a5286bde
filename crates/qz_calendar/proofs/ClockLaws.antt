-- From a local clock to timestamps, and from whole numbers to integers.
use Rattle.std.proofs.Common.{◌≡◌, ℕ, ◌+◌, ◌<◌, ◌≤◌, inl, inr, Bool, true, false, not, ap, ◌∙◌, arith, ℤ, pos, negsuc, ◌+ℤ◌, ◌-ℤ◌, ◌*ℤ◌, ◌<ℤ◌, ◌≤ℤ◌, unsigned_abs, List, Some, None}
use Rattle.std.proofs.lemmas.Bool.{cases_lt}
use Rattle.std.proofs.lemmas.Int.{ints, by_lt_z}
use Rattle.std.proofs.lemmas.List.Sums.{AllPass-from_list_all, list_all-from_AllPass}
use Rattle.qz_civil.specs.declared.calendars.CalendarKind.{CalendarKind}
use Rattle.qz_civil.specs.declared.limits.TheConstants.{LAST}
use Rattle.qz_civil.specs.declared.stretches.Stretch.{Stretch}
use Rattle.qz_civil.specs.Least.{NoneIn, IsLeastIn, IsNext}
use Rattle.qz_civil.specs.Zones.{local, offset_at}
use Rattle.qz_calendar.specs.Chains.{ZonedCalendar, Included}
use Rattle.qz_calendar.specs.Search.{are_free_at, is_free, is_free_at, is_free_in}

shown : (t shift : ℕ) (offset : ℤ) → pos shift ≡ pos 86400000 +ℤ offset *ℤ pos 1000 → unsigned_abs (pos t +ℤ pos 86400000 +ℤ offset *ℤ pos 1000) ≡ t + shift
shown t shift offset e = grind (arith, ints)

-- at an offset the local clock is that many ms further
pub local-shifted : (zone : List Stretch) (t shift : ℕ) (offset : ℤ) → offset_at zone (pos t) ≡ offset → pos shift ≡ pos 86400000 +ℤ offset *ℤ pos 1000 → local zone (pos t) ≡ t + shift
local-shifted zone t shift offset is shifted = rw is (shown t shift offset shifted)

-- the local clock runs on evenly from one ms to another
abbrev IsEven : List Stretch → ℕ → ℕ → ℕ → Type 0
IsEven zone shift from end = (t : ℕ) → from ≤ t → t < end → local zone (pos t) ≡ t + shift

pub none-after : (kind : CalendarKind) (zone : List Stretch) (from start shift end : ℕ) → IsEven zone shift start end → NoneIn (is_free_in kind zone) from start → NoneIn (is_free kind) (start + shift) (end + shift) → NoneIn (is_free_in kind zone) from end
none-after kind zone from start shift end even before none t a b =
    elim (cases_lt t start) [
      | inl lt ↦ before t a lt
      | inr ge ↦ ap (is_free kind) (even t ge b) ∙ none (t + shift) (omega arith) (omega arith)
    ]

-- what a chain includes

not_true : (b : Bool) → b ≡ false → not b ≡ true
not_true b h = grind arith

not_false : (b : Bool) → not b ≡ true → b ≡ false
not_false b h = grind arith

free-included : (chain : List ZonedCalendar) (t : ℕ) → Included chain (pos t) → are_free_at chain t ≡ true
free-included chain t h = list_all-from_AllPass (λ c. is_free_at c t) chain (λ k c lt. not_true _ (h k c lt))

included-free : (chain : List ZonedCalendar) (t : ℕ) → are_free_at chain t ≡ true → Included chain (pos t)
included-free chain t h k c lt = not_false _ (AllPass-from_list_all (λ c. is_free_at c t) chain h k c lt)

-- a timestamp from `from` on that isn't free isn't included
barred : (chain : List ZonedCalendar) (from end : ℕ) (t : ℤ) → NoneIn (are_free_at chain) from end → pos from ≤ℤ t → t <ℤ pos end → Included chain t → ⊥
barred chain from end (pos n) none low high member =
    let free = free-included chain n member in
    let shut = none n (omega (arith, ints)) (omega (arith, ints)) in
    cc
barred chain from end (negsuc n) none low high member = omega (arith, ints)

pub none-included : (chain : List ZonedCalendar) (from : ℕ) (ms : ℤ) → pos from ≡ ms → NoneIn (are_free_at chain) from 7258118400000 → IsNext LAST (Included chain) (ms -ℤ pos 1) None
none-included chain from ms at none t member later within =
    barred chain from 7258118400000 t none (omega (arith, ints)) (omega (arith, ints)) member

pub least-included : (chain : List ZonedCalendar) (from t : ℕ) (ms : ℤ) → pos from ≡ ms → IsLeastIn (are_free_at chain) from 7258118400000 t → IsNext LAST (Included chain) (ms -ℤ pos 1) (Some (pos t))
least-included chain from t ms at first =
    let low = first.low in
    let high = first.high in
    record {
      member = included-free chain t first.passes;
      later = omega (arith, ints);
      within = omega (arith, ints);
      least = λ s member later.
          by_lt_z s (pos t)
          (λ lt. absurd (barred chain from t s first.none (omega (arith, ints)) lt member))
          (λ ge. ge);
    }
