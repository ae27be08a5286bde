-- The fault of a list of stretches, stretch by stretch.
use Rattle.std.proofs.Common.{◌≡◌, ℕ, ◌+◌, ◌-◌, ◌≤◌, ◌<◌, arith, refl, sym, ap, List, [], ◌∷◌, length, Option, Some, None, ℤ, suc, inl, inr}
use Rattle.std.specs.Prelude.{filter, map}
use Rattle.std.specs.List.{range_with_len}
use Rattle.std.specs.Option.{option_or}
use Rattle.std.proofs.lemmas.Bool.Decides.{leb_tells}
use borrow.Author.Tests.{lt-ltb}
use Rattle.std.proofs.lemmas.List.{length-map}
use Rattle.std.proofs.lemmas.List.Sums.{length-filter, count_by-le-length}
use Rattle.std.proofs.lemmas.List.FromFn.{length-range_with_len}
use Rattle.qz_civil.specs.declared.limits.TheConstants.{STRETCH_LIMIT}
use Rattle.qz_civil.specs.declared.stretches.BadZone.TheVariants.{TooManyStretches}
use Rattle.qz_civil.specs.declared.stretches.Stretch.{Stretch}
use Rattle.qz_civil.specs.Zones.{bad_place, bad_zone}
use Rattle.qz_zone_rule.specs.Tables.{later, stretch, is_change}
use Rattle.qz_zone_rule.specs.declared.quarters.TheConstants.{QUARTERS}

-- the fault of the first stretch comes before those of the others
pub first_fault : (i : ℕ) (before : Option ℤ) (s : Stretch) (rest : List Stretch) → option_or (bad_place i before (s ∷ [])) (bad_place (i + 1) (Some s.from) rest) ≡ bad_place i before (s ∷ rest)
first_fault i before s rest = grind arith

-- there are no more stretches than quarters
pub later_bound : (offset : ℕ → ℤ) (i : ℕ) → length (later offset i) ≤ QUARTERS - (i + 1)
unfolding later
later_bound offset i =
    let xs : List ℕ = range_with_len (i + 1) (QUARTERS - (i + 1)) in
    let mapped : length (map (stretch offset) (filter (is_change offset) xs)) ≡ length (filter (is_change offset) xs) = length-map (filter (is_change offset) xs) (stretch offset) in
    let passed = length-filter (is_change offset) xs in
    let bound = count_by-le-length (is_change offset) xs in
    let all = length-range_with_len (i + 1) (QUARTERS - (i + 1)) in
    omega (arith, mapped, passed, bound, all)

-- too many stretches are the fault
pub too_many : (s : Stretch) (rest : List Stretch) (n : ℕ) → n ≡ length (s ∷ rest) → STRETCH_LIMIT < n → bad_zone (s ∷ rest) ≡ Some (TooManyStretches n)
unfolding bad_zone
too_many s rest n e h =
    let long : STRETCH_LIMIT < suc (length rest) = omega (arith, e) in
    rw (lt-ltb STRETCH_LIMIT (suc (length rest)) long) (ap (λ m. Some (TooManyStretches m)) (sym e))

-- and else that of a place
pub not_too_many : (s : Stretch) (rest : List Stretch) (n : ℕ) → n ≡ length (s ∷ rest) → n ≤ STRETCH_LIMIT → bad_zone (s ∷ rest) ≡ bad_place 0 None (s ∷ rest)
unfolding bad_zone
not_too_many s rest n e h = elim (leb_tells (suc STRETCH_LIMIT) (suc (length rest))) [
  | inl long ↦ let more = long.1 in absurd (omega (arith, e))
  | inr short ↦ rw short.0 refl
]

pub or_none : {A : Type 0} (o : Option A) → option_or o None ≡ o
or_none None = refl
or_none (Some x) = refl
