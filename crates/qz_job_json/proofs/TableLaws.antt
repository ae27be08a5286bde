-- The stretches of a table, one after another as values and as a list.
use Rattle.std.proofs.Common.{◌≡◌, ℕ, ◌+◌, ◌<◌, ◌≤◌, ℤ, Bool, true, false, ◌&&◌, not, nat_lt, List, [], ◌∷◌, length, Option, Some, None, refl, sym, ◌∙◌, arith}
use Rattle.std.specs.Prelude.{if◌then◌else◌, is_none, is_some, map, option_map}
use Rattle.std.proofs.lemmas.Bool.Decides.{nat_tests}
use Rattle.std.proofs.lemmas.List.{length-map}
use Rattle.serde_json.specs.Data.{Data, Items, no_items, item}
use Rattle.serde_json.specs.View.{view, items_of, items_view}
use Rattle.serde_json.specs.declared.value.Value.{Value}
use Rattle.qz_civil.specs.declared.limits.TheConstants.{STRETCH_LIMIT}
use Rattle.qz_civil.specs.declared.stretches.BadZone.TheVariants.{NotAscending, OffsetOutOfRange, FromOutOfRange}
use Rattle.qz_civil.specs.declared.stretches.Stretch.{Stretch}
use Rattle.qz_civil.specs.Timings.{is_timestamp}
use Rattle.qz_civil.specs.Zones.{bad_place, bad_zone, is_offset, is_apart}
use Rattle.qz_job_json.specs.Members.{kept, both}
use Rattle.qz_job_json.specs.Tables.{begins_after, and_then_all, all_follow}
use Rattle.qz_job_json.specs.Zones.{stretch_of, stretches_of, is_zone, is_table}

-- the list is there, and no place of it is bad
abbrev pub none_bad : ℕ → Option ℤ → Option (List Stretch) → Bool
none_bad i before None = false
none_bad i before (Some l) = is_none (bad_place i before l)

-- the same of one more stretch, by its three tests
abbrev none_by : Bool → Bool → Bool → Stretch → ℕ → Option (List Stretch) → Bool
none_by t a o s i None = false
none_by t a o s i (Some l) =
    is_none (
    if not t then Some (FromOutOfRange i)
    else (if not o then Some (OffsetOutOfRange i)
    else (if not a then Some (NotAscending i)
    else bad_place (i + 1) (Some s.from) l))
    )

by_tests : (t a o : Bool) (s : Stretch) (i : ℕ) (x : Option (List Stretch)) (rest : ℤ → Bool) → rest s.from ≡ none_bad (i + 1) (Some s.from) x
    → and_then_all (if (t && a) && o then Some s.from else None) rest ≡ none_by t a o s i x
by_tests true true true s i None rest e = e
by_tests true true true s i (Some l) rest e = e
by_tests true true false s i None rest e = refl
by_tests true true false s i (Some l) rest e = refl
by_tests true false true s i None rest e = refl
by_tests true false true s i (Some l) rest e = refl
by_tests true false false s i None rest e = refl
by_tests true false false s i (Some l) rest e = refl
by_tests false a o s i None rest e = refl
by_tests false a o s i (Some l) rest e = refl

one_more : (s : Stretch) (i : ℕ) (before : Option ℤ) (x : Option (List Stretch)) → none_by (is_timestamp s.from) (is_apart before s.from) (is_offset s.offset) s i x ≡ none_bad i before (option_map (λ l. s ∷ l) x)
one_more s i before None = refl
one_more s i before (Some l) = refl

step : (i : ℕ) (before : Option ℤ) (s : Option Stretch) (x : Option (List Stretch)) (rest : ℤ → Bool) → ((from : ℤ) → rest from ≡ none_bad (i + 1) (Some from) x)
    → and_then_all (begins_after before s) rest ≡ none_bad i before (both (λ s l. s ∷ l) s x)
step i before None x rest more = refl
step i before (Some s) x rest more = by_tests (is_timestamp s.from) (is_apart before s.from) (is_offset s.offset) s i x rest (more s.from) ∙ one_more s i before x

pub all_follow_is : (i : ℕ) (before : Option ℤ) (items : Items) → all_follow before items ≡ none_bad i before (stretches_of items)
all_follow_is i before no_items = refl
all_follow_is i before (item d ds) = step i before (stretch_of d) (stretches_of ds) (λ from. all_follow (Some from) ds) (λ from. all_follow_is (i + 1) (Some from) ds)

-- a list of stretches is as long as the list of values
length_both : (s : Option Stretch) (x : Option (List Stretch)) (l : List Stretch) (n : ℕ) → both (λ s l. s ∷ l) s x ≡ Some l → ((m : List Stretch) → x ≡ Some m → length m ≡ n) → length l ≡ n + 1
length_both None x l n e short = absurd cc
length_both (Some s) None l n e short = absurd cc
length_both (Some s) (Some m) l n e short = let same : l ≡ s ∷ m = cc in let size = short m refl in rw same (omega (arith, size))

length_stretches : (ds : List Data) (l : List Stretch) → stretches_of (items_of ds) ≡ Some l → length l ≡ length ds
length_stretches [] l e = let same : l ≡ [] = cc in rw same refl
length_stretches (d ∷ ds) l e = omega (arith, length_both (stretch_of d) (stretches_of (items_of ds)) l (length ds) e (λ m. length_stretches ds m))

kept_is : (b : Bool) (l : List Stretch) → is_some (if b then Some l else None) ≡ b
kept_is true l = refl
kept_is false l = refl

in_by : (y : Option (List Stretch)) (n : ℕ) → ((l : List Stretch) → y ≡ Some l → length l ≡ n) → 0 < n → n ≤ STRETCH_LIMIT → is_some (kept is_zone y) ≡ none_bad 0 None y
unfolding bad_zone
in_by None n size some low = refl
in_by (Some []) n size some low = absurd (omega (arith, size [] refl))
in_by (Some (s ∷ l)) n size some low =
    let within : nat_lt STRETCH_LIMIT (length (s ∷ l)) ≡ false = let all = size (s ∷ l) refl in grind (arith, nat_tests) in
    kept_is (is_zone (s ∷ l)) (s ∷ l) ∙ rw within refl

long_by : (y : Option (List Stretch)) (n : ℕ) → ((l : List Stretch) → y ≡ Some l → length l ≡ n) → STRETCH_LIMIT < n → is_some (kept is_zone y) ≡ false
unfolding bad_zone
long_by None n size long = refl
long_by (Some []) n size long = refl
long_by (Some (s ∷ l)) n size long =
    let past : nat_lt STRETCH_LIMIT (length (s ∷ l)) ≡ true = let all = size (s ∷ l) refl in grind (arith, nat_tests) in
    kept_is (is_zone (s ∷ l)) (s ∷ l) ∙ rw past refl

none_by_size : (y : Option (List Stretch)) → ((l : List Stretch) → y ≡ Some l → length l ≡ 0) → is_some (kept is_zone y) ≡ false
unfolding bad_zone
none_by_size None size = refl
none_by_size (Some []) size = refl
none_by_size (Some (s ∷ l)) size = absurd (omega (arith, size (s ∷ l) refl))

sizes : (xs : List Value) (l : List Stretch) → stretches_of (items_view xs) ≡ Some l → length l ≡ length xs
sizes xs l e = length_stretches (map view xs) l e ∙ length-map xs view

-- by the number of values
pub table_none : (xs : List Value) → length xs ≡ 0 → is_table (items_view xs) ≡ false
table_none xs none = none_by_size (stretches_of (items_view xs)) (λ l e. sizes xs l e ∙ none)

pub table_long : (xs : List Value) → STRETCH_LIMIT < length xs → is_table (items_view xs) ≡ false
table_long xs long = long_by (stretches_of (items_view xs)) (length xs) (sizes xs) long

pub table_in : (xs : List Value) → 0 < length xs → length xs ≤ STRETCH_LIMIT → is_table (items_view xs) ≡ all_follow None (items_view xs)
table_in xs some low = in_by (stretches_of (items_view xs)) (length xs) (sizes xs) some low ∙ sym (all_follow_is 0 None (items_view xs))
