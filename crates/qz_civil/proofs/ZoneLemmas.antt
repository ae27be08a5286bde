-- What holds of a list of stretches that is a zone.
use Rattle.std.proofs.Common.{◌≡◌, ℕ, zero, suc, ◌+◌, ◌-◌, ◌<◌, ◌≤◌, inl, inr, true, false, refl, ap, subst, arith, rules, ℤ, pos, neg_ℤ, ◌+ℤ◌, ◌<ℤ◌, ◌≤ℤ◌, int_le, List, [], ◌∷◌, length, Option, Some, None, slice_get, option_map, IfSome}
use Rattle.std.specs.List.{prefix_len}
use Rattle.std.proofs.lemmas.Bool.{cases_lt}
use Rattle.std.proofs.lemmas.Int.{ints, by_lt_z}
use Rattle.std.proofs.lemmas.List.Sums.{prefix_len-le-length}
use Rattle.qz_civil.specs.declared.limits.TheConstants.{LAST, OFFSET_LIMIT, STRETCH_LENGTH, STRETCH_LIMIT}
use Rattle.qz_civil.specs.declared.stretches.Stretch.{Stretch}
use Rattle.qz_civil.specs.Timings.{is_timestamp}
use Rattle.qz_civil.specs.Zones.{begun, bad_zone, bad_place, is_offset, is_apart, offset_of, offset_at, stretch_at, IsLastBegun}

-- Tests and places.

le_yes : (a b : ℤ) → a ≤ℤ b → int_le a b ≡ true
le_yes a b h = grind (arith, ints)

le_no : (a b : ℤ) → b <ℤ a → int_le a b ≡ false
le_no a b h = grind (arith, ints)

get_next : (s : Stretch) (rest : List Stretch) (n : ℕ) → slice_get (s ∷ rest) (1 + n) ≡ slice_get rest n
get_next s rest n = let next : 1 + n ≡ suc n = omega arith in rw next refl

-- The rules of a table, in the order of its stretches.

-- a stretch within the limits
pub record IsStretch (s : Stretch) : Type 0 where
  pub from_low : pos 0 ≤ℤ s.from
  pub from_high : s.from ≤ℤ LAST
  pub offset_low : neg_ℤ OFFSET_LIMIT ≤ℤ s.offset
  pub offset_high : s.offset ≤ℤ OFFSET_LIMIT

-- it begins far enough after the one before
abbrev pub IsApart : Option ℤ → ℤ → Type 0
IsApart None from = Unit {0}
IsApart (Some before) from = (before +ℤ STRETCH_LENGTH) ≤ℤ from

-- the stretches keep the rules, where the one before them begins at `before`
abbrev pub IsTable : Option ℤ → List Stretch → Type 0
IsTable before [] = Unit {0}
IsTable before (s ∷ rest) = IsStretch s × IsApart before s.from × IsTable (Some s.from) rest

is_stretch : (s : Stretch) → is_timestamp s.from ≡ true → is_offset s.offset ≡ true → IsStretch s
is_stretch s a b = record { from_low = grind (arith, ints); from_high = grind (arith, ints); offset_low = grind (arith, ints); offset_high = grind (arith, ints) }

apart_by : (before : Option ℤ) (from : ℤ) → is_apart before from ≡ true → IsApart before from
apart_by None from h = tt
apart_by (Some before) from h = grind (arith, ints)

-- what holds of the first stretch, and of the others
first_of : (i : ℕ) (before : Option ℤ) (s : Stretch) (rest : List Stretch) → bad_place i before (s ∷ rest) ≡ None → (is_timestamp s.from ≡ true) × (is_offset s.offset ≡ true) × (is_apart before s.from ≡ true) × (bad_place (i + 1) (Some s.from) rest ≡ None)
first_of i before s rest h = grind arith

table_by : (i : ℕ) (before : Option ℤ) (zs : List Stretch) → bad_place i before zs ≡ None → IsTable before zs
table_by i before [] h = tt
table_by i before (s ∷ rest) h =
    let f = first_of i before s rest h in
    (is_stretch s f.0 f.1, apart_by before s.from f.2, table_by (i + 1) (Some s.from) rest f.3)

pub zone-table : (zs : List Stretch) → bad_zone zs ≡ None → IsTable None zs
unfolding bad_zone
zone-table [] h = tt
zone-table (s ∷ rest) h = let f : bad_place 0 None (s ∷ rest) ≡ None = grind arith in table_by 0 None (s ∷ rest) f

pub zone-length : (zs : List Stretch) → bad_zone zs ≡ None → (0 < length zs) × (length zs ≤ STRETCH_LIMIT)
unfolding bad_zone
zone-length [] h = cc
zone-length (s ∷ rest) h = (omega arith, grind arith)

-- Stretches by their places.

pub stretch_in : (before : Option ℤ) (zs : List Stretch) (k : ℕ) (s : Stretch) → IsTable before zs → slice_get zs k ≡ Some s → IsStretch s
stretch_in before [] k s h e = cc
stretch_in before (x ∷ rest) zero s h e = let same : x ≡ s = cc in subst IsStretch same h.0
stretch_in before (x ∷ rest) (suc k) s h e = stretch_in (Some x.from) rest k s h.2 e

pub begins_after : (before : ℤ) (zs : List Stretch) (k : ℕ) (s : Stretch) → IsTable (Some before) zs → slice_get zs k ≡ Some s → (before +ℤ STRETCH_LENGTH) ≤ℤ s.from
begins_after before [] k s h e = cc
begins_after before (x ∷ rest) zero s h e = let same : x ≡ s = cc in subst (λ z. (before +ℤ STRETCH_LENGTH) ≤ℤ z.from) same h.1
begins_after before (x ∷ rest) (suc k) s h e =
    let later = begins_after x.from rest k s h.2 e in
    let first = h.1 in
    omega (arith, ints)

pub begins_apart : (before : Option ℤ) (zs : List Stretch) (j k : ℕ) (s r : Stretch) → IsTable before zs → j < k → slice_get zs j ≡ Some s → slice_get zs k ≡ Some r → (s.from +ℤ STRETCH_LENGTH) ≤ℤ r.from
begins_apart before [] j k s r h lt e f = cc
begins_apart before (x ∷ rest) j zero s r h lt e f = absurd (omega arith)
begins_apart before (x ∷ rest) zero (suc k) s r h lt e f = let same : x ≡ s = cc in subst (λ z. (z.from +ℤ STRETCH_LENGTH) ≤ℤ r.from) same (begins_after x.from rest k r h.2 f)
begins_apart before (x ∷ rest) (suc j) (suc k) s r h lt e f = begins_apart (Some x.from) rest j k s r h.2 (omega arith) e f

-- Stretches that have begun.

has_begun : (zs : List Stretch) (t : ℤ) (k : ℕ) (s : Stretch) → k < prefix_len (λ s. int_le s.from t) zs → slice_get zs k ≡ Some s → s.from ≤ℤ t
has_begun [] t k s h e = cc
has_begun (x ∷ rest) t zero s h e =
    let same : x ≡ s = cc in
    by_lt_z t x.from
    (λ lt. absurd (let none = rw (le_no x.from t lt) at h in omega arith))
    (λ ge. subst (λ z. z.from ≤ℤ t) same ge)
has_begun (x ∷ rest) t (suc k) s h e =
    by_lt_z t x.from
    (λ lt. absurd (let none = rw (le_no x.from t lt) at h in omega arith))
    (λ ge. let more = rw (le_yes x.from t ge) at h in has_begun rest t k s (omega arith) e)

later_than : (before : Option ℤ) (x : Stretch) (rest : List Stretch) (t : ℤ) (k : ℕ) (s : Stretch) → IsTable before (x ∷ rest) → t <ℤ x.from → slice_get (x ∷ rest) k ≡ Some s → t <ℤ s.from
later_than before x rest t zero s h lt e = let same : x ≡ s = cc in subst (λ z. t <ℤ z.from) same lt
later_than before x rest t (suc k) s h lt e = let apart = begins_after x.from rest k s h.2 e in omega (arith, ints)

begins_later : (before : Option ℤ) (zs : List Stretch) (t : ℤ) (k : ℕ) (s : Stretch) → IsTable before zs → prefix_len (λ s. int_le s.from t) zs ≤ k → slice_get zs k ≡ Some s → t <ℤ s.from
begins_later before [] t k s h le e = cc
begins_later before (x ∷ rest) t zero s h le e =
    by_lt_z t x.from
    (λ lt. later_than before x rest t zero s h lt e)
    (λ ge. absurd (let more = rw (le_yes x.from t ge) at le in omega arith))
begins_later before (x ∷ rest) t (suc k) s h le e =
    by_lt_z t x.from
    (λ lt. later_than before x rest t (suc k) s h lt e)
    (λ ge. let more = rw (le_yes x.from t ge) at le in begins_later (Some x.from) rest t k s h.2 (omega arith) e)

-- the place before the first stretch that hasn't begun is the last one that has
pub stretch_at-last : (zs : List Stretch) (t : ℤ) → bad_zone zs ≡ None → IsLastBegun zs t (stretch_at zs t)
unfolding begun
stretch_at-last zs t h =
    let long = zone-length zs h in
    let within = prefix_len-le-length (λ s. int_le s.from t) zs in
    record {
      within = omega arith;
      begins = λ s e positive. has_begun zs t (stretch_at zs t) s (omega arith) e;
      later = λ k s above e. begins_later None zs t k s (zone-table zs h) (omega arith) e;
    }

pub begun-bound : (zs : List Stretch) (t : ℤ) → bad_zone zs ≡ None → begun zs t ≤ STRETCH_LIMIT
unfolding begun
begun-bound zs t h = let long = zone-length zs h in omega (arith, prefix_len-le-length (λ s. int_le s.from t) zs)

pub has-begun : (zs : List Stretch) (t : ℤ) (k : ℕ) (s : Stretch) → k < begun zs t → slice_get zs k ≡ Some s → s.from ≤ℤ t
unfolding begun
has-begun = has_begun

-- what begins up to t has begun at t
pub begun-past : (zs : List Stretch) (t : ℤ) (k : ℕ) (s : Stretch) → bad_zone zs ≡ None → slice_get zs k ≡ Some s → s.from ≤ℤ t → k < begun zs t
unfolding begun
begun-past zs t k s h e le =
    elim (cases_lt k (prefix_len (λ s. int_le s.from t) zs)) [
      | inl lt ↦ lt
      | inr ge ↦ absurd (let later = begins_later None zs t k s (zone-table zs h) ge e in omega (arith, ints))
    ]

-- How many have begun later on.

begun_up : (zs : List Stretch) (t u : ℤ) → t ≤ℤ u → prefix_len (λ s. int_le s.from t) zs ≤ prefix_len (λ s. int_le s.from u) zs
begun_up [] t u h = omega arith
begun_up (x ∷ rest) t u h =
    by_lt_z t x.from
    (λ lt. rw (le_no x.from t lt) (omega arith))
    (λ ge. let more = begun_up rest t u h in rw (le_yes x.from t ge, le_yes x.from u (omega (arith, ints))) (omega arith))

pub begun-up : (zs : List Stretch) (t u : ℤ) → t ≤ℤ u → begun zs t ≤ begun zs u
unfolding begun
begun-up = begun_up

none_begin : (before : ℤ) (zs : List Stretch) (u : ℤ) → IsTable (Some before) zs → u <ℤ (before +ℤ STRETCH_LENGTH) → prefix_len (λ s. int_le s.from u) zs ≡ 0
none_begin before [] u h lt = refl
none_begin before (x ∷ rest) u h lt = let apart = h.1 in rw (le_no x.from u (omega (arith, ints))) refl

few_begin : (before : Option ℤ) (zs : List Stretch) (t u : ℤ) → IsTable before zs → u <ℤ (t +ℤ STRETCH_LENGTH) → prefix_len (λ s. int_le s.from u) zs ≤ prefix_len (λ s. int_le s.from t) zs + 1
few_begin before [] t u h lt = omega arith
few_begin before (x ∷ rest) t u h lt =
    by_lt_z u x.from
    (λ no. rw (le_no x.from u no) (omega arith))
    (λ yes. by_lt_z t x.from
    (λ under. let none = none_begin x.from rest u h.2 (omega (arith, ints)) in rw (le_yes x.from u yes, le_no x.from t under) (omega arith))
    (λ over. let more = few_begin (Some x.from) rest t u h.2 lt in rw (le_yes x.from u yes, le_yes x.from t over) (omega arith)))

-- within the length of a stretch at most one begins
pub begun-few : (zs : List Stretch) (t u : ℤ) → bad_zone zs ≡ None → u <ℤ (t +ℤ STRETCH_LENGTH) → begun zs u ≤ begun zs t + 1
unfolding begun
begun-few zs t u h lt = few_begin None zs t u (zone-table zs h) lt

stays_by : (zs : List Stretch) (t u : ℤ) → t ≤ℤ u → ((s : Stretch) → slice_get zs (prefix_len (λ s. int_le s.from t) zs) ≡ Some s → u <ℤ s.from) → prefix_len (λ s. int_le s.from u) zs ≡ prefix_len (λ s. int_le s.from t) zs
stays_by [] t u le h = refl
stays_by (x ∷ rest) t u le h =
    by_lt_z t x.from
    (λ lt. let no = le_no x.from t lt in
    let first : u <ℤ x.from = h x (rw no refl) in
    rw (no, le_no x.from u first) refl)
    (λ ge. let yes = le_yes x.from t ge in
    let later = le_yes x.from u (omega (arith, ints)) in
    rw (yes, later) (ap (λ n. 1 + n) (stays_by rest t u le (λ s e. h s (rw (yes, get_next x rest (prefix_len (λ x. int_le x.from t) rest)) e)))))

-- as many have begun until the next one begins
pub begun-stays : (zs : List Stretch) (t u : ℤ) → t ≤ℤ u → ((s : Stretch) → slice_get zs (begun zs t) ≡ Some s → u <ℤ s.from) → begun zs u ≡ begun zs t
unfolding begun
begun-stays = stays_by

-- Offsets and starts.

in_place : (o : Option Stretch) → ((s : Stretch) → o ≡ Some s → IsStretch s) → (neg_ℤ OFFSET_LIMIT ≤ℤ offset_of o) × (offset_of o ≤ℤ OFFSET_LIMIT)
in_place None h = search rules
in_place (Some s) h = let f = h s refl in (f.offset_low, f.offset_high)

pub offset_of-bound : (zs : List Stretch) (k : ℕ) → bad_zone zs ≡ None → (neg_ℤ OFFSET_LIMIT ≤ℤ offset_of (slice_get zs k)) × (offset_of (slice_get zs k) ≤ℤ OFFSET_LIMIT)
offset_of-bound zs k h = in_place (slice_get zs k) (λ s e. stretch_in None zs k s (zone-table zs h) e)

start_by : (t : ℤ) (o : Option Stretch) → ((s : Stretch) → o ≡ Some s → IsStretch s × (t <ℤ s.from)) → IfSome (option_map (λ s. s.from) o) (λ start. t <ℤ start) × IfSome (option_map (λ s. s.from) o) (λ start. start ≤ℤ LAST)
start_by t None h = (tt, tt)
start_by t (Some s) h = let f = h s refl in (f.1, f.0.from_high)

pub next_start-later : (zs : List Stretch) (t : ℤ) → bad_zone zs ≡ None → IfSome (option_map (λ s. s.from) (slice_get zs (begun zs t))) (λ start. t <ℤ start) × IfSome (option_map (λ s. s.from) (slice_get zs (begun zs t))) (λ start. start ≤ℤ LAST)
unfolding begun
next_start-later zs t h =
    let table = zone-table zs h in
    start_by t (slice_get zs (begun zs t)) (λ s e. (stretch_in None zs (begun zs t) s table e, begins_later None zs t (begun zs t) s table (omega arith) e))

start_of : (u : ℤ) (o : Option Stretch) (s : Stretch) → o ≡ Some s → IfSome (option_map (λ s. s.from) o) (λ start. u <ℤ start) → u <ℤ s.from
start_of u None s e h = cc
start_of u (Some x) s e h = let same : x ≡ s = cc in subst (λ z. u <ℤ z.from) same h

-- the offset stays until the next stretch begins
pub offset-stays : (zs : List Stretch) (t u : ℤ) → t ≤ℤ u → IfSome (option_map (λ s. s.from) (slice_get zs (begun zs t))) (λ start. u <ℤ start) → offset_at zs u ≡ offset_at zs t
offset-stays zs t u le h = ap (λ n. offset_of (slice_get zs (n - 1))) (begun-stays zs t u le (λ s e. start_of u (slice_get zs (begun zs t)) s e h))

pub ruleset zone_facts = (begun-bound, stretch_at-last)
