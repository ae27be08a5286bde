-- Between two neighbouring transitions of a rule, in one year, its offset stays.
use Rattle.std.proofs.Common.{◌≡◌, ℕ, ◌≤◌, ◌<◌, ℤ, pos, ◌≤ℤ◌, ◌<ℤ◌, true, false, Option, Some, None, arith, refl, sym, ap, subst, ◌∙◌, int_le, int_lt, neg_ℤ}
use Rattle.std.specs.Prelude.{MatchOption, if◌then◌else◌}
use Rattle.std.proofs.lemmas.Int.{ints, by_lt_z}
use Rattle.jiff_tz.specs.PosixRule.{in_window, ordered, next_at, next_year, offset_at, transition_of, utc_window}
use Rattle.jiff_tz.specs.Year.{year_of_nanos}
use Rattle.jiff_tz.specs.declared.info.OffsetInfo.{OffsetInfo}
use Rattle.jiff_tz.specs.declared.posix.Dst.{Dst}
use Rattle.jiff_tz.specs.declared.posix.TimeZone.{TimeZone}
use Rattle.jiff_tz.specs.declared.timezone.TimeZone.TheVariants.{Posix}
use Rattle.jiff_tz.specs.Zone.{offset_at as zone_offset_at}
use Rattle.qz_zone_rule.specs.Tables.{nanosecond, offset}
use Rattle.qz_zone_rule.specs.declared.quarters.TheConstants.{QUARTERS}

-- What lies on one side of a moment.

le_yes : (a b : ℤ) → a ≤ℤ b → int_le a b ≡ true
le_yes a b h = grind (arith, ints)

le_no : (a b : ℤ) → b <ℤ a → int_le a b ≡ false
le_no a b h = grind (arith, ints)

lt_yes : (a b : ℤ) → a <ℤ b → int_lt a b ≡ true
lt_yes a b h = grind (arith, ints)

lt_no : (a b : ℤ) → b ≤ℤ a → int_lt a b ≡ false
lt_no a b h = grind (arith, ints)

-- a is later than m where it is later than n: then it lies on the same side of both
same_le : (a n m : ℤ) → n ≤ℤ m → (n <ℤ a → m <ℤ a) → int_le a m ≡ int_le a n
same_le a n m h k =
    by_lt_z n a
    (λ after. le_no a m (k after) ∙ sym (le_no a n after))
    (λ before. le_yes a m (omega (arith, ints)) ∙ sym (le_yes a n before))

same_lt : (a n m : ℤ) → n ≤ℤ m → (n <ℤ a → m <ℤ a) → int_lt m a ≡ int_lt n a
same_lt a n m h k =
    by_lt_z n a
    (λ after. lt_yes m a (k after) ∙ sym (lt_yes n a after))
    (λ before. lt_no m a (omega (arith, ints)) ∙ sym (lt_no n a before))

-- both are within daylight saving time, or both aren't
same_side : (w : ℤ × ℤ) (n m : ℤ) → n ≤ℤ m → (n <ℤ w.0 → m <ℤ w.0) → (n <ℤ w.1 → m <ℤ w.1) → in_window w m ≡ in_window w n
same_side w n m h start end =
    let a = same_le w.0 n m h start in
    let b = same_lt w.1 n m h end in
    let c = same_le w.1 n m h end in
    let d = same_lt w.0 n m h start in
    rw (a, b, c, d) refl

-- What the next transition tells.

-- m comes before the transition, where there is one
abbrev pub IsBefore : ℤ → Option (ℤ × OffsetInfo) → Type 0
IsBefore m next = MatchOption next (Unit {0}) (λ t. m <ℤ t.0)

-- the last timestamp of which this is claimed is far below jiff's last instant
abbrev pub BOUND : ℤ
BOUND = pos 200_000_000_000_000_000_000

-- an end of the window after n is after m where it is the next transition
before_end : (rule : TimeZone) (d : Dst) (w : ℤ × ℤ) (k n m : ℤ) → pos 0 ≤ℤ n → n <ℤ k → m ≤ℤ BOUND → IsBefore m (transition_of rule d w k) → m <ℤ k
before_end rule d w k n m low after high h =
    by_lt_z (pos 253_402_207_200_999_999_999) k
    (λ beyond. omega (arith, ints))
    (λ within. rw (le_yes (neg_ℤ (pos 377_705_023_201_000_000_000)) k (omega (arith, ints)), le_yes k (pos 253_402_207_200_999_999_999) within) at h)

-- the earlier end and the later one that are after n are after m
before_both : (rule : TimeZone) (d : Dst) (w : ℤ × ℤ) (lo hi n m : ℤ) (after : Option (ℤ × OffsetInfo)) → lo ≤ℤ hi → pos 0 ≤ℤ n → n ≤ℤ m → m ≤ℤ BOUND → IsBefore m (if int_lt n lo then transition_of rule d w lo else (if int_lt n hi then transition_of rule d w hi else after)) → (n <ℤ lo → m <ℤ lo) × (n <ℤ hi → m <ℤ hi)
before_both rule d w lo hi n m after order low h high before =
    by_lt_z n lo
    (λ early. let first : m <ℤ lo = before_end rule d w lo n m low early high (rw (lt_yes n lo early) at before) in
    (λ x. first, λ x. omega (arith, ints)))
    (λ late. by_lt_z n hi
    (λ early. let second : m <ℤ hi = before_end rule d w hi n m low early high (rw (lt_no n lo late, lt_yes n hi early) at before) in
    (λ x. absurd (omega (arith, ints)), λ x. second))
    (λ over. (λ x. absurd (omega (arith, ints)), λ x. absurd (omega (arith, ints)))))

-- both ends of a window that are after n are after m; `ends` has the earlier one first
before_ends : (rule : TimeZone) (d : Dst) (w ends : ℤ × ℤ) (n m : ℤ) (after : Option (ℤ × OffsetInfo)) → ends ≡ ordered w → pos 0 ≤ℤ n → n ≤ℤ m → m ≤ℤ BOUND → IsBefore m (if int_lt n ends.0 then transition_of rule d w ends.0 else (if int_lt n ends.1 then transition_of rule d w ends.1 else after)) → (n <ℤ w.0 → m <ℤ w.0) × (n <ℤ w.1 → m <ℤ w.1)
before_ends rule d w ends n m after e low h high before =
    by_lt_z w.1 w.0
    (λ over.
    let swapped : ends ≡ (w.1, w.0) = e ∙ rw (le_no w.0 w.1 over) refl in
    let first : ends.0 ≡ w.1 = ap (λ p. p.0) swapped in
    let second : ends.1 ≡ w.0 = ap (λ p. p.1) swapped in
    let both = before_both rule d w ends.0 ends.1 n m after (omega (arith, ints)) low h high before in
    (subst (λ t. n <ℤ t → m <ℤ t) second both.1, subst (λ t. n <ℤ t → m <ℤ t) first both.0))
    (λ order.
    let same : ends ≡ w = e ∙ rw (le_yes w.0 w.1 order) refl in
    let first : ends.0 ≡ w.0 = ap (λ p. p.0) same in
    let second : ends.1 ≡ w.1 = ap (λ p. p.1) same in
    let both = before_both rule d w ends.0 ends.1 n m after (omega (arith, ints)) low h high before in
    (subst (λ t. n <ℤ t → m <ℤ t) first both.0, subst (λ t. n <ℤ t → m <ℤ t) second both.1))

-- daylight saving time is in force at both or at neither
same_offset : (rule : TimeZone) (dst : Option Dst) (n m : ℤ) → rule.dst ≡ dst → pos 0 ≤ℤ n → n ≤ℤ m → m ≤ℤ BOUND → year_of_nanos m ≡ year_of_nanos n → IsBefore m (next_at rule n) → offset_at rule m ≡ offset_at rule n
same_offset rule None n m e low h high year before = rw e refl
same_offset rule (Some d) n m e low h high year before =
    let ends = before_ends rule d (utc_window d (year_of_nanos n) rule.std_offset) (ordered (utc_window d (year_of_nanos n) rule.std_offset)) n m (next_year rule d (year_of_nanos n)) refl low h high (rw e at before) in
    let side = same_side (utc_window d (year_of_nanos n) rule.std_offset) n m h ends.0 ends.1 in
    rw (e, year, side) refl

pub offset_stays : (rule : TimeZone) (n m : ℤ) → pos 0 ≤ℤ n → n ≤ℤ m → m ≤ℤ BOUND → year_of_nanos m ≡ year_of_nanos n → IsBefore m (next_at rule n) → offset_at rule m ≡ offset_at rule n
offset_stays rule n m low h high year before = same_offset rule rule.dst n m refl low h high year before

-- the same of quarters
pub quarter_stays : (rule : TimeZone) (place i : ℕ) (next : Option (ℤ × OffsetInfo)) → place ≤ i → i < QUARTERS → year_of_nanos (nanosecond i) ≡ year_of_nanos (nanosecond place) → next ≡ next_at rule (nanosecond place) → IsBefore (nanosecond i) next → offset (Posix rule) i ≡ offset (Posix rule) place
unfolding offset zone_offset_at
quarter_stays rule place i next h k year e before =
    ap (λ o. o.seconds) (offset_stays rule (nanosecond place) (nanosecond i) (omega (arith, ints)) (omega (arith, ints)) (omega (arith, ints)) year (subst (IsBefore (nanosecond i)) e before))
