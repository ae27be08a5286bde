-- The table of a zone rule: its local time at each quarter of an hour, as a list of stretches.
use Rattle.std.specs.Prelude.{◌≡◌, ℕ, ◌+◌, ◌-◌, ◌*◌, Bool, not, ℤ, pos, List, ◌∷◌, map, filter, Option, None, Some, option_map, IfSome, IsSome, Result, Ok, Err, unsigned_abs}
use Rattle.std.specs.List.{range_with_len}
use Rattle.std.specs.Ordering.{int_eq}
use Rattle.jiff.specs.Placed.{IsPosixZone}
use Rattle.jiff_tz.specs.PosixReader.{read_whole}
use Rattle.jiff_tz.specs.PosixText.{TzText}
use Rattle.jiff_tz.specs.Zone.{offset_at}
use Rattle.jiff_tz.specs.declared.timezone.TimeZone.{TimeZone}
use Rattle.qz_civil.specs.declared.stretches.Stretch.{Stretch}
use Rattle.qz_civil.specs.Zones.{bad_zone}
use Rattle.qz_zone_rule.specs.Offsets.{seconds_at}
use Rattle.qz_zone_rule.specs.declared.faults.RuleFault.{RuleFault}
use Rattle.qz_zone_rule.specs.declared.faults.RuleFault.TheVariants.{BadRule, Bad, NoMemory}
use Rattle.qz_zone_rule.specs.declared.quarters.TheConstants.{QUARTER, QUARTERS}

-- when the i-th quarter of an hour begins, in ms since 1970-01-01T00:00:00Z
abbrev pub quarter : ℕ → ℕ
quarter i = i * unsigned_abs QUARTER

-- the same in ns, as jiff counts
abbrev pub nanosecond : ℕ → ℤ
nanosecond i = pos (quarter i * 1_000_000)

-- The table of a clock, of which only its offset at each quarter is known.

-- a stretch that begins with the i-th quarter
abbrev pub stretch : (ℕ → ℤ) → ℕ → Stretch
stretch offset i = record { from = pos (quarter i); offset = offset i }

-- the i-th quarter has another offset than the one before
abbrev pub is_change : (ℕ → ℤ) → ℕ → Bool
is_change offset i = not (int_eq (offset i) (offset (i - 1)))

-- the stretches that begin after the i-th quarter, up to the last timestamp that the scheduler knows
unfoldable pub later : (ℕ → ℤ) → ℕ → List Stretch
later offset i = map (stretch offset) (filter (is_change offset) (range_with_len (i + 1) (QUARTERS - (i + 1))))

-- all stretches: one from the start of 1970 on, and one for each later quarter at which the offset changes
abbrev pub table : (ℕ → ℤ) → List Stretch
table offset = stretch offset 0 ∷ later offset 0

-- The table of a rule.

-- local time less UTC at the i-th quarter, in seconds, as jiff converts it in this zone
unfoldable pub offset : TimeZone → ℕ → ℤ
offset z i = offset_at z (nanosecond i)

-- the text is a POSIX rule, and these are the stretches of the zone that jiff reads it as
abbrev pub IsTable : List ℕ → List Stretch → Type 0
IsTable text stretches = (z : TimeZone) × IsPosixZone text z × (stretches ≡ table (offset z))

-- why no table is made of the text; want of memory comes only where the rule has a table
abbrev pub IsCause : List ℕ → RuleFault → Type 0
IsCause text BadRule = read_whole text ≡ None
IsCause text (Bad fault) = (stretches : List Stretch) × IsTable text stretches × (bad_zone stretches ≡ Some fault)
IsCause text NoMemory = (stretches : List Stretch) × IsTable text stretches × (bad_zone stretches ≡ None)

-- The same as functions of the text.

-- local time less UTC at the i-th quarter, by a rule that reads so
unfoldable pub text_offset : TzText → ℕ → ℤ
text_offset rule i = seconds_at rule (nanosecond i)

-- the stretches of a rule text, and nothing where it is none
unfoldable pub rule_table : List ℕ → Option (List Stretch)
rule_table text = option_map (λ rule. table (text_offset rule)) (read_whole text)

-- what is answered of a text that has this table
abbrev pub Expands : Result (List Stretch) RuleFault → Option (List Stretch) → Type 0
Expands (Ok stretches) whole = (whole ≡ Some stretches) × (bad_zone stretches ≡ None)
Expands (Err BadRule) whole = whole ≡ None
Expands (Err (Bad fault)) whole = IfSome whole (λ stretches. bad_zone stretches ≡ Some fault) × IsSome whole
Expands (Err NoMemory) whole = IfSome whole (λ stretches. bad_zone stretches ≡ None) × IsSome whole
