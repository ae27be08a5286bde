-- What the table of a rule shows at each quarter.
use Rattle.std.proofs.Common.{◌≡◌, ℕ, ◌*◌, ◌<◌, arith, refl, sym, ap, ◌∙◌, List, None, ℤ, pos, negsuc, ◌+ℤ◌, ◌*ℤ◌, ◌≤ℤ◌, unsigned_abs}
use Rattle.std.specs.Prelude.{Result, Ok, Err, IfOk}
use Rattle.std.proofs.lemmas.Int.{ints}
use Rattle.jiff_core.specs.DateTime.{civil_nanos}
use Rattle.jiff_core.specs.Timestamp.{nanos_of_seconds}
use Rattle.jiff_core.specs.declared.civil.datetime.DateTime.{DateTime}
use Rattle.jiff.specs.Placed.{IsPosixZone}
use Rattle.jiff_tz.specs.Zone.{offset_at as jiff_offset_at}
use Rattle.jiff_tz.specs.declared.timezone.TimeZone.{TimeZone}
use Rattle.qz_civil.specs.declared.limits.TheConstants.{DAY_MS}
use Rattle.qz_civil.specs.declared.stretches.Stretch.{Stretch}
use Rattle.qz_civil.specs.Zones.{bad_zone, local, offset_at, stretch_at}
use Rattle.qz_civil.proofs.ZoneLemmas.{offset_of-bound}
use Rattle.qz_zone_rule.specs.declared.faults.RuleFault.{RuleFault}
use Rattle.qz_zone_rule.specs.declared.quarters.TheConstants.{QUARTERS}
use Rattle.qz_zone_rule.specs.Clocks.{ShowsTimes}
use Rattle.qz_zone_rule.specs.Tables.{IsTable, nanosecond, offset, quarter}
use Rattle.qz_zone_rule.proofs.Shown.{table_shows}
use Rattle.qz_zone_rule.proofs.Views.{one_offset}

shows_offsets : (text : List ℕ) (stretches : List Stretch) → IsTable text stretches → (z : TimeZone) → IsPosixZone text z → (i : ℕ) → i < QUARTERS → offset_at stretches (pos (quarter i)) ≡ offset z i
shows_offsets text stretches h z k i bound =
    ap (λ zs. offset_at zs (pos (quarter i))) h.2 ∙ table_shows (offset h.0) i bound ∙ one_offset text h.0 z h.1 k i

nonneg_abs : (z : ℤ) → pos 0 ≤ℤ z → pos (unsigned_abs z) ≡ z
nonneg_abs (pos n) h = refl
nonneg_abs (negsuc n) h = absurd (omega (arith, ints))

-- the local clock in ms, and the other in ns
same_clock : (t n : ℕ) (o nanos : ℤ) → (negsuc 64799 ≤ℤ o) → (o ≤ℤ pos 64800) → n ≡ t * 1000000 → nanos ≡ pos n +ℤ nanos_of_seconds o → pos (unsigned_abs (pos t +ℤ pos DAY_MS +ℤ o *ℤ pos 1000) * 1000000) ≡ nanos +ℤ pos (DAY_MS * 1000000)
same_clock t n o nanos low high e f =
    let clock = nonneg_abs (pos t +ℤ pos DAY_MS +ℤ o *ℤ pos 1000) (omega (arith, ints)) in
    omega (arith, ints, clock)

shows_clock : (text : List ℕ) (stretches : List Stretch) → IsTable text stretches → bad_zone stretches ≡ None → (z : TimeZone) → IsPosixZone text z → (i : ℕ) → i < QUARTERS → (dt : DateTime) → civil_nanos dt ≡ nanosecond i +ℤ nanos_of_seconds (jiff_offset_at z (nanosecond i)) → pos (local stretches (pos (quarter i)) * 1000000) ≡ civil_nanos dt +ℤ pos (DAY_MS * 1000000)
unfolding offset
shows_clock text stretches h valid z k i bound dt e =
    let same : offset_at stretches (pos (quarter i)) ≡ jiff_offset_at z (nanosecond i) = shows_offsets text stretches h z k i bound in
    let range = offset_of-bound stretches (stretch_at stretches (pos (quarter i))) valid in
    same_clock (quarter i) (quarter i * 1000000) (offset_at stretches (pos (quarter i))) (civil_nanos dt) range.0 range.1 refl (e ∙ ap (λ o. nanosecond i +ℤ nanos_of_seconds o) (sym same))

pub shows_times : (text : List ℕ) (result : Result (List Stretch) RuleFault) → IfOk result (IsTable text) → IfOk result (λ stretches. bad_zone stretches ≡ None) → IfOk result (ShowsTimes text)
shows_times text (Ok stretches) ok valid = record { offsets = shows_offsets text stretches ok; clock = shows_clock text stretches ok valid }
shows_times text (Err fault) ok valid = tt
