-- What a rule's text tells of its offsets: all of them.
use Rattle.std.proofs.Common.{◌≡◌, ℕ, ℤ, Bool, true, false, List, Option, Some, None, refl, sym, ap, ◌∙◌}
use Rattle.std.specs.Prelude.{option_map, if◌then◌else◌, Result, Ok, Err, IfOk, IfErr}
use Rattle.jiff_core.specs.declared.Offset.{Offset}
use Rattle.jiff.specs.Placed.{IsPosixZone}
use Rattle.jiff_tz.specs.PosixReader.{read_whole}
use Rattle.jiff_tz.specs.PosixText.{TzText, tz_view, dst_view, day_time_view}
use Rattle.jiff_tz.specs.PosixRule.{rule_nanos, utc_window, dst_at_by, in_window, match_some}
use Rattle.jiff_tz.specs.Year.{year_of_nanos}
use Rattle.jiff_tz.specs.Zone.{offset_at}
use Rattle.jiff_tz.specs.declared.posix.DayTime.{DayTime}
use Rattle.jiff_tz.specs.declared.posix.Dst.{Dst}
use Rattle.jiff_tz.specs.declared.timezone.TimeZone.{TimeZone}
use Rattle.jiff_tz.specs.declared.timezone.TimeZone.TheVariants.{UTC, Unknown, Fixed, Posix, Tzif}
use Rattle.qz_civil.specs.declared.stretches.Stretch.{Stretch}
use Rattle.qz_civil.specs.Zones.{bad_zone}
use Rattle.qz_zone_rule.specs.declared.faults.RuleFault.{RuleFault}
use Rattle.qz_zone_rule.specs.declared.faults.RuleFault.TheVariants.{BadRule, Bad, NoMemory}
use Rattle.qz_zone_rule.specs.Offsets.{moment, window, seconds_by, seconds_at}
use Rattle.qz_zone_rule.specs.Tables.{nanosecond, offset, text_offset, table, rule_table, IsTable, IsCause, Expands}
use Rattle.qz_zone_rule.proofs.Runs.{same_table}

same_moment : (y : ℤ) (d : DayTime) (seconds : ℤ) → rule_nanos y d seconds ≡ moment y (day_time_view d) seconds
unfolding rule_nanos moment
same_moment y d seconds = refl

same_window : (d : Dst) (y : ℤ) (std : Offset) → utc_window d y std ≡ window (dst_view d) y std.seconds
unfolding utc_window window
same_window d y std =
    let start = same_moment y d.rule.start std.seconds in
    let end = same_moment y d.rule.end d.offset.seconds in
    rw (start, end) refl

pick : (x y : Bool) (std : Offset) (d : Dst) → x ≡ y → (match_some (if x then Some d else None) std (λ d. d.offset)).seconds ≡ (if y then d.offset.seconds else std.seconds)
pick true true std d e = refl
pick false false std d e = refl
pick true false std d e = absurd (cc)
pick false true std d e = absurd (cc)

same_seconds : (n : ℤ) (std : Offset) (dst : Option Dst) → (match_some (dst_at_by std dst n) std (λ d. d.offset)).seconds ≡ seconds_by std.seconds (option_map dst_view dst) n
same_seconds n std None = refl
same_seconds n std (Some d) =
    pick (in_window (utc_window d (year_of_nanos n) std) n) (in_window (window (dst_view d) (year_of_nanos n) std.seconds) n) std d (ap (λ w. in_window w n) (same_window d (year_of_nanos n) std))

-- a zone that is read from a text has the offsets that the text tells
same_offset : (text : List ℕ) (rule : TzText) (z : TimeZone) → IsPosixZone text z → read_whole text ≡ Some rule → (n : ℤ) → offset_at z n ≡ seconds_at rule n
unfolding offset_at
same_offset text rule (Posix tz) h e n =
    let view : tz_view tz ≡ rule = cc in
    same_seconds n tz.std_offset tz.dst ∙ ap (λ r. seconds_at r n) view
same_offset text rule UTC h e n = elim h [ ]
same_offset text rule Unknown h e n = elim h [ ]
same_offset text rule (Fixed _) h e n = elim h [ ]
same_offset text rule (Tzif _) h e n = elim h [ ]

same_quarters : (text : List ℕ) (rule : TzText) (z : TimeZone) → IsPosixZone text z → read_whole text ≡ Some rule → (i : ℕ) → offset z i ≡ text_offset rule i
unfolding offset text_offset
same_quarters text rule z h e i = same_offset text rule z h e (nanosecond i)

-- a text of which a zone is read is a rule
rule_of : (text : List ℕ) (z : TimeZone) → IsPosixZone text z → (rule : TzText) × (read_whole text ≡ Some rule)
rule_of text (Posix tz) h = (tz_view tz, h)
rule_of text UTC h = elim h [ ]
rule_of text Unknown h = elim h [ ]
rule_of text (Fixed _) h = elim h [ ]
rule_of text (Tzif _) h = elim h [ ]

-- the zone's table is that of the text
pub zone_table : (text : List ℕ) (z : TimeZone) → IsPosixZone text z → rule_table text ≡ Some (table (offset z))
unfolding rule_table
zone_table text z h =
    let rule = rule_of text z h in
    let read = rule.1 in
    rw read (ap Some (sym (same_table (offset z) (text_offset rule.0) (same_quarters text rule.0 z h read))))

-- and no other list is
pub table_is : (text : List ℕ) (stretches : List Stretch) → IsTable text stretches → rule_table text ≡ Some stretches
table_is text stretches h = zone_table text h.0 h.1 ∙ ap Some (sym h.2)

pub no_table : (text : List ℕ) → read_whole text ≡ None → rule_table text ≡ None
unfolding rule_table
no_table text h = rw h refl

-- what is answered by jiff's zone is answered by the text
pub expands : (text : List ℕ) (result : Result (List Stretch) RuleFault) → IfOk result (IsTable text) → IfOk result (λ stretches. bad_zone stretches ≡ None) → IfErr result (IsCause text) → Expands result (rule_table text)
expands text (Ok stretches) ok valid err = (table_is text stretches ok, valid)
expands text (Err BadRule) ok valid err = no_table text err
expands text (Err (Bad fault)) ok valid err = let whole = table_is text err.0 err.1 in rw whole (err.2, refl)
expands text (Err NoMemory) ok valid err = let whole = table_is text err.0 err.1 in rw whole (err.2, refl)

-- two zones that are read from one text have the same offsets
pub one_offset : (text : List ℕ) (a b : TimeZone) → IsPosixZone text a → IsPosixZone text b → (i : ℕ) → offset a i ≡ offset b i
one_offset text a b h k i =
    let rule = rule_of text a h in
    same_quarters text rule.0 a h rule.1 i ∙ sym (same_quarters text rule.0 b k rule.1 i)
