-- The next fire time of a trigger, over the tables of the trigger store.
use Rattle.std.proofs.Common.{◌≡◌, ℤ, negsuc, ◌≤ℤ◌, int_le, Bool, true, false, Option, Some, None, refl, sym, ap, ◌∙◌, subst, arith}
use Rattle.std.proofs.lemmas.Int.{ints}
use Rattle.std.specs.Prelude.{◌&&◌, IsTrue, if◌then◌else◌}
use Rattle.qz_civil.specs.declared.limits.TheConstants.{LAST}
use Rattle.qz_civil.specs.Least.{IsNext}
use Rattle.qz_civil.specs.Timings.{is_timing}
use Rattle.qz_types.specs.Outcomes.{accepted, unless}
use Rattle.qz_types.specs.Rows.{CalendarData, ZoneData, is_calendar, is_key, is_trigger_spec}
use Rattle.qz_types.specs.Tables.{SchedulerTables}
use Rattle.qz_types.specs.declared.commands.Command.TheVariants as command
use Rattle.qz_types.specs.declared.replies.Refusal.{Refusal}
use Rattle.qz_types.specs.declared.replies.Reply.{Reply}
use Rattle.qz_types.specs.declared.triggers.TriggerSpec.{TriggerSpec}
use Rattle.qz_plan.proofs.PlanLaws.{fire_time-next}
use Rattle.qz_plan.specs.Plan.{fire_time_after}
use Rattle.qz_model.specs.Calendars.{add_calendar_refusal, add_zone_refusal}
use Rattle.qz_model.specs.Plan.{next_after, within, stretches_for, zone_named_by, zoned_chain}
use Rattle.qz_times.specs.Known.{Known}
use Rattle.qz_times.specs.Said.{Fires, KeepsHorizon}

last_of : (a b c d : Bool) → IsTrue (a && b && c && d) → IsTrue d
last_of true true true d h = h
last_of true true false d h = absurd (cc)
last_of true false c d h = absurd (cc)
last_of false b c d h = absurd (cc)

timing_of : (spec : TriggerSpec) → IsTrue (is_trigger_spec spec) → IsTrue (is_timing spec.timing)
timing_of spec h = last_of (is_key spec.key) (is_key spec.job) (is_calendar spec.calendar) (is_timing spec.timing) h

-- No fire time comes after LAST, so tables that reach LAST cut none off.

kept_within : (P : ℤ → Type 0) (t : ℤ) (r : Option ℤ) → IsNext LAST P t r → IsNext LAST P t (within LAST r)
kept_within P t None next = next
kept_within P t (Some s) next =
    let up_to : int_le s LAST ≡ true = grind (arith, ints, next.within) in
    subst (λ (b : Bool). IsNext LAST P t (if b then Some s else None)) (sym up_to) next

-- what the store has as the next time is the least later fire time
pub next_is : (T : SchedulerTables) (spec : TriggerSpec) (t : ℤ) (r : Option ℤ) → T.horizon ≡ LAST → IsTrue (is_trigger_spec spec) → negsuc 0 ≤ℤ t → r ≡ next_after T spec t → IsNext LAST (Fires T spec) t r
unfolding next_after
next_is T spec t r reaches valid low e =
    let stretches = stretches_for T.zones (zone_named_by spec.timing.kind) in
    let chain = zoned_chain T spec.calendar in
    let time : Option ℤ = fire_time_after spec.timing stretches chain t in
    let next : IsNext LAST (Fires T spec) t time = fire_time-next spec.timing stretches chain (timing_of spec valid) t low in
    subst (IsNext LAST (Fires T spec) t) (sym (e ∙ ap (λ (h : ℤ). within h time) reaches)) (kept_within (Fires T spec) t time next)

-- Zones and calendars that are stored leave the horizon.

unless_keeps : (T : Known) (x : Option Refusal) (U T' : Known) (d r : Reply) → U.horizon ≡ T.horizon → unless x (accepted U d) ≡ accepted T' r → T'.horizon ≡ T.horizon
unless_keeps T None U T' d r same is = let one : U ≡ T' = cc in subst (λ (V : Known). V.horizon ≡ T.horizon) one same
unless_keeps T (Some x) U T' d r same is = absurd cc

pub zone_keeps : (z : ZoneData) → KeepsHorizon (command.AddZone z)
zone_keeps z T T' r is = unless_keeps T (add_zone_refusal T z) _ T' _ r refl is

pub calendar_keeps : (c : CalendarData) (replace : Bool) → KeepsHorizon (command.AddCalendar c replace)
calendar_keeps c replace T T' r is = unless_keeps T (add_calendar_refusal T c replace) _ T' _ r refl is
