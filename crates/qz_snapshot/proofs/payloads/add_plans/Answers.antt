use Rattle.std.proofs.Common.{map, ap, subst, ◌∙◌}
use Rattle.std.specs.List.{AllByRecursion}
use Rattle.std.proofs.lemmas.Result.{on_ok_weaker}
use Rattle.qz_codec.specs.Calendars.{calendar_row, IsCalendarRow}
use Rattle.qz_codec.specs.Layout.{job}
use Rattle.qz_codec.specs.Rows.{trigger, IsTrigger}
use Rattle.qz_codec.specs.Values.{IsJob}
use Rattle.qz_codec.specs.Zones.{zone_row, IsZoneRow}
use Rattle.qz_pieces.specs.declared.kinds.RowKind.TheVariants.{Job, Trigger, Calendar, Zone}
use Rattle.qz_values.specs.declared.versions.Version.TheVariants.{Two}
use Rattle.qz_snapshot.proofs.Written.{short_of, four_short}
use Rattle.qz_snapshot.proofs.payloads.add_plans.Goals as goal

pub returns-clause-short : goal.returns-clause-short
returns-clause-short c = on_ok_weaker c.add_rows-4.result
    (λ last. four_short _ _ _ _
    (short_of Job (λ version. job) _ _ (ap (λ l. map (λ r. r.now) l) c.deref.ensures.value ∙ c.in_ok-sorted_jobs.ensures) c.in_ok-add_rows.ensures.short)
    (short_of Trigger trigger _ _ (ap (λ l. map (λ r. r.now) l) c.deref-2.ensures.value ∙ c.in_ok-sorted_triggers.ensures) c.in_ok-add_rows-2.ensures.short)
    (short_of Calendar (λ version. calendar_row) _ _ (ap (λ l. map (λ r. r.now) l) c.deref-3.ensures.value ∙ c.in_ok-sorted_calendars.ensures) c.in_ok-add_rows-3.ensures.short)
    (short_of Zone (λ version. zone_row) _ _ (ap (λ l. map (λ r. r.now) l) c.deref-4.ensures.value ∙ c.in_ok-sorted_zones.ensures) last))
    c.add_rows-4.ensures.short

pub returns-clause-recorded : goal.returns-clause-recorded
returns-clause-recorded c = on_ok_weaker c.add_rows-4.result
    (λ last. record {
      jobs = subst (AllByRecursion IsJob) (ap (λ l. map (λ r. r.now) l) c.deref.ensures.value ∙ c.in_ok-sorted_jobs.ensures) c.in_ok-add_rows.ensures.recorded;
      triggers = subst (AllByRecursion (IsTrigger Two)) (ap (λ l. map (λ r. r.now) l) c.deref-2.ensures.value ∙ c.in_ok-sorted_triggers.ensures) c.in_ok-add_rows-2.ensures.recorded;
      calendars = subst (AllByRecursion (IsCalendarRow Two)) (ap (λ l. map (λ r. r.now) l) c.deref-3.ensures.value ∙ c.in_ok-sorted_calendars.ensures) c.in_ok-add_rows-3.ensures.recorded;
      zones = subst (AllByRecursion (IsZoneRow Two)) (ap (λ l. map (λ r. r.now) l) c.deref-4.ensures.value ∙ c.in_ok-sorted_zones.ensures) last;
    })
    c.add_rows-4.ensures.recorded
