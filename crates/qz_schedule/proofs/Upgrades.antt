-- Tables that are upgraded.
use Rattle.std.proofs.Common.{◌≡◌, ℤ, List, [], ◌∷◌, map, None, refl, sym, ap, ◌∙◌, subst}
use Rattle.qz_civil.specs.declared.calendars.CalendarKind.{CalendarKind}
use Rattle.qz_civil.specs.declared.calendars.CalendarKind.TheVariants as calendar
use Rattle.qz_civil.specs.declared.fields.CronFields.{CronFields}
use Rattle.qz_civil.specs.declared.limits.TheConstants.{LAST}
use Rattle.qz_civil.specs.declared.timings.Kind.{Kind}
use Rattle.qz_civil.specs.declared.timings.Kind.TheVariants.{Simple, Cron, Interval, Daily}
use Rattle.qz_types.specs.Rows.{TriggerData, CalendarData}
use Rattle.qz_types.specs.declared.replies.Reply.TheVariants.{Done}
use Rattle.qz_types.specs.Outcomes.{accepted, unless}
use Rattle.qz_types.specs.Tables.{SchedulerTables}
use Rattle.qz_tables.specs.Years.{with_years, kind_with_years, calendar_kind_with_years, trigger_with_years, calendar_with_years}
use Rattle.qz_tables.specs.declared.edits.YearChange.{YearChange}
use Rattle.qz_model.specs.Upgrading.{all_years_to_2099, all_years_to_2199, widened, widened_kind, widened_calendar_kind, widened_trigger, widened_calendar, upgrade_refusal, upgrade}

same_map : {A B : Type 0} (f g : A → B) → ((x : A) → f x ≡ g x) → (xs : List A) → map f xs ≡ map g xs
same_map f g same [] = refl
same_map f g same (x ∷ xs) = ap (λ y. y ∷ map f xs) (same x) ∙ ap (λ ys. g x ∷ ys) (same_map f g same xs)

module _ (change : YearChange) (old : change.old ≡ all_years_to_2099) (new : change.new ≡ all_years_to_2199) where
  fields_widened : (f : CronFields) → with_years change f ≡ widened f
  unfolding with_years widened
  fields_widened f = rw (old, new) refl

  kind_widened : (kind : Kind) → kind_with_years change kind ≡ widened_kind kind
  kind_widened (Simple interval count) = refl
  kind_widened (Cron fields zone) = ap (λ f. Cron f zone) (fields_widened fields)
  kind_widened (Interval unit every zone preserve skip) = refl
  kind_widened (Daily unit every from to days zone) = refl

  calendar_kind_widened : (kind : CalendarKind) → calendar_kind_with_years change kind ≡ widened_calendar_kind kind
  calendar_kind_widened (calendar.Annual days) = refl
  calendar_kind_widened (calendar.Holiday dates) = refl
  calendar_kind_widened (calendar.Weekly days) = refl
  calendar_kind_widened (calendar.Monthly days) = refl
  calendar_kind_widened (calendar.Daily from to inverted) = refl
  calendar_kind_widened (calendar.Cron fields) = ap (λ f. calendar.Cron f) (fields_widened fields)

  trigger_widened : (t : TriggerData) → trigger_with_years change t ≡ widened_trigger t
  trigger_widened t = ap (λ (k : Kind). record t { spec = record t.spec { timing = record t.spec.timing { kind = k } } }) (kind_widened t.spec.timing.kind)

  calendar_widened : (c : CalendarData) → calendar_with_years change c ≡ widened_calendar c
  calendar_widened c = ap (λ (k : CalendarKind). record c { kind = k }) (calendar_kind_widened c.kind)

  pub upgrade_done : (T U V W : SchedulerTables) (m : ℤ) → upgrade_refusal T ≡ None
      → U ≡ record T { triggers = map (trigger_with_years change) T.triggers; calendars = map (calendar_with_years change) T.calendars }
      → V ≡ record U { horizon = LAST } → W ≡ record V { last_moment = m } → upgrade T m ≡ accepted W Done
  upgrade_done T U V W m clear years horizon moment =
      let left : SchedulerTables = record T { triggers = map widened_trigger T.triggers; calendars = map widened_calendar T.calendars; horizon = LAST; last_moment = m } in
      let tables : W ≡ left = moment ∙ ap (λ (v : SchedulerTables). record v { last_moment = m })
      (horizon ∙ ap (λ (u : SchedulerTables). record u { horizon = LAST })
      (years ∙ ap (λ (ts : List TriggerData). record T { triggers = ts; calendars = map (calendar_with_years change) T.calendars }) (same_map (trigger_with_years change) widened_trigger trigger_widened T.triggers)
      ∙ ap (λ (cs : List CalendarData). record T { triggers = map widened_trigger T.triggers; calendars = cs }) (same_map (calendar_with_years change) widened_calendar calendar_widened T.calendars))) in
      subst (λ x. unless x (accepted left Done) ≡ accepted W Done) (sym clear) (ap (λ (u : SchedulerTables). accepted u Done) (sym tables))
