-- The line that each row is printed as. All but the threshold's begin with the kind of the row, and all end with a line feed.
use Rattle.std.specs.Prelude.{ℕ, ℤ, List, [], ◌∷◌, ◌++◌, length, codes}
use Rattle.std.specs.Fmt.{decimal, signed_decimal}
use Rattle.qz_civil.specs.declared.calendars.CalendarKind.{CalendarKind}
use Rattle.qz_civil.specs.declared.calendars.CalendarKind.TheVariants as calendar
use Rattle.qz_types.specs.Rows.{JobData, TriggerData, CalendarData, ZoneData, MemberData, FiredData, StateData}
use Rattle.qz_report.specs.Names.{escaped}
use Rattle.qz_report.specs.Optional.{optional_name_text}
use Rattle.qz_report.specs.Rows.{job_text, trigger_text, fired_row_text}

-- how far back a next time may be before it is misfired
abbrev pub threshold_line : ℤ → List ℕ
threshold_line ms = codes "threshold " ++ signed_decimal ms ++ 10 ∷ []

-- a zone, with the number of its stretches
abbrev pub zone_line : ZoneData → List ℕ
zone_line z = codes "zone " ++ escaped z.name ++ 32 ∷ decimal (length z.stretches) ++ 10 ∷ []

-- the word under which lines name the kind of a calendar
abbrev pub calendar_word : CalendarKind → List ℕ
calendar_word (calendar.Annual days) = codes "annual"
calendar_word (calendar.Holiday dates) = codes "holiday"
calendar_word (calendar.Weekly days) = codes "weekly"
calendar_word (calendar.Monthly days) = codes "monthly"
calendar_word (calendar.Daily from to inverted) = codes "daily"
calendar_word (calendar.Cron fields) = codes "cron"

abbrev pub calendar_line : CalendarData → List ℕ
calendar_line c =
    codes "calendar " ++ escaped c.name ++ 32 ∷ calendar_word c.kind ++ codes " base " ++ optional_name_text c.base ++ 10 ∷ []

abbrev pub job_line : JobData → List ℕ
job_line j = job_text j ++ 10 ∷ []

abbrev pub trigger_line : TriggerData → List ℕ
trigger_line t = trigger_text t ++ 10 ∷ []

abbrev pub group_line : List ℕ → List ℕ
group_line group = codes "paused " ++ escaped group ++ 10 ∷ []

unfoldable pub job_group_line : List ℕ → List ℕ
job_group_line group = codes "paused_jobs " ++ escaped group ++ 10 ∷ []

abbrev pub member_line : MemberData → List ℕ
member_line m = codes "member " ++ escaped m.node ++ 32 ∷ decimal m.epoch ++ 10 ∷ []

abbrev pub fired_line : FiredData → List ℕ
fired_line f = codes "fired " ++ fired_row_text f ++ 10 ∷ []

abbrev pub state_line : StateData → List ℕ
state_line s =
    codes "state " ++ escaped s.node ++ codes " last " ++ signed_decimal s.last ++ codes " interval " ++ signed_decimal s.interval
    ++ 10 ∷ []
