-- The commands of clients on calendars and zones keep all next times, and the plan of each trigger of whose chain they replace
-- no calendar.
use Rattle.std.proofs.Common.{◌≡◌, ℕ, ℤ, pos, Bool, true, false, not, ◌||◌, List, [], ◌∷◌, map, Option, Some, None, IfSome, IsTrue, is_some, is_none, refl, sym, ap, ◌∙◌, subst, arith, if◌then◌else◌}
use Rattle.std.specs.List.{AllByRecursion}
use Rattle.std.proofs.lemmas.Bool.{or_parts}
use Rattle.std.proofs.lemmas.Cmp.{nat_list_cmp_total}
use Rattle.qz_types.specs.Rows.{CalendarData, ZoneData}
use Rattle.qz_types.specs.declared.keys.Key.{Key}
use Rattle.qz_types.specs.declared.limits.TheConstants.{CHAIN_LIMIT}
use Rattle.qz_types.specs.declared.triggers.TriggerSpec.{TriggerSpec}
use Rattle.qz_types.specs.declared.commands.Command.{Command}
use Rattle.qz_types.specs.declared.commands.Command.TheVariants.{AddCalendar, DeleteCalendar, AddZone, DeleteZone}
use Rattle.qz_types.specs.declared.replies.Reply.{Reply}
use Rattle.qz_types.specs.declared.replies.Refusal.TheVariants.{UnknownCalendar, UnknownZone, ZoneExists}
use Rattle.qz_types.specs.Tables.{SchedulerTables}
use Rattle.qz_types.specs.Outcomes.{accepted}
use Rattle.qz_types.specs.Words.{text_cmp, same_text, trigger_of, calendar_of, without_calendar, zone_of, put_zone, without_zone}
use Rattle.qz_types.specs.Chains.{calendar_named, chain_of}
use Rattle.qz_calendar.specs.Chains.{ZonedCalendar}
use Rattle.qz_civil.specs.Zones.{fixed_offset}
use Rattle.qz_civil.specs.declared.stretches.Stretch.{Stretch}
use Rattle.qz_plan.specs.Plan.{fire_time_after}
use Rattle.qz_model.specs.Calendars.{with_new_calendar, add_calendar_refusal, add_calendar, is_named, calendar_uses, delete_calendar_refusal, delete_calendar, add_zone_refusal, add_zone, zone_uses, delete_zone_refusal, delete_zone}
use Rattle.qz_model.specs.Invariant.{TablesValid}
use Rattle.qz_model.specs.Plan.{zone_named_by, is_utc, is_known_zone, stretches_of_row, stretches_named, stretches_for, zoned, zoned_chain, within, next_after}
use Rattle.qz_model.proofs.Changes.{HasCalendar, HasZone, passes}
use Rattle.qz_model.proofs.KeptZones.{no_uses}
use Rattle.qz_model.proofs.LookUps.{row_of-put_new, row_of-filter}
use Rattle.qz_model.proofs.NamedRows.{other_text, calendar_of-without_calendar}
use Rattle.qz_model.proofs.Refusals.{not_refused}
use Rattle.qz_model.proofs.RowLaws.{All-trigger_of}
use Rattle.qz_model.proofs.RowPoints.{All-from, All-weaker, none_from_count}
use Rattle.qz_schedule_law.specs.Turns.{onto_times}
use Rattle.qz_schedule_law.proofs.Chains.{named_has, chain_has, chain_same, chain_left}
use Rattle.qz_schedule_law.proofs.Stays.{IsAsBefore, HasTurned, KeepsPlan, TurnFacts, stays_turned, accepted_facts, as_before}

-- where the triggers stay
plan_facts : (T U : SchedulerTables) (key : Key) (c : Command) (r : Reply) → TablesValid T → onto_times key r [] ≡ [] → U.triggers ≡ T.triggers → KeepsPlan T key c U → TurnFacts T key c r U
plan_facts T U key c r valid none triggers plan = record {
  triggers = All-weaker (IsAsBefore T key) (HasTurned T key r) U.triggers (λ u was. stays_turned T key r u none was) (subst (AllByRecursion (IsAsBefore T key)) (sym triggers) (as_before T key valid));
  plan = plan;
  new = λ absent u found. let stored : trigger_of key T.triggers ≡ Some u = ap (trigger_of key) (sym triggers) ∙ found in absurd (cc);
}

-- Calendars.

-- the same chain, and so the same plan
by_chain : (T : SchedulerTables) (calendars : List CalendarData) (m a : ℤ) (s : TriggerSpec) → chain_of calendars CHAIN_LIMIT (calendar_named calendars s.calendar) ≡ chain_of T.calendars CHAIN_LIMIT (calendar_named T.calendars s.calendar)
    → next_after (record T { calendars = calendars; last_moment = m }) s a ≡ next_after T s a
unfolding next_after zoned_chain
by_chain T calendars m a s same = ap (λ (cs : List CalendarData). within T.horizon (fire_time_after s.timing (stretches_for T.zones (zone_named_by s.timing.kind)) (map (zoned T.zones) cs) a)) same

pub facts-add_calendar : (T T' : SchedulerTables) (key : Key) (m : ℤ) (d : CalendarData) (replace : Bool) (r : Reply) → TablesValid T → add_calendar T m d replace ≡ accepted T' r → TurnFacts T key (AddCalendar d replace) r T'
facts-add_calendar T T' key m d replace r valid e =
    accepted_facts T _ T' key (AddCalendar d replace) _ r (passes (add_calendar_refusal T d replace) _ T' r e).outcome
    (plan_facts T _ key (AddCalendar d replace) _ valid refl refl
    (λ t found alone a. by_chain T (with_new_calendar d T.calendars) m a t.spec
    (chain_left d T.calendars valid.references_and_limits.stored.bases CHAIN_LIMIT t.spec.calendar
    (All-trigger_of (HasCalendar T.calendars) key t T.triggers valid.references_and_limits.stored.trigger_calendars found) alone)))

named_left : (name : List ℕ) (calendars : List CalendarData) (o : Option (List ℕ)) → is_named name o ≡ false → calendar_named (without_calendar name calendars) o ≡ calendar_named calendars o
named_left name calendars None unnamed = refl
named_left name calendars (Some other) unnamed = calendar_of-without_calendar name other calendars unnamed

-- a chain that doesn't name the calendar that goes
chain_unused : (T : SchedulerTables) (name : List ℕ) (o : Option (List ℕ)) → AllByRecursion (λ c. is_named name c.base ≡ false) T.calendars → is_named name o ≡ false
    → chain_of (without_calendar name T.calendars) CHAIN_LIMIT (calendar_named (without_calendar name T.calendars) o) ≡ chain_of T.calendars CHAIN_LIMIT (calendar_named T.calendars o)
chain_unused T name o bases unnamed =
    let all : AllByRecursion (λ c. calendar_named (without_calendar name T.calendars) c.base ≡ calendar_named T.calendars c.base) T.calendars =
    All-weaker (λ c. is_named name c.base ≡ false) (λ c. calendar_named (without_calendar name T.calendars) c.base ≡ calendar_named T.calendars c.base) T.calendars (λ c other. named_left name T.calendars c.base other) bases in
    ap (chain_of (without_calendar name T.calendars) CHAIN_LIMIT) (named_left name T.calendars o unnamed)
    ∙ chain_same T.calendars (without_calendar name T.calendars) all CHAIN_LIMIT (calendar_named T.calendars o) (named_has (λ c. calendar_named (without_calendar name T.calendars) c.base ≡ calendar_named T.calendars c.base) T.calendars o all)

keeps-delete_calendar : (T : SchedulerTables) (key : Key) (m : ℤ) (name : List ℕ) → calendar_uses T name ≡ 0 → KeepsPlan T key (DeleteCalendar name) (record T { calendars = without_calendar name T.calendars; last_moment = m })
unfolding calendar_uses
keeps-delete_calendar T key m name unused t found alone a =
    let by_triggers = none_from_count (λ t. is_named name t.spec.calendar) T.triggers (omega arith) in
    let by_calendars = none_from_count (λ c. is_named name c.base) T.calendars (omega arith) in
    by_chain T (without_calendar name T.calendars) m a t.spec (chain_unused T name t.spec.calendar by_calendars (All-trigger_of (λ u. is_named name u.spec.calendar ≡ false) key t T.triggers by_triggers found))

no_calendar_uses : (T : SchedulerTables) (name : List ℕ) → delete_calendar_refusal T name ≡ None → calendar_uses T name ≡ 0
unfolding delete_calendar_refusal
no_calendar_uses T name clear = no_uses (calendar_uses T name) (not_refused (is_none (calendar_of name T.calendars)) UnknownCalendar _ clear).1

pub facts-delete_calendar : (T T' : SchedulerTables) (key : Key) (m : ℤ) (name : List ℕ) (r : Reply) → TablesValid T → delete_calendar T m name ≡ accepted T' r → TurnFacts T key (DeleteCalendar name) r T'
facts-delete_calendar T T' key m name r valid e =
    let way = passes (delete_calendar_refusal T name) _ T' r e in
    accepted_facts T _ T' key (DeleteCalendar name) _ r way.outcome
    (plan_facts T _ key (DeleteCalendar name) _ valid refl refl (keeps-delete_calendar T key m name (no_calendar_uses T name way.clear)))

-- Zones.

-- the zone of this name reads the same clock
abbrev SameClock : List ZoneData → List ZoneData → List ℕ → Type 0
SameClock old new name = stretches_named new name ≡ stretches_named old name

map_same : {R S : Type 0} (f g : R → S) (xs : List R) → AllByRecursion (λ x. f x ≡ g x) xs → map f xs ≡ map g xs
map_same f g [] same = refl
map_same f g (x ∷ xs) same = rw (same.0, map_same f g xs same.1) refl

for_same : (old new : List ZoneData) (o : Option (List ℕ)) → IfSome o (SameClock old new) → stretches_for new o ≡ stretches_for old o
for_same old new None same = refl
for_same old new (Some name) same = same

by_zones : (T : SchedulerTables) (zones : List ZoneData) (m a : ℤ) (s : TriggerSpec) → IfSome (zone_named_by s.timing.kind) (SameClock T.zones zones) → AllByRecursion (λ c. SameClock T.zones zones c.zone) T.calendars
    → next_after (record T { zones = zones; last_moment = m }) s a ≡ next_after T s a
unfolding next_after zoned_chain
by_zones T zones m a s own all =
    let chain = chain_of T.calendars CHAIN_LIMIT (calendar_named T.calendars s.calendar) in
    let in_chain : AllByRecursion (λ c. SameClock T.zones zones c.zone) chain = chain_has (λ c. SameClock T.zones zones c.zone) T.calendars all CHAIN_LIMIT (calendar_named T.calendars s.calendar) (named_has (λ c. SameClock T.zones zones c.zone) T.calendars s.calendar all) in
    let calendars : map (zoned zones) chain ≡ map (zoned T.zones) chain =
    map_same (zoned zones) (zoned T.zones) chain
    (All-weaker (λ c. SameClock T.zones zones c.zone) (λ c. zoned zones c ≡ zoned T.zones c) chain (λ c same. ap (λ (z : List Stretch). record { kind = c.kind; zone = z }) same) in_chain) in
    ap (λ (z : List Stretch). within T.horizon (fire_time_after s.timing z (map (zoned zones) chain) a)) (for_same T.zones zones (zone_named_by s.timing.kind) own)
    ∙ ap (λ (cs : List ZonedCalendar). within T.horizon (fire_time_after s.timing (stretches_for T.zones (zone_named_by s.timing.kind)) cs a)) calendars

if_both : (P Q R : List ℕ → Type 0) (o : Option (List ℕ)) → ((name : List ℕ) → P name → Q name → R name) → IfSome o P → IfSome o Q → IfSome o R
if_both P Q R None all p q = tt
if_both P Q R (Some name) all p q = all name p q

found_same : {R : Type 0} (o p : Option R) → ((r : R) → o ≡ Some r → p ≡ Some r) → is_some o ≡ true → p ≡ o
found_same None p keeps is = absurd (cc)
found_same (Some r) p keeps is = keeps r refl

zone_of-put_zone : (name : List ℕ) (z : ZoneData) (zones : List ZoneData) → zone_of z.name zones ≡ None → is_some (zone_of name zones) ≡ true → zone_of name (put_zone z zones) ≡ zone_of name zones
unfolding zone_of put_zone
zone_of-put_zone name z zones absent is = found_same _ _ (λ r found. row_of-put_new text_cmp (λ x. x.name) nat_list_cmp_total name z r zones absent found) is

-- a zone that is known is as before where one is added
same-put_zone : (name : List ℕ) (z : ZoneData) (zones : List ZoneData) → zone_of z.name zones ≡ None → is_known_zone zones name ≡ true → SameClock zones (put_zone z zones) name
unfolding stretches_named is_known_zone
same-put_zone name z zones absent is = elim (is_utc name) as (λ b. (b || is_some (zone_of name zones)) ≡ true
    → (if b then fixed_offset (pos 0) else stretches_of_row (zone_of name (put_zone z zones))) ≡ (if b then fixed_offset (pos 0) else stretches_of_row (zone_of name zones))) [
      | true ↦ λ e. refl
      | false ↦ λ e. ap stretches_of_row (zone_of-put_zone name z zones absent e)
    ] is

no_row : (o : Option ZoneData) → is_some o ≡ false → o ≡ None
no_row None none = refl
no_row (Some z) none = absurd (cc)

new_zone : (T : SchedulerTables) (z : ZoneData) → add_zone_refusal T z ≡ None → zone_of z.name T.zones ≡ None
unfolding add_zone_refusal is_known_zone
new_zone T z clear =
    let unknown = (not_refused (is_utc z.name || is_some (zone_of z.name T.zones)) ZoneExists _ clear).0 in
    no_row (zone_of z.name T.zones) (or_parts (is_utc z.name) (is_some (zone_of z.name T.zones)) unknown).1

known_same : (old new : List ZoneData) (o : Option (List ℕ)) → ((name : List ℕ) → is_known_zone old name ≡ true → SameClock old new name) → IfSome o (λ name. IsTrue (is_known_zone old name)) → IfSome o (SameClock old new)
known_same old new None same known = tt
known_same old new (Some name) same known = same name known

keeps-add_zone : (T : SchedulerTables) (key : Key) (m : ℤ) (z : ZoneData) → TablesValid T → zone_of z.name T.zones ≡ None → KeepsPlan T key (AddZone z) (record T { zones = put_zone z T.zones; last_moment = m })
keeps-add_zone T key m z valid absent t found alone a =
    by_zones T (put_zone z T.zones) m a t.spec
    (known_same T.zones (put_zone z T.zones) (zone_named_by t.spec.timing.kind) (λ name known. same-put_zone name z T.zones absent known)
    (All-trigger_of (HasZone T.zones) key t T.triggers valid.references_and_limits.stored.trigger_zones found))
    (All-weaker (λ c. IsTrue (is_known_zone T.zones c.zone)) (λ c. SameClock T.zones (put_zone z T.zones) c.zone) T.calendars (λ c known. same-put_zone c.zone z T.zones absent known)
    valid.references_and_limits.stored.calendar_zones)

pub facts-add_zone : (T T' : SchedulerTables) (key : Key) (m : ℤ) (z : ZoneData) (r : Reply) → TablesValid T → add_zone T m z ≡ accepted T' r → TurnFacts T key (AddZone z) r T'
facts-add_zone T T' key m z r valid e =
    let way = passes (add_zone_refusal T z) _ T' r e in
    accepted_facts T _ T' key (AddZone z) _ r way.outcome
    (plan_facts T _ key (AddZone z) _ valid refl refl (keeps-add_zone T key m z valid (new_zone T z way.clear)))

zone_of-without_zone : (gone name : List ℕ) (zones : List ZoneData) → same_text gone name ≡ false → zone_of name (without_zone gone zones) ≡ zone_of name zones
unfolding zone_of without_zone same_text
zone_of-without_zone gone name zones differ =
    row_of-filter text_cmp (λ r. r.name) name (λ r. not (same_text gone r.name)) zones
    (All-from (λ r. same_text name r.name ≡ true → not (same_text gone r.name) ≡ true) zones (λ r same. ap not (other_text gone name r.name differ same)))

-- another zone is as before where one goes
same-without_zone : (gone name : List ℕ) (zones : List ZoneData) → same_text gone name ≡ false → SameClock zones (without_zone gone zones) name
unfolding stretches_named
same-without_zone gone name zones differ = ap (λ (o : Option ZoneData). if is_utc name then fixed_offset (pos 0) else stretches_of_row o) (zone_of-without_zone gone name zones differ)

unnamed_same : (gone : List ℕ) (zones : List ZoneData) (o : Option (List ℕ)) → is_named gone o ≡ false → IfSome o (SameClock zones (without_zone gone zones))
unnamed_same gone zones None unnamed = tt
unnamed_same gone zones (Some name) unnamed = same-without_zone gone name zones unnamed

keeps-delete_zone : (T : SchedulerTables) (key : Key) (m : ℤ) (name : List ℕ) → zone_uses T name ≡ 0 → KeepsPlan T key (DeleteZone name) (record T { zones = without_zone name T.zones; last_moment = m })
unfolding zone_uses
keeps-delete_zone T key m name unused t found alone a =
    let by_triggers = none_from_count (λ t. is_named name (zone_named_by t.spec.timing.kind)) T.triggers (omega arith) in
    let by_calendars = none_from_count (λ c. same_text name c.zone) T.calendars (omega arith) in
    by_zones T (without_zone name T.zones) m a t.spec
    (unnamed_same name T.zones (zone_named_by t.spec.timing.kind) (All-trigger_of (λ u. is_named name (zone_named_by u.spec.timing.kind) ≡ false) key t T.triggers by_triggers found))
    (All-weaker (λ c. same_text name c.zone ≡ false) (λ c. SameClock T.zones (without_zone name T.zones) c.zone) T.calendars (λ c differ. same-without_zone name c.zone T.zones differ) by_calendars)

no_zone_uses : (T : SchedulerTables) (name : List ℕ) → delete_zone_refusal T name ≡ None → zone_uses T name ≡ 0
unfolding delete_zone_refusal
no_zone_uses T name clear = no_uses (zone_uses T name) (not_refused (is_none (zone_of name T.zones)) UnknownZone _ clear).1

pub facts-delete_zone : (T T' : SchedulerTables) (key : Key) (m : ℤ) (name : List ℕ) (r : Reply) → TablesValid T → delete_zone T m name ≡ accepted T' r → TurnFacts T key (DeleteZone name) r T'
facts-delete_zone T T' key m name r valid e =
    let way = passes (delete_zone_refusal T name) _ T' r e in
    accepted_facts T _ T' key (DeleteZone name) _ r way.outcome
    (plan_facts T _ key (DeleteZone name) _ valid refl refl (keeps-delete_zone T key m name (no_zone_uses T name way.clear)))
