-- Storing a calendar, and deleting one that nothing names, keep the tables valid.
use Rattle.std.proofs.Common.{◌≡◌, ℕ, zero, suc, ◌+◌, ◌≤◌, ℤ, Bool, true, false, not, ◌&&◌, cond, List, length, nat_le, Option, Some, None, IsSome, IfSome, IsTrue, is_some, is_none, refl, sym, ap, ◌∙◌, subst, arith, if◌then◌else◌}
use Rattle.std.specs.List.{AllByRecursion, list_any}
use Rattle.std.proofs.lemmas.Bool.{or_parts, not-false, leb-false}
use Rattle.qz_types.specs.Rows.{CalendarData}
use Rattle.qz_types.specs.Sorted.{IsAscending}
use Rattle.qz_types.specs.declared.limits.TheConstants.{CALENDAR_LIMIT, CHAIN_LIMIT}
use Rattle.qz_types.specs.declared.replies.Reply.{Reply}
use Rattle.qz_types.specs.declared.replies.Refusal.TheVariants.{UnknownCalendar, UnknownZone, CalendarExists, TooMany}
use Rattle.qz_types.specs.Chains.{calendar_named, chain_of, ends_within}
use Rattle.qz_types.specs.Tables.{SchedulerTables, IsMoment}
use Rattle.qz_types.specs.Outcomes.{accepted}
use Rattle.qz_types.specs.Words.{text_cmp, same_text, calendar_of, without_calendar}
use Rattle.qz_model.specs.Calendars.{place_in, circle_refusal, with_new_calendar, is_too_long, makes_too_long, add_calendar_refusal, add_calendar, is_named, calendar_uses, delete_calendar_refusal, delete_calendar}
use Rattle.qz_model.specs.Invariant.{AreStored, TablesValid}
use Rattle.qz_model.specs.Plan.{is_known_zone, is_known_calendar}
use Rattle.qz_model.proofs.Changes.{HasCalendar, passes, HasNumber, HasNumber-kept, valid-moment}
use Rattle.qz_model.proofs.KeptZones.{no_uses}
use Rattle.qz_model.proofs.NamedRows.{ordered-without_calendar, length-without_calendar, All-without_calendar, All-calendar_of, calendar_of-alike, calendar_of-without_calendar, ordered-with_new_calendar, length-with_new_calendar, All-put_calendar, All-with_new_calendar, calendar_of_with_new}
use Rattle.qz_model.proofs.References.{references-calendars}
use Rattle.qz_model.proofs.Refusals.{not_refused, no_first}
use Rattle.qz_model.proofs.RowPoints.{All-weaker, All-both, All-none, none_from_count}

-- other calendars, which have each that is named, in chains that are short and no circles
pub valid-calendars : (T : SchedulerTables) (calendars : List CalendarData) → TablesValid T → IsAscending text_cmp (λ r. r.name) calendars → AreStored T.jobs T.triggers calendars T.zones
    → length calendars ≤ CALENDAR_LIMIT → TablesValid (record T { calendars = calendars })
valid-calendars T calendars valid ordered stored short = record {
  references_and_limits = references-calendars T valid.references_and_limits calendars ordered stored short;
  acquired_match = valid.acquired_match;
  concurrency_agrees = valid.concurrency_agrees;
  one_exclusive = valid.one_exclusive;
  blocked_are_busy = valid.blocked_are_busy;
  rows_of_members = valid.rows_of_members;
  next_times = valid.next_times;
  fresh = record {
    fired = valid.fresh.fired;
    added = All-weaker (HasNumber T) (HasNumber (record T { calendars = calendars })) T.triggers
        (λ t has. HasNumber-kept T (record T { calendars = calendars }) t (omega arith) (λ n below none. none) (λ n all. all) has) valid.fresh.added;
  };
  row_times = valid.row_times;
}

-- Chains.

-- a chain is as long as before where each calendar of it is followed by the same one
ends-same : (old new : List CalendarData) (P : CalendarData → Type 0) → ((c : CalendarData) → P c → calendar_named new c.base ≡ calendar_named old c.base)
    → ((c : CalendarData) → P c → IfSome (calendar_named old c.base) P) → (n : ℕ) (o : Option CalendarData) → IfSome o P → ends_within new n o ≡ ends_within old n o
unfolding ends_within
ends-same old new P same next zero None is = refl
ends-same old new P same next zero (Some c) is = refl
ends-same old new P same next (suc n) None is = refl
ends-same old new P same next (suc n) (Some c) is = ap (ends_within new n) (same c is) ∙ ends-same old new P same next n (calendar_named old c.base) (next c is)

found_has : (P : CalendarData → Type 0) (name : List ℕ) (calendars : List CalendarData) (o : Option CalendarData) → AllByRecursion P calendars → calendar_of name calendars ≡ o → IfSome o P
found_has P name calendars None all found = tt
found_has P name calendars (Some c) all found = All-calendar_of P name c calendars all found

-- what holds of all calendars holds of the one that is named
named_has : (P : CalendarData → Type 0) (calendars : List CalendarData) (base : Option (List ℕ)) → AllByRecursion P calendars → IfSome (calendar_named calendars base) P
named_has P calendars None all = tt
named_has P calendars (Some name) all = found_has P name calendars (calendar_of name calendars) all refl

-- Deleting.

same_named-without : (name : List ℕ) (calendars : List CalendarData) (base : Option (List ℕ)) → is_named name base ≡ false → calendar_named (without_calendar name calendars) base ≡ calendar_named calendars base
same_named-without name calendars None unnamed = refl
same_named-without name calendars (Some other) unnamed = calendar_of-without_calendar name other calendars unnamed

stays_stored : (name : List ℕ) (calendars : List CalendarData) (o : Option (List ℕ)) → is_named name o ≡ false → IfSome o (λ n. IsSome (calendar_of n calendars))
    → IfSome o (λ n. IsSome (calendar_of n (without_calendar name calendars)))
stays_stored name calendars None unnamed is = tt
stays_stored name calendars (Some other) unnamed is = ap is_some (calendar_of-without_calendar name other calendars unnamed) ∙ is

abbrev HasBase : List CalendarData → CalendarData → Type 0
HasBase calendars c = IfSome c.base (λ name. IsSome (calendar_of name calendars))

abbrev IsShort : List CalendarData → CalendarData → Type 0
IsShort calendars c = IsTrue (ends_within calendars CHAIN_LIMIT (Some c))

stored-without_calendar : (T : SchedulerTables) (name : List ℕ) → AreStored T.jobs T.triggers T.calendars T.zones → calendar_uses T name ≡ 0 → AreStored T.jobs T.triggers (without_calendar name T.calendars) T.zones
unfolding calendar_uses
stored-without_calendar T name was unused =
    let by_triggers = none_from_count (λ t. is_named name t.spec.calendar) T.triggers (omega arith) in
    let by_calendars = none_from_count (λ c. is_named name c.base) T.calendars (omega arith) in
    record {
      trigger_jobs = was.trigger_jobs;
      trigger_calendars = All-both (HasCalendar T.calendars) (λ t. is_named name t.spec.calendar ≡ false) (HasCalendar (without_calendar name T.calendars)) T.triggers
          (λ t has unnamed. stays_stored name T.calendars t.spec.calendar unnamed has) was.trigger_calendars by_triggers;
      trigger_zones = was.trigger_zones;
      bases = All-without_calendar (HasBase (without_calendar name T.calendars)) (HasBase (without_calendar name T.calendars)) name T.calendars
          (All-both (HasBase T.calendars) (λ c. is_named name c.base ≡ false) (HasBase (without_calendar name T.calendars)) T.calendars
          (λ c has unnamed. stays_stored name T.calendars c.base unnamed has) was.bases by_calendars)
          (λ c stays has. has);
      calendar_zones = All-without_calendar (λ c. IsTrue (is_known_zone T.zones c.zone)) (λ c. IsTrue (is_known_zone T.zones c.zone)) name T.calendars was.calendar_zones (λ c stays is. is);
      chains = All-without_calendar (IsShort (without_calendar name T.calendars)) (IsShort (without_calendar name T.calendars)) name T.calendars
          (All-both (IsShort T.calendars) (λ c. is_named name c.base ≡ false) (IsShort (without_calendar name T.calendars)) T.calendars
          (λ c short unnamed. ends-same T.calendars (without_calendar name T.calendars) (λ d. is_named name d.base ≡ false)
          (λ d other. same_named-without name T.calendars d.base other) (λ d other. named_has (λ x. is_named name x.base ≡ false) T.calendars d.base by_calendars) CHAIN_LIMIT (Some c) unnamed ∙ short)
          was.chains by_calendars)
          (λ c stays is. is);
    }

pub kept-delete_calendar : (T T' : SchedulerTables) (m : ℤ) (name : List ℕ) (r : Reply) → TablesValid T → IsMoment T.horizon m → delete_calendar T m name ≡ accepted T' r → TablesValid T'
unfolding delete_calendar_refusal
kept-delete_calendar T T' m name r valid is e =
    let way = passes (delete_calendar_refusal T name) _ T' r e in
    let first = not_refused (is_none (calendar_of name T.calendars)) UnknownCalendar _ way.clear in
    let same : accepted (record T { calendars = without_calendar name T.calendars; last_moment = m }) _ ≡ accepted T' r = way.outcome in
    let was = valid.references_and_limits in
    subst TablesValid (cc)
    (valid-calendars (record T { last_moment = m }) (without_calendar name T.calendars) (valid-moment T m valid is) (ordered-without_calendar name T.calendars was.ordered.calendars)
    (stored-without_calendar T name was.stored (no_uses (calendar_uses T name) first.1)) (omega (arith, length-without_calendar name T.calendars, was.limits.calendars)))

-- Storing.

either : (b : Bool) (c : CalendarData) (o : Option CalendarData) → IsSome o → IsSome (if b then Some c else o)
either true c o is = refl
either false c o is = is

-- what was stored is stored, and so is the new one
stored_then : (c : CalendarData) (calendars : List CalendarData) (name : List ℕ) → IsSome (calendar_of name calendars) → IsSome (calendar_of name (with_new_calendar c calendars))
stored_then c calendars name is = ap is_some (calendar_of_with_new name c calendars) ∙ either (same_text c.name name) c (calendar_of name calendars) is

named_then : (c : CalendarData) (calendars : List CalendarData) (o : Option (List ℕ)) → IfSome o (λ n. IsSome (calendar_of n calendars)) → IfSome o (λ n. IsSome (calendar_of n (with_new_calendar c calendars)))
named_then c calendars None is = tt
named_then c calendars (Some name) is = stored_then c calendars name is

known_base : (calendars : List CalendarData) (o : Option (List ℕ)) → is_known_calendar calendars o ≡ true → IfSome o (λ n. IsSome (calendar_of n calendars))
known_base calendars None is = tt
known_base calendars (Some name) is = is

-- a calendar of a new name is below no other
same_named-new : (c : CalendarData) (calendars : List CalendarData) (o : Option (List ℕ)) → is_some (calendar_of c.name calendars) ≡ false → IfSome o (λ n. IsSome (calendar_of n calendars))
    → calendar_named (with_new_calendar c calendars) o ≡ calendar_named calendars o
same_named-new c calendars None new has = refl
same_named-new c calendars (Some name) new has = calendar_of_with_new name c calendars ∙ elim (same_text c.name name) as (λ b. same_text c.name name ≡ b → (if b then Some c else calendar_of name calendars) ≡ calendar_of name calendars) [
  | true ↦ λ same. let wrong : is_some (calendar_of name calendars) ≡ false = ap is_some (sym (calendar_of-alike c.name name calendars same)) ∙ new in absurd (cc)
  | false ↦ λ differ. refl
] refl

-- all chains are short then
short_then : (c : CalendarData) (calendars : List CalendarData) → AllByRecursion (HasBase calendars) calendars → AllByRecursion (IsShort calendars) calendars → makes_too_long calendars c ≡ false
    → AllByRecursion (IsShort (with_new_calendar c calendars)) (with_new_calendar c calendars)
unfolding makes_too_long
short_then c calendars bases short fine =
    let parts = or_parts (is_too_long (with_new_calendar c calendars) c) _ fine in
    let own : IsShort (with_new_calendar c calendars) c = not-false (ends_within (with_new_calendar c calendars) CHAIN_LIMIT (Some c)) parts.0 in
    elim (is_some (calendar_of c.name calendars)) as (λ b. is_some (calendar_of c.name calendars) ≡ b → (b && list_any (is_too_long (with_new_calendar c calendars)) (without_calendar c.name calendars)) ≡ false
    → AllByRecursion (IsShort (with_new_calendar c calendars)) (with_new_calendar c calendars)) [
      | true ↦ λ is others. All-put_calendar (IsShort (with_new_calendar c calendars)) c calendars own
          (All-weaker (λ d. is_too_long (with_new_calendar c calendars) d ≡ false) (IsShort (with_new_calendar c calendars)) (without_calendar c.name calendars)
          (λ d unnamed. not-false (ends_within (with_new_calendar c calendars) CHAIN_LIMIT (Some d)) unnamed)
          (All-none (is_too_long (with_new_calendar c calendars)) (without_calendar c.name calendars) others))
      | false ↦ λ new others. All-with_new_calendar (IsShort (with_new_calendar c calendars)) (IsShort (with_new_calendar c calendars)) c calendars own
          (All-both (IsShort calendars) (HasBase calendars) (IsShort (with_new_calendar c calendars)) calendars
          (λ d was has. ends-same calendars (with_new_calendar c calendars) (HasBase calendars) (λ x named. same_named-new c calendars x.base new named)
          (λ x named. named_has (HasBase calendars) calendars x.base bases) CHAIN_LIMIT (Some d) has ∙ was)
          short bases)
          (λ d other is. is)
    ] refl parts.1

stored-with_new_calendar : (T : SchedulerTables) (c : CalendarData) → AreStored T.jobs T.triggers T.calendars T.zones → is_known_calendar T.calendars c.base ≡ true → is_known_zone T.zones c.zone ≡ true
    → makes_too_long T.calendars c ≡ false → AreStored T.jobs T.triggers (with_new_calendar c T.calendars) T.zones
stored-with_new_calendar T c was base zone fine = record {
  trigger_jobs = was.trigger_jobs;
  trigger_calendars = All-weaker (HasCalendar T.calendars) (HasCalendar (with_new_calendar c T.calendars)) T.triggers (λ t has. named_then c T.calendars t.spec.calendar has) was.trigger_calendars;
  trigger_zones = was.trigger_zones;
  bases = All-with_new_calendar (HasBase T.calendars) (HasBase (with_new_calendar c T.calendars)) c T.calendars (named_then c T.calendars c.base (known_base T.calendars c.base base)) was.bases
      (λ d other has. named_then c T.calendars d.base has);
  calendar_zones = All-with_new_calendar (λ d. IsTrue (is_known_zone T.zones d.zone)) (λ d. IsTrue (is_known_zone T.zones d.zone)) c T.calendars zone was.calendar_zones (λ d other is. is);
  chains = short_then c T.calendars was.bases was.chains fine;
}

room_of : (o : Option CalendarData) (old new : ℕ) → old ≤ CALENDAR_LIMIT → new ≤ old + cond (is_some o) 0 1 → (is_none o && nat_le CALENDAR_LIMIT old) ≡ false → new ≤ CALENDAR_LIMIT
room_of None old new within grows fits = let below = leb-false CALENDAR_LIMIT old fits in omega arith
room_of (Some c) old new within grows fits = omega arith

room_for_calendar : (T : SchedulerTables) (c : CalendarData) → length T.calendars ≤ CALENDAR_LIMIT → (is_none (calendar_of c.name T.calendars) && nat_le CALENDAR_LIMIT (length T.calendars)) ≡ false
    → length (with_new_calendar c T.calendars) ≤ CALENDAR_LIMIT
room_for_calendar T c within fits = room_of (calendar_of c.name T.calendars) (length T.calendars) (length (with_new_calendar c T.calendars)) within (length-with_new_calendar c T.calendars) fits

pub kept-add_calendar : (T T' : SchedulerTables) (m : ℤ) (c : CalendarData) (replace : Bool) (r : Reply) → TablesValid T → IsMoment T.horizon m → add_calendar T m c replace ≡ accepted T' r → TablesValid T'
unfolding add_calendar_refusal
kept-add_calendar T T' m c replace r valid is e =
    let way = passes (add_calendar_refusal T c replace) _ T' r e in
    let first = not_refused (not (is_known_calendar T.calendars c.base)) UnknownCalendar _ way.clear in
    let second = not_refused (not (is_known_zone T.zones c.zone)) UnknownZone _ first.1 in
    let third = not_refused (is_some (calendar_of c.name T.calendars) && not replace) CalendarExists _ second.1 in
    let fourth = no_first (circle_refusal (place_in c.name (chain_of T.calendars CHAIN_LIMIT (calendar_named T.calendars c.base)))) _ third.1 in
    let fifth = not_refused (makes_too_long T.calendars c) (TooMany CHAIN_LIMIT) _ fourth.1 in
    let fits : (is_none (calendar_of c.name T.calendars) && nat_le CALENDAR_LIMIT (length T.calendars)) ≡ false = (not_refused _ (TooMany CALENDAR_LIMIT) None fifth.1).0 in
    let same : accepted (record T { calendars = with_new_calendar c T.calendars; last_moment = m }) _ ≡ accepted T' r = way.outcome in
    let was = valid.references_and_limits in
    subst TablesValid (cc)
    (valid-calendars (record T { last_moment = m }) (with_new_calendar c T.calendars) (valid-moment T m valid is) (ordered-with_new_calendar c T.calendars was.ordered.calendars)
    (stored-with_new_calendar T c was.stored (not-false _ first.0) (not-false _ second.0) fifth.0) (room_for_calendar T c was.limits.calendars fits))
