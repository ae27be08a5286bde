-- Storing a zone, and deleting one that nothing names, keep the tables valid.
use Rattle.std.proofs.Common.{◌≡◌, ℕ, ◌≤◌, ◌<◌, ℤ, true, false, List, length, nat_lt, Option, Some, None, IfSome, IsTrue, is_some, is_none, refl, sym, ap, ◌∙◌, subst, arith}
use Rattle.std.proofs.lemmas.Bool.{or_parts, leb-false, ltb-false}
use Rattle.qz_types.specs.Rows.{ZoneData}
use Rattle.qz_types.specs.Sorted.{IsAscending}
use Rattle.qz_types.specs.declared.limits.TheConstants.{ZONE_LIMIT}
use Rattle.qz_types.specs.declared.replies.Reply.{Reply}
use Rattle.qz_types.specs.declared.replies.Refusal.TheVariants.{ZoneExists, UnknownZone, InUse, TooMany}
use Rattle.qz_types.specs.Tables.{SchedulerTables, IsMoment}
use Rattle.qz_types.specs.Outcomes.{accepted}
use Rattle.qz_types.specs.Words.{text_cmp, same_text, zone_of, put_zone, without_zone}
use Rattle.qz_model.specs.Calendars.{is_named, zone_uses, use_refusal, add_zone_refusal, add_zone, delete_zone_refusal, delete_zone}
use Rattle.qz_model.specs.Invariant.{AreStored, TablesValid}
use Rattle.qz_model.specs.Plan.{zone_named_by, is_utc, is_known_zone}
use Rattle.qz_model.proofs.Changes.{HasZone, passes, HasNumber, HasNumber-kept, valid-moment}
use Rattle.qz_model.proofs.NamedRows.{ordered-put_zone, ordered-without_zone, length-put_zone, length-without_zone, known-put_zone, known-without_zone}
use Rattle.qz_model.proofs.References.{references-zones}
use Rattle.qz_model.proofs.Refusals.{not_refused}
use Rattle.qz_model.proofs.RowLaws.{no_row}
use Rattle.qz_model.proofs.RowPoints.{All-weaker, All-both, none_from_count}

-- other zones, which have each zone that is named
pub valid-zones : (T : SchedulerTables) (zones : List ZoneData) → TablesValid T → IsAscending text_cmp (λ r. r.name) zones → AreStored T.jobs T.triggers T.calendars zones → length zones ≤ ZONE_LIMIT
    → TablesValid (record T { zones = zones })
valid-zones T zones valid ordered stored short = record {
  references_and_limits = references-zones T valid.references_and_limits zones ordered stored short;
  acquired_match = valid.acquired_match;
  concurrency_agrees = valid.concurrency_agrees;
  one_exclusive = valid.one_exclusive;
  blocked_are_busy = valid.blocked_are_busy;
  rows_of_members = valid.rows_of_members;
  next_times = valid.next_times;
  fresh = record {
    fired = valid.fresh.fired;
    added = All-weaker (HasNumber T) (HasNumber (record T { zones = zones })) T.triggers
        (λ t has. HasNumber-kept T (record T { zones = zones }) t (omega arith) (λ n below none. none) (λ n all. all) has) valid.fresh.added;
  };
  row_times = valid.row_times;
}

-- what a trigger names stays known, if each zone does that it may name
zone_stays : (old new : List ZoneData) (o : Option (List ℕ)) → ((name : List ℕ) → o ≡ Some name → is_known_zone old name ≡ true → is_known_zone new name ≡ true)
    → IfSome o (λ name. IsTrue (is_known_zone old name)) → IfSome o (λ name. IsTrue (is_known_zone new name))
zone_stays old new None stays known = tt
zone_stays old new (Some name) stays known = stays name refl known

stored-put_zone : (T : SchedulerTables) (z : ZoneData) → AreStored T.jobs T.triggers T.calendars T.zones → zone_of z.name T.zones ≡ None → AreStored T.jobs T.triggers T.calendars (put_zone z T.zones)
stored-put_zone T z was absent = record {
  trigger_jobs = was.trigger_jobs;
  trigger_calendars = was.trigger_calendars;
  trigger_zones = All-weaker (HasZone T.zones) (HasZone (put_zone z T.zones)) T.triggers
      (λ t known. zone_stays T.zones (put_zone z T.zones) (zone_named_by t.spec.timing.kind) (λ name is old. known-put_zone name z T.zones absent old) known) was.trigger_zones;
  bases = was.bases;
  calendar_zones = All-weaker (λ c. IsTrue (is_known_zone T.zones c.zone)) (λ c. IsTrue (is_known_zone (put_zone z T.zones) c.zone)) T.calendars
      (λ c known. known-put_zone c.zone z T.zones absent known) was.calendar_zones;
  chains = was.chains;
}

new_zone : (zones : List ZoneData) (name : List ℕ) → is_known_zone zones name ≡ false → zone_of name zones ≡ None
unfolding is_known_zone
new_zone zones name unknown = no_row (zone_of name zones) (or_parts (is_utc name) (is_some (zone_of name zones)) unknown).1

pub kept-add_zone : (T T' : SchedulerTables) (m : ℤ) (z : ZoneData) (r : Reply) → TablesValid T → IsMoment T.horizon m → add_zone T m z ≡ accepted T' r → TablesValid T'
unfolding add_zone_refusal
kept-add_zone T T' m z r valid is e =
    let way = passes (add_zone_refusal T z) _ T' r e in
    let first = not_refused (is_known_zone T.zones z.name) ZoneExists _ way.clear in
    let short : length T.zones < ZONE_LIMIT = leb-false ZONE_LIMIT (length T.zones) (not_refused _ (TooMany ZONE_LIMIT) None first.1).0 in
    let same : accepted (record T { zones = put_zone z T.zones; last_moment = m }) _ ≡ accepted T' r = way.outcome in
    let absent : zone_of z.name T.zones ≡ None = new_zone T.zones z.name first.0 in
    let was = valid.references_and_limits in
    subst TablesValid (cc)
    (valid-zones (record T { last_moment = m }) (put_zone z T.zones) (valid-moment T m valid is) (ordered-put_zone z T.zones was.ordered.zones absent) (stored-put_zone T z was.stored absent)
    (omega (arith, length-put_zone z T.zones)))

-- where nothing uses it, no trigger names it and no calendar
pub no_uses : (uses : ℕ) → use_refusal uses ≡ None → uses ≡ 0
no_uses uses clear = let few : uses ≤ 0 = ltb-false 0 uses (not_refused (nat_lt 0 uses) (InUse uses) None clear).0 in omega arith

named_other : (name other : List ℕ) (o : Option (List ℕ)) → o ≡ Some other → is_named name o ≡ false → same_text name other ≡ false
named_other name other None is unnamed = absurd (cc)
named_other name other (Some text) is unnamed = let same : text ≡ other = cc in ap (same_text name) (sym same) ∙ unnamed

stored-without_zone : (T : SchedulerTables) (name : List ℕ) → AreStored T.jobs T.triggers T.calendars T.zones → zone_uses T name ≡ 0 → AreStored T.jobs T.triggers T.calendars (without_zone name T.zones)
unfolding zone_uses
stored-without_zone T name was unused =
    let by_triggers = none_from_count (λ t. is_named name (zone_named_by t.spec.timing.kind)) T.triggers (omega arith) in
    let by_calendars = none_from_count (λ c. same_text name c.zone) T.calendars (omega arith) in
    record {
      trigger_jobs = was.trigger_jobs;
      trigger_calendars = was.trigger_calendars;
      trigger_zones = All-both (HasZone T.zones) (λ t. is_named name (zone_named_by t.spec.timing.kind) ≡ false) (HasZone (without_zone name T.zones)) T.triggers
          (λ t known unnamed. zone_stays T.zones (without_zone name T.zones) (zone_named_by t.spec.timing.kind)
          (λ other is old. known-without_zone name other T.zones (named_other name other (zone_named_by t.spec.timing.kind) is unnamed) old) known)
          was.trigger_zones by_triggers;
      bases = was.bases;
      calendar_zones = All-both (λ c. IsTrue (is_known_zone T.zones c.zone)) (λ c. same_text name c.zone ≡ false) (λ c. IsTrue (is_known_zone (without_zone name T.zones) c.zone)) T.calendars
          (λ c known unnamed. known-without_zone name c.zone T.zones unnamed known) was.calendar_zones by_calendars;
      chains = was.chains;
    }

pub kept-delete_zone : (T T' : SchedulerTables) (m : ℤ) (name : List ℕ) (r : Reply) → TablesValid T → IsMoment T.horizon m → delete_zone T m name ≡ accepted T' r → TablesValid T'
unfolding delete_zone_refusal
kept-delete_zone T T' m name r valid is e =
    let way = passes (delete_zone_refusal T name) _ T' r e in
    let first = not_refused (is_none (zone_of name T.zones)) UnknownZone _ way.clear in
    let same : accepted (record T { zones = without_zone name T.zones; last_moment = m }) _ ≡ accepted T' r = way.outcome in
    let was = valid.references_and_limits in
    subst TablesValid (cc)
    (valid-zones (record T { last_moment = m }) (without_zone name T.zones) (valid-moment T m valid is) (ordered-without_zone name T.zones was.ordered.zones)
    (stored-without_zone T name was.stored (no_uses (zone_uses T name) first.1)) (omega (arith, length-without_zone name T.zones, was.limits.zones)))
