-- What the tests of a trigger, a calendar and a member decide.
use Rattle.std.proofs.Common.{◌≡◌, ℕ, ◌<◌, ℤ, Bool, true, false, not, ◌||◌, List, Option, Some, None, IsSome, IfSome, IsTrue, is_some, nat_lt, ◌==◌, refl, ap, subst, ◌∙◌, if◌then◌else◌}
use Rattle.std.specs.Bool.{Decides}
use Rattle.std.specs.List.{AllByRecursion, list_all}
use Rattle.std.specs.Ordering.{is_eq}
use Rattle.std.proofs.lemmas.Bool.Decides.{Decides-and, Decides-like, Decides-eqb, Decides-ltb}
use Rattle.std.proofs.lemmas.Cmp.{tied_itself, nat_list_cmp_total}
use Rattle.std.proofs.lemmas.Map.Lookups.{exact_bytes}
use Rattle.qz_types.specs.Chains.{ends_within}
use Rattle.qz_types.specs.Rows.{TriggerData, CalendarData, ZoneData, MemberData}
use Rattle.qz_types.specs.Tables.{SchedulerTables, IsMoment}
use Rattle.qz_types.specs.Words.{text_cmp, same_text, job_of, calendar_of}
use Rattle.qz_types.specs.declared.keys.Key.{Key}
use Rattle.qz_types.specs.declared.limits.TheConstants.{CHAIN_LIMIT}
use Rattle.qz_types.specs.declared.triggers.TriggerState.TheVariants as state
use Rattle.qz_model.specs.Invariant.{is_blocked, is_blocked_or_done, is_live_state}
use Rattle.qz_model.specs.Plan.{zone_named_by, is_known_zone, is_known_zone_name, is_known_calendar}
use Rattle.qz_model.proofs.LookUps.{equal_from}
use Rattle.qz_valid.specs.Calendars.{calendar_fits}
use Rattle.qz_valid.specs.Fired.{is_acquired_state}
use Rattle.qz_valid.specs.Keys.{has}
use Rattle.qz_valid.specs.Members.{differs_from, member_fits}
use Rattle.qz_valid.specs.Names.{name_fits}
use Rattle.qz_valid.specs.Triggers.{is_named, next_fits, state_fits, trigger_fits}
use Rattle.qz_valid.proofs.Deciding.{itself, implied, all_decided}
use Rattle.qz_valid.proofs.FiredTests.{acquired_state_decided}
use Rattle.qz_valid.proofs.LimitTests.{moment_decided}

-- Calendars.

calendar_known : (calendars : List CalendarData) (o : Option (List ℕ)) → Decides (is_known_calendar calendars o) (IfSome o (λ name. IsSome (calendar_of name calendars)))
calendar_known calendars None = (λ h. tt, λ i. refl)
calendar_known calendars (Some name) = (λ h. h, λ s. s)

zone_known : (zones : List ZoneData) (o : Option (List ℕ)) → Decides (is_known_zone_name zones o) (IfSome o (λ name. IsTrue (is_known_zone zones name)))
zone_known zones None = (λ h. tt, λ i. refl)
zone_known zones (Some name) = (λ h. h, λ s. s)

-- what is said of a calendar
pub record CalendarFits (T : SchedulerTables) (c : CalendarData) : Type 0 where
  pub base : IfSome c.base (λ name. IsSome (calendar_of name T.calendars))
  pub zone : IsTrue (is_known_zone T.zones c.zone)
  pub chain : IsTrue (ends_within T.calendars CHAIN_LIMIT (Some c))

pub calendar_decided : (T : SchedulerTables) (c : CalendarData) → Decides (calendar_fits T c) (CalendarFits T c)
unfolding calendar_fits
calendar_decided T c = Decides-like (calendar_fits T c)
    (λ p. record { base = p.0; zone = p.1.0; chain = p.1.1 })
    (λ (r : CalendarFits T c). (r.base, (r.zone, r.chain)))
    (Decides-and (is_known_calendar T.calendars c.base) _ (calendar_known T.calendars c.base)
    (Decides-and (is_known_zone T.zones c.zone) _ (itself _) (itself (ends_within T.calendars CHAIN_LIMIT (Some c)))))

-- Members.

text_decided : (a b : List ℕ) → Decides (same_text a b) (a ≡ b)
unfolding same_text
text_decided a b = (
  λ h. exact_bytes a b (equal_from (text_cmp a b) h),
  λ e. subst (λ (x : List ℕ). is_eq (text_cmp a x) ≡ true) e (ap is_eq (tied_itself nat_list_cmp_total a)),
)

abbrev member_with : List ℕ → ℕ → MemberData
member_with node epoch = record { node = node; epoch = epoch }

same_member : (n m : MemberData) → n.epoch ≡ m.epoch → n.node ≡ m.node → n ≡ m
same_member n m epochs nodes = ap (λ (e : ℕ). member_with n.node e) epochs ∙ ap (λ (x : List ℕ). member_with x m.epoch) nodes

differs_decided : (m n : MemberData) → Decides (differs_from m n) (n.epoch ≡ m.epoch → n ≡ m)
unfolding differs_from
differs_decided m n = Decides-like (differs_from m n)
    (λ f e. same_member n m e (f e))
    (λ (f : n.epoch ≡ m.epoch → n ≡ m) e. ap (λ (k : MemberData). k.node) (f e))
    (implied (n.epoch == m.epoch) (same_text n.node m.node) (Decides-eqb n.epoch m.epoch) (text_decided n.node m.node))

pub record MemberFits (T : SchedulerTables) (m : MemberData) : Type 0 where
  pub given : m.epoch < T.next_epoch
  pub distinct : AllByRecursion (λ n. n.epoch ≡ m.epoch → n ≡ m) T.members

pub member_decided : (T : SchedulerTables) (m : MemberData) → Decides (member_fits T m) (MemberFits T m)
unfolding member_fits
member_decided T m = Decides-like (member_fits T m)
    (λ p. record { given = p.0; distinct = p.1 })
    (λ (r : MemberFits T m). (r.given, r.distinct))
    (Decides-and (nat_lt m.epoch T.next_epoch) (list_all (differs_from m) T.members) (Decides-ltb m.epoch T.next_epoch)
    (all_decided (differs_from m) (λ n. n.epoch ≡ m.epoch → n ≡ m) (differs_decided m) T.members))

-- Triggers.

named_decided : (T : SchedulerTables) (t : TriggerData) → Decides (is_named T t)
    (IsSome (job_of t.spec.job T.jobs) × (IfSome t.spec.calendar (λ name. IsSome (calendar_of name T.calendars)) × IfSome (zone_named_by t.spec.timing.kind) (λ name. IsTrue (is_known_zone T.zones name))))
unfolding is_named
named_decided T t = Decides-and (is_some (job_of t.spec.job T.jobs)) _ (itself _)
    (Decides-and (is_known_calendar T.calendars t.spec.calendar) (is_known_zone_name T.zones (zone_named_by t.spec.timing.kind))
    (calendar_known T.calendars t.spec.calendar) (zone_known T.zones (zone_named_by t.spec.timing.kind)))

next_decided : (horizon : ℤ) (live : Bool) (o : Option ℤ) → Decides (next_fits horizon live o) ((live ≡ true → IsSome o) × IfSome o (IsMoment horizon))
next_decided horizon true None = (λ h. absurd cc, λ p. p.0 refl)
next_decided horizon false None = (λ h. (λ is. absurd cc, tt), λ p. refl)
next_decided horizon live (Some m) = (λ h. (λ is. refl, (moment_decided horizon m).0 h), λ p. (moment_decided horizon m).1 p.1)

-- blocked or done where the job is busy, and not blocked where it isn't
blocked_decided : (busy done blocked : Bool) → Decides (if busy then done else not blocked) ((busy ≡ true → done ≡ true) × (blocked ≡ true → busy ≡ true))
blocked_decided true done blocked = (λ h. (λ is. h, λ is. refl), λ p. p.0 refl)
blocked_decided false done true = (λ h. absurd cc, λ p. let no = p.1 refl in absurd cc)
blocked_decided false done false = (λ h. (λ is. absurd cc, λ is. absurd cc), λ p. refl)

-- what is said of a trigger
pub record TriggerFits (T : SchedulerTables) (acquired exclusive : List Key) (t : TriggerData) : Type 0 where
  pub job : IsSome (job_of t.spec.job T.jobs)
  pub calendar : IfSome t.spec.calendar (λ name. IsSome (calendar_of name T.calendars))
  pub zone : IfSome (zone_named_by t.spec.timing.kind) (λ name. IsTrue (is_known_zone T.zones name))
  pub has_row : t.state ≡ state.Acquired → has t.spec.key acquired ≡ true
  pub blocked : has t.spec.job exclusive ≡ true → is_blocked_or_done t.state ≡ true
  pub busy : is_blocked t.state ≡ true → has t.spec.job exclusive ≡ true
  pub next : is_live_state t.state ≡ true → IsSome t.next
  pub within : IfSome t.next (IsMoment T.horizon)
  pub name : name_fits T t ≡ true

state_decided : (T : SchedulerTables) (acquired exclusive : List Key) (t : TriggerData) → Decides (state_fits T acquired exclusive t)
    ((t.state ≡ state.Acquired → has t.spec.key acquired ≡ true)
    × (((has t.spec.job exclusive ≡ true → is_blocked_or_done t.state ≡ true) × (is_blocked t.state ≡ true → has t.spec.job exclusive ≡ true))
    × ((is_live_state t.state ≡ true → IsSome t.next) × IfSome t.next (IsMoment T.horizon))))
unfolding state_fits
state_decided T acquired exclusive t =
    Decides-and (not (is_acquired_state t.state) || has t.spec.key acquired) _ (implied (is_acquired_state t.state) (has t.spec.key acquired) (acquired_state_decided t.state) (itself _))
    (Decides-and (if has t.spec.job exclusive then is_blocked_or_done t.state else not (is_blocked t.state)) (next_fits T.horizon (is_live_state t.state) t.next)
    (blocked_decided (has t.spec.job exclusive) (is_blocked_or_done t.state) (is_blocked t.state))
    (next_decided T.horizon (is_live_state t.state) t.next))

pub trigger_decided : (T : SchedulerTables) (acquired exclusive : List Key) (t : TriggerData) → Decides (trigger_fits T acquired exclusive t) (TriggerFits T acquired exclusive t)
unfolding trigger_fits
trigger_decided T acquired exclusive t = Decides-like (trigger_fits T acquired exclusive t)
    (λ p. record { job = p.0.0; calendar = p.0.1.0; zone = p.0.1.1; has_row = p.1.0.0; blocked = p.1.0.1.0.0; busy = p.1.0.1.0.1; next = p.1.0.1.1.0; within = p.1.0.1.1.1; name = p.1.1 })
    (λ (r : TriggerFits T acquired exclusive t). ((r.job, (r.calendar, r.zone)), ((r.has_row, ((r.blocked, r.busy), (r.next, r.within))), r.name)))
    (Decides-and (is_named T t) _ (named_decided T t)
    (Decides-and (state_fits T acquired exclusive t) (name_fits T t) (state_decided T acquired exclusive t) (itself (name_fits T t))))
