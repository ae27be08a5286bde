use Rattle.std.proofs.Common.{List, ℕ, sym, ap, subst, ◌∙◌}
use Rattle.std.specs.Ordering.{nat_cmp}
use Rattle.qz_types.specs.Rows.{JobData, TriggerData, CalendarData, ZoneData, MemberData, FiredData}
use Rattle.qz_types.specs.Sorted.{IsAscending}
use Rattle.qz_types.specs.Tables.{SchedulerTables}
use Rattle.qz_types.specs.Words.{key_cmp, text_cmp}
use Rattle.qz_snapshot.proofs.order.are_ordered.Goals as goal

pub returns-then-not-is_ascending : goal.returns-then-not-is_ascending
returns-then-not-is_ascending c = (
  λ yes. absurd (cc),
  λ o. let yes = c.is_ascending.ensures.1 (subst (λ (xs : List JobData). IsAscending key_cmp (λ r. r.key) xs) (sym (c.deref.ensures.value ∙ ap (λ (T : SchedulerTables). T.jobs) c.parts.view_is)) o.jobs) in absurd (cc),
)

pub returns-then-not-is_ascending-2 : goal.returns-then-not-is_ascending-2
returns-then-not-is_ascending-2 c = (
  λ yes. absurd (cc),
  λ o. let yes = c.is_ascending-2.ensures.1 (subst (λ (xs : List TriggerData). IsAscending key_cmp (λ r. r.spec.key) xs) (sym (c.deref-2.ensures.value ∙ ap (λ (T : SchedulerTables). T.triggers) c.parts.view_is)) o.triggers) in absurd (cc),
)

pub returns : goal.returns
returns c = (
  λ yes. record {
    jobs = subst (λ (xs : List JobData). IsAscending key_cmp (λ r. r.key) xs) (c.deref.ensures.value ∙ ap (λ (T : SchedulerTables). T.jobs) c.parts.view_is) (c.is_ascending.ensures.0 c.if-not-is_ascending.false);
    triggers = subst (λ (xs : List TriggerData). IsAscending key_cmp (λ r. r.spec.key) xs) (c.deref-2.ensures.value ∙ ap (λ (T : SchedulerTables). T.triggers) c.parts.view_is) (c.is_ascending-2.ensures.0 c.if-not-is_ascending-2.false);
    calendars = subst (λ (xs : List CalendarData). IsAscending text_cmp (λ r. r.name) xs) (c.deref-3.ensures.value ∙ ap (λ (T : SchedulerTables). T.calendars) c.parts.view_is) (c.is_ascending-3.ensures.0 c.if-not-is_ascending-3.false);
    zones = subst (λ (xs : List ZoneData). IsAscending text_cmp (λ r. r.name) xs) (c.deref-4.ensures.value ∙ ap (λ (T : SchedulerTables). T.zones) c.parts.view_is) (c.is_ascending-4.ensures.0 c.if-not-is_ascending-4.false);
    paused_groups = subst (λ (xs : List (List ℕ)). IsAscending text_cmp (λ r. r) xs) (c.deref-5.ensures.value ∙ ap (λ (T : SchedulerTables). T.paused_groups) c.parts.view_is) (c.is_ascending-5.ensures.0 c.if-not-is_ascending-5.false);
    paused_job_groups = subst (λ (xs : List (List ℕ)). IsAscending text_cmp (λ r. r) xs) (c.deref-6.ensures.value ∙ ap (λ (T : SchedulerTables). T.paused_job_groups) c.parts.view_is) (c.is_ascending-6.ensures.0 c.if-not-is_ascending-6.false);
    members = subst (λ (xs : List MemberData). IsAscending text_cmp (λ r. r.node) xs) (c.deref-7.ensures.value ∙ ap (λ (T : SchedulerTables). T.members) c.parts.view_is) (c.is_ascending-7.ensures.0 c.if-not-is_ascending-7.false);
    fired = subst (λ (xs : List FiredData). IsAscending nat_cmp (λ r. r.entry) xs) (c.deref-8.ensures.value ∙ ap (λ (T : SchedulerTables). T.fired) c.parts.view_is) (c.is_ascending-8.ensures.0 yes);
  },
  λ o. c.is_ascending-8.ensures.1 (subst (λ (xs : List FiredData). IsAscending nat_cmp (λ r. r.entry) xs) (sym (c.deref-8.ensures.value ∙ ap (λ (T : SchedulerTables). T.fired) c.parts.view_is)) o.fired),
)
