-- The phases of a recovery, one after the other.
use Rattle.std.proofs.Common.{◌≡◌, ℕ, ◌+◌, ◌≤◌, ◌<◌, suc, List, [], ◌∷◌, ◌||◌, ◌&&◌, map, fold, drop, get_or, length, refl, sym, ap, ◌∙◌, subst, arith}
use Rattle.std.proofs.Math.Seq.{drop-cons}
use Rattle.std.proofs.lemmas.List.{drop_all}
use Rattle.std.specs.List.{list_any}
use Rattle.qz_types.specs.Rows.{TriggerData, MemberData, FiredData}
use Rattle.qz_types.specs.Sorted.{IsAscending}
use Rattle.qz_types.specs.declared.keys.Key.{Key}
use Rattle.qz_types.specs.Tables.{SchedulerTables}
use Rattle.qz_types.specs.Words.{key_cmp, same_key, put_trigger, trigger_of, without_member}
use Rattle.qz_tables.specs.Contents.{Spare, KeepsSpare}
use Rattle.qz_model.specs.Completing.{is_finished, finished}
use Rattle.qz_model.specs.Recovery.{has_finished, jobs_left, lost_of, recovered, recoveries, rows_of_others, triggers_added, triggers_left}
use Rattle.qz_model.specs.Tests.{is_row_of_trigger}
use Rattle.qz_model.specs.Triggers.{without_trigger_and_orphan}
use Rattle.qz_model.proofs.RowPoints.{All-from}
use Rattle.qz_recover.specs.Rows.{has_ended, without_triggers}
use Rattle.qz_recover.proofs.Finishing.{without_alike, one_key, no_key, ordered_step, ordered_jobs_step}
use Rattle.qz_recover.proofs.Walk.{all_ended}

-- what two steps keep is kept by both
pub keeps_on : {a b c : Spare} → KeepsSpare a b → KeepsSpare b c → KeepsSpare a c
keeps_on first then = record {
  jobs = omega (arith, first.jobs, then.jobs);
  triggers = omega (arith, first.triggers, then.triggers);
  calendars = omega (arith, first.calendars, then.calendars);
  zones = omega (arith, first.zones, then.zones);
  paused_groups = omega (arith, first.paused_groups, then.paused_groups);
  paused_job_groups = omega (arith, first.paused_job_groups, then.paused_job_groups);
  members = omega (arith, first.members, then.members);
  fired = omega (arith, first.fired, then.fired);
}

-- The keys are taken one by one.

next_key : (keys : List Key) (place : ℕ) (key : Key) → place < length keys → key ≡ get_or keys place key → drop place keys ≡ key ∷ drop (place + 1) keys
next_key keys place key less at =
    let one : suc place ≡ place + 1 = omega arith in
    drop-cons keys place key less ∙ ap (λ k. k ∷ drop (suc place) keys) (sym at) ∙ ap (λ (n : ℕ). key ∷ drop n keys) one

-- what is left to do at a place
abbrev pub left_at : ℕ → List Key → SchedulerTables → SchedulerTables
left_at place keys T = without_triggers (has_ended (drop place keys) T.fired) T

module _ (T U : SchedulerTables) (keys : List Key) (place : ℕ) (key : Key)
    (triggers : IsAscending key_cmp (λ r. r.spec.key) T.triggers) (jobs : IsAscending key_cmp (λ r. r.key) T.jobs)
    (step : U ≡ without_trigger_and_orphan T (finished T.fired (trigger_of key T.triggers))) where
  pub left_after : place < length keys → key ≡ get_or keys place key → left_at (place + 1) keys U ≡ left_at place keys T
  left_after less at =
      ap (left_at (place + 1) keys) step
      ∙ one_key T key triggers jobs (drop (place + 1) keys)
      ∙ ap (λ ks. without_triggers (has_ended ks T.fired) T) (sym (next_key keys place key less at))

  pub ordered_after : IsAscending key_cmp (λ r. r.spec.key) U.triggers
  ordered_after = subst (λ (x : SchedulerTables). IsAscending key_cmp (λ r. r.spec.key) x.triggers) (sym step) (ordered_step T key triggers jobs)

  pub ordered_jobs_after : IsAscending key_cmp (λ r. r.key) U.jobs
  ordered_jobs_after = subst (λ (x : SchedulerTables). IsAscending key_cmp (λ r. r.key) x.jobs) (sym step) (ordered_jobs_step T key triggers jobs)

pub left_none : (T : SchedulerTables) (keys : List Key) (place : ℕ) → length keys ≤ place → left_at place keys T ≡ T
left_none T keys place past = ap (λ ks. without_triggers (has_ended ks T.fired) T) (drop_all place keys past) ∙ no_key T

-- The recovery.

any_key : (key : Key) (rows : List FiredData) → list_any (same_key key) (map (λ f. f.trigger) rows) ≡ list_any (is_row_of_trigger key) rows
any_key key [] = refl
any_key key (f ∷ rows) = ap (λ b. same_key key f.trigger || b) (any_key key rows)

module _ (T : SchedulerTables) (member : MemberData) where
  -- the tables once the recovery triggers are in
  abbrev with_added : SchedulerTables
  with_added = record T { triggers = triggers_added T member; fired = rows_of_others member T.fired }

  abbrev lost_keys : List Key
  lost_keys = map (λ f. f.trigger) (lost_of member T.fired)

  finished_go : record (without_triggers (has_ended lost_keys with_added.fired) with_added) { members = without_member member.node T.members } ≡ recovered T member
  unfolding without_triggers recovered triggers_left jobs_left
  finished_go =
      ap (λ (U : SchedulerTables). record U { members = without_member member.node T.members })
      (without_alike (has_ended lost_keys with_added.fired) (has_finished (lost_of member T.fired) (rows_of_others member T.fired)) with_added
      (All-from (λ t. has_ended lost_keys with_added.fired t ≡ has_finished (lost_of member T.fired) (rows_of_others member T.fired) t) with_added.triggers
      (λ t. ap (λ b. b && is_finished (rows_of_others member T.fired) t) (any_key t.spec.key (lost_of member T.fired)))))

  pub recovers : (U V W X : SchedulerTables) (added : List TriggerData) (ended : List Key) → added ≡ recoveries T member → ended ≡ lost_keys
      → U ≡ all_ended member T → V ≡ record U { triggers = fold (λ ts t. put_trigger t ts) U.triggers added } → W ≡ without_triggers (has_ended ended V.fired) V
      → X ≡ record W { members = without_member member.node W.members } → X ≡ recovered T member
  unfolding triggers_added without_triggers
  recovers U V W X added ended triggers keys rows come go member_goes =
      let in_all : V ≡ with_added = come ∙ ap (λ ts. record U { triggers = fold (λ us t. put_trigger t us) U.triggers ts }) triggers ∙ ap (λ (x : SchedulerTables). record x { triggers = fold (λ us t. put_trigger t us) x.triggers (recoveries T member) }) rows in
      let gone : W ≡ without_triggers (has_ended lost_keys with_added.fired) with_added =
      go ∙ ap (λ ks. without_triggers (has_ended ks V.fired) V) keys ∙ ap (λ (x : SchedulerTables). without_triggers (has_ended lost_keys x.fired) x) in_all in
      member_goes ∙ ap (λ (x : SchedulerTables). record x { members = without_member member.node x.members }) gone ∙ finished_go
