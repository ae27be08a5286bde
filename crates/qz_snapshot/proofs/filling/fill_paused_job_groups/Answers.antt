use Rattle.std.proofs.Common.{ℕ, List, ◌∙◌, ◌∷◌, [], ap, arith, length-append}
use Rattle.std.specs.Vec.Iter.{into_iter_items}
use Rattle.std.proofs.lemmas.Cmp.{nat_list_cmp_total}
use Rattle.qz_types.specs.Words.{text_cmp, group_of, put_group}
use Rattle.qz_types.specs.Tables.{SchedulerTables}
use Rattle.qz_snapshot.proofs.Orders.{next_absent, next_put}
use Rattle.qz_snapshot.proofs.Filled.{pushed, shorter}
use Rattle.qz_snapshot.proofs.filling.fill_paused_job_groups.Goals as goal

pub insert_job_group-requires-clause-absent : goal.insert_job_group-requires-clause-absent
unfolding group_of
insert_job_group-requires-clause-absent c =
    ap (λ (T : SchedulerTables). group_of c.in-Some.row T.paused_job_groups) c.loop-row.invariant.tables
    ∙ next_absent text_cmp (λ r. r) nat_list_cmp_total c.args.rows.items c.loop-row.yielded (into_iter_items c.loop-row.row-iterator) (into_iter_items c.next.new.self) c.in-Some.row c.requires.ascending c.loop-row.invariant.all c.in-Some.ensures.steps.0

pub loop-row-preserved : goal.loop-row-preserved
unfolding put_group
loop-row-preserved c = record {
  all = pushed c.args.rows.items c.loop-row.yielded (into_iter_items c.loop-row.row-iterator) (into_iter_items c.next.new.self) c.in-Some.row c.loop-row.invariant.all c.in-Some.ensures.steps.0;
  left = shorter (into_iter_items c.loop-row.row-iterator) (into_iter_items c.next.new.self) c.in-Some.row _ _ c.loop-row.invariant.left c.in-Some.ensures.steps.0 c.in-Some.ensures.steps.1;
  tables = c.insert_job_group.ensures.tables ∙ ap (λ (T : SchedulerTables). record T { paused_job_groups = put_group c.in-Some.row T.paused_job_groups }) c.loop-row.invariant.tables
      ∙ ap (λ (rows : List (List ℕ)). record c.args.tables.now.tables { paused_job_groups = rows })
      (next_put text_cmp (λ r. r) nat_list_cmp_total c.args.rows.items c.loop-row.yielded (into_iter_items c.loop-row.row-iterator) (into_iter_items c.next.new.self) c.in-Some.row c.requires.ascending c.loop-row.invariant.all c.in-Some.ensures.steps.0);
  spare =
      let before = c.loop-row.invariant.spare in
      let one = c.insert_job_group.ensures.spare in
      record {
        jobs = omega (arith, before.jobs, one.jobs);
        triggers = omega (arith, before.triggers, one.triggers);
        calendars = omega (arith, before.calendars, one.calendars);
        zones = omega (arith, before.zones, one.zones);
        paused_groups = omega (arith, before.paused_groups, one.paused_groups);
        paused_job_groups = omega (arith, before.paused_job_groups, one.paused_job_groups, length-append c.loop-row.yielded (c.in-Some.row ∷ []));
        members = omega (arith, before.members, one.members);
        fired = omega (arith, before.fired, one.fired);
      };
}
