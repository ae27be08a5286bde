use Rattle.std.proofs.Common.{List, ◌∙◌, ◌∷◌, [], ap, arith, length-append}
use Rattle.std.specs.Vec.Iter.{into_iter_items}
use Rattle.std.specs.Ordering.{nat_cmp}
use Rattle.std.proofs.lemmas.Cmp.{nat_cmp_total}
use Rattle.qz_types.specs.Words.{fired_of, put_fired}
use Rattle.qz_types.specs.Tables.{SchedulerTables}
use Rattle.qz_types.specs.Rows.{FiredData}
use Rattle.qz_snapshot.proofs.Orders.{next_absent, next_put}
use Rattle.qz_snapshot.proofs.Filled.{pushed, shorter}
use Rattle.qz_snapshot.proofs.filling.fill_fired.Goals as goal

pub insert_fired-requires-clause-absent : goal.insert_fired-requires-clause-absent
unfolding fired_of
insert_fired-requires-clause-absent c =
    ap (λ (T : SchedulerTables). fired_of c.in-Some.row.entry T.fired) c.loop-row.invariant.tables
    ∙ next_absent nat_cmp (λ r. r.entry) nat_cmp_total c.args.rows.items c.loop-row.yielded (into_iter_items c.loop-row.row-iterator) (into_iter_items c.next.new.self) c.in-Some.row c.requires.ascending c.loop-row.invariant.all c.in-Some.ensures.steps.0

pub loop-row-preserved : goal.loop-row-preserved
unfolding put_fired
loop-row-preserved c = record {
  all = pushed c.args.rows.items c.loop-row.yielded (into_iter_items c.loop-row.row-iterator) (into_iter_items c.next.new.self) c.in-Some.row c.loop-row.invariant.all c.in-Some.ensures.steps.0;
  left = shorter (into_iter_items c.loop-row.row-iterator) (into_iter_items c.next.new.self) c.in-Some.row _ _ c.loop-row.invariant.left c.in-Some.ensures.steps.0 c.in-Some.ensures.steps.1;
  tables = c.insert_fired.ensures.tables ∙ ap (λ (T : SchedulerTables). record T { fired = put_fired c.in-Some.row T.fired }) c.loop-row.invariant.tables
      ∙ ap (λ (rows : List FiredData). record c.args.tables.now.tables { fired = rows })
      (next_put nat_cmp (λ r. r.entry) nat_cmp_total c.args.rows.items c.loop-row.yielded (into_iter_items c.loop-row.row-iterator) (into_iter_items c.next.new.self) c.in-Some.row c.requires.ascending c.loop-row.invariant.all c.in-Some.ensures.steps.0);
  spare =
      let before = c.loop-row.invariant.spare in
      let one = c.insert_fired.ensures.spare in
      record {
        jobs = omega (arith, before.jobs, one.jobs);
        triggers = omega (arith, before.triggers, one.triggers);
        calendars = omega (arith, before.calendars, one.calendars);
        zones = omega (arith, before.zones, one.zones);
        paused_groups = omega (arith, before.paused_groups, one.paused_groups);
        paused_job_groups = omega (arith, before.paused_job_groups, one.paused_job_groups);
        members = omega (arith, before.members, one.members);
        fired = omega (arith, before.fired, one.fired, length-append c.loop-row.yielded (c.in-Some.row ∷ []));
      };
}
