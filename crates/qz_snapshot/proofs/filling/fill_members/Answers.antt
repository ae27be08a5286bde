use Rattle.std.proofs.Common.{List, ◌∙◌, ◌∷◌, [], ap, arith, length-append}
use Rattle.std.specs.Vec.Iter.{into_iter_items}
use Rattle.std.proofs.lemmas.Cmp.{nat_list_cmp_total}
use Rattle.qz_types.specs.Words.{text_cmp, member_of, put_member}
use Rattle.qz_types.specs.Tables.{SchedulerTables}
use Rattle.qz_types.specs.Rows.{MemberData}
use Rattle.qz_snapshot.proofs.Orders.{next_absent, next_put}
use Rattle.qz_snapshot.proofs.Filled.{pushed, shorter}
use Rattle.qz_snapshot.proofs.filling.fill_members.Goals as goal

pub insert_member-requires-clause-absent : goal.insert_member-requires-clause-absent
unfolding member_of
insert_member-requires-clause-absent c =
    ap (λ (T : SchedulerTables). member_of c.in-Some.row.node T.members) c.loop-row.invariant.tables
    ∙ next_absent text_cmp (λ r. r.node) nat_list_cmp_total c.args.rows.items c.loop-row.yielded (into_iter_items c.loop-row.row-iterator) (into_iter_items c.next.new.self) c.in-Some.row c.requires.ascending c.loop-row.invariant.all c.in-Some.ensures.steps.0

pub loop-row-preserved : goal.loop-row-preserved
unfolding put_member
loop-row-preserved c = record {
  all = pushed c.args.rows.items c.loop-row.yielded (into_iter_items c.loop-row.row-iterator) (into_iter_items c.next.new.self) c.in-Some.row c.loop-row.invariant.all c.in-Some.ensures.steps.0;
  left = shorter (into_iter_items c.loop-row.row-iterator) (into_iter_items c.next.new.self) c.in-Some.row _ _ c.loop-row.invariant.left c.in-Some.ensures.steps.0 c.in-Some.ensures.steps.1;
  tables = c.insert_member.ensures.tables ∙ ap (λ (T : SchedulerTables). record T { members = put_member c.in-Some.row T.members }) c.loop-row.invariant.tables
      ∙ ap (λ (rows : List MemberData). record c.args.tables.now.tables { members = rows })
      (next_put text_cmp (λ r. r.node) nat_list_cmp_total c.args.rows.items c.loop-row.yielded (into_iter_items c.loop-row.row-iterator) (into_iter_items c.next.new.self) c.in-Some.row c.requires.ascending c.loop-row.invariant.all c.in-Some.ensures.steps.0);
  spare =
      let before = c.loop-row.invariant.spare in
      let one = c.insert_member.ensures.spare in
      record {
        jobs = omega (arith, before.jobs, one.jobs);
        triggers = omega (arith, before.triggers, one.triggers);
        calendars = omega (arith, before.calendars, one.calendars);
        zones = omega (arith, before.zones, one.zones);
        paused_groups = omega (arith, before.paused_groups, one.paused_groups);
        paused_job_groups = omega (arith, before.paused_job_groups, one.paused_job_groups);
        members = omega (arith, before.members, one.members, length-append c.loop-row.yielded (c.in-Some.row ∷ []));
        fired = omega (arith, before.fired, one.fired);
      };
}
