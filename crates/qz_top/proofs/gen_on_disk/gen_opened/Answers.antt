use Rattle.std.proofs.Common.{refl, sym, ap, ◌∙◌}
use Rattle.qz_top.specs.NodeRuns.{both}
use Rattle.qz_top.proofs.NodeRunLaws.{rows_legal, goes_on_still, kept_on_the_way, left_at_end}
use Rattle.qz_top.proofs.OpenedLaws.{rose_from_first}
use Rattle.qz_top.proofs.StandingLaws.{stores_in_order, stores_one_at_a_time}
use Rattle.qz_trigger_store.proofs.Kept.{legal, schedules_kept}
use Rattle.qz_top.proofs.gen_on_disk.gen_opened.Goals as goal

pub generate-status-requires-clause-keeps : goal.generate-status-requires-clause-keeps
generate-status-requires-clause-keeps g c = rw c.into_stores-triggers.ensures.0 c.requires.keeps

pub returns-clause-done : goal.returns-clause-done
returns-clause-done g c triggers states begins =
    let cluster = c.args.run.cluster in
    let stores = c.into_stores-triggers.ensures in
    let left = c.generate-status.result in
    let end = c.ran_no_script.ensures in
    let disk = c.give_back.ensures.disk in
    let states_disk = c.into_disk.ensures in
    let generated = rw (stores.0, stores.1) at c.generate-status.ensures in
    record {
      opened = both cluster.triggers cluster.states;
      are_opened = begins.are_opened;
      nothing_held = refl;
      found = begins.found;
      no_earlier = begins.no_earlier;
      end = both left.triggers left.states;
      did = rw end.status generated.did;
      legal = (legal left.triggers, rows_legal left.states);
      schedules = schedules_kept left.triggers;
      sound = (stores_in_order left.triggers left.states).sound;
      recovered = (stores_in_order left.triggers left.states).recovered;
      one_at_a_time = stores_one_at_a_time left.triggers left.states;
      no_trail = end.trail;
      faults = (ap g.D.Disk.faults (end.disks.0 ∙ disk), ap g.D.Disk.faults (end.disks.1 ∙ states_disk));
      images = λ w v held b.
          let images = left_at_end triggers states cluster.triggers left.triggers cluster.states left.states begins.goes_on begins.rows_go_on generated.any_moment.0 generated.any_moment.1 w v held b in
          (λ is. images.0 (rw (end.disks.0 ∙ disk) at is), λ is. images.1 (rw (end.disks.1 ∙ states_disk) at is));
      any_moment = kept_on_the_way triggers states cluster.triggers left.triggers cluster.states left.states _ _ (end.disks.0 ∙ disk) (end.disks.1 ∙ states_disk) begins.reads begins.goes_on begins.rows_go_on generated.any_moment.0 generated.any_moment.1;
      next = λ is still w v held.
          let on = goes_on_still cluster.triggers left.triggers w (begins.goes_on held.honest w held.entries) held.honest generated.any_moment.0 in
          rw (end.disks.0 ∙ disk) (c.give_back.ensures.short held.honest still w on (c.generate-status.ensures.behind (sym end.status ∙ is) still));
    }

pub returns-clause-disk : goal.returns-clause-disk
returns-clause-disk g c triggers states begins status =
    let cluster = c.args.run.cluster in
    let stores = c.into_stores-triggers.ensures in
    let left = c.generate-status.result in
    let end = c.ran_no_script.ensures in
    let rose = rw (stores.0, stores.1) at (c.generate-status.ensures.disk (sym end.status ∙ status)) in
    rw (end.disks.0 ∙ c.give_back.ensures.disk, end.disks.1 ∙ c.into_disk.ensures)
    (rose_from_first _ _ (both cluster.triggers cluster.states) (both left.triggers left.states) begins.no_earlier.0 begins.no_earlier.1 rose)
