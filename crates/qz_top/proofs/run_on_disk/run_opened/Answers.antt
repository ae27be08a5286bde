use Rattle.std.proofs.Common.{◌≡◌, ap, ◌∙◌, sym, refl}
use Rattle.qz_trigger_store.specs.View.{view, added_of}
use Rattle.qz_top.specs.NodeRuns.{both}
use Rattle.qz_top.proofs.NodeRunLaws.{rows_legal, told_text, goes_on_still, kept_on_the_way, left_at_end, added_is, history_is}
use Rattle.qz_top.proofs.NodeRestLaws.{rests_may, rests_write, rests_read, rested_kept, rested_disk_rose}
use Rattle.qz_top.proofs.StandingLaws.{stores_in_order, stores_one_at_a_time}
use Rattle.qz_trigger_store.proofs.Kept.{legal, schedules_kept}
use Rattle.qz_top.proofs.run_on_disk.run_opened.Goals as goal

pub tell_run-told-requires-clause-keeps : goal.tell_run-told-requires-clause-keeps
tell_run-told-requires-clause-keeps g c = c.work_on-status.ensures.triggers.keeps ∙ c.requires.keeps

pub returns-clause-done : goal.returns-clause-done
returns-clause-done g c first second opened =
    let begun = c.args.triggers in
    let rows_begun = c.args.states in
    let work = c.work_on-status.ensures in
    let left = c.work_on-status.result in
    let tell = c.tell_run-told.ensures in
    let rest = c.rest_nodes-status.ensures in
    let rested = c.rest_nodes-status.new.triggers in
    let end = c.ran_no_script.ensures in
    let disk = c.give_back.ensures.disk in
    let states_disk = c.into_disk.ensures in
    let went = work.triggers in
    let rows = work.states in
    let worked = work.worked in
    let kept = rested_kept begun left.triggers rested (rests_may _ _ _ _ rest.rests) rest.any_moment went.kept in
    let added : added_of left.triggers ≡ worked.added = added_is begun left.triggers worked.added opened.nothing_added went worked.went_on.entries in
    let history = history_is begun left.triggers opened.nothing_added went in
    record {
      opened = both begun rows_begun;
      are_opened = opened.are_opened;
      nothing_held = refl;
      found = opened.found;
      no_earlier = opened.no_earlier;
      current = opened.current;
      worked_to = both left.triggers left.states;
      work = left.status;
      worked = worked;
      told_as = c.tell_run-told.result;
      told = tell.status;
      written = told_text _ (both begun rows_begun) (both left.triggers left.states) _ _ _ _ _ history added tell.written;
      end = both rested left.states;
      rests = rw end.status rest.rests;
      states_stay = refl;
      legal = (legal rested, rows_legal left.states);
      schedules = schedules_kept rested;
      sound = (stores_in_order rested left.states).sound;
      recovered = (stores_in_order rested left.states).recovered;
      one_at_a_time = stores_one_at_a_time rested left.states;
      no_trail = end.trail;
      faults = (ap g.D.Disk.faults (end.disks.0 ∙ disk), ap g.D.Disk.faults (end.disks.1 ∙ states_disk));
      images = λ w v held b.
          let images = left_at_end first second begun rested rows_begun left.states opened.goes_on opened.rows_go_on kept rows.kept w v held b in
          (λ is. images.0 (rw (end.disks.0 ∙ disk) at is), λ is. images.1 (rw (end.disks.1 ∙ states_disk) at is));
      any_moment = kept_on_the_way first second begun rested rows_begun left.states _ _ (end.disks.0 ∙ disk) (end.disks.1 ∙ states_disk) opened.reads opened.goes_on opened.rows_go_on kept rows.kept;
      next = λ is still w v held.
          let on = goes_on_still begun rested w (opened.goes_on held.honest w held.entries) held.honest kept in
          rw (end.disks.0 ∙ disk) (c.give_back.ensures.short held.honest still w on (rest.few (sym end.status ∙ is) still));
    }

pub returns-clause-disk : goal.returns-clause-disk
returns-clause-disk g c first second opened status =
    let work = c.work_on-status.ensures in
    let left = c.work_on-status.result in
    let tell = c.tell_run-told.ensures in
    let end = c.ran_no_script.ensures in
    let is = sym end.status ∙ status in
    let rested = view c.rest_nodes-status.new.triggers in
    let rose = rested_disk_rose _ _ _ _ _ _ _ (both left.triggers left.states) rested _ _ tell.status c.rest_nodes-status.ensures.rests is work.worked opened.are_opened.0.is_open opened.are_opened.1.is_open work.triggers.went work.states.went opened.no_earlier.0 opened.no_earlier.1 in
    rw (end.disks.0 ∙ c.give_back.ensures.disk, end.disks.1 ∙ c.into_disk.ensures) rose

pub returns-clause-read : goal.returns-clause-read
returns-clause-read g c is = rests_read _ _ _ _ _ c.work_on-status.ensures.called c.tell_run-told.ensures.status c.rest_nodes-status.ensures.rests (sym c.ran_no_script.ensures.status ∙ is)

pub returns-clause-write : goal.returns-clause-write
returns-clause-write g c is = c.tell_run-told.ensures.write (rests_write _ _ _ _ c.rest_nodes-status.ensures.rests (sym c.ran_no_script.ensures.status ∙ is))
