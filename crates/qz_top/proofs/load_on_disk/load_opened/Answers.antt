use Rattle.std.proofs.Common.{ap, refl, sym, ◌∙◌}
use Rattle.qz_cluster.specs.View.{view as cluster_view}
use Rattle.qz_top.specs.Seen.{view, states_in}
use Rattle.qz_top.proofs.Courses.{load_course, load_alone, sound_in, sound_in_end}
use Rattle.qz_top.proofs.LoadLaws.{load_rose, loads_with}
use Rattle.qz_top.proofs.LossLaws.{recovered_in, recovered_in_end}
use Rattle.qz_top.proofs.MomentLaws.{begun_so, all_kept, goes_on_at_end, images_at_end, opened_by_reads, told_begun}
use Rattle.qz_top.proofs.Under.{loads_under}
use Rattle.qz_top.proofs.load_on_disk.load_opened.Goals as goal

pub returns-clause-done : goal.returns-clause-done
returns-clause-done g c triggers states begins =
    let loads = loads_under _ _ (told_begun triggers states c.args.run begins) _ _ _ _ _ (rw (begun_so triggers states c.args.run begins) at c.load-status.ensures.loads) in
    let end = c.end.ensures in
    let opened = begins.are_opened in
    let loads_now = loads_with _ _ end.status loads in
    let course = load_course _ _ refl _ _ _ _ loads in
    record {
      opened = cluster_view c.args.run.cluster;
      are_opened = begins.are_opened;
      nothing_held = begins.nothing_held;
      found = begins.found;
      no_earlier = begins.no_earlier;
      end = view c.load-status.new.run;
      loads = loads_now;
      trail_is = end.trail;
      on_disk = ap states_in end.shown;
      sound = rw end.trail (sound_in _ _ _ opened.0 opened.1 course);
      sound_end = sound_in_end _ _ _ opened.0 opened.1 course;
      recovered = rw end.trail (recovered_in _ _ _ opened.0 course);
      recovered_end = recovered_in_end _ _ _ opened.0 course;
      alone = load_alone _ _ (record { opened = opened.0; held = begins.nothing_held }) _ _ _ _ loads_now;
      faults = (ap g.D.Disk.faults end.disks.0, ap g.D.Disk.faults end.disks.1);
      images = λ w v held b.
          let left = images_at_end (λ d. g.met.D.Disk.lawful held.honest d) triggers states _ _ begins c.load-status.ensures.shows w v held b in
          (λ is. left.0 (rw end.disks.0 at is), λ is. left.1 (rw end.disks.1 at is));
      opening = λ honest. rw end.shown (opened_by_reads (λ d. g.met.D.Disk.lawful honest d) triggers states _ _ begins c.load-status.ensures.shows honest);
      any_moment = λ w v held. rw (end.shown, end.disks.0, end.disks.1) (all_kept (λ d. g.met.D.Disk.lawful held.honest d) triggers states _ _ begins c.load-status.ensures.shows w v held);
      next = λ is w v held.
          let on = goes_on_at_end (λ d. g.met.D.Disk.lawful held.honest d) triggers states _ _ begins c.load-status.ensures.shows w v held in
          rw end.disks.0 (end.short held.honest w on (c.load-status.ensures.few (sym end.status ∙ is) begins.not_own));
    }

pub returns-clause-disk : goal.returns-clause-disk
returns-clause-disk g c triggers states begins status =
    let loads = loads_under _ _ (told_begun triggers states c.args.run begins) _ _ _ _ _ (rw (begun_so triggers states c.args.run begins) at c.load-status.ensures.loads) in
    let end = c.end.ensures in
    rw (end.disks.0, end.disks.1) (load_rose _ _ _ begins.are_opened.0 begins.are_opened.1 _ _ begins.no_earlier.0 begins.no_earlier.1 _ _ _ loads (rw end.status at status))
