use Rattle.std.proofs.Common.{ap, sym, ◌∙◌}
use Rattle.qz_cluster.specs.View.{view as cluster_view}
use Rattle.qz_top.specs.Seen.{view, states_in}
use Rattle.qz_top.proofs.AloneLaws.{alone_from_start, spares_from_start}
use Rattle.qz_top.proofs.LoadLaws.{run_with}
use Rattle.qz_top.proofs.LossLaws.{recovered_opened, recovered_at_end}
use Rattle.qz_top.proofs.MomentLaws.{begun_so, all_kept, goes_on_at_end, images_at_end, opened_by_reads, told_begun}
use Rattle.qz_top.proofs.OpenedLaws.{disk_rose, plain_opened, plain_first, sound_opened, sound_at_end}
use Rattle.qz_top.proofs.Under.{run_under}
use Rattle.qz_top.proofs.on_disk.run_opened.Goals as goal

pub returns-clause-done : goal.returns-clause-done
returns-clause-done g c triggers states begins =
    let ran = rw (begun_so triggers states c.args.run begins) at c.run_lines-status.ensures.run in
    let run = run_under _ _ (told_begun triggers states c.args.run begins) _ _ _ _ _ ran.0 ran.1 ran.2 ran.3 in
    let opened = begins.are_opened in
    let end = c.end.ensures in
    let whole = run_with _ _ end.status run in
    record {
      opened = cluster_view c.args.run.cluster;
      are_opened = opened;
      nothing_held = begins.nothing_held;
      found = begins.found;
      no_earlier = begins.no_earlier;
      end = view c.run_lines-status.new.run;
      lines = ran.0;
      readings = ran.1;
      replies = ran.2;
      run = whole;
      trail_is = end.trail;
      on_disk = ap states_in end.shown;
      sound = rw end.trail (sound_opened _ _ _ _ _ _ _ _ _ opened.0 opened.1 run);
      sound_end = sound_at_end _ _ _ _ _ _ _ _ _ opened.0 opened.1 run;
      recovered = rw end.trail (recovered_opened _ _ _ _ _ _ _ _ _ opened.0 run);
      recovered_end = recovered_at_end _ _ _ _ _ _ _ _ _ opened.0 run;
      alone = alone_from_start _ _ _ _ _ _ _ _ _ _ (record { opened = opened.0; held = begins.nothing_held }) whole;
      spared = spares_from_start _ _ _ _ _ _ _ _ _ _ (record { opened = opened.0; held = begins.nothing_held }) whole;
      plain = plain_opened _ _ _ _ _ _ _ _ _ opened.0 opened.1 run;
      plain_first = plain_first _ _ _ _ _ _ _ _ _ opened.0 opened.1 run;
      faults = (ap g.D.Disk.faults end.disks.0, ap g.D.Disk.faults end.disks.1);
      images = λ w v held b.
          let left = images_at_end (λ d. g.met.D.Disk.lawful held.honest d) triggers states _ _ begins c.run_lines-status.ensures.shows w v held b in
          (λ is. left.0 (rw end.disks.0 at is), λ is. left.1 (rw end.disks.1 at is));
      opening = λ honest. rw end.shown (opened_by_reads (λ d. g.met.D.Disk.lawful honest d) triggers states _ _ begins c.run_lines-status.ensures.shows honest);
      any_moment = λ w v held. rw (end.shown, end.disks.0, end.disks.1) (all_kept (λ d. g.met.D.Disk.lawful held.honest d) triggers states _ _ begins c.run_lines-status.ensures.shows w v held);
      next = λ is w v held.
          let on = goes_on_at_end (λ d. g.met.D.Disk.lawful held.honest d) triggers states _ _ begins c.run_lines-status.ensures.shows w v held in
          rw end.disks.0 (end.short held.honest w on (c.run_lines-status.ensures.few (sym end.status ∙ is) begins.not_own));
    }

pub returns-clause-disk : goal.returns-clause-disk
returns-clause-disk g c triggers states begins status =
    let ran = rw (begun_so triggers states c.args.run begins) at c.run_lines-status.ensures.run in
    let run = run_under _ _ (told_begun triggers states c.args.run begins) _ _ _ _ _ ran.0 ran.1 ran.2 ran.3 in
    let end = c.end.ensures in
    let rose = disk_rose _ _ _ _ _ _ _ _ _ begins.are_opened.0 begins.are_opened.1 run _ _ begins.no_earlier.0 begins.no_earlier.1 (rw end.status at status) in
    rw (end.disks.0, end.disks.1) rose
