use Rattle.qz_follow.specs.View.{view}
use Rattle.qz_top.proofs.FollowingLaws.{starved}
use Rattle.qz_top.proofs.following.make_of.Goals as goal

pub returns-in_default-clause-done : goal.returns-in_default-clause-done
returns-in_default-clause-done g c =
    let end = c.ran_no_script.ensures in
    starved (λ honest d. g.met.D.Disk.lawful honest d) c.args.form c.args.triggers c.args.states c.ran_no_script.result (view c.args.follower) _ end.disks.0 end.disks.1 end.status

pub returns-clause-done : goal.returns-clause-done
returns-clause-done g c =
    let end = c.ran_no_script-2.ensures in
    let stood = c.stand_by-made.ensures in
    record {
      made = c.stand_by-made.result.made;
      header = stood.header;
      makes = λ honest. rw (end.disks.0, end.disks.1) (stood.makes honest);
      says = rw end.status c.say_followed-status.ensures.said;
    }
