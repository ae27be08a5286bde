use Rattle.std.proofs.Common.{inl, inr, refl, ◌∙◌}
use Rattle.qz_top.proofs.FollowingLaws.{said_not_read}
use Rattle.qz_top.proofs.following.follow.Goals as goal

pub returns-in-Ok-clause-done : goal.returns-in-Ok-clause-done
returns-in-Ok-clause-done g c =
    record { ran = inl (record { follower = _; stream = c.in-Ok.ensures.read; stood_by = c.make_of.ensures.done }); no_trail = c.make_of.ensures.trail }

pub returns-in-Err-clause-done : goal.returns-in-Err-clause-done
returns-in-Err-clause-done g c =
    let end = c.ran_no_script.ensures in
    record {
      ran = inr (record {
        error = c.in-Err.unread;
        status_is = end.status ∙ c.unread_status.ensures;
        why = c.in-Err.ensures.unread;
        triggers_stay = end.disks.0;
        states_stay = end.disks.1;
        untouched = refl;
      });
      no_trail = end.trail;
    }

-- what makes both stores reads nothing of the input
pub returns-in-Ok-clause-read : goal.returns-in-Ok-clause-read
returns-in-Ok-clause-read g c is = absurd (said_not_read c.args.form _ c.make_of.ensures.done.made _ _ c.make_of.ensures.done.says is)
