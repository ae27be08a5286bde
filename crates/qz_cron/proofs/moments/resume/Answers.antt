use Rattle.qz_cron.proofs.Clocks.{none_resumed, none_ended}
use Rattle.qz_cron.proofs.moments.resume.Goals as goal

pub returns-in-Some-clause-none : goal.returns-in-Some-clause-none
returns-in-Some-clause-none c p q shifts found here =
    let next = rw c.in-Some.is at found in
    rw (c.max.ensures, c.saturating_sub.ensures) (none_resumed p q c.args.start c.args.shift c.args.end c.in-Some.local shifts c.if-end-start.false next.none here)

pub returns-in-None-clause-none : goal.returns-in-None-clause-none
returns-in-None-clause-none c p q shifts found here =
    none_ended p q c.args.start c.args.shift c.args.end shifts c.if-end-start.false (rw c.in-None.is at found) here
