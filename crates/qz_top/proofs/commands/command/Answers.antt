use Rattle.qz_top.proofs.CompletingLaws.{completes}
use Rattle.qz_top.proofs.ScheduleLaws.{trail_follows}
use Rattle.qz_top.proofs.WordHeadlines.{headline_of}
use Rattle.qz_top.proofs.commands.command.Goals as goal

pub returns-clause-reported : goal.returns-clause-reported
returns-clause-reported g c = c.report.ensures

pub returns-clause-schedules : goal.returns-clause-schedules
returns-clause-schedules g c = trail_follows c.work-ended.result.trail

pub returns-clause-headline : goal.returns-clause-headline
returns-clause-headline g c = headline_of (λ honest d. g.met.D.Disk.lawful honest d) c.args.triggers c.args.states c.work-ended.result _ _ _ _ _ c.work-ended.ensures.done

pub returns-clause-complete : goal.returns-clause-complete
returns-clause-complete g c = completes c.args.triggers c.args.states c.work-ended.result _ _ _ _ _ _ _ c.work-ended.ensures.done c.work-ended.ensures.cause
