use Rattle.qz_serve.proofs.ServeHeadlines.{headline_of}
use Rattle.qz_serve.proofs.calls.serve.Goals as goal

pub returns-clause-headline : goal.returns-clause-headline
returns-clause-headline g c = headline_of g.D.Disk c.disks_are_lawful.ensures _ _ _ c.args.triggers c.args.states c.work-served.result _ _ _ c.work-served.ensures.done
