use Rattle.qz_node.proofs.Hearing.{can_hear}
use Rattle.qz_serve.proofs.threads.asking.ask.Goals as goal

pub learn-requires : goal.learn-requires
learn-requires g c = can_hear c.args.turn.now c.args.at c.args.command c.in-Ok.reply c.requires.wanted c.in-Ok.ensures.fits
