use Rattle.qz_top.proofs.NextLaws.{short_next}
use Rattle.qz_top.proofs.ended.give_back.Goals as goal

pub returns-clause-short : goal.returns-clause-short
returns-clause-short g c honest still w on few = short_next c.args.triggers _ c.behind.ensures.value (c.behind.ensures.next honest still w on) few
