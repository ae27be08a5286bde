use Rattle.qz_zone_rule.proofs.Times.{shows_times}
use Rattle.qz_zone_rule.proofs.Views.{expands}
use Rattle.qz_zone_rule.proofs.expansions.expand.Goals as goal

pub returns-clause-meaning : goal.returns-clause-meaning
returns-clause-meaning c =
    expands c.args.rule.now c.expand_rule.result c.expand_rule.ensures.ok c.expand_rule.ensures.valid c.expand_rule.ensures.err

pub returns-clause-times : goal.returns-clause-times
returns-clause-times c = shows_times c.args.rule.now c.expand_rule.result c.expand_rule.ensures.ok c.expand_rule.ensures.valid
