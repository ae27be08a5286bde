use Rattle.std.proofs.Common.{arith}
use Rattle.std.proofs.lemmas.Grind.{common_steps}
use Rattle.std.proofs.lemmas.Int.{to_z-of_z}
use Rattle.qz_checkin.specs.Lateness.{fresh_until}
use Rattle.qz_checkin.proofs.lateness.fresh_until.Goals as goal

pub overflow_add-result : goal.overflow_add-result
overflow_add-result c = grind (arith, common_steps, to_z-of_z, c.requires.row.low, c.requires.row.high, c.requires.own.low, c.requires.now.high, c.row.invariant, c.max.ensures.value, c.max.ensures.self_bound, c.max.ensures.other_bound)

pub overflow_add-result-2 : goal.overflow_add-result-2
overflow_add-result-2 c = grind (arith, common_steps, to_z-of_z, c.requires.row.low, c.requires.row.high, c.requires.own.low, c.requires.now.high, c.row.invariant, c.max.ensures.value, c.max.ensures.self_bound, c.max.ensures.other_bound)

pub returns : goal.returns
unfolding fresh_until
returns c = grind (arith, common_steps, to_z-of_z, c.requires.row.low, c.requires.row.high, c.requires.own.low, c.requires.now.high, c.row.invariant, c.max.ensures.value, c.max.ensures.self_bound, c.max.ensures.other_bound)
