use Rattle.std.proofs.Common.{◌≡◌, ◌+◌, arith}
use Rattle.std.specs.Prelude.{length}
use Rattle.qz_board_looks.specs.Watches.{planned}
use Rattle.qz_board_looks.proofs.watches.Watch.complete.Goals as goal

pub returns-clause-count : goal.returns-clause-count
returns-clause-count g c =
    let all : length c.loop.watch.looks.glances.items + c.loop.watch.left ≡ planned c.args.self = c.loop.invariant.goes_on.planned in
    omega (arith, all, c.loop.invariant.left, c.loop-test.false, c.loop.auto.counter-end)
