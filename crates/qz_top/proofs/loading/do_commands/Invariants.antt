use Rattle.std.proofs.Common.{◌≤◌}
use Rattle.std.specs.Prelude.{⊤}
use Rattle.std.specs.List.{AllByRecursion}
use Rattle.std.specs.Vec.Iter.{into_iter_items}
use Rattle.qz_io.specs.Around.{without_input}
use Rattle.qz_top.specs.Clients.{IsOfClient}
use Rattle.qz_top.specs.Moments.{Shows}
use Rattle.qz_top.specs.Seen.{view, told_of}
use Rattle.qz_top.proofs.ClientLaws.{DidFront}
use Rattle.qz_top.proofs.loading.do_commands.Given as goal

abbrev pub invariant-loop-command : goal.invariant-loop-command
invariant-loop-command g l =
    (goal.iterator-loop-command g).can_next l.command-iterator
    × (goal.iterator-loop-command g).is_finite l.command-iterator
    × AllByRecursion IsOfClient (into_iter_items l.command-iterator)
    × DidFront (told_of l.initial.run) l.fn.at l.fn.commands (into_iter_items l.command-iterator) (view l.initial.run) (view l.run) (without_input g.K.Sink g.C.Clock l.initial.out l.initial.clock) (without_input g.K.Sink g.C.Clock l.out l.clock)
    × Shows ⊤ l.initial.run l.run
    × (g.K.Sink.faults l.initial.out ≤ g.K.Sink.faults l.out)
