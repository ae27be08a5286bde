use Rattle.std.proofs.Common.{◌≡◌, ◌≤◌, length, true, false}
use Rattle.std.specs.List.{AllByRecursion}
use Rattle.std.specs.Vec.Iter.{into_iter_items}
use Rattle.qz_checkin.specs.Entries.{StatesState}
use Rattle.qz_model.specs.History.{replay}
use Rattle.qz_run_stores.specs.Ways.{KeepsTriggers}
use Rattle.qz_trigger_store.specs.Entries.{is_old}
use Rattle.qz_trigger_store.specs.View.{view, found_of, keeps_of}
use Rattle.qz_top.specs.Clients.{IsOfClient}
use Rattle.qz_top.specs.Generating.{beside}
use Rattle.qz_top.proofs.GeneratingLaws.{FilledFront}
use Rattle.qz_top.proofs.filling.do_all.Given as goal

abbrev pub invariant-loop-command : goal.invariant-loop-command
invariant-loop-command g l =
    (goal.iterator-loop-command g).can_next l.command-iterator
    × (goal.iterator-loop-command g).is_finite l.command-iterator
    × AllByRecursion IsOfClient (into_iter_items l.command-iterator)
    × ((u : StatesState) → FilledFront g.D.Disk.honest l.fn.commands (into_iter_items l.command-iterator) (beside u (view l.initial.triggers)) (beside u (view l.triggers)))
    × ((view l.triggers).is_open ≡ true)
    × (found_of l.triggers ≡ found_of l.initial.triggers)
    × (length (view l.initial.triggers).history.entries ≤ length (view l.triggers).history.entries)
    × ∥ KeepsTriggers l.initial.triggers l.triggers ∥₁
    × (is_old (replay (view l.initial.triggers).history) ≡ false → is_old (replay (view l.triggers).history) ≡ false)
    × (keeps_of l.triggers ≡ keeps_of l.initial.triggers)
