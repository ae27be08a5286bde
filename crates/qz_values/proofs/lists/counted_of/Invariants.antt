use Rattle.std.proofs.Common.{◌≡◌, None, ◌-◌}
use Rattle.qz_values.specs.Lists.{items_at}
use Rattle.qz_values.proofs.ListLoops.{with_front}
use Rattle.qz_values.proofs.lists.counted_of.Given as goal

abbrev pub invariant-loop : goal.invariant-loop
invariant-loop g l = with_front l.items.items (items_at (g.I.Item.item_at l.version) (l.count - l.counter) l.before l.rest) ≡ items_at (g.I.Item.item_at l.version) l.count None l.bytes
