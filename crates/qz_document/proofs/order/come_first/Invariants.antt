use Rattle.std.proofs.Common.{◌≡◌, ◌&&◌, ◌||◌, not, drop}
use Rattle.std.specs.List.{list_any}
use Rattle.json.specs.Value.{members_view}
use Rattle.qz_document.specs.Order.{names_of, is_triggers, triggers_first}
use Rattle.qz_document.proofs.order.come_first.Given as goal

-- what was seen so far counts where no `triggers` is behind it
abbrev pub invariant-loop-member : goal.invariant-loop-member
invariant-loop-member l =
    (triggers_first (names_of (members_view (drop l.member-index l.members))) || (l.first && not (list_any is_triggers (names_of (members_view (drop l.member-index l.members))))))
    ≡ triggers_first (names_of (members_view l.members))
