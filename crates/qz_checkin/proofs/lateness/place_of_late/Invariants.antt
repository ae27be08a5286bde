use Rattle.std.proofs.Common.{◌≡◌, drop}
use Rattle.std.specs.List.{position_from}
use Rattle.qz_checkin.specs.Lateness.{is_late}
use Rattle.qz_checkin.proofs.lateness.place_of_late.Given as goal

-- none of the rows so far is late
abbrev pub invariant-loop-row : goal.invariant-loop-row
invariant-loop-row l =
    (l.place ≡ l.row-index)
    × (position_from (λ row. is_late row l.own_last l.now) 0 l.rows ≡ position_from (λ row. is_late row l.own_last l.now) l.row-index (drop l.row-index l.rows))
