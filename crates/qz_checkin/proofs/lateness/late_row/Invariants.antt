use Rattle.std.proofs.Common.{◌≡◌, drop}
use Rattle.std.specs.List.{find}
use Rattle.qz_checkin.specs.Lateness.{is_late}
use Rattle.qz_checkin.proofs.lateness.late_row.Given as goal

-- none of the rows so far is late
abbrev pub invariant-loop-row : goal.invariant-loop-row
invariant-loop-row l =
    find (λ row. is_late row l.own_last l.now) l.rows ≡ find (λ row. is_late row l.own_last l.now) (drop l.row-index l.rows)
