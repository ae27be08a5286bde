-- The byte of each kind of rows.
use Rattle.std.specs.Prelude.{ℕ, Option, Some, None, ◌==◌, if◌then◌else◌}
use Rattle.qz_pieces.specs.declared.kinds.RowKind.{RowKind}
use Rattle.qz_pieces.specs.declared.kinds.RowKind.TheVariants.{Job, Trigger, Calendar, Zone, Group, Member, Fired, JobGroup}

abbrev pub kind_byte : RowKind → ℕ
kind_byte Job = 0
kind_byte Trigger = 1
kind_byte Calendar = 2
kind_byte Zone = 3
kind_byte Group = 4
kind_byte Member = 5
kind_byte Fired = 6
kind_byte JobGroup = 7

-- the kind of this byte
abbrev pub kind_of : ℕ → Option RowKind
kind_of byte = if byte == 0 then Some Job
    else (if byte == 1 then Some Trigger
    else (if byte == 2 then Some Calendar
    else (if byte == 3 then Some Zone
    else (if byte == 4 then Some Group
    else (if byte == 5 then Some Member
    else (if byte == 6 then Some Fired
    else (if byte == 7 then Some JobGroup
    else None)))))))
