-- Of several threads that ended early, whose cause counts.
use Rattle.std.specs.Prelude.{ℕ, nat_lt, if◌then◌else◌, Option, Some, None}
use Rattle.qz_run.specs.declared.commands.Declined.{Declined}
use Rattle.qz_run.specs.declared.commands.Declined.TheVariants as why

-- the order of the exit numbers
abbrev pub rank : Declined → ℕ
rank why.Fault = 0
rank (why.JournalFull need room) = 1
rank why.NoMemory = 2
rank (why.TooMany count) = 3
rank why.Fenced = 4

-- Of two causes the one of least exit number, and the first where these are the same.
abbrev pub least_cause : Option Declined → Option Declined → Option Declined
least_cause (Some first) (Some second) = if nat_lt (rank second) (rank first) then Some second else Some first
least_cause (Some first) None = Some first
least_cause None other = other
