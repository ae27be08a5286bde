-- What a history comes to, in numbers, and the line that they are printed as.
use Rattle.std.specs.Prelude.{ℕ, ◌^◌, ◌-◌, min, List, [], ◌∷◌, ◌++◌, length, codes}
use Rattle.std.specs.List.{sum_by}
use Rattle.std.specs.Fmt.{decimal, signed_decimal}
use Rattle.qz_types.specs.Entries.{EntryData}
use Rattle.qz_types.specs.Tables.{SchedulerTables}
use Rattle.qz_types.specs.declared.commands.Command.{Command}
use Rattle.qz_types.specs.declared.commands.Command.TheVariants.{Fire}
use Rattle.qz_types.specs.declared.replies.Reply.{Reply}
use Rattle.qz_types.specs.declared.replies.Reply.TheVariants.{Joined, Misfired, Recovered}
use Rattle.qz_report.specs.declared.summaries.Counts.{Counts}
use Rattle.qz_report.specs.declared.summaries.Summary.{Summary}

-- how many executions began with the command
abbrev pub fired_by : Command → ℕ
fired_by (Fire entry) = 1
fired_by command = 0

-- how many misfired triggers were moved
abbrev pub misfired_in : Reply → ℕ
misfired_in (Misfired rows) = length rows
misfired_in reply = 0

-- how many recovery triggers were added, for a failed node or for one that joined again
abbrev pub recovered_in : Reply → ℕ
recovered_in (Joined epoch executions triggers) = triggers
recovered_in (Recovered executions triggers) = triggers
recovered_in reply = 0

-- a count; one past 2^64 - 1 stays there
abbrev pub counted : ℕ → ℕ
counted n = min n (2 ^ 64 - 1)

-- the counts of the entries with their replies
unfoldable pub counts_of : List EntryData → List Reply → Counts
counts_of entries replies = record {
  fired = counted (sum_by (λ e. fired_by e.command) entries);
  misfired = counted (sum_by misfired_in replies);
  recovered = counted (sum_by recovered_in replies);
}

-- the counts, and how the tables are at the end
abbrev pub summary_of : List EntryData → List Reply → SchedulerTables → Summary
summary_of entries replies T = record {
  fired = (counts_of entries replies).fired;
  misfired = (counts_of entries replies).misfired;
  recovered = (counts_of entries replies).recovered;
  jobs = length T.jobs;
  triggers = length T.triggers;
  at = T.last_moment;
}

-- the line, with its line feed
abbrev pub summary_text : Summary → List ℕ
summary_text s =
    codes "summary fired " ++ decimal s.fired ++ codes " misfired " ++ decimal s.misfired
    ++ codes " recovered " ++ decimal s.recovered ++ codes " jobs " ++ decimal s.jobs
    ++ codes " triggers " ++ decimal s.triggers ++ codes " at " ++ signed_decimal s.at ++ 10 ∷ []
