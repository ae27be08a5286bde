use Rattle.std.proofs.Common.{◌≡◌, take}
use Rattle.qz_report.specs.Summaries.{counts_of}
use Rattle.qz_top.proofs.telling.counts_of.Given as goal

abbrev pub invariant-loop-i : goal.invariant-loop-i
invariant-loop-i l = l.counts ≡ counts_of (take l.i l.entries) (take l.i l.replies)
