use Rattle.std.proofs.Common.{◌≡◌, ◌++◌, ◌+◌, drop, string_bytes}
use Rattle.qz_report.specs.Histories.{history_text}
use Rattle.qz_report.proofs.histories.history_lines.Given as goal

abbrev pub invariant-loop-i : goal.invariant-loop-i
invariant-loop-i l = string_bytes l.text ++ history_text (drop l.i l.entries) (drop l.i l.moments) (drop l.i l.replies) (l.from + l.i) ≡ history_text l.entries l.moments l.replies l.from
