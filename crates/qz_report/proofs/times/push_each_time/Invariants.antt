use Rattle.std.proofs.Common.{◌≡◌, ◌++◌, take, string_bytes}
use Rattle.std.specs.List.{flat_map}
use Rattle.qz_report.specs.Times.{time_text}
use Rattle.qz_report.proofs.times.push_each_time.Given as goal

abbrev pub invariant-loop-time : goal.invariant-loop-time
invariant-loop-time l = string_bytes l.text ≡ string_bytes l.fn.text ++ flat_map time_text (take l.time-index l.times)
