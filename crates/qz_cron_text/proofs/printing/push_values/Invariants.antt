use Rattle.std.proofs.Common.{◌≡◌, ◌++◌}
use Rattle.std.specs.String.{string_bytes}
use Rattle.qz_cron_text.specs.Printing.{values_text}
use Rattle.qz_cron_text.proofs.Prints.{none_below}
use Rattle.qz_cron_text.proofs.printing.push_values.Given as goal

abbrev pub invariant-loop-index : goal.invariant-loop-index
invariant-loop-index l = record {
  text : string_bytes l.text ≡ string_bytes l.initial.text ++ values_text l.field l.set l.index;
  first : l.first ≡ none_below l.set l.index;
}
