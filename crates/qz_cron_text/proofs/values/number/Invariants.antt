use Rattle.std.proofs.Common.{◌≡◌, ◌<◌, ◌^◌, drop}
use Rattle.qz_cron_text.specs.Values.{decimal}
use Rattle.qz_cron_text.proofs.values.number.Given as goal

abbrev pub invariant-loop-b : goal.invariant-loop-b
invariant-loop-b l = record {
  value : decimal l.number (drop l.b-index l.text) ≡ decimal 0 l.text;
  small : l.number < 10 ^ l.b-index;
}
