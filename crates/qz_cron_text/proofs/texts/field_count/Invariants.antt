use Rattle.std.proofs.Common.{◌≡◌, ◌+◌, ◌≤◌, length}
use Rattle.qz_cron_text.specs.Texts.{fields_at}
use Rattle.qz_cron_text.proofs.texts.field_count.Given as goal

abbrev pub invariant-fields : goal.invariant-fields
invariant-fields l = record {
  count : l.count + length (fields_at l.at l.rest) ≡ length (fields_at 0 l.text);
  place : l.at + length l.rest ≤ length l.text;
  counted : l.count + length l.rest ≤ length l.text;
}

abbrev pub decreases-fields : goal.decreases-fields
decreases-fields l = length l.rest
