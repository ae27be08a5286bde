use Rattle.std.proofs.Common.{◌≡◌, ◌+◌, ◌≤◌, length}
use Rattle.qz_cron_text.specs.Texts.{fields_at}
use Rattle.qz_cron_text.proofs.texts.next_field.Given as goal

abbrev pub invariant-blanks : goal.invariant-blanks
invariant-blanks l = record {
  fields : fields_at l.at l.rest ≡ fields_at l.fn.at l.text;
  place : l.at + length l.rest ≤ l.fn.at + length l.text;
  shorter : length l.rest ≤ length l.text;
}

abbrev pub decreases-blanks : goal.decreases-blanks
decreases-blanks l = length l.rest
