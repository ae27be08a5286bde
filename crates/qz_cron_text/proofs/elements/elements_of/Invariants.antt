use Rattle.std.proofs.Common.{◌≡◌, ◌+◌, ◌≤◌, ◌<◌, ◌^◌, length}
use Rattle.std.specs.Prelude.{◌==◌}
use Rattle.std.specs.List.{slice_split}
use Rattle.qz_cron_text.specs.Elements.{all_of, elements_of, IsRight}
use Rattle.qz_civil.specs.Fields.{size}
use Rattle.qz_cron_text.proofs.elements.elements_of.Given as goal

abbrev pub invariant-elements : goal.invariant-elements
invariant-elements l = record {
  read : all_of l.field l.from l.at l.found (slice_split (λ b. b == 44) l.rest) ≡ elements_of l.field l.from l.fn.at l.text;
  places : l.at + length l.rest ≤ l.fn.at + length l.text;
  small : l.from ≡ 0 → l.found.word < 2 ^ size l.field;
  right : IsRight l.found;
}

abbrev pub decreases-elements : goal.decreases-elements
decreases-elements l = length l.rest
