use Rattle.std.proofs.Common.{◌≡◌, ◌<◌, ◌^◌, drop}
use Rattle.std.specs.Prelude.{bit_or, option_map}
use Rattle.serde_json.specs.View.{items_view}
use Rattle.qz_job_json.specs.Clocks.{listed, number_to, set_of_numbers}
use Rattle.qz_job_json.proofs.clocks.set_to.Given as goal

-- the set so far, with the numbers of the rest
abbrev pub invariant-loop-item : goal.invariant-loop-item
invariant-loop-item l = record {
  value : option_map (λ ns. bit_or l.set (set_of_numbers l.last ns)) (listed (number_to l.last) (items_view (drop l.item-index l.items))) ≡ option_map (set_of_numbers l.last) (listed (number_to l.last) (items_view l.items));
  small : l.set < 2 ^ l.last;
}
