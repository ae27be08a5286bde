use Rattle.std.proofs.Common.{◌≡◌, ◌++◌, drop}
use Rattle.std.specs.Prelude.{option_map}
use Rattle.serde_json.specs.View.{items_view}
use Rattle.qz_job_json.specs.Zones.{stretches_of}
use Rattle.qz_job_json.proofs.zones.stretches_of.Given as goal

abbrev pub invariant-loop-item : goal.invariant-loop-item
invariant-loop-item l =
    option_map (λ rest. l.stretches ++ rest) (stretches_of (items_view (drop l.item-index l.items))) ≡ stretches_of (items_view l.items)
