use Rattle.std.proofs.Common.{◌≡◌, None, drop}
use Rattle.serde_json.specs.View.{items_view}
use Rattle.qz_job_json.specs.Tables.{all_follow}
use Rattle.qz_job_json.proofs.zones.all_follow.Given as goal

abbrev pub invariant-loop-item : goal.invariant-loop-item
invariant-loop-item l = all_follow l.before (items_view (drop l.item-index l.items)) ≡ all_follow None (items_view l.items)
