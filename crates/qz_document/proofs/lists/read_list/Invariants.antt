use Rattle.std.proofs.Common.{◌≡◌, ◌++◌, true, drop}
use Rattle.serde_json.specs.View.{items_view}
use Rattle.qz_document.specs.Items.{are_valid, earlier, commands_of, fault_in}
use Rattle.qz_document.proofs.lists.read_list.Given as goal

-- what was read so far, with what the rest says
abbrev pub invariant-loop-value : goal.invariant-loop-value
invariant-loop-value l = record {
  fault : earlier l.fault (fault_in l.item (items_view (drop l.value-index l.items))) ≡ fault_in l.item (items_view l.items);
  commands : (l.commands ++ commands_of l.item (items_view (drop l.value-index l.items))) ≡ (l.fn.commands ++ commands_of l.item (items_view l.items));
  valid : are_valid l.fn.commands ≡ true → are_valid l.commands ≡ true;
}
