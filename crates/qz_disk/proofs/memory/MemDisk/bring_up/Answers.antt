use Rattle.std.proofs.Common.{◌≡◌, ◌∙◌, sym}
use Rattle.qz_disk.specs.Memory.{standing_of}
use Rattle.qz_disk.proofs.MemoryCalls.{not_fresh}
use Rattle.qz_disk.proofs.Choices.{brought_up, same_item, brings_found, brings_written}
use Rattle.qz_disk.proofs.memory.MemDisk.bring_up.Goals as goal

pub invariant_of-self-in-Some : goal.invariant_of-self-in-Some
invariant_of-self-in-Some c = record {
  fresh = not_fresh _ c.requires.copied;
  kept = λ _. c.in_ok-content-in-Some.ensures.items ∙ c.as_slice-in-Some-2.ensures ∙ same_item c.args.self.now.images _ _ _ c.in-Some.place _ _ c.as_slice-2.ensures c.as_slice-in-Some.ensures c.in-Some.is c.in_ok-place.ensures.found c.index-as_slice-place.is ∙ sym c.take_image-image.ensures.image ∙ sym (brought_up _ _ _ c.take_image-image.result c.push_reserved.ensures.items);
}

pub invariant_of-self-in-None : goal.invariant_of-self-in-None
invariant_of-self-in-None c = record {
  fresh = not_fresh _ c.requires.copied;
  kept = λ _. sym (c.from_vec-image.ensures ∙ c.in_ok-from_slice-in-None.ensures.items ∙ c.deref-in-None.ensures.value) ∙ sym (brought_up _ _ _ c.from_vec-image.result c.push_reserved-in-None.ensures.items);
}

pub returns-in_ok-content-in-Some-clause-chosen : goal.returns-in_ok-content-in-Some-clause-chosen
returns-in_ok-content-in-Some-clause-chosen c =
    let same : standing_of c.as_slice.result.now c.deref.result.now ≡ standing_of c.args.self.now.first c.args.self.now.calls.items = λ i. standing_of (c.as_slice.ensures i) (c.deref.ensures.value i) in
    brings_found _ _ _ _ _ c.in-Some.place _ _ same c.as_slice-2.ensures c.in-Some.is c.in_ok-place.ensures.found c.in_ok-place.ensures.passed (brought_up _ _ _ _ c.push_reserved.ensures.items ∙ c.take_image-image.ensures.image) c.take_image-image.ensures.left

pub returns-in_ok-from_slice-in-None-clause-chosen : goal.returns-in_ok-from_slice-in-None-clause-chosen
returns-in_ok-from_slice-in-None-clause-chosen c =
    let same : standing_of c.as_slice.result.now c.deref.result.now ≡ standing_of c.args.self.now.first c.args.self.now.calls.items = λ i. standing_of (c.as_slice.ensures i) (c.deref.ensures.value i) in
    let written = c.from_vec-image.ensures ∙ c.in_ok-from_slice-in-None.ensures.items ∙ c.deref-in-None.ensures.value ∙ c.args.self.now.kept c.requires.copied in
    brings_written _ _ _ _ _ _ _ same c.as_slice-2.ensures c.in-None.is c.in_ok-place.ensures.none (brought_up _ _ _ _ c.push_reserved-in-None.ensures.items ∙ written) c.new.ensures
