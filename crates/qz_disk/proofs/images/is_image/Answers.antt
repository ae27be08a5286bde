use Rattle.std.proofs.Common.{◌≡◌, ◌⊎◌, inl, inr, ◌≤◌, length, arith, true, sym, ◌∙◌}
use Rattle.qz_disk.specs.Memory.{is_reached}
use Rattle.qz_disk.proofs.MemoryCalls.{image_from, not_reached}
use Rattle.qz_disk.proofs.images.is_image.Goals as goal
use Rattle.qz_disk.proofs.images.is_image.Goals.{else-bytes-synced-2-via-then-bytes-synced-2+else-not-was_reached, else-bytes-synced-2-via-else-bytes-synced-2}

pub returns-clause-yes : goal.returns-clause-yes
returns-clause-yes c _ s synced_is ranges_is =
    let ends : (length c.args.bytes.now ≤ length c.args.synced.now) ⊎ (is_reached c.args.ranges.now (length c.args.bytes.now) ≡ true) = elim c.else-bytes-synced-2.branch [
      | else-bytes-synced-2-via-then-bytes-synced-2+else-not-was_reached w ↦ inr (grind arith)
      | else-bytes-synced-2-via-else-bytes-synced-2 w ↦ inl (omega arith)
    ] in
    image_from s _ _ _ synced_is ranges_is c.if-bytes-synced.false ends (λ i lt. c.loop-k.invariant i (omega (arith, c.loop-k-test.false)))

pub returns-then-not-was_reached-clause-no : goal.returns-then-not-was_reached-clause-no
returns-then-not-was_reached-clause-no c _ s synced_is ranges_is = not_reached s _ _ _ synced_is ranges_is c.if-bytes-synced-2.true (sym c.was_reached.ensures ∙ c.if-not-was_reached.true)
