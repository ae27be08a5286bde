use Rattle.std.proofs.Common.{ℕ, refl, ap, ◌∙◌, ◌∷◌}
use Rattle.qz_disk.specs.declared.calls.Call.TheVariants.{Len, Sync}
use Rattle.qz_disk.specs.Memory.{Standing}
use Rattle.qz_disk.proofs.Replays.{at_call, split_as, split_same, split_write, split_rest}
use Rattle.qz_disk.proofs.images.unsynced.Goals as goal
use Rattle.qz_disk.proofs.images.unsynced.Goals.{in-Len, in-Read, in-Write+in_ok-insert-in-Write, in-Sync, in-Restart}

pub loop-k-preserved : goal.loop-k-preserved
loop-k-preserved c = elim c.match-call.branch [
  | in-Len w ↦ split_as _ _ _ _ _ _ w.count-is (λ i. (w.ranges-is i).items) (split_same _ c.loop-k.k c.loop-k.count c.loop-k.ranges.items Len (λ s. refl) c.loop-k-test.true (at_call c.args.calls.now c.loop-k.k _ _ c.index-calls-k.is w.in-Len.is) c.loop-k.invariant)
  | in-Read w ↦ split_as _ _ _ _ _ _ w.count-is (λ i. (w.ranges-is i).items) (split_same _ c.loop-k.k c.loop-k.count c.loop-k.ranges.items _ (λ s. refl) c.loop-k-test.true (at_call c.args.calls.now c.loop-k.k _ _ c.index-calls-k.is w.in-Read.is) c.loop-k.invariant)
  | in-Write+in_ok-insert-in-Write w ↦ split_as _ _ _ _ _ _ w.count-is (λ i. (w.ranges-is i).items) (split_write _ c.loop-k.k c.loop-k.count c.loop-k.ranges.items _ w.in-Write.at w.in-Write.bytes (w.in_ok-insert-in-Write.ensures.items ∙ ap (λ (n : ℕ). (w.in-Write.at, n) ∷ c.loop-k.ranges.items) w.len.ensures) c.loop-k-test.true (at_call c.args.calls.now c.loop-k.k _ _ c.index-calls-k.is w.in-Write.is) c.loop-k.invariant)
  | in-Sync w ↦ split_rest _ c.loop-k.k _ _ Sync (λ (s : Standing). s.content) (λ s. refl) c.loop-k-test.true (at_call c.args.calls.now c.loop-k.k _ _ c.index-calls-k.is w.in-Sync.is) w.count-is ((λ i. (w.ranges-is i).items) ∙ w.new.ensures.items)
  | in-Restart w ↦ split_rest _ c.loop-k.k _ _ _ (λ (s : Standing). _) (λ s. refl) c.loop-k-test.true (at_call c.args.calls.now c.loop-k.k _ _ c.index-calls-k.is w.in-Restart.is) w.count-is ((λ i. (w.ranges-is i).items) ∙ w.new-in-Restart.ensures.items)
]
