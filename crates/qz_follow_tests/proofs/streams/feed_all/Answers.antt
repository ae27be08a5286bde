use Rattle.qz_follow_tests.proofs.streams.feed_all.Goals as goal

pub invariant_of-follower : goal.invariant_of-follower
invariant_of-follower c =
    let taken = c.feed_each.new.follower.taken in
    record {
      known = taken.known;
      counted = taken.counted;
      few = taken.few;
      low = taken.low;
      legal = taken.legal;
      replayed = taken.replayed;
      based = taken.based;
      recorded = taken.recorded;
    }
