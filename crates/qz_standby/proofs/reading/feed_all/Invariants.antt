use Rattle.std.proofs.Common.{◌≡◌, ◌≤◌, ◌+◌, ◌-◌, ℕ, List, length}
use Rattle.std.specs.Prelude.{None}
use Rattle.std.specs.Io.KnownBytes.{Consumes}
use Rattle.qz_follow.specs.Following.{IsFollowed, IsEnded}
use Rattle.qz_follow.specs.View.{view, keeps_of}
use Rattle.qz_standby.specs.declared.reading.TheConstants.{STREAM_LIMIT}
use Rattle.qz_standby.proofs.reading.feed_all.Given as goal

-- the bytes so far were fed, and the stream goes on
abbrev pub invariant-loop-fed : goal.invariant-loop-fed
invariant-loop-fed g l = record {
  fed : (bytes : List ℕ) × Consumes (g.S.Source.left l.fn.input) (g.S.Source.left l.input) bytes × IsFollowed bytes (view l.follower) × (l.fed ≡ length bytes);
  fine : (view l.follower).fault ≡ None;
  not_ended : IsEnded (view l.follower) → ⊥;
  keeps : keeps_of l.follower ≡ keeps_of l.initial.follower;
  later : g.S.Source.faults l.fn.input ≤ g.S.Source.faults l.input;
}

abbrev pub decreases-loop-fed : goal.decreases-loop-fed
decreases-loop-fed g l = STREAM_LIMIT + 1 - l.fed
