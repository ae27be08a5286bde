use Rattle.std.proofs.Common.{◌≡◌, ◌-◌, ◌≤◌, length, take}
use Rattle.std.specs.Prelude.{Some}
use Rattle.qz_follow.specs.declared.faults.FollowFault.{FollowFault}
use Rattle.qz_follow.specs.Following.{Follows, Keeps}
use Rattle.qz_follow.specs.View.{view, keeps_of}
use Rattle.qz_follow.proofs.follower.Follower.feed.Given as goal

-- so many bytes of the piece were fed
abbrev pub invariant-loop-used : goal.invariant-loop-used
invariant-loop-used l = record {
  used : l.used ≤ length l.piece;
  follows : Follows (take l.used l.piece) (view l.initial.self) (view l.self);
  kept : Keeps (view l.initial.self) (view l.self);
  keeps : keeps_of l.self ≡ keeps_of l.initial.self;
  sticky : (e : FollowFault) → (view l.initial.self).fault ≡ Some e → view l.self ≡ view l.initial.self;
}

abbrev pub decreases-loop-used : goal.decreases-loop-used
decreases-loop-used l = length l.piece - l.used
