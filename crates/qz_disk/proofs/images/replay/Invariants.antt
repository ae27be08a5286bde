use Rattle.std.proofs.Common.{◌≡◌, drop}
use Rattle.qz_disk.proofs.Replays.{content_after}
use Rattle.qz_disk.proofs.images.replay.Given as goal

abbrev pub invariant-loop-call : goal.invariant-loop-call
invariant-loop-call l = content_after l.content.items (drop l.call-index l.calls) ≡ content_after l.first l.calls
