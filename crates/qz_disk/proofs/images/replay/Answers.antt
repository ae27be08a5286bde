use Rattle.std.proofs.Common.{List, ◌∙◌, sym, ap, arith}
use Rattle.std.proofs.lemmas.List.{drop_all}
use Rattle.qz_disk.specs.declared.calls.Call.{Call}
use Rattle.qz_disk.specs.Memory.{at_rest}
use Rattle.qz_disk.proofs.Replays.{content_after, content_stands}
use Rattle.qz_disk.proofs.images.replay.Goals as goal

pub returns : goal.returns
returns c =
    sym (ap (λ (l : List Call). content_after c.loop-call.content.items l) (drop_all c.loop-call.call-index c.args.calls.now (omega (arith, c.loop-call-test.false))))
    ∙ c.loop-call.invariant
    ∙ content_stands (at_rest c.args.first.now) c.args.calls.now
