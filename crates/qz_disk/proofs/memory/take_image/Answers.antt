use Rattle.std.proofs.Common.{drop, List, ℕ, ap, ◌∙◌, drop-drop, arith}
use Rattle.qz_disk.proofs.memory.take_image.Goals as goal

pub loop-turn-preserved : goal.loop-turn-preserved
loop-turn-preserved c = c.remove.ensures.items ∙ ap (λ (l : List (List ℕ)). drop 1 l) c.loop-turn.invariant ∙ drop-drop 1 c.loop-turn._turn c.args.images.now ∙ ap (λ (n : ℕ). drop n c.args.images.now) (omega arith)

pub returns-clause-left : goal.returns-clause-left
returns-clause-left c = c.remove-2.ensures.items ∙ ap (λ (l : List (List ℕ)). drop 1 l) c.loop-turn.invariant ∙ drop-drop 1 c.loop-turn._turn c.args.images.now ∙ ap (λ (n : ℕ). drop n c.args.images.now) (omega (arith, c.loop-turn-test.false, c.loop-turn.auto._turn-end))
