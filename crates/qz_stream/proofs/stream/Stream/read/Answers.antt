use Rattle.std.proofs.Common.{rules, ◌++◌, sym, ◌≢◌, ◌∙◌, ap, arith, List, ℕ, take}
use Rattle.std.proofs.Math.Seq.{take-add}
use Rattle.qz_stream.specs.declared.place.Place.TheVariants as place
use Rattle.qz_stream.proofs.Steps.{feeds-both, handed-none}
use Rattle.qz_stream.proofs.stream.Stream.read.Goals as goal

pub loop-used-preserved : goal.loop-used-preserved
loop-used-preserved c =
    let not_whole : c.loop-used.self.place ≢ place.Whole = search rules in (
      omega (arith, c.read_some-used.ensures.used, c.split_at.ensures.back_len),
      feeds-both _ _ _ _ _ _ (handed-none c.loop-used.self not_whole)
          (take-add c.loop-used.used c.read_some-used.result c.args.piece.now ∙ ap (λ (l : List ℕ). take c.loop-used.used c.args.piece.now ++ take c.read_some-used.result l) (sym c.split_at.ensures.back)) c.loop-used.invariant.1 c.read_some-used.ensures.fed,
      λ _. omega (arith, c.read_some-used.ensures.some),
    )
