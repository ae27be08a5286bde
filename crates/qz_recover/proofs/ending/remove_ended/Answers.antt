use Rattle.std.proofs.Common.{◌≡◌, sym, ◌∙◌}
use Rattle.qz_types.specs.Words.{trigger_of}
use Rattle.qz_model.specs.Completing.{finished}
use Rattle.qz_model.specs.Triggers.{without_trigger_and_orphan}
use Rattle.qz_recover.proofs.Phases.{keeps_on, left_after, left_none, ordered_after, ordered_jobs_after}
use Rattle.qz_recover.proofs.ending.remove_ended.Goals as goal

pub loop-key-preserved : goal.loop-key-preserved
loop-key-preserved c =
    let T = c.loop-key.tables.tables in
    let U = c.remove_finished.new.tables.tables in
    let key = c.key-item.result in
    let step : U ≡ without_trigger_and_orphan T (finished T.fired (trigger_of key T.triggers)) = c.remove_finished.ensures.tables in (
      ordered_after T U c.args.keys.now c.loop-key.key-index key c.loop-key.invariant.0 c.loop-key.invariant.1 step,
      ordered_jobs_after T U c.args.keys.now c.loop-key.key-index key c.loop-key.invariant.0 c.loop-key.invariant.1 step,
      left_after T U c.args.keys.now c.loop-key.key-index key c.loop-key.invariant.0 c.loop-key.invariant.1 step c.loop-key-test.true c.key-item.is ∙ c.loop-key.invariant.2,
      keeps_on c.loop-key.invariant.3 c.remove_finished.ensures.spare,
    )

pub returns-clause-tables : goal.returns-clause-tables
returns-clause-tables c = sym (left_none c.loop-key.tables.tables c.args.keys.now c.loop-key.key-index c.loop-key-test.false) ∙ c.loop-key.invariant.2
