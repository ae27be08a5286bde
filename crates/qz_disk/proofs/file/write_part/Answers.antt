use Rattle.std.proofs.Common.{ap, ◌∙◌, arith}
use Rattle.std.specs.Prelude.{Err}
use Rattle.qz_disk.proofs.Handles.{measured_then, part_torn}
use Rattle.qz_disk.proofs.file.write_part.Goals as goal

pub returns-in-Err-Failed-clause-told : goal.returns-in-Err-Failed-clause-told
returns-in-Err-Failed-clause-told g c h = part_torn _ _ _ _ _ _ _ (c.loop-try.invariant.told h) (c.in-Err-Failed.ensures.told h)

pub loop-try-preserved : goal.loop-try-preserved
loop-try-preserved g c = record {
  later = omega (arith, c.loop-try.invariant.later, c.write_at.ensures.cause.later);
  rose = λ _. omega (arith, c.loop-try.invariant.later, c.in-Err-Interrupted.ensures.cause.failed);
  length = c.in-Err-Interrupted.ensures.interrupted_length (ap Err c.in-Err-Interrupted.field-0-is) ∙ c.loop-try.invariant.length;
  told = λ h. measured_then _ _ _ (c.loop-try.invariant.told h) (c.in-Err-Interrupted.ensures.interrupted h (ap Err c.in-Err-Interrupted.field-0-is));
}
