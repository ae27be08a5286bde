use Rattle.std.proofs.Common.{◌≡◌, w64, to_z, of_z, arith}
use Rattle.std.proofs.KnownBytes.{Appends-nil}
use Rattle.std.proofs.lemmas.Grind.{common_steps}
use Rattle.std.proofs.lemmas.Int.{to_z-of_z}
use Rattle.qz_top.specs.Seen.{told_of}
use Rattle.qz_top.proofs.MomentLaws.{Shows-part}
use Rattle.qz_top.proofs.OutcomeLaws.{StepDone-err, StepDone-ok, StepDone-part}
use Rattle.qz_top.proofs.line_handler.do_step.Goals as goal

pub returns-in-Err-clause-done : goal.returns-in-Err-clause-done
returns-in-Err-clause-done g c =
    let same : to_z w64 (of_z w64 c.reading_of-at.result) ≡ c.reading_of-at.result = grind (arith, common_steps, to_z-of_z) in
    StepDone-err (told_of c.args.run.now) c.in-Err.end c.args.given c.reading_of-at.result _ _ _ _ c.reading_of-at.ensures.own c.reading_of-at.ensures.told (Appends-nil _) (rw same at c.in-Err.ensures.err)

pub returns-in-Ok-write_all-clause-done : goal.returns-in-Ok-write_all-clause-done
returns-in-Ok-write_all-clause-done g c =
    let same : to_z w64 (of_z w64 c.reading_of-at.result) ≡ c.reading_of-at.result = grind (arith, common_steps, to_z-of_z) in
    StepDone-ok c.args.given c.reading_of-at.result _ _ _ _ c.in-Ok.text c.reading_of-at.ensures.own c.reading_of-at.ensures.told (rw same at c.in-Ok.ensures.ok)
    (rw (c.as_bytes.ensures.value, c.as_str.ensures) at c.in-Ok-write_all.ensures.ok)

pub returns-clause-done : goal.returns-clause-done
returns-clause-done g c =
    let same : to_z w64 (of_z w64 c.reading_of-at.result) ≡ c.reading_of-at.result = grind (arith, common_steps, to_z-of_z) in
    StepDone-part c.args.given c.reading_of-at.result _ _ _ _ c.in-Ok.text c.reading_of-at.ensures.own c.reading_of-at.ensures.told (rw same at c.in-Ok.ensures.ok)
    (rw (c.as_bytes.ensures.value, c.as_str.ensures) at c.in-Err-write_all.ensures.part)

pub returns-clause-shows : goal.returns-clause-shows
returns-clause-shows g c = Shows-part _ _ _ c.in-Ok.ensures.shows
