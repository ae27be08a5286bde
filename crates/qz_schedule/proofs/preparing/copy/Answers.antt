use Rattle.std.proofs.Common.{◌≡◌, w64, to_z, of_z, IsTrue, sym, ◌∙◌, subst, arith}
use Rattle.std.proofs.lemmas.Int.{to_z-of_z}
use Rattle.std.proofs.lemmas.Grind.{common_steps}
use Rattle.qz_civil.specs.Timings.{is_span}
use Rattle.qz_schedule.proofs.Facts.{moment_is_span}
use Rattle.qz_schedule.proofs.preparing.copy.Goals as goal

pub copy_manual-requires-clause-moment : goal.copy_manual-requires-clause-moment
copy_manual-requires-clause-moment c =
    let read : to_z w64 (of_z w64 c.recorded_moment.result) ≡ c.recorded_moment.result = grind (arith, common_steps, to_z-of_z) in
    subst (λ m. IsTrue (is_span m)) (sym (read ∙ c.recorded_moment.ensures)) (moment_is_span c.args.tables.now.tables (to_z w64 (of_z w64 c.entry.inside.at)) c.requires.valid)
