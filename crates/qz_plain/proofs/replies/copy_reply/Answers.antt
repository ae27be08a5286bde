use Rattle.std.proofs.Common.{◌≡◌, w64, to_z, of_z, subst, arith}
use Rattle.std.proofs.lemmas.Int.{to_z-of_z}
use Rattle.std.proofs.lemmas.Grind.{common_steps}
use Rattle.qz_types.specs.Tables.{recorded_moment}
use Rattle.qz_plain.specs.Prepared.{Prepares}
use Rattle.qz_plain.proofs.ReplyCopies.{acquire_copies}
use Rattle.qz_plain.proofs.replies.copy_reply.Goals as goal

pub returns-in-Acquire : goal.returns-in-Acquire
returns-in-Acquire c =
    let D = c.args.tables.now in
    let moment : to_z w64 (of_z w64 c.recorded_moment-moment.result) ≡ recorded_moment D.tables c.args.entry.now.at = grind (arith, common_steps, to_z-of_z) in
    acquire_copies D c.args.entry.now c.in-Acquire.change c.copy_acquired.result (to_z w64 (of_z w64 c.recorded_moment-moment.result)) (subst (Prepares D c.args.entry.now) c.in-Acquire.is c.requires) moment c.copy_acquired.ensures
