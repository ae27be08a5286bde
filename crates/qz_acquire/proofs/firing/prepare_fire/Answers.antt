use Rattle.std.proofs.Common.{◌≡◌, rules, Some, w64, to_z, of_z, sym, ap, ◌∙◌, arith}
use Rattle.std.proofs.lemmas.Int.{to_z-of_z}
use Rattle.std.proofs.lemmas.Grind.{common_steps}
use Rattle.qz_types.specs.Outcomes.{IsAccepted}
use Rattle.qz_types.specs.Words.{fired_of}
use Rattle.qz_model.specs.Firing.{fire_one, fire}
use Rattle.qz_model.specs.Tests.{stored_job}
use Rattle.qz_model.proofs.RowLaws.{fired_of-entry}
use Rattle.qz_acquire.proofs.Firings.{fires, fired_as}
use Rattle.qz_acquire.proofs.firing.prepare_fire.Goals as goal

pub following-next-requires-clause-taken : goal.following-next-requires-clause-taken
following-next-requires-clause-taken c =
    let is : IsAccepted (fire c.args.tables.now.tables c.args.moment c.args.me.now c.args.entry) = search rules in
    (fires c.args.tables.now.tables c.args.moment c.args.me.now c.args.entry c.in-Some-get_fired.row.now is (sym c.in-Some-get_fired.ensures.row)).taken

pub job_of_row-job-requires-clause-taken : goal.job_of_row-job-requires-clause-taken
job_of_row-job-requires-clause-taken c =
    let is : IsAccepted (fire c.args.tables.now.tables c.args.moment c.args.me.now c.args.entry) = search rules in
    (fires c.args.tables.now.tables c.args.moment c.args.me.now c.args.entry c.in-Some-get_fired.row.now is (sym c.in-Some-get_fired.ensures.row)).taken

pub returns-clause-ok : goal.returns-clause-ok
returns-clause-ok c =
    let T = c.args.tables.now.tables in
    let f = c.in-Some-get_fired.row.now in
    let is : IsAccepted (fire T c.args.moment c.args.me.now c.args.entry) = search rules in
    let stored : fired_of c.args.entry T.fired ≡ Some f = sym c.in-Some-get_fired.ensures.row in
    let begins = fires T c.args.moment c.args.me.now c.args.entry f is stored in
    let number = fired_of-entry c.args.entry f T.fired stored in
    let trigger : c.in_ok-trigger.trigger ≡ f.trigger = grind (arith, common_steps) in
    let job : c.in_ok-trigger.job ≡ stored_job f.job T.jobs = grind (arith, common_steps) in
    let scheduled : to_z w64 (of_z w64 c.row.inside.scheduled) ≡ f.scheduled = grind (arith, common_steps, to_z-of_z) in
    begins.outcome ∙ ap (fire_one T c.args.moment f (stored_job f.job T.jobs)) (sym c.following-next.ensures)
    ∙ fired_as T c.args.moment (to_z w64 (of_z w64 c.row.inside.scheduled)) f c.args.entry c.in_ok-trigger.trigger c.in_ok-trigger.job c.following-next.result scheduled number trigger job
