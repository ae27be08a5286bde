use Rattle.std.proofs.Common.{◌≡◌, IsTrue, sym, subst, arith}
use Rattle.std.proofs.lemmas.Grind.{common_steps}
use Rattle.qz_types.specs.Rows.{is_trigger_spec}
use Rattle.qz_model.specs.Triggers.{manual_trigger}
use Rattle.qz_schedule.proofs.Facts.{manual_is_spec, manual_room}
use Rattle.qz_schedule.proofs.manual.copy_manual.Goals as goal

pub new_trigger-row-requires : goal.new_trigger-row-requires
new_trigger-row-requires c =
    let is : c.in_ok-spec.spec ≡ manual_trigger c.args.moment c.args.tables.now.tables.next_entry c.args.job.now = grind (arith, common_steps) in
    let room = manual_room c.args.tables.now.tables c.args.job.now c.requires.accepts in
    subst (λ s. IsTrue (is_trigger_spec s)) (sym is) (manual_is_spec c.args.moment c.args.tables.now.tables.next_entry c.args.job.now c.requires.moment c.requires.job (omega (arith, room)))
