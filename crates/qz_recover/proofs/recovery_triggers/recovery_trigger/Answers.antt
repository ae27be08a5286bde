use Rattle.std.proofs.Common.{◌≡◌, [], IsTrue, sym, subst, arith}
use Rattle.qz_types.specs.Rows.{FiredData, is_fired, is_trigger_spec}
use Rattle.qz_model.specs.Recovery.{recovery_trigger}
use Rattle.qz_recover.proofs.RecoverySpecs.{recovery_is_spec}
use Rattle.qz_recover.proofs.recovery_triggers.recovery_trigger.Goals as goal

pub recovery_row-requires : goal.recovery_row-requires
recovery_row-requires c =
    let f = c.args.row.now in
    let is : c.in_ok-spec.spec ≡ (recovery_trigger [] [] f).spec = c.in_ok-spec.ensures [] [] in
    let good : IsTrue (is_fired f) = subst (λ (d : FiredData). IsTrue (is_fired d)) c.row.view_is c.row.invariant in
    subst (λ s. IsTrue (is_trigger_spec s)) (sym is) (recovery_is_spec [] [] f good (omega (arith, c.requires.number)) c.requires.scheduled)
