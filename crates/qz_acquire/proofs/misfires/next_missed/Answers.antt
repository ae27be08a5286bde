use Rattle.std.proofs.Common.{◌≡◌, ◌||◌, ℤ, false, Option, Some, None, w64, to_z, of_z, option_copied, sym, ap, subst, ◌∙◌, arith}
use Rattle.std.proofs.lemmas.Int.{to_z-of_z}
use Rattle.std.proofs.lemmas.Grind.{common_steps}
use Rattle.qz_types.specs.Rows.{TriggerData}
use Rattle.qz_tables.specs.Due.{due_next}
use Rattle.qz_acquire.specs.Walk.{is_from, is_missed, unless_past}
use Rattle.qz_acquire.proofs.Walk.{unless_not, unless_so, unless_none}
use Rattle.qz_acquire.proofs.misfires.next_missed.Goals as goal
use Rattle.qz_acquire.proofs.misfires.next_missed.Goals.{in_default-via-in-Some+else-not-is_from, in_default-via-in_default}

pub returns-in-Some : goal.returns-in-Some
returns-in-Some c =
    let e = to_z w64 (of_z w64 c.args.earliest) in
    let bound : to_z w64 (of_z w64 c.args.earliest) ≡ c.args.earliest = grind (arith, common_steps, to_z-of_z) in
    let before : is_from e c.in-Some.trigger.now.next ≡ false = sym (ap (λ v. is_from e v.next) c.trigger.view_is) ∙ sym c.is_from.ensures ∙ c.if-not-is_from.true in
    subst (λ (x : ℤ). Some c.in-Some.trigger.now ≡ unless_past (λ t. is_from x t.next) (due_next (option_copied c.args.last) (λ t. is_from x t.next || is_missed x t) c.args.tables.now.tables.triggers)) bound
    (unless_not (λ t. is_from e t.next) (due_next (option_copied c.args.last) (λ t. is_from e t.next || is_missed e t) c.args.tables.now.tables.triggers) c.in-Some.trigger.now (sym c.due_next.ensures ∙ ap option_copied c.in-Some.is) before)

pub returns-in_default : goal.returns-in_default
returns-in_default c =
    let e = to_z w64 (of_z w64 c.args.earliest) in
    let bound : to_z w64 (of_z w64 c.args.earliest) ≡ c.args.earliest = grind (arith, common_steps, to_z-of_z) in
    let found : Option TriggerData = due_next (option_copied c.args.last) (λ t. is_from e t.next || is_missed e t) c.args.tables.now.tables.triggers in
    let none : None ≡ unless_past (λ t. is_from e t.next) found = elim c.in_default.branch [
      | in_default-via-in-Some+else-not-is_from w ↦
          unless_so (λ t. is_from e t.next) found w.in-Some.trigger.now (sym c.due_next.ensures ∙ ap option_copied w.in-Some.is)
          (sym (ap (λ v. is_from e v.next) w.trigger.view_is) ∙ sym w.is_from.ensures ∙ w.if-not-is_from.false)
      | in_default-via-in_default w ↦ unless_none (λ t. is_from e t.next) found (sym c.due_next.ensures ∙ ap option_copied w.in_default.is)
    ] in
    subst (λ (x : ℤ). None ≡ unless_past (λ t. is_from x t.next) (due_next (option_copied c.args.last) (λ t. is_from x t.next || is_missed x t) c.args.tables.now.tables.triggers)) bound none
