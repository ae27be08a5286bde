use Rattle.std.proofs.Common.{◌≡◌, ◌||◌, ℤ, false, map, Option, Some, None, w64, to_z, of_z, option_copied, sym, ap, subst, ◌∙◌, arith}
use Rattle.std.proofs.lemmas.Int.{to_z-of_z}
use Rattle.std.proofs.lemmas.Grind.{common_steps}
use Rattle.qz_types.specs.Rows.{TriggerData}
use Rattle.qz_tables.specs.Due.{due_next}
use Rattle.qz_acquire.specs.Choosing.{may_take}
use Rattle.qz_acquire.specs.Walk.{is_past, unless_past}
use Rattle.qz_acquire.proofs.Walk.{unless_not, unless_so, unless_none}
use Rattle.qz_acquire.proofs.choosing.next_taken.Goals as goal
use Rattle.qz_acquire.proofs.choosing.next_taken.Goals.{in_default-via-in-Some+else-not-is_past, in_default-via-in_default}

pub returns-in-Some : goal.returns-in-Some
returns-in-Some c =
    let e = to_z w64 (of_z w64 c.args.earliest) in
    let l = to_z w64 (of_z w64 c.args.limit) in
    let bound : to_z w64 (of_z w64 c.args.earliest) ≡ c.args.earliest = grind (arith, common_steps, to_z-of_z) in
    let limit : to_z w64 (of_z w64 c.args.limit) ≡ c.args.limit = grind (arith, common_steps, to_z-of_z) in
    let taken = map (λ r. r.now) c.args.taken.now in
    let before : is_past l c.in-Some.trigger.now.next ≡ false = sym (ap (λ v. is_past l v.next) c.trigger.view_is) ∙ sym c.is_past.ensures ∙ c.if-not-is_past.true in
    subst (λ (x : ℤ). Some c.in-Some.trigger.now ≡ unless_past (λ t. is_past c.args.limit t.next) (due_next (option_copied c.args.last) (λ t. is_past c.args.limit t.next || may_take x c.args.limit c.args.tables.now.tables.jobs taken t) c.args.tables.now.tables.triggers)) bound
    (subst (λ (y : ℤ). Some c.in-Some.trigger.now ≡ unless_past (λ t. is_past y t.next) (due_next (option_copied c.args.last) (λ t. is_past y t.next || may_take e y c.args.tables.now.tables.jobs taken t) c.args.tables.now.tables.triggers)) limit
    (unless_not (λ t. is_past l t.next) (due_next (option_copied c.args.last) (λ t. is_past l t.next || may_take e l c.args.tables.now.tables.jobs taken t) c.args.tables.now.tables.triggers) c.in-Some.trigger.now (sym c.due_next.ensures ∙ ap option_copied c.in-Some.is) before))

pub returns-in_default : goal.returns-in_default
returns-in_default c =
    let e = to_z w64 (of_z w64 c.args.earliest) in
    let l = to_z w64 (of_z w64 c.args.limit) in
    let bound : to_z w64 (of_z w64 c.args.earliest) ≡ c.args.earliest = grind (arith, common_steps, to_z-of_z) in
    let limit : to_z w64 (of_z w64 c.args.limit) ≡ c.args.limit = grind (arith, common_steps, to_z-of_z) in
    let taken = map (λ r. r.now) c.args.taken.now in
    let found : Option TriggerData = due_next (option_copied c.args.last) (λ t. is_past l t.next || may_take e l c.args.tables.now.tables.jobs taken t) c.args.tables.now.tables.triggers in
    let none : None ≡ unless_past (λ t. is_past l t.next) found = elim c.in_default.branch [
      | in_default-via-in-Some+else-not-is_past w ↦
          unless_so (λ t. is_past l t.next) found w.in-Some.trigger.now (sym c.due_next.ensures ∙ ap option_copied w.in-Some.is)
          (sym (ap (λ v. is_past l v.next) w.trigger.view_is) ∙ sym w.is_past.ensures ∙ w.if-not-is_past.false)
      | in_default-via-in_default w ↦ unless_none (λ t. is_past l t.next) found (sym c.due_next.ensures ∙ ap option_copied w.in_default.is)
    ] in
    subst (λ (x : ℤ). None ≡ unless_past (λ t. is_past c.args.limit t.next) (due_next (option_copied c.args.last) (λ t. is_past c.args.limit t.next || may_take x c.args.limit c.args.tables.now.tables.jobs taken t) c.args.tables.now.tables.triggers)) bound
    (subst (λ (y : ℤ). None ≡ unless_past (λ t. is_past y t.next) (due_next (option_copied c.args.last) (λ t. is_past y t.next || may_take e y c.args.tables.now.tables.jobs taken t) c.args.tables.now.tables.triggers)) limit none)
