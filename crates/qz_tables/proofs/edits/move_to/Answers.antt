use Rattle.std.proofs.Common.{rules, ◌≡◌, sym, subst, ap, ◌∙◌, w64, to_z, of_z}
use Rattle.std.specs.Prelude.{IsTrue}
use Rattle.qz_types.specs.Changes.{moved_trigger, counting}
use Rattle.qz_types.specs.Rows.{TriggerData, is_trigger}
use Rattle.qz_tables.proofs.Moves.{moved_valid}
use Rattle.qz_tables.proofs.edits.move_to.Goals as goal

pub invariant_of-row : goal.invariant_of-row
invariant_of-row c =
    let start : to_z w64 (of_z w64 c.args.moved.start) ≡ c.args.moved.start = search rules in
    let count : to_z w64 (of_z w64 c.args.moved.count) ≡ c.args.moved.count = search rules in
    let valid = subst (λ (t : TriggerData). IsTrue (is_trigger (moved_trigger c.args.moved t))) (sym c.row.view_is) c.requires in
    moved_valid c.args.moved (record { spec = c.row.inside.spec; next = c.row.inside.next; prev = c.row.inside.prev; times = c.row.inside.times; state = c.row.inside.state }) _ _ c.row.inside.prev c.row.inside.state (c.set_count.ensures ∙ ap (λ n. counting n c.row.inside.spec.timing.kind) count) start valid

pub invariant_of-row-else-is_none : goal.invariant_of-row-else-is_none
invariant_of-row-else-is_none c =
    let start : to_z w64 (of_z w64 c.args.moved.start) ≡ c.args.moved.start = search rules in
    let count : to_z w64 (of_z w64 c.args.moved.count) ≡ c.args.moved.count = search rules in
    let valid = subst (λ (t : TriggerData). IsTrue (is_trigger (moved_trigger c.args.moved t))) (sym c.row.view_is) c.requires in
    moved_valid c.args.moved (record { spec = c.row.inside.spec; next = c.row.inside.next; prev = c.row.inside.prev; times = c.row.inside.times; state = c.row.inside.state }) _ _ c.row.inside.prev c.row.inside.state (c.set_count.ensures ∙ ap (λ n. counting n c.row.inside.spec.timing.kind) count) start valid
