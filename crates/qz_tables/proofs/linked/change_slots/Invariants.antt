use Rattle.std.proofs.Common.{◌≡◌, ℕ, None, take, get_or}
use Rattle.qz_tables.specs.Changes.{trigger_edited}
use Rattle.qz_tables.specs.Slots.{edited_in}
use Rattle.qz_tables.specs.declared.edits.TriggerEdit.TheVariants.{State}
use Rattle.qz_tables.proofs.linked.change_slots.Given as goal

abbrev pub invariant-loop-place : goal.invariant-loop-place
invariant-loop-place l = record {
  each : (s : ℕ) → get_or l.rows.slots s None ≡ edited_in (trigger_edited (State l.fn.change)) (take l.place l.slots) s (get_or l.fn.rows.slots s None);
  order : l.rows.order ≡ l.fn.rows.order;
  spare : l.rows.spare ≡ l.fn.rows.spare;
}
