use Rattle.std.proofs.Common.{Some, ap, sym, ◌∙◌}
use Rattle.qz_types.specs.Rows.{TriggerData}
use Rattle.qz_types.specs.Sorted.{row_of}
use Rattle.qz_types.specs.Words.{key_cmp}
use Rattle.qz_tables.specs.Ids.{changed_at}
use Rattle.qz_tables.proofs.LinkLemmas.{trigger_key}
use Rattle.qz_tables.proofs.Steps.{but_from, but_written, some_told, own_written}
use Rattle.qz_tables.proofs.Written.{replaced_written, written_some}
use Rattle.qz_tables.proofs.timed.Timed.change.Goals as goal

pub follow-requires-clause-filled : goal.follow-requires-clause-filled
follow-requires-clause-filled c = written_some c.self.inside.rows.slots c.change-slot.new.self.slots c.change-slot.result.0 c.args.row c.change-slot.ensures.slot

pub follow-requires-clause-others : goal.follow-requires-clause-others
follow-requires-clause-others c = λ t. but_written c.self.inside.rows.slots c.change-slot.new.self.slots c.self.inside.queue.pairs c.change-slot.result.0 (Some c.args.row) (but_from c.self.inside.rows.slots c.self.inside.queue.pairs c.change-slot.result.0 (c.self.invariant t)) c.change-slot.ensures.slot

pub follow-requires-clause-present : goal.follow-requires-clause-present
follow-requires-clause-present c = λ t. some_told c.self.inside.rows.slots c.self.inside.queue.pairs c.change-slot.result.0 c.change-slot.result.1 (c.self.invariant t) c.change-slot.ensures.was

pub follow-requires-clause-own : goal.follow-requires-clause-own
follow-requires-clause-own c = λ t. own_written c.self.inside.rows.slots c.change-slot.new.self.slots c.self.inside.queue.pairs c.change-slot.result.0 c.change-slot.result.1 c.args.row (c.self.invariant t) c.change-slot.ensures.was c.change-slot.ensures.slot.changed (trigger_key c.args.row.spec.key c.change-slot.result.1 c.self.inside.rows.rows (sym c.change-slot.ensures.row))

pub returns-clause-slots : goal.returns-clause-slots
returns-clause-slots c = rw (← c.self.view_is) (replaced_written c.self.inside.rows.slots c.change-slot.new.self.slots c.change-slot.result.0 c.change-slot.result.1 c.args.row c.change-slot.ensures.was c.change-slot.ensures.slot)

pub returns-clause-row : goal.returns-clause-row
returns-clause-row c = c.change-slot.ensures.row ∙ ap (λ v. row_of key_cmp (λ (r : TriggerData). r.spec.key) c.args.row.spec.key v.rows) c.self.view_is

pub returns-clause-rows : goal.returns-clause-rows
returns-clause-rows c = c.change-slot.ensures.rows ∙ ap (λ v. changed_at key_cmp (λ (r : TriggerData). r.spec.key) c.args.row.spec.key (λ _. c.args.row) v.rows) c.self.view_is
