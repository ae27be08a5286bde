use Rattle.std.proofs.Common.{Some, ap, ◌∙◌}
use Rattle.qz_types.specs.Rows.{TriggerData}
use Rattle.qz_types.specs.Sorted.{put}
use Rattle.qz_types.specs.Words.{key_cmp}
use Rattle.qz_tables.proofs.Steps.{but_from, but_written, none_told}
use Rattle.qz_tables.proofs.Written.{written_some}
use Rattle.qz_tables.proofs.timed.Timed.insert.Goals as goal

pub enter-self-inside-requires-clause-filled : goal.enter-self-inside-requires-clause-filled
enter-self-inside-requires-clause-filled c = written_some c.self.inside.rows.slots c.insert-slot.new.self.slots c.insert-slot.result c.args.row c.insert-slot.ensures.slot

pub enter-self-inside-requires-clause-others : goal.enter-self-inside-requires-clause-others
enter-self-inside-requires-clause-others c = λ t. but_written c.self.inside.rows.slots c.insert-slot.new.self.slots c.self.inside.queue.pairs c.insert-slot.result (Some c.args.row) (but_from c.self.inside.rows.slots c.self.inside.queue.pairs c.insert-slot.result (c.self.invariant t)) c.insert-slot.ensures.slot

pub enter-self-inside-requires-clause-absent : goal.enter-self-inside-requires-clause-absent
enter-self-inside-requires-clause-absent c = λ t. none_told c.self.inside.rows.slots c.self.inside.queue.pairs c.insert-slot.result (c.self.invariant t) c.insert-slot.ensures.vacant

pub returns-clause-rows : goal.returns-clause-rows
returns-clause-rows c = c.insert-slot.ensures.rows ∙ ap (λ v. put key_cmp (λ (r : TriggerData). r.spec.key) c.args.row v.rows) c.self.view_is
