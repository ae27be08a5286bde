use Rattle.std.proofs.Common.{◌≡◌, ◌+◌, ◌≤◌, sym, subst}
use Rattle.std.specs.Prelude.{option_map, IfSome, IfNone, OnSome, None, Some, slice_index_or}
use Rattle.qz_tables.specs.Slots.{IsWritten}
use Rattle.qz_tables.specs.Ids.{without}
use Rattle.qz_types.specs.Rows.{TriggerData}
use Rattle.qz_types.specs.Sorted.{row_of, IsAscending}
use Rattle.qz_types.specs.Words.{key_cmp}
use Rattle.qz_tables.proofs.ByIds.{without-absent}
use Rattle.qz_tables.proofs.Written.{taken_from}
use Rattle.qz_tables.proofs.timed.Timed.take.Goals as goal

pub invariant_of-self : goal.invariant_of-self
invariant_of-self c = λ t. taken_from c.self.inside.rows.slots c.take.new.self.slots c.leave.new.queue.pairs c.in-Some.slot c.laws.ensures.apart (c.leave.ensures.others t) (c.leave.ensures.gone t) c.take.result (row_of key_cmp (λ (r : TriggerData). r.spec.key) c.args.key.now c.self.inside.rows.rows) c.take.ensures.slot c.take.ensures.was c.take.ensures.row c.in-Some.ensures.found c.in-Some.ensures.filled

pub returns-in_default-clause-rows : goal.returns-in_default-clause-rows
returns-in_default-clause-rows c = rw (← c.self.view_is) (sym (without-absent key_cmp (λ (r : TriggerData). r.spec.key) c.args.key.now c.self.inside.rows.rows c.in_default.ensures.none))

pub returns-in_default-clause-sorted : goal.returns-in_default-clause-sorted
returns-in_default-clause-sorted c = subst (λ v. IsAscending key_cmp (λ (r : TriggerData). r.spec.key) v.rows) c.self.view_is c.laws.ensures.sorted

pub returns-clause-sorted : goal.returns-clause-sorted
returns-clause-sorted c = subst (λ v. IsAscending key_cmp (λ (r : TriggerData). r.spec.key) v.rows) c.self.view_is c.laws.ensures.sorted

pub returns-clause-row : goal.returns-clause-row
returns-clause-row c = subst (λ v. option_map (λ p. p.1) c.take.result ≡ row_of key_cmp (λ (r : TriggerData). r.spec.key) c.args.key.now v.rows) c.self.view_is c.take.ensures.row

pub returns-clause-slot : goal.returns-clause-slot
returns-clause-slot c = subst (λ v. IfSome c.take.result (λ p. IsWritten v.slots c.take.new.self.slots p.0 None)) c.self.view_is c.take.ensures.slot

pub returns-clause-was : goal.returns-clause-was
returns-clause-was c = subst (λ v. IfSome c.take.result (λ p. slice_index_or v.slots p.0 None ≡ Some p.1)) c.self.view_is c.take.ensures.was

pub returns-clause-rows : goal.returns-clause-rows
returns-clause-rows c = subst (λ v. c.take.new.self.rows ≡ without key_cmp (λ (r : TriggerData). r.spec.key) c.args.key.now v.rows) c.self.view_is c.take.ensures.rows

pub returns-clause-freed : goal.returns-clause-freed
returns-clause-freed c = subst (λ v. OnSome c.take.result (v.spare + 1 ≤ c.take.new.self.spare)) c.self.view_is c.take.ensures.freed

pub returns-clause-spare : goal.returns-clause-spare
returns-clause-spare c = subst (λ v. v.spare ≤ c.take.new.self.spare) c.self.view_is c.take.ensures.spare
