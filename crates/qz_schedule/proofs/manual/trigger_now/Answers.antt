use Rattle.std.proofs.Common.{◌≡◌, ◌+◌, ◌∙◌, ℤ, w64, to_z, of_z, sym, ap, subst, arith}
use Rattle.std.proofs.lemmas.Int.{to_z-of_z}
use Rattle.std.proofs.lemmas.Grind.{common_steps}
use Rattle.qz_types.specs.Outcomes.{accepted}
use Rattle.qz_types.specs.declared.replies.Reply.TheVariants.{Triggered}
use Rattle.qz_tables.specs.Contents.{TablesData}
use Rattle.qz_schedule.proofs.Facts.{manual_is_new, manual_room}
use Rattle.qz_schedule.proofs.Steps.{manual_stored}
use Rattle.qz_schedule.proofs.manual.trigger_now.Goals as goal

pub insert_trigger-requires-clause-absent : goal.insert_trigger-requires-clause-absent
insert_trigger-requires-clause-absent c = manual_is_new c.args.tables.now.tables c.args.moment c.args.row c.requires.valid c.requires.accepts c.requires.row

pub overflow_add-entry : goal.overflow_add-entry
overflow_add-entry c = omega (arith, c.next_entry-entry.ensures, manual_room c.args.tables.now.tables c.args.row.spec.job c.requires.accepts)

pub returns : goal.returns
returns c =
    let read : to_z w64 (of_z w64 c.args.moment) ≡ c.args.moment = grind (arith, common_steps, to_z-of_z) in
    let number : c.set_next_entry.new.self.tables ≡ record c.insert_trigger.new.self.tables { next_entry = c.args.tables.now.tables.next_entry + 1 } =
    ap (λ (d : TablesData). d.tables) c.set_next_entry.ensures ∙ ap (λ n. record c.insert_trigger.new.self.tables { next_entry = n + 1 }) c.next_entry-entry.ensures in
    let moment : c.set_last_moment.new.self.tables ≡ record c.set_next_entry.new.self.tables { last_moment = c.args.moment } =
    subst (λ (m : ℤ). c.set_last_moment.new.self.tables ≡ record c.set_next_entry.new.self.tables { last_moment = m }) read (ap (λ (d : TablesData). d.tables) c.set_last_moment.ensures) in
    manual_stored c.args.tables.now.tables c.insert_trigger.new.self.tables c.set_next_entry.new.self.tables c.set_last_moment.new.self.tables c.args.moment c.args.row c.args.key c.requires.accepts c.requires.row
    c.requires.key c.insert_trigger.ensures.tables number moment
    ∙ ap (λ (m : ℤ). accepted c.set_last_moment.new.self.tables (Triggered c.args.key m)) (sym read)
