use Rattle.std.proofs.Common.{◌≡◌, rules, w64, to_z, of_z, sym, ◌∙◌, arith}
use Rattle.std.proofs.lemmas.Int.{to_z-of_z}
use Rattle.std.proofs.lemmas.Grind.{common_steps}
use Rattle.qz_types.specs.Outcomes.{accepted}
use Rattle.qz_types.specs.Tables.{recorded_moment}
use Rattle.qz_model.specs.Transaction.{transaction}
use Rattle.qz_schedule.proofs.Committed.{stays_valid, trigger_time, trigger_row, trigger_done, manual_clear, manual_row, manual_key, manual_done}
use Rattle.qz_schedule.proofs.committing.commit.Goals as goal

pub returns-in-InPlace-clause-valid : goal.returns-in-InPlace-clause-valid
returns-in-InPlace-clause-valid c =
    stays_valid c.args.tables.now.tables c.commit_in_place.new.tables.tables c.args.entry.now c.commit_in_place.result c.requires.entry c.requires.valid c.commit_in_place.ensures

pub returns-in-Job-clause-valid : goal.returns-in-Job-clause-valid
returns-in-Job-clause-valid c =
    let ok : transaction c.args.tables.now.tables c.args.entry.now ≡ accepted c.add_job.new.tables.tables c.add_job.result = search rules in
    stays_valid c.args.tables.now.tables c.add_job.new.tables.tables c.args.entry.now c.add_job.result c.requires.entry c.requires.valid ok

pub returns-in-Group-clause-valid : goal.returns-in-Group-clause-valid
returns-in-Group-clause-valid c =
    let ok : transaction c.args.tables.now.tables c.args.entry.now ≡ accepted c.pause_group.new.tables.tables c.pause_group.result = search rules in
    stays_valid c.args.tables.now.tables c.pause_group.new.tables.tables c.args.entry.now c.pause_group.result c.requires.entry c.requires.valid ok

pub returns-in-JobGroup-clause-valid : goal.returns-in-JobGroup-clause-valid
returns-in-JobGroup-clause-valid c =
    let ok : transaction c.args.tables.now.tables c.args.entry.now ≡ accepted c.pause_job_group.new.tables.tables c.pause_job_group.result = search rules in
    stays_valid c.args.tables.now.tables c.pause_job_group.new.tables.tables c.args.entry.now c.pause_job_group.result c.requires.entry c.requires.valid ok

pub returns-in-Calendar-clause-valid : goal.returns-in-Calendar-clause-valid
returns-in-Calendar-clause-valid c =
    let ok : transaction c.args.tables.now.tables c.args.entry.now ≡ accepted c.add_calendar.new.tables.tables c.add_calendar.result = search rules in
    stays_valid c.args.tables.now.tables c.add_calendar.new.tables.tables c.args.entry.now c.add_calendar.result c.requires.entry c.requires.valid ok

pub returns-in-Zone-clause-valid : goal.returns-in-Zone-clause-valid
returns-in-Zone-clause-valid c =
    let ok : transaction c.args.tables.now.tables c.args.entry.now ≡ accepted c.add_zone.new.tables.tables c.add_zone.result = search rules in
    stays_valid c.args.tables.now.tables c.add_zone.new.tables.tables c.args.entry.now c.add_zone.result c.requires.entry c.requires.valid ok

pub add_trigger-requires-clause-row : goal.add_trigger-requires-clause-row
add_trigger-requires-clause-row c = trigger_row c.args.tables.now.tables c.args.entry.now c.in-Trigger.row (sym c.in-Trigger.is ∙ c.requires.prepared.holds)

pub add_trigger-requires-clause-time : goal.add_trigger-requires-clause-time
add_trigger-requires-clause-time c =
    trigger_time c.args.tables.now.tables c.args.entry.now c.in-Trigger.row (sym c.in-Trigger.is ∙ c.requires.prepared.holds) c.requires.prepared.accepts

pub returns-in-Trigger-clause-ok : goal.returns-in-Trigger-clause-ok
returns-in-Trigger-clause-ok c =
    let moment : to_z w64 (of_z w64 c.recorded_moment-moment.result) ≡ recorded_moment c.args.tables.now.tables c.args.entry.now.at = grind (arith, common_steps, to_z-of_z) in
    trigger_done c.args.tables.now.tables c.args.entry.now c.in-Trigger.row (sym c.in-Trigger.is ∙ c.requires.prepared.holds) c.requires.prepared.accepts
    c.add_trigger.new.tables.tables (to_z w64 (of_z w64 c.recorded_moment-moment.result)) c.add_trigger.result moment c.add_trigger.ensures

pub returns-in-Trigger-clause-valid : goal.returns-in-Trigger-clause-valid
returns-in-Trigger-clause-valid c =
    stays_valid c.args.tables.now.tables c.add_trigger.new.tables.tables c.args.entry.now c.add_trigger.result c.requires.entry c.requires.valid (returns-in-Trigger-clause-ok c)

pub trigger_now-requires-clause-accepts : goal.trigger_now-requires-clause-accepts
trigger_now-requires-clause-accepts c =
    manual_clear c.args.tables.now.tables c.args.entry.now c.in-Manual.row c.in-Manual.key (sym c.in-Manual.is ∙ c.requires.prepared.holds) c.requires.prepared.accepts

pub trigger_now-requires-clause-row : goal.trigger_now-requires-clause-row
trigger_now-requires-clause-row c =
    let moment : to_z w64 (of_z w64 c.recorded_moment-moment.result) ≡ recorded_moment c.args.tables.now.tables c.args.entry.now.at = grind (arith, common_steps, to_z-of_z) in
    manual_row c.args.tables.now.tables c.args.entry.now c.in-Manual.row c.in-Manual.key (sym c.in-Manual.is ∙ c.requires.prepared.holds) (to_z w64 (of_z w64 c.recorded_moment-moment.result)) moment

pub trigger_now-requires-clause-key : goal.trigger_now-requires-clause-key
trigger_now-requires-clause-key c = manual_key c.args.tables.now.tables c.args.entry.now c.in-Manual.row c.in-Manual.key (sym c.in-Manual.is ∙ c.requires.prepared.holds)

pub returns-in-Manual-clause-ok : goal.returns-in-Manual-clause-ok
returns-in-Manual-clause-ok c =
    let moment : to_z w64 (of_z w64 c.recorded_moment-moment.result) ≡ recorded_moment c.args.tables.now.tables c.args.entry.now.at = grind (arith, common_steps, to_z-of_z) in
    manual_done c.args.tables.now.tables c.args.entry.now c.in-Manual.row c.in-Manual.key (sym c.in-Manual.is ∙ c.requires.prepared.holds)
    c.trigger_now.new.tables.tables (to_z w64 (of_z w64 c.recorded_moment-moment.result)) c.trigger_now.result moment c.trigger_now.ensures

pub returns-in-Manual-clause-valid : goal.returns-in-Manual-clause-valid
returns-in-Manual-clause-valid c =
    stays_valid c.args.tables.now.tables c.trigger_now.new.tables.tables c.args.entry.now c.trigger_now.result c.requires.entry c.requires.valid (returns-in-Manual-clause-ok c)
