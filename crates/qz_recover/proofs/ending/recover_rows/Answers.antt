use Rattle.std.proofs.Common.{◌≡◌, List, length, fold, sym, ap, ◌∙◌, subst, arith}
use Rattle.qz_types.specs.Rows.{TriggerData}
use Rattle.qz_types.specs.Sorted.{IsAscending}
use Rattle.qz_types.specs.Tables.{SchedulerTables}
use Rattle.qz_types.specs.Words.{key_cmp, put_trigger, without_member}
use Rattle.qz_model.specs.Recovery.{recoveries}
use Rattle.qz_recover.specs.Rows.{AreNew}
use Rattle.qz_recover.proofs.Adding.{triggers_free, new_recoveries, ordered_free, ordered_added}
use Rattle.qz_recover.proofs.Phases.{recovers}
use Rattle.qz_recover.proofs.Facts.{fired_ordered, triggers_ordered, jobs_ordered}
use Rattle.qz_recover.proofs.ending.recover_rows.Goals as goal

pub end_rows-requires : goal.end_rows-requires
end_rows-requires c = record { sorted = fired_ordered c.args.tables.now.tables c.requires.valid }

pub insert_triggers-requires-clause-new : goal.insert_triggers-requires-clause-new
insert_triggers-requires-clause-new c =
    let T = c.args.tables.now.tables in
    let free : c.end_rows.new.tables.tables.triggers ≡ triggers_free T c.args.member.now c.requires.valid = ap (λ (x : SchedulerTables). x.triggers) c.end_rows.ensures.tables in
    subst (λ ts. AreNew ts c.args.added.items) (sym free) (subst (AreNew (triggers_free T c.args.member.now c.requires.valid)) (sym c.requires.added) (new_recoveries T c.args.member.now c.requires.valid))

pub insert_triggers-requires-clause-room : goal.insert_triggers-requires-clause-room
insert_triggers-requires-clause-room c = omega (arith, ap length c.requires.added, c.requires.spare, c.end_rows.ensures.spare.triggers)

pub remove_ended-requires-clause-triggers : goal.remove_ended-requires-clause-triggers
remove_ended-requires-clause-triggers c =
    let T = c.args.tables.now.tables in
    let free : c.end_rows.new.tables.tables.triggers ≡ triggers_free T c.args.member.now c.requires.valid = ap (λ (x : SchedulerTables). x.triggers) c.end_rows.ensures.tables in
    let added : c.insert_triggers.new.tables.tables.triggers ≡ fold (λ ts t. put_trigger t ts) (triggers_free T c.args.member.now c.requires.valid) (recoveries T c.args.member.now) =
    ap (λ (x : SchedulerTables). x.triggers) c.insert_triggers.ensures.tables
    ∙ ap (λ (ts : List TriggerData). fold (λ us t. put_trigger t us) ts c.args.added.items) free
    ∙ ap (fold (λ us t. put_trigger t us) (triggers_free T c.args.member.now c.requires.valid)) c.requires.added in
    subst (IsAscending key_cmp (λ r. r.spec.key)) (sym added)
    (ordered_added (triggers_free T c.args.member.now c.requires.valid) (recoveries T c.args.member.now) (new_recoveries T c.args.member.now c.requires.valid) (ordered_free T c.args.member.now c.requires.valid (triggers_ordered T c.requires.valid)))

pub remove_ended-requires-clause-jobs : goal.remove_ended-requires-clause-jobs
remove_ended-requires-clause-jobs c =
    let kept = ap (λ (x : SchedulerTables). x.jobs) c.insert_triggers.ensures.tables ∙ ap (λ (x : SchedulerTables). x.jobs) c.end_rows.ensures.tables in
    subst (IsAscending key_cmp (λ r. r.key)) (sym kept) (jobs_ordered c.args.tables.now.tables c.requires.valid)

pub returns-clause-tables : goal.returns-clause-tables
returns-clause-tables c =
    let keys : c.deref.result.now ≡ c.args.ended.items = c.deref.ensures.value in
    let node : c.member.inside.node ≡ c.args.member.now.node = ap (λ v. v.node) c.member.view_is in
    let last = c.remove_member-removed.ensures.tables ∙ ap (λ n. record c.remove_ended.new.tables.tables { members = without_member n c.remove_ended.new.tables.tables.members }) node in
    recovers c.args.tables.now.tables c.args.member.now c.end_rows.new.tables.tables c.insert_triggers.new.tables.tables c.remove_ended.new.tables.tables c.remove_member-removed.new.self.tables c.args.added.items c.deref.result.now
    c.requires.added (keys ∙ c.requires.ended) c.end_rows.ensures.tables c.insert_triggers.ensures.tables c.remove_ended.ensures.tables last
