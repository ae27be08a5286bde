use Rattle.std.proofs.Common.{◌∙◌, inl}
use Rattle.qz_trigger_store.specs.View.{view as triggers_view}
use Rattle.qz_serve.proofs.Boarding.{begins_on}
use Rattle.qz_serve.proofs.Finishing.{disk_failed, ended_as, keeps_still, served_by}
use Rattle.qz_serve.proofs.calls.serve_opened.Goals as goal

pub take_course-requires-clause-both_open : goal.take_course-requires-clause-both_open
take_course-requires-clause-both_open g c κs within = c.requires.both_open

pub end_call-requires-clause-keeps : goal.end_call-requires-clause-keeps
end_call-requires-clause-keeps g c = keeps_still c.args.triggers _ c.requires.keeps c.in-Ok-take_course.ensures.proceeds.kept.triggers

pub returns-in-Ok-take_course-clause-done : goal.returns-in-Ok-take_course-clause-done
returns-in-Ok-take_course-clause-done g c first second opened =
    let begun = (triggers_view c.args.triggers).history.entries in
    let ended = c.end_call.ensures.ended c.args.serving.looks begun (begins_on _ _ c.in-Ok-take_course.ensures.proceeds.kept.grew.triggers) (c.in-Ok-take_course.ensures.plan ∙ c.in-Ok.ensures.plan) in
    inl (served_by _ c.args.serving _ _ first second (record { alloc = c.args.alloc; triggers = record { store = c.args.triggers }; states = record { store = c.args.states } }) _ c.in-Ok-take_course.cause _ _ _ opened c.in-Ok-take_course.ensures.took c.in-Ok-take_course.ensures.ends c.in-Ok-take_course.ensures.declined c.in-Ok-take_course.ensures.proceeds (ended_as _ _ _ _ _ _ _ _ c.status_of.ensures.value ended))

pub returns-in-Ok-take_course-clause-disk : goal.returns-in-Ok-take_course-clause-disk
returns-in-Ok-take_course-clause-disk g c first second opened is =
    let begun = (triggers_view c.args.triggers).history.entries in
    let ended = c.end_call.ensures.ended c.args.serving.looks begun (begins_on _ _ c.in-Ok-take_course.ensures.proceeds.kept.grew.triggers) (c.in-Ok-take_course.ensures.plan ∙ c.in-Ok.ensures.plan) in
    disk_failed first second (record { alloc = c.args.alloc; triggers = record { store = c.args.triggers }; states = record { store = c.args.states } }) _ c.in-Ok-take_course.cause c.args.serving.looks begun _ _ _ opened c.in-Ok-take_course.ensures.proceeds (ended_as _ _ _ _ _ _ _ _ c.status_of.ensures.value ended) is
