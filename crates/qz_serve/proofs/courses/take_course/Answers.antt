use Rattle.std.proofs.Common.{◌≡◌, rules, to_z, of_z, w64, [], ◌∷◌, ◌++◌, ap, ◌∙◌, length, arith}
use Rattle.qz_serve.proofs.Holding.{proceeds_starved}
use Rattle.qz_serve.proofs.Coursing.{course_named, course_none, declined_named, ends_named, if_ok_map, length-node_names}
use Rattle.qz_serve.proofs.courses.take_course.Goals as goal

pub take_course_of-requires-clause-few : goal.take_course_of-requires-clause-few
take_course_of-requires-clause-few g c κs within = let many = ap length c.in-Ok.ensures.0 ∙ length-node_names c.args.serving.nodes in omega (arith, many, c.requires.serving)

pub returns-in-Ok-clause-took : goal.returns-in-Ok-clause-took
returns-in-Ok-clause-took g c =
    let until : to_z w64 (of_z w64 c.args.serving.until) ≡ c.args.serving.until = search rules in
    if_ok_map _ _ c.take_course_of.result (λ r took. course_named _ _ c.args.serving.until _ _ _ _ _ _ _ _ _ until c.in-Ok.ensures.0 c.in-Ok.ensures.1 took) c.take_course_of.ensures.took

pub returns-in-Ok-clause-ends : goal.returns-in-Ok-clause-ends
returns-in-Ok-clause-ends g c =
    let until : to_z w64 (of_z w64 c.args.serving.until) ≡ c.args.serving.until = search rules in
    if_ok_map _ _ c.take_course_of.result (λ r ends. ends_named _ _ c.args.serving.until _ _ _ _ until (λ i. c.in-Ok.ensures.0 i ++ c.in-Ok.ensures.1 i ∷ []) ends) c.take_course_of.ensures.ends

pub returns-in-Err-clause-took : goal.returns-in-Err-clause-took
returns-in-Err-clause-took g c = course_none _ c.args.serving.until _ _ _ _ _

pub returns-in-Err-clause-proceeds : goal.returns-in-Err-clause-proceeds
returns-in-Err-clause-proceeds g c = proceeds_starved _ c.keep_all.ensures

pub returns-in-Ok-clause-declined : goal.returns-in-Ok-clause-declined
returns-in-Ok-clause-declined g c =
    let until : to_z w64 (of_z w64 c.args.serving.until) ≡ c.args.serving.until = search rules in
    if_ok_map _ _ c.take_course_of.result (λ r declined. declined_named _ _ c.args.serving.until _ _ _ _ _ until (λ i. c.in-Ok.ensures.0 i ++ c.in-Ok.ensures.1 i ∷ []) declined) c.take_course_of.ensures.declined
