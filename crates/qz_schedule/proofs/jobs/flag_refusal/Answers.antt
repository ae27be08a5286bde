use Rattle.std.proofs.Common.{◌≡◌, Some, false, take, sym, ap, subst, arith}
use Rattle.std.proofs.lemmas.Grind.{common_steps}
use Rattle.std.proofs.lemmas.List.{take_all}
use Rattle.std.specs.List.{slice_get, list_any}
use Rattle.qz_model.specs.Jobs.{has_other_flag, flag_refusal}
use Rattle.qz_apply.proofs.Searches.{none_up_to, none_passes}
use Rattle.qz_schedule.proofs.jobs.flag_refusal.Goals as goal

pub loop-place-preserved : goal.loop-place-preserved
loop-place-preserved c =
    let is : slice_get c.args.tables.now.tables.fired c.loop-place.place ≡ Some c.in-Some.row.now = grind (arith, common_steps) in
    let fails : has_other_flag c.args.job.now c.in-Some.row.now ≡ false = cc in
    none_up_to (has_other_flag c.args.job.now) c.args.tables.now.tables.fired c.loop-place.place c.in-Some.row.now is fails c.loop-place.invariant

pub returns : goal.returns
returns c =
    let all : take c.loop-place.place c.args.tables.now.tables.fired ≡ c.args.tables.now.tables.fired = take_all c.loop-place.place c.args.tables.now.tables.fired (omega arith) in
    let none : list_any (has_other_flag c.args.job.now) c.args.tables.now.tables.fired ≡ false = subst (λ rows. list_any (has_other_flag c.args.job.now) rows ≡ false) all c.loop-place.invariant in
    ap flag_refusal (sym (none_passes (has_other_flag c.args.job.now) c.args.tables.now.tables.fired none))
