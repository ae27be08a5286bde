use Rattle.std.proofs.Common.{◌≡◌, inl, inr, false, refl, sym, ap, ◌∙◌, subst, arith}
use Rattle.qz_generator.specs.Commands.{generated}
use Rattle.qz_model.specs.History.{History}
use Rattle.qz_trigger_store.specs.View.{view, found_of, added_of}
use Rattle.qz_checkin.specs.View.{view as states_view}
use Rattle.qz_cluster.specs.Steps.{ClusterState, is_closed}
use Rattle.qz_run_stores.proofs.Ways.{triggers_begin, states_begin}
use Rattle.qz_top.specs.Found.{count_of}
use Rattle.qz_top.specs.Generating.{FillEnded}
use Rattle.qz_top.specs.NodeRuns.{both}
use Rattle.qz_top.proofs.GeneratingLaws.{both_open, none_closed, none_found, fill_no_ok, fill_rose, filled_rose, kept_on}
use Rattle.qz_top.proofs.NodeRestLaws.{rests_may, may_history}
use Rattle.qz_top.specs.declared.statuses.Status.{Status}
use Rattle.qz_top.proofs.gen_on_disk.generate.Goals as goal

pub returns-then-history_len-gt0-clause-any_moment : goal.returns-then-history_len-gt0-clause-any_moment
returns-then-history_len-gt0-clause-any_moment g c =
    (triggers_begin (λ d honest. g.met.D.Disk.lawful honest d) c.args.triggers, states_begin (λ d honest. g.met.D.Disk.lawful honest d) c.args.states)

pub returns-then-is_old-clause-did : goal.returns-then-is_old-clause-did
returns-then-is_old-clause-did g c =
    let none : count_of (view c.args.triggers).history ≡ 0 = omega (arith, c.history_len.ensures, c.if-history_len-gt0.false) in
    inr (inl (record { none = none; found = sym c.is_old.ensures ∙ c.if-is_old.true; status_is = refl; same = refl; not_called = refl; untouched = refl }))

pub returns-then-is_old-clause-any_moment : goal.returns-then-is_old-clause-any_moment
returns-then-is_old-clause-any_moment g c =
    (triggers_begin (λ d honest. g.met.D.Disk.lawful honest d) c.args.triggers, states_begin (λ d honest. g.met.D.Disk.lawful honest d) c.args.states)

pub fill-requires : goal.fill-requires
fill-requires g c = (both_open (view c.args.triggers).is_open (states_view c.args.states).is_open c.requires.open).0

pub work_and_sum-requires-clause-current : goal.work_and_sum-requires-clause-current
work_and_sum-requires-clause-current g c = c.fill.ensures.current (sym c.is_old.ensures ∙ c.if-is_old.false)

pub work_and_sum-requires-clause-keeps : goal.work_and_sum-requires-clause-keeps
work_and_sum-requires-clause-keeps g c = c.fill.ensures.keeps ∙ c.requires.keeps

pub returns-in-Ok-clause-did : goal.returns-in-Ok-clause-did
returns-in-Ok-clause-did g c =
    let triggers = c.args.triggers in
    let filled = c.fill.new.triggers in
    let fill = c.in-Ok.ensures in
    let ran = c.work_and_sum.ensures.worked in
    let none : count_of (view triggers).history ≡ 0 = omega (arith, c.history_len.ensures, c.if-history_len-gt0.false) in
    let opened = both_open (view triggers).is_open (states_view c.args.states).is_open c.requires.open in
    inr (inr (inr (record {
      none = none;
      current = sym c.is_old.ensures ∙ c.if-is_old.false;
      between = both filled c.args.states;
      filled = fill.filled (states_view c.args.states);
      is_open = none_closed (view filled).is_open (states_view c.args.states).is_open fill.open opened.1;
      ran = record {
        work = ran.work;
        worked_to = ran.worked_to;
        worked = ran.worked;
        told_as = ran.told_as;
        told = ran.told;
        written = λ first. ran.written (fill.found ∙ none_found (found_of triggers) (added_of triggers) (omega (arith, none)));
        rests = ran.rests;
        states_stay = ran.states_stay;
      };
    })))

pub returns-in-Ok-clause-disk : goal.returns-in-Ok-clause-disk
returns-in-Ok-clause-disk g c status =
    let filled = c.fill.new.triggers in
    let opened = both_open (view c.args.triggers).is_open (states_view c.args.states).is_open c.requires.open in
    let still : is_closed (both filled c.args.states) ≡ false = none_closed (view filled).is_open (states_view c.args.states).is_open c.in-Ok.ensures.open opened.1 in
    filled_rose g.D.Disk.honest (generated c.args.workload.now.seed c.args.workload.now.jobs) (both c.args.triggers c.args.states) (both filled c.args.states) (both c.work_and_sum.result.triggers c.work_and_sum.result.states)
    (c.in-Ok.ensures.filled (states_view c.args.states)) (c.work_and_sum.ensures.disk still status)

pub returns-in-Ok-clause-any_moment : goal.returns-in-Ok-clause-any_moment
returns-in-Ok-clause-any_moment g c =
    let fill = c.in-Ok.ensures in
    let ran = c.work_and_sum.ensures.worked in
    let on = ran.worked.went_on in
    let kept = c.work_and_sum.ensures.kept in
    let history = may_history ran.worked_to.triggers (view c.work_and_sum.result.triggers) (rests_may _ _ _ _ ran.rests) in
    let count = ap (λ (h : History). h.base_count) history ∙ on.base_count in
    let base = ap (λ (h : History). h.base) history ∙ on.base in
    let entries = ap (λ (h : History). h.entries) history ∙ on.entries in
    (kept_on c.args.triggers c.fill.new.triggers c.work_and_sum.result.triggers ran.worked.added (count, base) fill.open fill.grows entries fill.any_moment kept.0, kept.1)

pub returns-in-Ok-clause-behind : goal.returns-in-Ok-clause-behind
returns-in-Ok-clause-behind g c = c.work_and_sum.ensures.behind

-- a filling that ended early didn't end with Ok
pub returns-in-Err-clause-behind : goal.returns-in-Err-clause-behind
returns-in-Err-clause-behind g c is still =
    let commands = generated c.args.workload.now.seed c.args.workload.now.jobs in
    let begun : ClusterState = both c.args.triggers c.args.states in
    let left : ClusterState = both c.fill.new.triggers c.args.states in
    absurd (fill_no_ok g.D.Disk.honest commands begun left (subst (λ (s : Status). FillEnded g.D.Disk.honest s commands begun left) is (c.in-Err.ensures.ended (states_view c.args.states))))

pub returns-in-Err-clause-did : goal.returns-in-Err-clause-did
returns-in-Err-clause-did g c =
    let none : count_of (view c.args.triggers).history ≡ 0 = omega (arith, c.history_len.ensures, c.if-history_len-gt0.false) in
    inr (inr (inl (record { none = none; current = sym c.is_old.ensures ∙ c.if-is_old.false; ended = c.in-Err.ensures.ended (states_view c.args.states); not_called = refl; untouched = refl })))

pub returns-in-Err-clause-disk : goal.returns-in-Err-clause-disk
returns-in-Err-clause-disk g c status =
    let commands = generated c.args.workload.now.seed c.args.workload.now.jobs in
    let begun : ClusterState = both c.args.triggers c.args.states in
    let left : ClusterState = both c.fill.new.triggers c.args.states in
    fill_rose g.D.Disk.honest commands begun left (subst (λ (s : Status). FillEnded g.D.Disk.honest s commands begun left) status (c.in-Err.ensures.ended (states_view c.args.states)))

pub returns-in-Err-clause-any_moment : goal.returns-in-Err-clause-any_moment
returns-in-Err-clause-any_moment g c = (c.in-Err.ensures.any_moment, states_begin (λ d honest. g.met.D.Disk.lawful honest d) c.args.states)
