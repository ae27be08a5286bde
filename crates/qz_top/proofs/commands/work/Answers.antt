use Rattle.std.proofs.Common.{inr, refl}
use Rattle.qz_top.proofs.AskedLaws.{done_at, uses_at, cause_at, caused_at}
use Rattle.qz_top.proofs.commands.work.Goals as goal

pub returns-in-Ok-clause-done : goal.returns-in-Ok-clause-done
returns-in-Ok-clause-done g c = done_at _ _ _ _ _ _ _ _ _ c.in-Ok.ensures.value c.do_as_asked.ensures.done

pub returns-in-Ok-clause-jobs : goal.returns-in-Ok-clause-jobs
returns-in-Ok-clause-jobs g c = uses_at _ _ _ _ c.in-Ok.ensures.value c.do_as_asked.ensures.jobs

pub returns-in-Ok-clause-cause : goal.returns-in-Ok-clause-cause
returns-in-Ok-clause-cause g c = cause_at _ _ _ _ _ c.in-Ok.ensures.value c.do_as_asked.ensures.cause

pub returns-in-Ok-clause-handed : goal.returns-in-Ok-clause-handed
returns-in-Ok-clause-handed g c = c.do_as_asked.ensures.handed

pub returns-in-Err-clause-done : goal.returns-in-Err-clause-done
returns-in-Err-clause-done g c =
    let none = c.ran_no_script.ensures in
    done_at _ _ _ _ _ _ _ _ _ c.in-Err.ensures.value
    (record { refused = none.status; no_trail = none.trail; untouched = refl; disks = record { triggers_stay = none.disks.0; states_stay = none.disks.1 } })

pub returns-in-Err-clause-cause : goal.returns-in-Err-clause-cause
returns-in-Err-clause-cause g c =
    let status = c.ran_no_script.ensures.status in
    caused_at _ _ _ _ _ c.in-Err.ensures.value (λ fault is. cc) (λ is. absurd cc) (λ is. absurd cc) (λ is. absurd cc)

pub returns-in-Err-clause-jobs : goal.returns-in-Err-clause-jobs
returns-in-Err-clause-jobs g c = uses_at _ _ _ _ c.in-Err.ensures.value refl

pub returns-in-Err-clause-handed : goal.returns-in-Err-clause-handed
returns-in-Err-clause-handed g c = inr refl
