-- What the deletion of a trigger comes to, step by step.
use Rattle.std.proofs.Common.{◌≡◌, Some, None, refl, sym, ap, ◌∙◌}
use Rattle.qz_types.specs.Rows.{TriggerData}
use Rattle.qz_types.specs.declared.keys.Key.{Key}
use Rattle.qz_types.specs.Changes.{without_acquired}
use Rattle.qz_types.specs.Tables.{SchedulerTables}
use Rattle.qz_types.specs.Words.{same_key, trigger_of, without_trigger}
use Rattle.qz_model.specs.Jobs.{without_orphan_of}
use Rattle.qz_model.specs.Tests.{is_row_of_trigger}
use Rattle.qz_model.specs.Triggers.{without_trigger_and_orphan}
use Rattle.qz_apply.proofs.JobLists.{key_of_trigger}

-- the trigger goes, then its acquired row, then its job
pub deleted_is : (T U V W : SchedulerTables) (key job : Key) (t : TriggerData) → trigger_of key T.triggers ≡ Some t → job ≡ t.spec.job
    → U ≡ record T { triggers = without_trigger key T.triggers } → V ≡ record U { fired = without_acquired (λ f. same_key key f.trigger) U.fired }
    → W ≡ record V { jobs = without_orphan_of job V.triggers V.jobs } → W ≡ without_trigger_and_orphan T (trigger_of key T.triggers)
unfolding without_trigger_and_orphan
deleted_is T U V W key job t found same trigger row orphan =
    orphan ∙ ap (λ (v : SchedulerTables). record v { jobs = without_orphan_of job v.triggers v.jobs })
    (row ∙ ap (λ (u : SchedulerTables). record u { fired = without_acquired (λ f. same_key key f.trigger) u.fired }) trigger)
    ∙ ap (λ (j : Key). record T { triggers = without_trigger key T.triggers; fired = without_acquired (is_row_of_trigger key) T.fired; jobs = without_orphan_of j (without_trigger key T.triggers) T.jobs }) same
    ∙ ap (λ (k : Key). record T { triggers = without_trigger k T.triggers; fired = without_acquired (is_row_of_trigger k) T.fired; jobs = without_orphan_of t.spec.job (without_trigger k T.triggers) T.jobs })
    (key_of_trigger key t T.triggers found)
    ∙ ap (without_trigger_and_orphan T) (sym found)

-- where there is no trigger, none goes
pub none_goes : (T : SchedulerTables) → without_trigger_and_orphan T None ≡ T
unfolding without_trigger_and_orphan
none_goes T = refl
