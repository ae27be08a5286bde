use Rattle.std.proofs.Common.{inl, ap}
use Rattle.std.specs.Prelude.{⊤}
use Rattle.qz_cluster.specs.View.{view as cluster_view}
use Rattle.qz_top.specs.Seen.{view, states_in}
use Rattle.qz_top.proofs.AloneLaws.{alone_new, spares_new}
use Rattle.qz_top.proofs.LossLaws.{recovered_new, recovered_new_end}
use Rattle.qz_top.proofs.OpenedLaws.{plain_of, no_disk_fault}
use Rattle.qz_top.proofs.Under.{run_under}
use Rattle.qz_top.proofs.in_memory.script_in_memory.Goals as goal

pub returns-clause-done : goal.returns-clause-done
returns-clause-done g c =
    let ran = rw c.in-Some.ensures.begun at c.run_lines-status.ensures.run in
    let run = run_under ⊤ _ (λ _. ∣ c.in-Some.ensures.told ∣₁) _ _ _ _ _ ran.0 ran.1 ran.2 ran.3 in
    inl (record {
      triggers_faults = (cluster_view c.in-Some.run'.cluster).triggers.faults;
      states_faults = (cluster_view c.in-Some.run'.cluster).states.faults;
      end = view c.run_lines-status.new.run;
      lines = ran.0;
      readings = ran.1;
      replies = ran.2;
      run = run;
      plain = plain_of _ _ _ _ _ _ _ _ _ run;
      trail_is = ap states_in c.of-trail.ensures;
      recovered = rw c.of-trail.ensures (recovered_new _ _ _ _ _ _ _ _ _ run);
      recovered_end = recovered_new_end _ _ _ _ _ _ _ _ _ run;
      alone = alone_new _ _ _ _ _ _ _ _ _ run;
      spared = spares_new _ _ _ _ _ _ _ _ _ run;
      no_fault = no_disk_fault _ _ _ _ _ _ _ _ _ run;
    })

pub returns-clause-handed : goal.returns-clause-handed
returns-clause-handed g c = inl c.run_lines-status.ensures.handed
