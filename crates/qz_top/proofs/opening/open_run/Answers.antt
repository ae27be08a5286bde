use Rattle.std.proofs.Common.{◌≡◌, inr, ◌∙◌, sym, ap, subst, refl}
use Rattle.std.proofs.Math.Logic.{∥∥₁_map}
use Rattle.qz_journal.specs.Through.{OnlyReads, OnlyReadsUnless}
use Rattle.qz_journal.specs.declared.errors.MountError.TheVariants as mount
use Rattle.qz_types.specs.declared.stores.Store.TheVariants as store
use Rattle.qz_cluster.specs.View.{view as cluster_view, disk_of_triggers, disk_of_states}
use Rattle.qz_top.specs.Trails.{RunState}
use Rattle.qz_top.proofs.MomentLaws.{begins_on}
use Rattle.qz_top.proofs.opening.open_run.Goals as goal

pub returns-in-Ok-begin-clause-ok : goal.returns-in-Ok-begin-clause-ok
returns-in-Ok-begin-clause-ok g c =
    let mounted = c.in-Ok.ensures in
    let begun = c.in-Ok-begin.ensures in
    begins_on c.args.triggers c.args.states _ _ begun.ok.1 mounted.opened mounted.nothing_held mounted.nothing_added mounted.found mounted.goes_on mounted.rows_go_on
    (λ told. ((told.0, ∥∥₁_map told.1 (λ x. (x.0, mounted.goes_on told.0 x.0 x.1))), mounted.rows_told told.0)) mounted.later mounted.reads (ap (λ (r : RunState). r.is_own) begun.ok.0) begun.began begun.shown

-- both stores were opened, and then there was no memory
pub returns-in-Err-begin-clause-err : goal.returns-in-Err-begin-clause-err
returns-in-Err-begin-clause-err g c o =
    let disk = g.D.Disk in
    let none = c.ran_no_script.ensures in
    let back = c.into_disks-triggers.ensures in
    let same = c.in-Err-begin.ensures.err in
    let triggers_is : c.ran_no_script.result.triggers ≡ disk_of_triggers c.in-Ok.cluster = none.disks.0 ∙ back.0 ∙ ap disk_of_triggers same in
    let states_is : c.ran_no_script.result.states ≡ disk_of_states c.in-Ok.cluster = none.disks.1 ∙ back.1 ∙ ap disk_of_states same in
    record {
      store = store.States;
      error = mount.NoMemory;
      status_is = none.status;
      none = none.trail;
      refused = λ honest. tt;
      why = λ w v held. inr refl;
      first = λ honest. let found = (c.in-Ok.ensures.found honest).0 in (found.version, (cluster_view c.in-Ok.cluster).triggers, c.in-Ok.ensures.opened.0, found.stands);
      reads = λ honest.
          let reads = c.in-Ok.ensures.reads honest in (
            subst (λ d. OnlyReads (disk.state c.args.triggers) (disk.state d)) (sym triggers_is) reads.0,
            subst (λ d. OnlyReadsUnless (mount.NoMemory ≡ mount.Fault) (disk.state c.args.states) (disk.state d)) (sym states_is)
                (record { content = λ kept. reads.1.content; any_moment = reads.1.any_moment; bytes_read = reads.1.bytes_read }),
          );
      untouched = refl;
    }
