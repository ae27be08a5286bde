use Rattle.std.proofs.Common.{inl, inr, refl, sym, ap, ◌∙◌, arith}
use Rattle.qz_cluster.proofs.Founds.{found_in}
use Rattle.qz_stores.proofs.Moments.{now}
use Rattle.qz_trigger_store.specs.Laws.{trigger_lawful}
use Rattle.qz_trigger_store.specs.View.{view, disk_of}
use Rattle.qz_top.proofs.StandingLaws.{triggers_sound, store_recovers}
use Rattle.qz_top.proofs.migrating.migrate.Goals as goal

pub upgrade-status-requires : goal.upgrade-status-requires
upgrade-status-requires g c = c.in-Ok.ensures.opened.is_open

pub returns-in-Ok-clause-done : goal.returns-in-Ok-clause-done
returns-in-Ok-clause-done g c =
    let store = c.in-Ok.store in
    let new = c.upgrade-status.new.store in
    let mounted = c.in-Ok.ensures in
    let did = c.upgrade-status.ensures in
    let end = c.ran_no_script.ensures in
    let disk = end.disks.0 ∙ c.into_disk.ensures in
    inl (record {
      opened = view store;
      is_opened = mounted.opened;
      found = λ honest. found_in (g.D.Disk.state c.args.triggers).content store (mounted.bytes honest).1 mounted.nothing_added mounted.begins (mounted.stands honest) (mounted.without_slots honest) (mounted.whole honest);
      at = did.done.0;
      told = did.done.1;
      end = view new;
      upgrades = rw end.status did.done.2;
      states_stay = end.disks.1;
      no_trail = end.trail;
      faults = ap g.D.Disk.faults disk;
      sound = triggers_sound new;
      recovered = store_recovers new;
      images = λ honest w held b is. now trigger_lawful new.store honest w (did.any_moment honest w (mounted.whole honest w held).0).0 b (rw disk at is);
      reads = λ honest same. rw (disk ∙ did.unless_changed same) (mounted.reads honest);
      any_moment = λ honest w held. (disk_of store, mounted.reads honest, rw disk (did.any_moment honest w (mounted.whole honest w held).0).1);
    })

pub returns-in-Ok-clause-disk : goal.returns-in-Ok-clause-disk
returns-in-Ok-clause-disk g c is =
    let end = c.ran_no_script.ensures in
    let rose = c.upgrade-status.ensures.disk (sym end.status ∙ is) in
    rw (end.disks.0 ∙ c.into_disk.ensures) (omega (arith, c.in-Ok.ensures.later, rose))

pub returns-in-Err-clause-done : goal.returns-in-Err-clause-done
returns-in-Err-clause-done g c =
    let end = c.ran_no_script-in-Err.ensures in
    let refused = c.in-Err.ensures in
    inr (record {
      error = c.in-Err.error;
      status_is = end.status ∙ c.refusal_of.ensures;
      refused = refused.refused;
      why = refused.whole;
      reads = λ honest. rw end.disks.0 (refused.reads_err honest);
      states_stay = end.disks.1;
      no_trail = end.trail;
      not_asked = refl;
      untouched = refl;
    })
