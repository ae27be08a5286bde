use Rattle.std.proofs.Common.{◌≡◌, ◌∙◌, inl, List, ℕ, sym, ap, subst}
use Rattle.qz_journal.specs.Through.{OnlyReads}
use Rattle.qz_trigger_store.specs.Bytes.{StandsFrom}
use Rattle.qz_cluster.specs.Steps.{ClusterState}
use Rattle.qz_cluster.specs.View.{view as cluster_view}
use Rattle.qz_top.specs.declared.statuses.Status.TheVariants as status
use Rattle.qz_tell.specs.Histories.{Stands}
use Rattle.qz_tell.proofs.Openings.{read_twice}
use Rattle.qz_tell.proofs.calls.tell_on_disk.Goals as goal

pub returns-in-Ok-clause-done : goal.returns-in-Ok-clause-done
returns-in-Ok-clause-done g c =
    let opened : ClusterState = cluster_view c.in-Ok.cluster in
    let e = c.in-Ok.ensures in
    let back = c.into_disks-triggers in
    let stands : g.D.Disk.honest → Stands g.D.Disk back.result.0 opened.triggers.history =
    λ p. (
      (e.found p).0.version,
      subst (λ (bytes : List ℕ). StandsFrom (e.found p).0.version bytes opened.triggers.history)
          (sym (e.reads p).0.content ∙ ap (λ d. (g.D.Disk.state d).content) (sym back.ensures.0)) (e.found p).0.stands,
    ) in
    inl (record {
      opened = opened;
      are_opened = e.opened;
      found = e.found;
      tells = c.tell-status.ensures.told opened.triggers.history stands;
      ends = c.tell-status.ensures.ends opened.triggers.history stands;
      reads = λ p. (
        read_twice (c.tell-status.result.0 ≡ status.DiskFault) (g.D.Disk.state c.args.triggers) (g.D.Disk.state back.result.0) (g.D.Disk.state c.tell-status.result.2) (g.met.D.Disk.lawful p back.result.0)
            (subst (λ d. OnlyReads (g.D.Disk.state c.args.triggers) (g.D.Disk.state d)) (sym back.ensures.0) (e.reads p).0) (c.tell-status.ensures.reads p),
        subst (λ d. OnlyReads (g.D.Disk.state c.args.states) (g.D.Disk.state d)) (sym back.ensures.1) (e.reads p).1,
      );
    })
