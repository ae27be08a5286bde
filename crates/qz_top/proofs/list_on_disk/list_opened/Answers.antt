use Rattle.std.proofs.Common.{ap, ◌∙◌, ◌∷◌, []}
use Rattle.qz_cluster.specs.View.{view as cluster_view}
use Rattle.qz_cluster.specs.declared.clusters.Cluster.{Cluster}
use Rattle.qz_top.specs.Seen.{states_of}
use Rattle.qz_top.proofs.list_on_disk.list_opened.Goals as goal

pub returns-clause-done : goal.returns-clause-done
returns-clause-done g c triggers states begins =
    let end = c.end.ensures in
    record {
      opened = cluster_view c.args.run.cluster;
      are_opened = begins.are_opened;
      found = begins.found;
      written = rw end.status c.list-status.ensures.written;
      trail_is = end.trail ∙ ap states_of begins.trail ∙ ap (λ (x : Cluster _ _). cluster_view x ∷ []) begins.shown;
      reads = λ honest. rw (end.disks.0, end.disks.1) (begins.reads honest);
    }
