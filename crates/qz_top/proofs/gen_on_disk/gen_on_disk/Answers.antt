use Rattle.qz_cluster.proofs.Closings.{ready_open}
use Rattle.qz_cluster.specs.Steps.{ClusterState}
use Rattle.qz_cluster.specs.View.{view as cluster_view}
use Rattle.qz_top.proofs.OpenedLaws.{opened_ready}
use Rattle.qz_top.proofs.gen_on_disk.gen_on_disk.Goals as goal

pub gen_opened-requires-clause-open : goal.gen_opened-requires-clause-open
gen_opened-requires-clause-open g c =
    let opened : ClusterState = cluster_view c.in-Ok.run'.cluster in
    let are_opened = c.in-Ok.ensures.ok.are_opened in
    ready_open opened (opened_ready opened are_opened.0 are_opened.1)

pub returns-in-Ok-clause-disk : goal.returns-in-Ok-clause-disk
returns-in-Ok-clause-disk g c = c.gen_opened.ensures.disk c.args.triggers c.args.states c.in-Ok.ensures.ok
