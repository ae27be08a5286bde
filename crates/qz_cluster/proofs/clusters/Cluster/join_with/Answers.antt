use Rattle.qz_cluster.proofs.AtRest.{then_held}
use Rattle.qz_cluster.proofs.clusters.Cluster.join_with.Goals as goal

pub returns-clause-any_moment : goal.returns-clause-any_moment
returns-clause-any_moment g c honest = then_held c.args.self.now c.submit.new.self c.hold.new.self (c.submit.ensures.any_moment honest) c.hold.ensures.stores
