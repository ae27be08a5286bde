use Rattle.qz_apply.proofs.plans.+push_to.Given as goal

abbrev pub decreases-push_to : goal.decreases-push_to
decreases-push_to l = l.limit
