use Rattle.qz_snapshot.proofs.bases.valid_tables.Goals as goal

pub fill-requires : goal.fill-requires
fill-requires c = c.are_ordered.ensures.0 c.if-not-are_ordered.false

pub returns-then-not-are_ordered-clause-none : goal.returns-then-not-are_ordered-clause-none
returns-then-not-are_ordered-clause-none c v = let yes = c.are_ordered.ensures.1 v.references_and_limits.ordered in absurd (cc)
