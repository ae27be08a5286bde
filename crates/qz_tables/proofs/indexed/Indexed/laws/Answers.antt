use Rattle.std.proofs.Common.{refl}
use Rattle.qz_tables.proofs.ByIds.{own_id}
use Rattle.qz_tables.proofs.OnceLemmas.{row_whole, one_slot, row_slot}
use Rattle.qz_tables.proofs.indexed.Indexed.laws.Goals as goal

pub returns-clause-whole : goal.returns-clause-whole
returns-clause-whole g c = rw (← c.self.view_is) (λ s r e. row_whole g.R.Id.Ord.cmp g.R.Keyed.id g.met.R.Id.Ord.total c.self.inside.rows.slots c.self.inside.order.items (g.R.Keyed.id r) r s c.self.invariant.1 c.self.invariant.0 c.self.invariant.2 e (rw (own_id g.R.Id.Ord.cmp g.R.Keyed.id g.met.R.Id.Ord.total (g.R.Keyed.id r)) refl))

pub returns-clause-apart : goal.returns-clause-apart
returns-clause-apart g c = rw (← c.self.view_is) (λ s t r q e h same. one_slot g.R.Id.Ord.cmp g.R.Keyed.id g.met.R.Id.Ord.total c.self.inside.rows.slots c.self.inside.order.items s t r q c.self.invariant.1 c.self.invariant.0 c.self.invariant.2 e h same)

pub returns-clause-listed : goal.returns-clause-listed
returns-clause-listed g c = rw (← c.self.view_is) (λ k r e. row_slot g.R.Id.Ord.cmp g.R.Keyed.id g.met.R.Id.Ord.total c.self.inside.rows.slots c.self.inside.order.items k r c.self.invariant.1 e)

pub returns-clause-once : goal.returns-clause-once
returns-clause-once g c = rw (← c.self.view_is) c.self.invariant.2
