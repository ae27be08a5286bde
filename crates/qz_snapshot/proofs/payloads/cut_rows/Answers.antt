use Rattle.qz_snapshot.proofs.Written.{short_both}
use Rattle.qz_snapshot.proofs.payloads.cut_rows.Goals as goal

pub returns-clause-short : goal.returns-clause-short
returns-clause-short c = short_both _ _ c.in_ok-add_plans.ensures.short c.in_ok-add_states.ensures.short
