use Rattle.std.proofs.Common.{refl}
use Rattle.qz_follow.proofs.Records.{legal_new, replayed_new, kept_new}
use Rattle.qz_follow.proofs.holding.Taken.new.Goals as goal

pub invariant_of-result-clause-recorded : goal.invariant_of-result-clause-recorded
invariant_of-result-clause-recorded c = kept_new _ _ c.new-2.ensures c.none_kept.ensures.records
