use Rattle.std.proofs.Common.{rules}
use Rattle.std.proofs.lemmas.Fn.{filter_same}
use Rattle.qz_types.specs.Words.{same_text}
use Rattle.qz_checkin.specs.Rows.{without_state}
use Rattle.qz_checkin.proofs.transactions.remove.Goals as goal

pub returns-clause-rows : goal.returns-clause-rows
unfolding without_state same_text
returns-clause-rows c = filter_same _ _ _ (λ x b f' k. search rules) _ _ c.retain.ensures.filtered
