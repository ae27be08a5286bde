use Rattle.std.proofs.Common.{rules}
use Rattle.std.proofs.lemmas.Fn.{filter_same}
use Rattle.qz_types.specs.Words.{same_text, without_member}
use Rattle.qz_cluster.proofs.held.remove.Goals as goal

pub returns : goal.returns
unfolding without_member same_text
returns c = filter_same _ _ _ (λ x b f' k. search rules) _ _ c.retain.ensures.filtered
