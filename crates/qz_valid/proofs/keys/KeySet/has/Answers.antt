use Rattle.std.proofs.Common.{sym, ap, ◌∙◌}
use Rattle.qz_types.specs.Words.{same_key}
use Rattle.qz_valid.specs.Keys.{has}
use Rattle.qz_valid.proofs.Sets.{any-map}
use Rattle.qz_valid.proofs.keys.KeySet.has.Goals as goal

pub returns : goal.returns
unfolding has same_key
returns c = c.contains.ensures ∙ sym (any-map (same_key c.args.key.now) (λ x. x.now) c.self.inside.keys.keys) ∙ ap (has c.args.key.now) c.self.view_is
