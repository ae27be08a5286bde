use Rattle.std.proofs.Common.{◌||◌, not, sym, ap, ◌∙◌}
use Rattle.qz_types.specs.Words.{same_key}
use Rattle.qz_valid.specs.Keys.{has}
use Rattle.qz_valid.proofs.Sets.{any-map, cond_or}
use Rattle.qz_valid.proofs.keys.KeySet.add.Goals as goal

pub returns-clause-added : goal.returns-clause-added
unfolding has same_key
returns-clause-added c = c.in_ok-insert.ensures.added ∙ ap not (sym (any-map (same_key c.args.key.now) (λ x. x.now) c.self.inside.keys.keys) ∙ ap (has c.args.key.now) c.self.view_is)

pub returns-clause-keys : goal.returns-clause-keys
unfolding has same_key
returns-clause-keys c k =
    any-map (same_key k) (λ x. x.now) c.insert.new.self.keys
    ∙ (c.in_ok-insert.ensures.updates.0 (record c.args.key { now = k }))
    ∙ cond_or (same_key c.args.key.now k) _
    ∙ ap (λ b. same_key c.args.key.now k || b) (sym (any-map (same_key k) (λ x. x.now) c.self.inside.keys.keys) ∙ ap (has k) c.self.view_is)
