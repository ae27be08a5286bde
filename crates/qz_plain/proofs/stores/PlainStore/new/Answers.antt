use Rattle.std.proofs.Common.{sym, subst}
use Rattle.qz_model.specs.Invariant.{TablesValid}
use Rattle.qz_model.proofs.Kept.{valid-empty}
use Rattle.qz_plain.proofs.stores.PlainStore.new.Goals as goal

pub invariant_of-result : goal.invariant_of-result
invariant_of-result c = ∣ subst TablesValid (sym c.new.ensures.tables) (valid-empty c.args.version) ∣₁
