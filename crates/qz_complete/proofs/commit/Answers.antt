use Rattle.std.proofs.Common.{◌≡◌, rules}
use Rattle.std.proofs.Math.Logic.{∥∥₁_map}
use Rattle.qz_types.specs.Outcomes.{accepted}
use Rattle.qz_model.specs.Transaction.{transaction}
use Rattle.qz_model.proofs.Kept.{kept}
use Rattle.qz_complete.proofs.commit.Goals as goal

pub returns-clause-valid : goal.returns-clause-valid
returns-clause-valid c =
    let ok : transaction c.args.tables.now.tables c.args.entry.now ≡ accepted c.carry_out.new.tables.tables c.carry_out.result = search rules in
    ∥∥₁_map c.requires.valid (λ was. kept c.args.tables.now.tables c.carry_out.new.tables.tables c.args.entry.now c.carry_out.result c.requires.entry was ok)
