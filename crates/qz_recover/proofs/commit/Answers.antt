use Rattle.std.proofs.Common.{◌≡◌, subst, rules}
use Rattle.qz_types.specs.Outcomes.{accepted}
use Rattle.qz_model.specs.Transaction.{transaction}
use Rattle.qz_recover.specs.Prepared.{IsChangeOf, IsJoin}
use Rattle.qz_recover.proofs.Commits.{join_node, valid_done}
use Rattle.qz_recover.proofs.commit.Goals as goal

pub join-requires-clause-node : goal.join-requires-clause-node
join-requires-clause-node c =
    let is : IsJoin c.args.tables.now.tables c.args.entry.now.command c.in-Join.name c.in-Join.former =
    subst (IsChangeOf c.args.tables.now.tables c.args.entry.now.command) c.in-Join.is c.requires.prepared.change in
    join_node c.args.entry.now c.in-Join.name is.command c.requires.entry

pub returns-in-Join-clause-valid : goal.returns-in-Join-clause-valid
returns-in-Join-clause-valid c =
    let done : transaction c.args.tables.now.tables c.args.entry.now ≡ accepted c.join.new.tables.tables c.join.result = search rules in
    valid_done c.args.tables.now.tables c.join.new.tables.tables c.args.entry.now c.join.result c.requires.entry c.requires.valid done

pub returns-in-Node-clause-valid : goal.returns-in-Node-clause-valid
returns-in-Node-clause-valid c =
    let done : transaction c.args.tables.now.tables c.args.entry.now ≡ accepted c.leave.new.tables.tables c.leave.result = search rules in
    valid_done c.args.tables.now.tables c.leave.new.tables.tables c.args.entry.now c.leave.result c.requires.entry c.requires.valid done

pub returns-in-Recover-clause-valid : goal.returns-in-Recover-clause-valid
returns-in-Recover-clause-valid c =
    let done : transaction c.args.tables.now.tables c.args.entry.now ≡ accepted c.recover.new.tables.tables c.recover.result = search rules in
    valid_done c.args.tables.now.tables c.recover.new.tables.tables c.args.entry.now c.recover.result c.requires.entry c.requires.valid done
