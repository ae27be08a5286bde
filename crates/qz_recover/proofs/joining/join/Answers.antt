use Rattle.std.proofs.Common.{◌≡◌, None, sym, subst, arith}
use Rattle.std.proofs.lemmas.Grind.{common_steps}
use Rattle.qz_types.specs.Tables.{SchedulerTables}
use Rattle.qz_types.specs.Words.{member_of}
use Rattle.qz_recover.specs.Prepared.{member_in}
use Rattle.qz_recover.proofs.Joins.{epoch_left, join_accepted, no_member}
use Rattle.qz_recover.proofs.joining.join.Goals as goal

pub insert_member-requires-clause-absent : goal.insert_member-requires-clause-absent
insert_member-requires-clause-absent c =
    subst (λ (U : SchedulerTables). member_of c.args.name U.members ≡ None) (sym c.take_over-counts.ensures.tables)
    (no_member c.args.tables.now.tables c.args.name (member_in c.args.former) c.requires.member)

pub overflow_add-epoch : goal.overflow_add-epoch
overflow_add-epoch c =
    let left = epoch_left c.args.tables.now.tables c.args.moment c.args.name c.requires.accepted in
    grind (arith, common_steps, left)

pub returns : goal.returns
returns c =
    let comes = join_accepted c.args.tables.now.tables c.args.moment c.args.name (member_in c.args.former) c.requires.member c.requires.accepted in
    grind (arith, common_steps, comes)
