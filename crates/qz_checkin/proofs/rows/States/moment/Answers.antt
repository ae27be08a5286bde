use Rattle.std.proofs.Common.{arith}
use Rattle.std.proofs.lemmas.Grind.{common_steps}
use Rattle.std.proofs.lemmas.Int.{to_z-of_z}
use Rattle.qz_checkin.specs.InMemory.{tables_in}
use Rattle.qz_checkin.proofs.RowEdits.{last_range}
use Rattle.qz_checkin.proofs.rows.States.moment.Goals as goal

pub returns-clause-moment : goal.returns-clause-moment
returns-clause-moment c =
    let range = last_range (tables_in c.args.self.now) c.args.self.now.valid in
    record {
      low = grind (arith, common_steps, to_z-of_z, range.low, c.max-2.ensures.value, c.max-2.ensures.self_bound, c.max-2.ensures.other_bound);
      high = grind (arith, common_steps, to_z-of_z, range.high, c.max.ensures.value, c.min.ensures.value, c.min.ensures.self_bound, c.min.ensures.other_bound, c.max-2.ensures.value);
    }
