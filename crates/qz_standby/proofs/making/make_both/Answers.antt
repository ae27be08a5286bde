use Rattle.std.proofs.Common.{◌∙◌}
use Rattle.qz_follow.specs.View.{view}
use Rattle.qz_standby.proofs.MadeLaws.{unmade_makes, made_makes, counted_header}
use Rattle.qz_standby.proofs.making.make_both.Goals as goal

pub returns-in-Ok-clause-makes : goal.returns-in-Ok-clause-makes
returns-in-Ok-clause-makes g c honest none =
    let value = c.tables.ensures.value ∙ c.in-Ok.ensures.tables in
    let rows = rw value at (c.make_rows-rows.ensures.makes honest none.1) in
    rw (c.counted.ensures.value, c.into_disk.ensures) (made_makes c.args.form (view c.args.follower) _ _ _ _ none (c.in-Ok.ensures.makes honest none.0) _ _ rows)

pub returns-in-Ok-clause-header : goal.returns-in-Ok-clause-header
returns-in-Ok-clause-header g c =
    rw c.counted.ensures.value (counted_header _ _ (view c.args.follower) c.make_rows-rows.ensures.error c.in-Ok.ensures.long c.acknowledged-count.ensures)

pub returns-in-Err-clause-makes : goal.returns-in-Err-clause-makes
returns-in-Err-clause-makes g c honest none =
    unmade_makes c.args.form (view c.args.follower) _ _ _ (g.met.D.Disk.lawful honest c.args.states) none c.in-Err.unmade (c.in-Err.ensures.makes honest none.0)
