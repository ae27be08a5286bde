use Rattle.qz_standby.proofs.RowsMade.{not_created, rows_made}
use Rattle.qz_standby.proofs.rows.make_rows.Goals as goal

pub returns-in-Ok-clause-makes : goal.returns-in-Ok-clause-makes
returns-in-Ok-clause-makes g c honest none =
    let did = c.check_in_members-made.ensures in
    let on = did.any_moment honest (c.in-Ok.ensures.whole honest).1 in
    rw c.into_disk.ensures (rows_made honest (λ d. g.met.D.Disk.lawful honest d) c.args.tables.now.tables c.args.states c.in-Ok.store c.check_in_members-made.new.states (c.in-Ok.ensures.made honest) on.0 on.1 c.check_in_members-made.result did.history did.unmade)

pub returns-in-Err-clause-makes : goal.returns-in-Err-clause-makes
returns-in-Err-clause-makes g c honest none = rw c.uncreated.ensures.value (not_created c.in-Err.error c.args.tables.now.tables _ _ none (c.in-Err.ensures.made honest))
