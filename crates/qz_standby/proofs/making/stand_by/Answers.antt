use Rattle.qz_standby.proofs.Leaving.{makes_then}
use Rattle.qz_standby.proofs.Looking.{refused_makes}
use Rattle.qz_standby.proofs.MadeLaws.{other_header}
use Rattle.qz_standby.proofs.making.stand_by.Goals as goal

pub returns-in-Ok-clause-makes : goal.returns-in-Ok-clause-makes
returns-in-Ok-clause-makes g c honest =
    let looked = c.look_at_both.ensures in
    makes_then c.args.form c.make_both.result.made _ _ _ _ _ _ _ (looked.triggers honest) (looked.states honest) (c.make_both.ensures.makes honest (rw (looked.triggers honest).stays.content (rw (looked.states honest).stays.content (c.in-Ok.ensures.found honest))))

pub returns-in-Err-clause-header : goal.returns-in-Err-clause-header
returns-in-Err-clause-header g c = other_header c.in-Err.unmade _ c.in-Err.ensures.error

pub returns-in-Err-clause-makes : goal.returns-in-Err-clause-makes
returns-in-Err-clause-makes g c honest =
    let looked = c.look_at_both.ensures in
    refused_makes c.args.form c.in-Err.unmade _ _ _ _ _ (c.in-Err.ensures.found honest) (looked.triggers honest) (looked.states honest)
