use Rattle.std.proofs.Common.{inl, inr, ap}
use Rattle.std.specs.Prelude.{Err}
use Rattle.qz_top.proofs.MakingLaws.{first_unmade, second_unmade, both_made}
use Rattle.qz_top.proofs.making.init.Goals as goal
use Rattle.qz_top.proofs.making.init.Goals.{else-not-first-via-then-not-first+else-not-second, else-not-first-via-else-not-first}

pub returns-in-Err-clause-made : goal.returns-in-Err-clause-made
returns-in-Err-clause-made g c =
    rw c.unmade_status.ensures (first_unmade g.D.Disk c.in-Err.unmade _ _ _ c.in-Err.ensures.told (λ is. c.in-Err.ensures.fault (ap Err is)))

pub returns-in-Err-make-clause-made : goal.returns-in-Err-make-clause-made
returns-in-Err-make-clause-made g c =
    rw c.unmade_status-in-Err-make.ensures
    (second_unmade g.D.Disk c.in-Err-make.unmade c.in-Ok.first _ _ _ _ c.in-Ok.ensures.told c.in-Err-make.ensures.told (λ is. c.in-Err-make.ensures.fault (ap Err is)))

pub returns-clause-made : goal.returns-clause-made
returns-clause-made g c =
    both_made g.D.Disk c.say_made.result c.in-Ok.first c.in-Ok-make.second c.args.triggers.now c.make.new.disk c.args.states.now c.make-2.new.disk c.say_made.ensures.status
    (elim c.else-not-first.branch [ else-not-first-via-then-not-first+else-not-second w ↦ inr w.if-not-second.false | else-not-first-via-else-not-first w ↦ inl w.if-not-first.false ])
    c.in-Ok.ensures.told c.in-Ok-make.ensures.told
