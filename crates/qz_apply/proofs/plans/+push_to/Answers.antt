use Rattle.std.proofs.Common.{sym, arith}
use Rattle.std.proofs.lemmas.List.{append-nil}
use Rattle.qz_apply.proofs.ChainSteps.{chain_none, chain_zero, push_step}
use Rattle.qz_apply.proofs.plans.+push_to.Goals as goal

pub returns-in_default : goal.returns-in_default
returns-in_default t c = rw (c.in_default.is, chain_none _ c.args.limit) (sym (append-nil _))

pub returns-then-limit-eq0 : goal.returns-then-limit-eq0
returns-then-limit-eq0 t c = rw (c.in-Some.is, chain_zero _ c.args.limit _ c.if-limit-eq0.true) (sym (append-nil _))

pub returns : goal.returns
returns t c =
    rw c.in-Some.is (push_step c.args.tables.now.tables.zones c.args.tables.now.tables.calendars c.args.limit
    (record { name = c.calendar.inside.name; base = c.calendar.inside.base; zone = c.calendar.inside.zone; kind = c.calendar.inside.kind })
    c.in-Some.calendar.now _ _ _ _ _ _ (omega arith) c.calendar.view_is c.zone_named-zone.ensures c.as_ref.ensures.value c.calendar_named-base.ensures c.in-Ok.ensures.ok c.push_to.ensures)
