use Rattle.std.proofs.Common.{◌∙◌, ap, refl, rules, sym}
use Rattle.qz_node.specs.Turns.{TurnData}
use Rattle.qz_row_lock.specs.Seats.{mine, seen, first_value}
use Rattle.qz_rounds.proofs.Lists.{prefix_refl}
use Rattle.qz_shared.specs.Calls.{known}
use Rattle.qz_serve.proofs.Asks.{scheduled_more, told_next}
use Rattle.qz_serve.proofs.Finished.{ends_after, knows_after, knows_on}
use Rattle.qz_serve.proofs.threads.steps.execute_and_complete.Goals as goal

pub returns-in-Ok-clause-work : goal.returns-in-Ok-clause-work
returns-in-Ok-clause-work g c =
    let w = c.requires.work in
    let f = c.ask.ensures in
    let s = c.args.seat.now in
    let t = c.ask.new.seat in
    record {
      of = f.of;
      home = f.home;
      up_to = f.until ∙ c.learn.ensures.until;
      told = told_next _ _ _ c.in-Ok.reply _ c.note.new.context c.in-Ok.ensures.deeds (sym c.in-Some.is ∙ w.told) c.note.ensures;
      entries = scheduled_more (g.C.SharedClock.shows c.args.clock.now) c.args.turn.now.until c.args.me.now s.number t.number c.args.at _ _ (mine s) (mine t)
          c.in-Ok.ensures.mine (search rules) f.same.number tt c.requires.shown w.entries;
    }

pub returns-in-Ok-clause-knows : goal.returns-in-Ok-clause-knows
returns-in-Ok-clause-knows g c =
    let k = g.S.RowStore in
    let opened = k.state (first_value c.args.row.now).opened.value in
    let shows = g.C.SharedClock.shows c.args.clock.now in
    let f = c.ask.ensures in
    let s = c.args.seat.now in
    let t = c.ask.new.seat in
    let learnt = c.learn.ensures.learnt in
    let held = knows_on k.kind k.listed opened shows c.args.turn.now.until c.args.me.now s.number c.args.turn.now c.learn.new.self (seen s) (seen s) (prefix_refl (seen s)) (ap (λ (x : TurnData). x.idle) learnt) (ap (λ (x : TurnData). x.fenced) learnt) c.requires.knows in
    knows_after k.kind k.listed opened shows c.args.turn.now.until c.args.me.now s.number t.number c.learn.new.self c.ask.new.turn c.args.at _ _ (seen s) (seen t)
    c.in-Ok.reply f.same.number (search rules) f.begins tt c.requires.shown held c.in-Ok.ensures.accepted (search rules)

pub returns-in-Err-clause-ended : goal.returns-in-Err-clause-ended
returns-in-Err-clause-ended g c none =
    let k = g.S.RowStore in
    let s = c.args.seat.now in
    let t = c.ask.new.seat in
    ends_after k.kind k.listed (k.state (first_value c.args.row.now).opened.value) (g.C.SharedClock.shows c.args.clock.now) c.args.turn.now.until c.args.me.now s.number t.number c.args.turn.now c.ask.new.turn c.args.at _ _ (seen s) (seen t)
    c.args.entry c.execute-code.result c.in-Err.error (known t) (search rules) refl c.requires.shown c.in-Err.ensures.cause (sym c.declined.ensures ∙ none)
