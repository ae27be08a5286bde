use Rattle.std.proofs.Common.{◌∙◌, refl, rules, sym}
use Rattle.qz_row_lock.specs.Seats.{mine, seen, first_value}
use Rattle.qz_shared.specs.Calls.{known}
use Rattle.qz_serve.proofs.Asks.{scheduled_more, told_next}
use Rattle.qz_serve.proofs.Finished.{knows_after, knows_after_error, may_follow, ran_plain, stops_after}
use Rattle.qz_serve.proofs.Working.{is_work}
use Rattle.qz_serve.proofs.threads.steps.ask_plain.Goals as goal

pub returns-in-Ok-clause-work : goal.returns-in-Ok-clause-work
returns-in-Ok-clause-work g c =
    let w = c.requires.work in
    let f = c.ask.ensures in
    let s = c.args.seat.now in
    let t = c.ask.new.seat in
    record {
      of = f.of;
      home = f.home;
      up_to = f.until;
      told = told_next _ _ _ c.in-Ok.reply c.args.context.now c.note.new.context c.in-Ok.ensures.deeds w.told c.note.ensures;
      entries = scheduled_more (g.C.SharedClock.shows c.args.clock.now) c.args.turn.now.until c.args.me.now s.number t.number c.args.at _ c.args.command (mine s) (mine t)
          c.in-Ok.ensures.mine (search rules) f.same.number (is_work c.args.turn.now c.args.at c.args.command c.requires.wanted) c.requires.shown w.entries;
    }

pub returns-in-Ok-clause-knows : goal.returns-in-Ok-clause-knows
returns-in-Ok-clause-knows g c =
    let k = g.S.RowStore in
    let f = c.ask.ensures in
    let s = c.args.seat.now in
    let t = c.ask.new.seat in
    knows_after k.kind k.listed (k.state (first_value c.args.row.now).opened.value) (g.C.SharedClock.shows c.args.clock.now) c.args.turn.now.until c.args.me.now s.number t.number c.args.turn.now c.ask.new.turn c.args.at _ c.args.command (seen s) (seen t)
    c.in-Ok.reply f.same.number (search rules) f.begins (is_work c.args.turn.now c.args.at c.args.command c.requires.wanted) c.requires.shown c.requires.knows c.in-Ok.ensures.accepted (search rules)

pub returns-in-None-clause-knows : goal.returns-in-None-clause-knows
returns-in-None-clause-knows g c =
    let k = g.S.RowStore in
    let f = c.ask.ensures in
    let s = c.args.seat.now in
    let t = c.ask.new.seat in
    knows_after_error k.kind k.listed (k.state (first_value c.args.row.now).opened.value) (g.C.SharedClock.shows c.args.clock.now) c.args.turn.now.until c.args.me.now s.number t.number c.args.turn.now c.ask.new.turn c.args.at c.args.at c.args.command (seen s) (seen t)
    c.in-Err.error f.same.number (search rules) f.begins (is_work c.args.turn.now c.args.at c.args.command c.requires.wanted) c.requires.shown c.requires.knows (sym c.declined.ensures ∙ c.in-None.is) (search rules)

pub note-requires : goal.note-requires
note-requires g c = record { within = may_follow c.args.command c.args.context.now c.in-Ok.reply c.requires.plain c.in-Ok.ensures.fits }

pub returns-in-Ok-clause-ran : goal.returns-in-Ok-clause-ran
returns-in-Ok-clause-ran g c before now ran = ran_plain _ _ _ c.in-Ok.reply c.requires.plain c.in-Ok.ensures.deeds before now ran

pub returns-in-Some-clause-stopped : goal.returns-in-Some-clause-stopped
returns-in-Some-clause-stopped g c =
    let k = g.S.RowStore in
    let s = c.args.seat.now in
    let t = c.ask.new.seat in
    stops_after k.kind k.listed (k.state (first_value c.args.row.now).opened.value) (g.C.SharedClock.shows c.args.clock.now) c.args.turn.now.until c.args.me.now s.number t.number c.args.turn.now c.ask.new.turn c.args.at _ c.args.command (seen s) (seen t)
    c.in-Err.error (known t) c.in-Some.cause (search rules) (is_work c.args.turn.now c.args.at c.args.command c.requires.wanted) c.requires.shown c.in-Err.ensures.cause (sym c.declined.ensures ∙ c.in-Some.is)
