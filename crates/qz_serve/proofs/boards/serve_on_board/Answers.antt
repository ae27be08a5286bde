use denote.Param.Send.{sendable}
use Rattle.std.proofs.Common.{◌≡◌, ◌∙◌, ◌<◌, ◌^◌, Some, length, map, ap, refl, rules, subst, sym, to_z, of_z, w64}
use Rattle.qz_board_looks.specs.Watches.{first_of, planned}
use Rattle.qz_board.specs.Boards.{seen}
use Rattle.qz_board_stores.proofs.Sending.{boarded_send}
use Rattle.qz_rounds.specs.Looking.{LeavesRows}
use Rattle.qz_shared_stores.proofs.Sending.{triggers_send}
use Rattle.qz_trigger_store.specs.View.{view as triggers_view}
use Rattle.qz_types.specs.Rows.{MemberData}
use Rattle.qz_serve.specs.Boards.{plan_of}
use Rattle.qz_serve.proofs.Boarding.{base_since_then, plan_stays, shows_as}
use Rattle.qz_serve.proofs.Watching.{board_stays, closed_as, declined_as, ended_as, looks_go_on, looks_left, served_as, since_as, store_went, went_as}
use Rattle.qz_serve.proofs.boards.serve_on_board.Goals as goal

-- Without a board.

pub serve_nodes-requires-send-S : goal.serve_nodes-requires-send-S
serve_nodes-requires-send-S g c κs within = search (sendable, triggers_send)

pub returns-in_default-clause-served : goal.returns-in_default-clause-served
returns-in_default-clause-served g c =
    let until : to_z w64 (of_z w64 c.args.until) ≡ c.args.until = search rules in
    served_as _ _ c.args.until _ _ c.args.triggers c.args.triggers c.in_ok-triggers.triggers c.in_ok-triggers.triggers _ _ _ _ until refl refl c.in_ok-triggers.ensures.served

pub returns-in_default-clause-declined : goal.returns-in_default-clause-declined
returns-in_default-clause-declined g c =
    let q = g.T.RowStore in
    let until : to_z w64 (of_z w64 c.args.until) ≡ c.args.until = search rules in
    declined_as q.kind q.listed (g.C.SharedClock.shows c.args.clock.now) (LeavesRows q.kind q.listed q.state g.T.RoundStore.tables (q.state c.args.states)) (q.listed (q.state c.args.states).history) (q.listed (q.state c.in_ok-triggers.states).history) (map (λ (m : MemberData). m.node) c.args.members.now)
    (q.state c.args.states) (q.state c.in_ok-triggers.states) c.in_ok-triggers.told _ c.args.until c.args.triggers c.args.triggers c.in_ok-triggers.triggers c.in_ok-triggers.triggers until refl refl c.in_ok-triggers.ensures.declined

pub returns-in_default-clause-ended : goal.returns-in_default-clause-ended
returns-in_default-clause-ended g c none =
    let until : to_z w64 (of_z w64 c.args.until) ≡ c.args.until = search rules in
    ended_as _ _ c.args.until c.args.triggers c.args.triggers c.in_ok-triggers.triggers c.in_ok-triggers.triggers _ _ _ until refl refl (c.in_ok-triggers.ensures.ended none)

pub returns-in_default-clause-plan : goal.returns-in_default-clause-plan
returns-in_default-clause-plan g c = ap (λ o. plan_of o) (c.take.ensures.after ∙ sym c.in_default.is ∙ c.take.ensures.value)

-- Under a board.

pub serve_nodes-requires-2-send-S : goal.serve_nodes-requires-2-send-S
serve_nodes-requires-2-send-S g c κs within = search (sendable, boarded_send)

pub serve_nodes-requires-2-clause-few : goal.serve_nodes-requires-2-clause-few
serve_nodes-requires-2-clause-few g c κs within = (subst (λ s. length (triggers_view s.store).history.entries < 2 ^ 62) (sym c.lay_under-boarded.ensures.store) c.requires.few.0, c.requires.few.1)

pub unreachable-unreachable : goal.unreachable-unreachable
unreachable-unreachable g c = looks_left c.lay_under-boarded.result.1 c.in_ok-boarded.watch c.in_default-watch.is c.in_ok-boarded.ensures.looks

pub lift-triggers-requires-clause-board : goal.lift-triggers-requires-clause-board
lift-triggers-requires-clause-board g c =
    let on = looks_go_on c.lay_under-boarded.result.1 c.in-Some-watch.watch c.in_ok-boarded.watch c.in-Some-watch.is c.in_ok-boarded.ensures.looks in
    on.board ∙ c.lay_under-boarded.ensures.board ∙ sym (board_stays c.lay_under-boarded.result.0 c.in_ok-boarded.boarded c.in_ok-boarded.ensures.went.0)

pub lift-triggers-requires-clause-basis : goal.lift-triggers-requires-clause-basis
lift-triggers-requires-clause-basis g c =
    let on = looks_go_on c.lay_under-boarded.result.1 c.in-Some-watch.watch c.in_ok-boarded.watch c.in-Some-watch.is c.in_ok-boarded.ensures.looks in
    let since = since_as c.lay_under-boarded.result.0.store c.args.triggers c.in_ok-boarded.boarded.store c.in_ok-boarded.boarded.store c.lay_under-boarded.ensures.store refl c.in_ok-boarded.ensures.since.0 in
    on.basis ∙ c.lay_under-boarded.ensures.basis ∙ ap Some (sym (base_since_then (triggers_view c.args.triggers.store) (triggers_view c.in_ok-boarded.boarded.store.store) since))

pub returns-clause-served : goal.returns-clause-served
returns-clause-served g c =
    let until : to_z w64 (of_z w64 c.args.until) ≡ c.args.until = search rules in
    served_as _ _ c.args.until _ _ c.lay_under-boarded.result.0.store c.args.triggers c.in_ok-boarded.boarded.store c.lift-triggers.result.0 _ _ _ _ until c.lay_under-boarded.ensures.store (sym c.lift-triggers.ensures.store) c.in_ok-boarded.ensures.served

pub returns-clause-declined : goal.returns-clause-declined
returns-clause-declined g c =
    let q = g.T.RowStore in
    let until : to_z w64 (of_z w64 c.args.until) ≡ c.args.until = search rules in
    declined_as q.kind q.listed (g.C.SharedClock.shows c.args.clock.now) (LeavesRows q.kind q.listed q.state g.T.RoundStore.tables (q.state c.args.states)) (q.listed (q.state c.args.states).history) (q.listed (q.state c.in_ok-boarded.states).history) (map (λ (m : MemberData). m.node) c.args.members.now)
    (q.state c.args.states) (q.state c.in_ok-boarded.states) c.in_ok-boarded.told _ c.args.until c.lay_under-boarded.result.0.store c.args.triggers c.in_ok-boarded.boarded.store c.lift-triggers.result.0 until c.lay_under-boarded.ensures.store (sym c.lift-triggers.ensures.store) c.in_ok-boarded.ensures.declined

pub returns-clause-ended : goal.returns-clause-ended
returns-clause-ended g c none =
    let until : to_z w64 (of_z w64 c.args.until) ≡ c.args.until = search rules in
    ended_as _ _ c.args.until c.lay_under-boarded.result.0.store c.args.triggers c.in_ok-boarded.boarded.store c.lift-triggers.result.0 _ _ _ until c.lay_under-boarded.ensures.store (sym c.lift-triggers.ensures.store) (c.in_ok-boarded.ensures.ended none)

pub returns-clause-fault : goal.returns-clause-fault
returns-clause-fault g c fault = closed_as c.in_ok-boarded.boarded.store c.lift-triggers.result.0 _ (sym c.lift-triggers.ensures.store) (c.in_ok-boarded.ensures.fault fault)

pub returns-clause-since : goal.returns-clause-since
returns-clause-since g c = (since_as c.lay_under-boarded.result.0.store c.args.triggers c.in_ok-boarded.boarded.store c.lift-triggers.result.0 c.lay_under-boarded.ensures.store (sym c.lift-triggers.ensures.store) c.in_ok-boarded.ensures.since.0, c.in_ok-boarded.ensures.since.1)

pub returns-clause-went : goal.returns-clause-went
returns-clause-went g c = (went_as c.lay_under-boarded.result.0.store c.args.triggers c.in_ok-boarded.boarded.store c.lift-triggers.result.0 c.lay_under-boarded.ensures.store (sym c.lift-triggers.ensures.store) (store_went c.lay_under-boarded.result.0 c.in_ok-boarded.boarded c.in_ok-boarded.ensures.went.0), c.in_ok-boarded.ensures.went.1)

pub returns-clause-shows : goal.returns-clause-shows
returns-clause-shows g c = shows_as c.lift-triggers.result.1 _ _ (ap (λ s. (triggers_view s.store).history) (sym c.lift-triggers.ensures.store)) c.lift-triggers.ensures.shows

pub returns-clause-plan : goal.returns-clause-plan
returns-clause-plan g c =
    let on = looks_go_on c.lay_under-boarded.result.1 c.in-Some-watch.watch c.in_ok-boarded.watch c.in-Some-watch.is c.in_ok-boarded.ensures.looks in
    plan_stays c.args.board.now c.in-Some.shown c.lift-triggers.result.1 (sym c.take.ensures.value ∙ c.in-Some.is)
    (ap (λ w. planned w) c.lift-triggers.ensures.watch ∙ on.planned ∙ ap (λ w. planned w) c.lay_under-boarded.ensures.watch)
    (ap (λ w. first_of w) c.lift-triggers.ensures.watch ∙ ap (λ f. seen f.value) on.first ∙ ap (λ w. first_of w) c.lay_under-boarded.ensures.watch)
