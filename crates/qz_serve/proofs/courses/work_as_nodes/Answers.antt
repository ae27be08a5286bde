use denote.Param.Send.{sendable}
use Rattle.std.proofs.Common.{◌≡◌, rules, to_z, of_z, w64, inl, map, refl, arith}
use Rattle.qz_types.specs.Rows.{MemberData}
use Rattle.qz_cluster.specs.Steps.{ClusterState}
use Rattle.qz_top.specs.NodeRuns.{both}
use Rattle.qz_serve.specs.Going.{state_of_both}
use Rattle.qz_serve.specs.Limits.{WasDeclined}
use Rattle.qz_shared_stores.proofs.Sending.{states_send}
use Rattle.qz_serve.proofs.Holding.{proceeds_starved}
use Rattle.qz_serve.proofs.Coursing.{cause_seen, nodes_ended_until}
use Rattle.qz_serve.proofs.Leaving.{base_count_since, base_since, nodes_declined, nodes_until, rows_leave, served_so}
use Rattle.qz_serve.proofs.Limiting.{grew_since}
use Rattle.qz_serve.proofs.courses.work_as_nodes.Goals as goal

pub returns-then-not-is_short-clause-proceeds : goal.returns-then-not-is_short-clause-proceeds
returns-then-not-is_short-clause-proceeds g c = proceeds_starved _ c.keep_all.ensures

pub serve_on_board-requires-send-T : goal.serve_on_board-requires-send-T
serve_on_board-requires-send-T g c κs within = search (sendable, states_send)

pub serve_on_board-requires-clause-few : goal.serve_on_board-requires-clause-few
serve_on_board-requires-clause-few g c κs within = (omega (arith, c.is_short.ensures.0 c.if-not-is_short.false), omega (arith, c.is_short-else-not-is_short.ensures.0 c.if-not-is_short-2.false))

pub returns-clause-worked : goal.returns-clause-worked
returns-clause-worked g c =
    let until : to_z w64 (of_z w64 c.args.until) ≡ c.args.until = search rules in
    let served = nodes_until _ _ c.args.until _ _ _ _ _ _ _ _ _ until (served_so _ _ (rows_leave _) _ _ _ _ _ _ _ _ _ _ c.in_ok-triggers.ensures.served) in
    inl (record {
      served = served;
      went_on = record { base_count = base_count_since _ _ c.in_ok-triggers.ensures.since.0; base = base_since _ _ c.in_ok-triggers.ensures.since.0; entries = served.now_are; rows_are = served.rows_are };
    })

pub returns-clause-proceeds : goal.returns-clause-proceeds
returns-clause-proceeds g c = record {
  kept = record { triggers = c.in_ok-triggers.ensures.went.0; states = c.in_ok-triggers.ensures.went.1; grew = grew_since _ _ c.in_ok-triggers.ensures.since.0 c.in_ok-triggers.ensures.since.1 };
  stays = c.cause_now-cause.ensures.both_open;
  fault = c.cause_now-cause.ensures.fault;
}

pub returns-clause-declined : goal.returns-clause-declined
returns-clause-declined g c =
    let until : to_z w64 (of_z w64 c.args.until) ≡ c.args.until = search rules in
    let shows = g.C.SharedClock.shows c.args.clock.now in
    let begun : ClusterState = state_of_both c.args.stores in
    let end : ClusterState = both c.in_ok-triggers.triggers.store c.in_ok-triggers.states.store in
    cause_seen (WasDeclined shows c.args.until (map (λ (m : MemberData). m.node) c.args.members.now) begun end) c.in_ok-triggers.told c.cause_now-cause.result c.cause_now-cause.ensures.same
    (nodes_declined _ shows _ c.args.until _ c.args.members.now begun end c.in_ok-triggers.told (rows_leave _) until refl c.in_ok-triggers.ensures.declined)

pub cause_now-cause-requires : goal.cause_now-cause-requires
cause_now-cause-requires g c = record { closed = c.in_ok-triggers.ensures.fault }

pub returns-clause-ended : goal.returns-clause-ended
returns-clause-ended g c none =
    let until : to_z w64 (of_z w64 c.args.until) ≡ c.args.until = search rules in
    nodes_ended_until _ _ c.args.until _ (state_of_both c.args.stores) (both c.in_ok-triggers.triggers.store c.in_ok-triggers.states.store) until (c.in_ok-triggers.ensures.ended (c.cause_now-cause.ensures.none none))
