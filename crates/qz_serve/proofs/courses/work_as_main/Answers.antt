use Rattle.std.proofs.Common.{◌≡◌, rules, to_z, of_z, w64, inl, refl, sym, [], ◌∷◌}
use Rattle.qz_cluster.specs.Steps.{ClusterState}
use Rattle.qz_top.specs.NodeRuns.{both}
use Rattle.qz_serve.specs.Going.{state_of_both}
use Rattle.qz_serve.specs.Limits.{WasDeclined}
use Rattle.std.proofs.lemmas.List.{append-nil}
use Rattle.qz_serve.proofs.Holding.{proceeds_starved}
use Rattle.qz_serve.proofs.Coursing.{cause_seen}
use Rattle.qz_serve.proofs.Finished.{came_under}
use Rattle.qz_serve.proofs.Leaving.{base_count_since, base_since, main_declined, main_until}
use Rattle.qz_serve.proofs.Limiting.{grew_alone}
use Rattle.qz_serve.proofs.courses.work_as_main.Goals as goal

pub returns-then-not-is_short-clause-proceeds : goal.returns-then-not-is_short-clause-proceeds
returns-then-not-is_short-clause-proceeds g c = proceeds_starved _ c.keep_all.ensures

pub invariant_of-states : goal.invariant_of-states
invariant_of-states g c =
    let s = c.args.stores.states.store.store in
    record {
      number = s.number;
      known = s.known;
      in_version = s.in_version;
      ready = s.ready;
      settled = s.settled;
      counted = s.counted;
      placed = s.placed;
      taken = s.taken;
      new_count = s.new_count;
      new_base = s.new_base;
      legal = s.legal;
      replayed = s.replayed;
      recorded = s.recorded;
      passed = s.passed;
      ended = s.ended;
      stands = s.stands;
      gated = s.gated;
      marked = s.marked;
      images = s.images;
    }

pub returns-clause-worked : goal.returns-clause-worked
returns-clause-worked g c =
    let until : to_z w64 (of_z w64 c.args.until) ≡ c.args.until = search rules in
    let served = main_until _ _ c.args.until _ _ _ _ _ _ until c.in_ok-triggers.ensures.served in
    inl (record {
      served = served;
      went_on = record { base_count = base_count_since _ _ c.in_ok-triggers.ensures.since; base = base_since _ _ c.in_ok-triggers.ensures.since; entries = served.now_are; rows_are = sym (append-nil _) };
    })

pub returns-clause-proceeds : goal.returns-clause-proceeds
returns-clause-proceeds g c = record {
  kept = record { triggers = c.in_ok-triggers.ensures.went; states = c.keep_all.ensures.states; grew = grew_alone _ _ c.in_ok-triggers.ensures.since refl };
  stays = c.cause_now-cause.ensures.both_open;
  fault = c.cause_now-cause.ensures.fault;
}

pub returns-clause-declined : goal.returns-clause-declined
returns-clause-declined g c =
    let until : to_z w64 (of_z w64 c.args.until) ≡ c.args.until = search rules in
    let shows = g.C.SharedClock.shows c.args.clock.now in
    let begun : ClusterState = state_of_both c.args.stores in
    let end : ClusterState = both c.in_ok-triggers.triggers.store c.args.stores.states.store in
    cause_seen (WasDeclined shows c.args.until (c.args.me.now.node ∷ []) begun end) c.in_ok-triggers.told c.cause_now-cause.result c.cause_now-cause.ensures.same
    (main_declined shows _ c.args.until c.args.me.now begun end c.in_ok-triggers.told until c.in_ok-triggers.ensures.declined)

pub cause_now-cause-requires : goal.cause_now-cause-requires
cause_now-cause-requires g c = record { closed = λ fault. inl (c.in_ok-triggers.ensures.fault fault) }

pub returns-clause-ended : goal.returns-clause-ended
returns-clause-ended g c none = came_under _ _ _ _ _ c.args.until _ _ 0 _ (search rules) refl (c.in_ok-triggers.ensures.ended (c.cause_now-cause.ensures.none none))
