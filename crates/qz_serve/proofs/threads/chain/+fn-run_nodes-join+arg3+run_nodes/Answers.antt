use Rattle.std.proofs.Common.{◌≡◌, ◌∷◌, [], ◌∙◌, ◌-◌, ℕ, ℤ, to_z, of_z, w64, List, length, take, drop, map, ap, arith, refl, rules, subst}
use Rattle.std.proofs.lemmas.List.Elements.{Contains-append_left, Contains-append_right}
use Rattle.std.specs.Prelude.{Contains}
use Rattle.qz_types.specs.Rows.{MemberData}
use Rattle.qz_row_lock.specs.Seats.{ids, mine, seen, shut, first_value}
use Rattle.qz_rounds.specs.Looking.{LeavesRows}
use Rattle.qz_serve.specs.Asking.{heard_in, first_entries}
use Rattle.qz_serve.specs.Knowing.{Worker}
use Rattle.qz_serve.proofs.Finished.{joined_ended, joined_fault, none_ended}
use Rattle.qz_serve.proofs.Stopping.{as_told, joined_stopped, stopped_until}
use Rattle.qz_serve.proofs.Told.{before_same}
use Rattle.qz_serve.proofs.Worked.{nodes_joined, at_moment, none_worked, first_and_others, alone}
use Rattle.qz_serve.proofs.threads.chain.+fn-run_nodes-join+arg3+run_nodes.Goals as goal

pub returns-in-empty-clause-worked : goal.returns-in-empty-clause-worked
returns-in-empty-clause-worked g t c = none_worked _ _ _ _ _ _ _ _ _ _ _ c.in-empty.len_below c.requires.new.0 c.requires.new.1

pub returns-in-len1-up-clause-worked : goal.returns-in-len1-up-clause-worked
returns-in-len1-up-clause-worked g t c =
    let row = c.args.row.now in
    let i = c.args.counted in
    let means = g.M.Meaning.meanings in
    let first = c.join-first.ensures.first in
    let rest = c.join-first.ensures.second in
    let p = c.join-first.result.0 in
    let r = c.join-first.result.1 in
    let j = c.join.ensures in
    let k = c.join-in-len1-up.ensures in
    let n = c.join.result in
    let m = c.join-in-len1-up.result in
    let w : Worker = record { me = c.me-item.result; number = c.split_for-seat.result.1.number } in
    at_moment _ _ c.args.until _ _ _ _ _ _ _ _ _ _ _ (record {
      workers = w ∷ rest.6.workers;
      who = ap (λ l. c.me-item.result ∷ l) rest.6.who ∙ first_and_others c.args.members.now c.me-item.result c.in-len1-up.len_at_least c.me-item.is;
      worked = nodes_joined _ _ _ _ (heard_in row) g.S.RowStore.seat_of (first_entries row) w rest.6.workers (ids n) (ids r.0) (ids p.0) j.of.past (mine n) (mine r.0) (mine p.0) (seen n) (seen r.0) (seen p.0)
          g.T.RowStore.seat_of (ids m) (ids r.1) (ids p.1) k.of.past (mine m) (mine r.1) (mine p.1) (seen m) (seen r.1) (seen p.1)
          i _ (map means c.args.lists.items) (map means c.take_list-own.new.lists.items) (map means r.2.items) (map means c.put_list.new.lists.items) (means c.take_list-own.result) (means p.2)
          j.of.mine_is j.ids j.mine j.seen k.of.mine_is k.ids k.mine k.seen (omega arith) c.take_list-own.ensures.list c.take_list-own.ensures.rest c.put_list.ensures rest.7 rest.6.worked first.6;
    }) refl (search rules)

pub returns-in-len1-up-clause-before : goal.returns-in-len1-up-clause-before
returns-in-len1-up-clause-before g t c =
    let means = g.M.Meaning.meanings in
    let r = c.join-first.result.1 in
    before_same (means c.join-first.result.0.2) c.args.counted _ (map means c.args.lists.items) (map means c.take_list-own.new.lists.items) (map means r.2.items) (map means c.put_list.new.lists.items)
    (omega arith) c.take_list-own.ensures.rest c.put_list.ensures c.join-first.ensures.second.7

pub returns-in-empty-clause-once : goal.returns-in-empty-clause-once
returns-in-empty-clause-once g t c = alone c.args.seat.number (ids c.args.seat) c.requires.own.0

pub join-first-requires-after_bounds : goal.join-first-requires-after_bounds
join-first-requires-after_bounds g t c κs within =
    let s = c.split_for-seat.ensures in
    let u = c.split_for-state.ensures in
    let p = c.requires.performs in (search rules, (search rules, (search rules, (search rules, (search rules, (search rules, (search rules, (search rules, (search rules, (search rules, ((search rules, search rules, search rules, search rules, search rules, search rules, search rules, search rules, search rules, s.of.0, u.of.0, s.home.0, u.home.0, search rules, s.new.0, u.new.0, s.own.0, u.own.0, search rules, s.more.0, u.more.0, p.0, p.1, c.requires.none), (search rules, search rules, search rules, search rules, search rules, search rules, search rules, search rules, search rules))))))))))))

pub returns-in-len1-up-clause-stopped : goal.returns-in-len1-up-clause-stopped
returns-in-len1-up-clause-stopped g t c =
    let s = g.S.RowStore in
    let q = g.T.RowStore in
    let row = c.args.row.now in
    let rounds = c.args.states.now in
    let opened = q.state (first_value rounds).opened.value in
    let first = c.join-first.ensures.first in
    let rest = c.join-first.ensures.second in
    let p = c.join-first.result.0 in
    let r = c.join-first.result.1 in
    let j = c.join.ensures in
    let k = c.join-in-len1-up.ensures in
    let n = c.join.result in
    let m = c.join-in-len1-up.result in
    let me : List ℕ = c.me-item.result.node in
    let others : List (List ℕ) = map (λ (x : MemberData). x.node) (take (length c.args.members.now - 1) (drop 1 c.args.members.now)) in
    let all : List (List ℕ) = map (λ (x : MemberData). x.node) c.args.members.now in
    let whole : me ∷ others ≡ all = ap (map (λ (x : MemberData). x.node)) (first_and_others c.args.members.now c.me-item.result c.in-len1-up.len_at_least c.me-item.is) in
    let up_to : ℤ = to_z w64 (of_z w64 c.args.until) in
    let until : up_to ≡ c.args.until = search rules in
    let base = q.listed (q.state (first_value rounds).store).history in
    let shows = g.C.SharedClock.shows c.args.clock.now in
    let leaves = LeavesRows q.kind q.listed q.state g.T.RoundStore.tables opened in
    let ground = s.state (first_value row).opened.value in
    as_told _ _ _ c.least_cause.ensures
    (stopped_until s.kind s.listed ground (first_entries row) q.kind q.listed opened base shows up_to c.args.until leaves (q.listed opened.history) all (seen n) (seen m) _ until
    (joined_stopped s.kind s.listed ground (first_entries row) q.kind q.listed opened base shows up_to (LeavesRows q.kind q.listed q.state g.T.RoundStore.tables opened) (q.listed opened.history)
    (me ∷ []) others all (seen p.0) (seen r.0) (seen n) (seen p.1) (seen r.1) (seen m)
    (λ x within. subst (λ (xs : List (List ℕ)). Contains xs x) whole (Contains-append_left (me ∷ []) others x within)) (λ x within. subst (λ (xs : List (List ℕ)). Contains xs x) whole (Contains-append_right (me ∷ []) others x within))
    j.seen.1 k.seen.1 j.seen.0 k.seen.0 _ _ first.7 rest.8))

pub returns-in-empty-clause-ended : goal.returns-in-empty-clause-ended
returns-in-empty-clause-ended g t c none = none_ended _ _ _ _ _ _ c.args.members.now _ _ c.in-empty.len_below

pub returns-in-len1-up-clause-ended : goal.returns-in-len1-up-clause-ended
returns-in-len1-up-clause-ended g t c none =
    let s = g.S.RowStore in
    let q = g.T.RowStore in
    let opened = q.state (first_value c.args.states.now).opened.value in
    let first = c.join-first.ensures.first in
    let rest = c.join-first.ensures.second in
    let p = c.join-first.result.0 in
    let r = c.join-first.result.1 in
    let j = c.join.ensures in
    let k = c.join-in-len1-up.ensures in
    let up_to : ℤ = to_z w64 (of_z w64 c.args.until) in
    let until : up_to ≡ c.args.until = search rules in
    joined_ended s.kind s.listed (s.state (first_value c.args.row.now).opened.value) (g.C.SharedClock.shows c.args.clock.now) c.args.until (q.listed opened.history) up_to c.me-item.result (take (length c.args.members.now - 1) (drop 1 c.args.members.now)) c.args.members.now
    (seen p.0) (seen r.0) (seen c.join.result) (seen p.1) (seen r.1) (seen c.join-in-len1-up.result) p.3 r.3 _ c.least_cause.ensures
    j.seen.1 j.seen.0 k.seen.1 k.seen.0 (first_and_others c.args.members.now c.me-item.result c.in-len1-up.len_at_least c.me-item.is) first.8 rest.9 until none

pub returns-in-len1-up-clause-fault : goal.returns-in-len1-up-clause-fault
returns-in-len1-up-clause-fault g t c fault =
    let first = c.join-first.ensures.first in
    let rest = c.join-first.ensures.second in
    let p = c.join-first.result.0 in
    let r = c.join-first.result.1 in
    let j = c.join.ensures in
    let k = c.join-in-len1-up.ensures in
    joined_fault (shut p.0) (shut r.0) (shut c.join.result) (shut p.1) (shut r.1) (shut c.join-in-len1-up.result) p.3 r.3 _ c.least_cause.ensures first.9 rest.10 j.shut_other j.shut k.shut_other k.shut fault
