use Rattle.std.proofs.Common.{◌≡◌, ◌<◌, true, rules, sym, ap, ◌∙◌, subst}
use Rattle.qz_row_lock.specs.Seats.{ids, seen, first_value}
use Rattle.qz_row_lock.specs.Views.{has, entries_of, times}
use Rattle.qz_row_lock.proofs.Claims.{has_some}
use Rattle.qz_shared.specs.Calls.{known}
use Rattle.qz_serve.specs.Asking.{DeedsAfter}
use Rattle.qz_serve.specs.Entries.{entry_by}
use Rattle.qz_serve.specs.Heard.{heard}
use Rattle.qz_rounds.proofs.Seen.{sees_on}
use Rattle.qz_serve.proofs.Deeds.{deeds_after}
use Rattle.qz_serve.proofs.Finished.{accepted_if}
use Rattle.qz_serve.proofs.threads.asking.submit_as.Goals as goal

pub returns-clause-deeds : goal.returns-clause-deeds
returns-clause-deeds g c =
    let k = g.S.RowStore in
    let s = c.args.seat.now in
    let t = c.submit.new.seat in
    let e = c.entry_of-entry.result in
    let f = c.submit.ensures in
    let base = k.listed (k.state (first_value c.args.row.now).store).history in
    let opened = k.state (first_value c.args.row.now).opened.value in
    let same : ids t ≡ ids s = f.same.3 in
    let counts = s.counts in
    let ready = s.ready in
    let numbered : k.seat_of e ≡ s.number = g.met.S.NodeStore.is_seat e ∙ ap (λ x. x.seat) c.entry_of-entry.ensures in
    let is : e ≡ entry_by c.args.at c.args.me.now s.number c.args.command = search rules in
    let own : has (ids s) (k.seat_of e) ≡ true = ap (has (ids s)) numbered ∙ has_some s.number (ids s) (subst (λ n. 0 < times n (ids s)) counts.0 ready.3) in
    let mine_now = f.of.mine_is ∙ ap (λ i. entries_of k.seat_of i f.of.past) same in
    let done = deeds_after k.kind k.listed k.seat_of opened (ids s) base g.met.S.RowStore.lists c.requires.of.past f.of.past e c.submit.result (known s) (known t) own c.requires.of.seen_is c.requires.of.mine_is f.of.seen_is mine_now f.called in
    subst (λ x. DeedsAfter c.submit.result x (heard k.kind k.listed k.seat_of opened (ids s) base (seen s)) (heard k.kind k.listed k.seat_of opened (ids t) base (seen t))) is
    (subst (λ i. DeedsAfter c.submit.result e (heard k.kind k.listed k.seat_of opened (ids s) base (seen s)) (heard k.kind k.listed k.seat_of opened i base (seen t))) (sym same) done)

pub returns-clause-begins : goal.returns-clause-begins
returns-clause-begins g c =
    let k = g.S.RowStore in
    sees_on k.kind k.listed g.met.S.RowStore.lists (k.state (first_value c.args.row.now).opened.value) c.entry_of-entry.result c.submit.result (known c.args.seat.now) (known c.submit.new.seat) c.submit.ensures.called

pub returns-clause-accepted : goal.returns-clause-accepted
returns-clause-accepted g c =
    let k = g.S.RowStore in
    let s = c.args.seat.now in
    let e = c.entry_of-entry.result in
    let is : e ≡ entry_by c.args.at c.args.me.now s.number c.args.command = search rules in
    accepted_if k.kind k.listed (k.state (first_value c.args.row.now).opened.value) g.met.S.RowStore.lists e (entry_by c.args.at c.args.me.now s.number c.args.command) c.submit.result (known s) (known c.submit.new.seat) is c.submit.ensures.called
