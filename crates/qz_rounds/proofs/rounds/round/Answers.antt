use Rattle.std.proofs.Common.{◌≡◌, sym, ap, ◌∙◌, subst, arith, w64, to_z, of_z}
use Rattle.std.specs.Prelude.{Some}
use Rattle.std.proofs.lemmas.Grind.{common_steps}
use Rattle.std.proofs.lemmas.Int.{to_z-of_z}
use Rattle.qz_row_lock.specs.Seats.{first_value}
use Rattle.qz_shared.specs.Calls.{known}
use Rattle.qz_rounds.specs.Looking.{LeavesRows}
use Rattle.qz_rounds.specs.Rounds.{LooksOnce, MakesRound}
use Rattle.qz_rounds.proofs.Keeping.{later_round}
use Rattle.qz_rounds.proofs.rounds.round.Goals as goal

pub returns-in-Some-clause-makes : goal.returns-in-Some-clause-makes
returns-in-Some-clause-makes g c =
    let s = g.S.RowStore in
    let t = g.T.RowStore in
    let r = c.look_once in
    let opened = t.state (first_value c.args.states.now).opened.value in
    let row_opened = s.state (first_value c.args.row.now).opened.value in
    let leaves = LeavesRows t.kind t.listed t.state g.T.RoundStore.tables opened in
    let same : to_z w64 (of_z w64 c.args.at) ≡ c.args.at = grind (arith, common_steps, to_z-of_z) in
    let last : to_z w64 (of_z w64 c.in-Some.before) ≡ c.in-Some.before = grind (arith, common_steps, to_z-of_z) in
    let at = to_z w64 (of_z w64 c.args.at) in
    let before = to_z w64 (of_z w64 c.in-Some.before) in
    let looks = subst (λ n. LooksOnce t.kind t.listed opened s.kind s.listed row_opened leaves before at c.args.me.now c.args.seat.now.number n r.result (known c.args.seat.now) (known r.new.seat) (known c.check_in.new.state) (known r.new.state))
    c.in_ok-check_in.ensures.same.0 r.ensures.looks in
    subst (λ at. MakesRound t.kind t.listed opened s.kind s.listed row_opened leaves c.args.before at c.args.me.now c.args.seat.now.number c.args.state.now.number r.result (known c.args.seat.now) (known r.new.seat) (known c.args.state.now) (known r.new.state)) same
    (later_round t.kind t.listed opened s.kind s.listed row_opened leaves
    at c.args.me.now c.args.seat.now.number c.args.state.now.number c.args.before before c.in_ok-check_in.field-0 r.result
    (known c.args.seat.now) (known r.new.seat) (known c.args.state.now) (known c.check_in.new.state) (known r.new.state) (c.in-Some.is ∙ ap Some (sym last)) c.in_ok-check_in.ensures.checks_in looks)
