use Rattle.std.proofs.Common.{◌≡◌, refl, sym, ap, ◌∙◌, subst, arith, rules, w64, to_z, of_z}
use Rattle.std.proofs.lemmas.Grind.{common_steps}
use Rattle.std.proofs.lemmas.Int.{to_z-of_z}
use Rattle.qz_row_lock.specs.Seats.{seen, first_value}
use Rattle.qz_shared.specs.Calls.{known}
use Rattle.qz_rounds.specs.Looking.{LeavesRows, HasCheckedIn}
use Rattle.std.specs.Prelude.{int_le}
use Rattle.qz_rounds.specs.Rounds.{is_round_due}
use Rattle.qz_rounds.proofs.Keeping.{match_true, round_keeps}
use Rattle.qz_rounds.proofs.Stopping.{round_stops, round_checks}
use Rattle.qz_rounds.proofs.rounds.read_once.Goals as goal

pub returns-in-Ok-clause-adds : goal.returns-in-Ok-clause-adds
returns-in-Ok-clause-adds g c =
    let s = g.S.RowStore in
    let t = g.T.RowStore in
    let r = c.round-answer in
    let same : to_z w64 (of_z w64 c.now-at.result) ≡ c.now-at.result = grind (arith, common_steps, to_z-of_z) in
    let shown = subst (g.C.SharedClock.shows c.args.clock.now) (sym same) c.now-at.ensures in
    round_keeps t.kind t.listed (t.state (first_value c.args.states.now).opened.value) s.kind s.listed (s.state (first_value c.args.row.now).opened.value) g.met.T.RowStore.lists g.met.S.RowStore.lists
    (g.C.SharedClock.shows c.args.clock.now) (LeavesRows t.kind t.listed t.state g.T.RoundStore.tables (t.state (first_value c.args.states.now).opened.value))
    (to_z w64 (of_z w64 c.now-at.result)) shown c.args.me.now c.args.seat.now.number c.args.state.now.number
    c.args.last.now r.result (known c.args.seat.now) (known r.new.seat) (known c.args.state.now) (known r.new.state) c.requires.checked r.ensures.makes c.requires.adds

pub returns-in-Err-clause-adds : goal.returns-in-Err-clause-adds
returns-in-Err-clause-adds g c =
    let s = g.S.RowStore in
    let t = g.T.RowStore in
    let r = c.round-answer in
    let same : to_z w64 (of_z w64 c.now-at.result) ≡ c.now-at.result = grind (arith, common_steps, to_z-of_z) in
    let shown = subst (g.C.SharedClock.shows c.args.clock.now) (sym same) c.now-at.ensures in
    round_keeps t.kind t.listed (t.state (first_value c.args.states.now).opened.value) s.kind s.listed (s.state (first_value c.args.row.now).opened.value) g.met.T.RowStore.lists g.met.S.RowStore.lists
    (g.C.SharedClock.shows c.args.clock.now) (LeavesRows t.kind t.listed t.state g.T.RoundStore.tables (t.state (first_value c.args.states.now).opened.value))
    (to_z w64 (of_z w64 c.now-at.result)) shown c.args.me.now c.args.seat.now.number c.args.state.now.number
    c.args.last.now r.result (known c.args.seat.now) (known r.new.seat) (known c.args.state.now) (known r.new.state) c.requires.checked r.ensures.makes c.requires.adds

pub returns-in-Err-clause-stopped : goal.returns-in-Err-clause-stopped
returns-in-Err-clause-stopped g c =
    let s = g.S.RowStore in
    let t = g.T.RowStore in
    let r = c.round-answer in
    let same : to_z w64 (of_z w64 c.now-at.result) ≡ c.now-at.result = grind (arith, common_steps, to_z-of_z) in
    let shown = subst (g.C.SharedClock.shows c.args.clock.now) (sym same) c.now-at.ensures in
    round_stops t.kind t.listed (t.state (first_value c.args.states.now).opened.value) s.kind s.listed (s.state (first_value c.args.row.now).opened.value) g.met.T.RowStore.lists g.met.S.RowStore.lists
    (g.C.SharedClock.shows c.args.clock.now) (LeavesRows t.kind t.listed t.state g.T.RoundStore.tables (t.state (first_value c.args.states.now).opened.value))
    (to_z w64 (of_z w64 c.now-at.result)) shown c.args.me.now c.args.seat.now.number c.args.state.now.number
    c.args.last.now r.result c.in-Err.why (known c.args.seat.now) (known r.new.seat) (known c.args.state.now) (known r.new.state) c.requires.checked r.ensures.makes (sym c.go_on.ensures ∙ c.in-Err.is)

pub returns-in-Ok-clause-ended : goal.returns-in-Ok-clause-ended
returns-in-Ok-clause-ended g c over =
    let s = g.S.RowStore in
    let t = g.T.RowStore in
    let r = c.round-answer in
    let same : to_z w64 (of_z w64 c.now-at.result) ≡ c.now-at.result = grind (arith, common_steps, to_z-of_z) in
    let shown = subst (g.C.SharedClock.shows c.args.clock.now) (sym same) c.now-at.ensures in (
      c.now-at.result,
      c.now-at.ensures,
      grind (arith, common_steps, to_z-of_z),
      subst (λ x. HasCheckedIn (t.listed (t.state (first_value c.args.states.now).opened.value).history) c.args.me.now.node x (seen r.new.state)) same (round_checks t.kind t.listed (t.state (first_value c.args.states.now).opened.value) s.kind s.listed (s.state (first_value c.args.row.now).opened.value) g.met.T.RowStore.lists g.met.S.RowStore.lists
          (g.C.SharedClock.shows c.args.clock.now) (LeavesRows t.kind t.listed t.state g.T.RoundStore.tables (t.state (first_value c.args.states.now).opened.value))
          (to_z w64 (of_z w64 c.now-at.result)) shown c.args.me.now c.args.seat.now.number c.args.state.now.number
          g.met.T.RoundStore.check_in_refused c.args.last.now r.result (known c.args.seat.now) (known r.new.seat) (known c.args.state.now) (known r.new.state) c.requires.checked r.ensures.makes c.requires.adds (sym c.go_on.ensures ∙ c.in-Ok.is)),
    )

pub returns-in-Ok-clause-last : goal.returns-in-Ok-clause-last
returns-in-Ok-clause-last g c over =
    let r = c.round-answer in
    let same : to_z w64 (of_z w64 c.now-at.result) ≡ c.now-at.result = grind (arith, common_steps, to_z-of_z) in
    record {
      at = to_z w64 (of_z w64 c.now-at.result);
      shown = subst (g.C.SharedClock.shows c.args.clock.now) (sym same) c.now-at.ensures;
      late = grind (arith, common_steps, to_z-of_z);
      trigger = known c.args.seat.now;
      state = known c.args.state.now;
      before = c.args.last.now;
      made = record { answer = r.result; makes = r.ensures.makes; goes_on = sym c.go_on.ensures ∙ c.in-Ok.is };
    }

pub returns-in-Ok-clause-checked : goal.returns-in-Ok-clause-checked
returns-in-Ok-clause-checked g c =
    let s = g.S.RowStore in
    let t = g.T.RowStore in
    let r = c.round-answer in
    let same : to_z w64 (of_z w64 c.now-at.result) ≡ c.now-at.result = grind (arith, common_steps, to_z-of_z) in
    let shown = subst (g.C.SharedClock.shows c.args.clock.now) (sym same) c.now-at.ensures in
    round_checks t.kind t.listed (t.state (first_value c.args.states.now).opened.value) s.kind s.listed (s.state (first_value c.args.row.now).opened.value) g.met.T.RowStore.lists g.met.S.RowStore.lists
    (g.C.SharedClock.shows c.args.clock.now) (LeavesRows t.kind t.listed t.state g.T.RoundStore.tables (t.state (first_value c.args.states.now).opened.value))
    (to_z w64 (of_z w64 c.now-at.result)) shown c.args.me.now c.args.seat.now.number c.args.state.now.number
    g.met.T.RoundStore.check_in_refused c.args.last.now r.result (known c.args.seat.now) (known r.new.seat) (known c.args.state.now) (known r.new.state) c.requires.checked r.ensures.makes c.requires.adds (sym c.go_on.ensures ∙ c.in-Ok.is)

pub returns-in-Ok-clause-read : goal.returns-in-Ok-clause-read
returns-in-Ok-clause-read g c =
    let r = c.round-answer in
    let same : to_z w64 (of_z w64 c.now-at.result) ≡ c.now-at.result = grind (arith, common_steps, to_z-of_z) in
    let up_to : to_z w64 (of_z w64 c.args.until) ≡ c.args.until = grind (arith, common_steps, to_z-of_z) in
    let at = to_z w64 (of_z w64 c.now-at.result) in
    record {
      at = at;
      shown = subst (g.C.SharedClock.shows c.args.clock.now) (sym same) c.now-at.ensures;
      does = match_true _ _ _ (ap (λ u. is_round_due c.args.last.now at u) (sym up_to) ∙ sym c.is_due.ensures ∙ search rules)
          (refl, c.is_over.ensures.value ∙ ap (λ u. int_le u at) up_to, record { answer = r.result; makes = r.ensures.makes; goes_on = sym c.go_on.ensures ∙ c.in-Ok.is });
    }
