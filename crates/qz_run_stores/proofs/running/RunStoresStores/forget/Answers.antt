use Rattle.std.proofs.Common.{◌≡◌, ◌<◌, ◌^◌, List, ℕ, ℤ, pos, w64, to_z, of_z, Some, option_copied, refl, sym, ap, ◌∙◌, subst, arith}
use Rattle.std.specs.Prelude.{Err}
use Rattle.std.proofs.lemmas.Int.{ints, to_z-of_z}
use Rattle.std.proofs.lemmas.Grind.{common_steps}
use Rattle.qz_types.specs.Rows.{StateData}
use Rattle.qz_types.specs.declared.states.StateCommand.TheVariants.{Forget}
use Rattle.qz_stores.specs.Stores.{Appends, Submits}
use Rattle.qz_checkin.specs.Entries.{of_states}
use Rattle.qz_checkin.specs.History.{replay_states}
use Rattle.qz_checkin.specs.Rows.{state_of}
use Rattle.qz_checkin.specs.View.{view as states_view}
use Rattle.qz_run.specs.Stores.{RowState, forgets}
use Rattle.qz_seen.specs.Seen.{node_name}
use Rattle.qz_run_stores.specs.Declining.{HasDeclined}
use Rattle.qz_run_stores.specs.View.{run_state}
use Rattle.qz_run_stores.proofs.Rows.{forget_entry, forgot, forget_declinable, forget_declines}
use Rattle.qz_run_stores.proofs.Ways.{states_kept}
use Rattle.qz_run_stores.proofs.Going.{later_then, closes_then, stay_then, within_then, same_rows}
use Rattle.qz_run_stores.proofs.running.RunStoresStores.forget.Goals as goal

pub returns-in_default-clause-declined : goal.returns-in_default-clause-declined
returns-in_default-clause-declined g c = (forget_entry c.args.at c.args.node (pos 0), ((pos 0, refl), tt))

pub returns-in-Ok-forget-clause-accepted : goal.returns-in-Ok-forget-clause-accepted
returns-in-Ok-forget-clause-accepted g c =
    let self = c.args.self.now in
    let reading : to_z w64 (of_z w64 c.args.at) ≡ c.args.at = omega (arith, ints) in
    let small : c.args.node < 2 ^ 32 = omega arith in
    let last : ℤ = to_z w64 (of_z w64 c.row-in-Some.inside.last) in
    forgot self.rows_before (states_view self.states) (states_view c.forget.new.self) (run_state self).view (run_state self).log c.args.at c.args.node self.rows_within small last
    (subst (λ (at : ℤ). Appends of_states (record { at = at; seat = 0; command = Forget (node_name c.args.node) last }) tt (states_view self.states) (states_view c.forget.new.self)) reading
    (subst (λ (name : List ℕ). Appends of_states (record { at = to_z w64 (of_z w64 c.args.at); seat = 0; command = Forget name last }) tt (states_view self.states) (states_view c.forget.new.self))
    c.in-Ok.ensures.name c.in-Ok-forget.ensures.one))

pub declined-requires : goal.declined-requires
declined-requires g c =
    let self = c.args.self.now in
    let reading : to_z w64 (of_z w64 c.args.at) ≡ c.args.at = omega (arith, ints) in
    let row : StateData = c.in-Some.row.now in
    let here : state_of c.in-Ok.name (replay_states (states_view self.states).history).rows ≡ Some row = sym c.row.ensures ∙ ap option_copied c.in-Some.is in
    let found : state_of (node_name c.args.node) (replay_states (states_view self.states).history).rows ≡ Some row =
    subst (λ (name : List ℕ). state_of name (replay_states (states_view self.states).history).rows ≡ Some row) c.in-Ok.ensures.name here in
    let at_row : c.row-in-Some.inside.last ≡ row.last = cc in
    let last : to_z w64 (of_z w64 c.row-in-Some.inside.last) ≡ row.last = grind (arith, common_steps, to_z-of_z, at_row) in
    forget_declinable (states_view self.states) (states_view c.forget.new.self) c.args.at c.args.node row found c.in-Err.error
    (subst (λ (at : ℤ). Submits of_states (record { at = at; seat = 0; command = Forget (node_name c.args.node) row.last }) (Err c.in-Err.error) (states_view self.states) (states_view c.forget.new.self)) reading
    (subst (λ (name : List ℕ). Submits of_states (record { at = to_z w64 (of_z w64 c.args.at); seat = 0; command = Forget name row.last }) (Err c.in-Err.error) (states_view self.states) (states_view c.forget.new.self)) c.in-Ok.ensures.name
    (subst (λ (x : ℤ). Submits of_states (record { at = to_z w64 (of_z w64 c.args.at); seat = 0; command = Forget c.in-Ok.name x }) (Err c.in-Err.error) (states_view self.states) (states_view c.forget.new.self)) last c.in-Err.ensures.one)))

pub returns-clause-declined : goal.returns-clause-declined
returns-clause-declined g c =
    let self = c.args.self.now in
    let reading : to_z w64 (of_z w64 c.args.at) ≡ c.args.at = omega (arith, ints) in
    let row : StateData = c.in-Some.row.now in
    let here : state_of c.in-Ok.name (replay_states (states_view self.states).history).rows ≡ Some row = sym c.row.ensures ∙ ap option_copied c.in-Some.is in
    let found : state_of (node_name c.args.node) (replay_states (states_view self.states).history).rows ≡ Some row =
    subst (λ (name : List ℕ). state_of name (replay_states (states_view self.states).history).rows ≡ Some row) c.in-Ok.ensures.name here in
    let at_row : c.row-in-Some.inside.last ≡ row.last = cc in
    let last : to_z w64 (of_z w64 c.row-in-Some.inside.last) ≡ row.last = grind (arith, common_steps, to_z-of_z, at_row) in
    subst (λ why. HasDeclined (states_view c.forget.new.self) (node_name c.args.node) c.args.at forgets why) (sym c.declined.ensures)
    (forget_declines (states_view self.states) (states_view c.forget.new.self) c.args.at c.args.node row found c.in-Err.error
    (subst (λ (at : ℤ). Submits of_states (record { at = at; seat = 0; command = Forget (node_name c.args.node) row.last }) (Err c.in-Err.error) (states_view self.states) (states_view c.forget.new.self)) reading
    (subst (λ (name : List ℕ). Submits of_states (record { at = to_z w64 (of_z w64 c.args.at); seat = 0; command = Forget name row.last }) (Err c.in-Err.error) (states_view self.states) (states_view c.forget.new.self)) c.in-Ok.ensures.name
    (subst (λ (x : ℤ). Submits of_states (record { at = to_z w64 (of_z w64 c.args.at); seat = 0; command = Forget c.in-Ok.name x }) (Err c.in-Err.error) (states_view self.states) (states_view c.forget.new.self)) last c.in-Err.ensures.one))))

pub returns-clause-same : goal.returns-clause-same
returns-clause-same g c =
    let self = c.args.self.now in
    ap (λ (rows : RowState). record { view = (run_state self).view; log = (run_state self).log; states = rows })
    (same_rows self.rows_before _ c.in-Err.error (states_view self.states) (states_view c.forget.new.self) c.in-Err.ensures.one)

pub invariant_of-self-clause-states_later : goal.invariant_of-self-clause-states_later
invariant_of-self-clause-states_later g c =
    let self = c.args.self.now in
    later_then of_states _ c.forget.result (states_view self.states_begun.value).faults (states_view self.states) (states_view c.forget.new.self) c.forget.ensures.one self.states_later

pub invariant_of-self-clause-states_close : goal.invariant_of-self-clause-states_close
invariant_of-self-clause-states_close g c =
    let self = c.args.self.now in
    closes_then of_states _ c.forget.result (states_view self.states_begun.value) (states_view self.states) (states_view c.forget.new.self) c.forget.ensures.one self.states_later self.states_close

pub invariant_of-self-clause-rows_within : goal.invariant_of-self-clause-rows_within
invariant_of-self-clause-rows_within g c =
    let self = c.args.self.now in
    within_then self.rows_before _ c.forget.result (states_view self.states) (states_view c.forget.new.self) c.forget.ensures.one self.rows_within

pub invariant_of-self-clause-rows_stay : goal.invariant_of-self-clause-rows_stay
invariant_of-self-clause-rows_stay g c =
    let self = c.args.self.now in
    stay_then self.rows_before (states_view self.states_begun.value).history.entries _ c.forget.result (states_view self.states) (states_view c.forget.new.self) c.forget.ensures.one self.rows_within self.rows_stay

pub invariant_of-self-clause-states_kept : goal.invariant_of-self-clause-states_kept
invariant_of-self-clause-states_kept g c =
    let self = c.args.self.now in
    states_kept self.states_begun.value self.states c.forget.new.self _ c.forget.result (omega (arith, self.rows_counted, self.rows_within)) c.forget.ensures.one c.forget.ensures.any_moment self.states_kept
