use Rattle.std.proofs.Common.{◌≡◌, ◌<◌, ◌^◌, List, ℕ, ℤ, w64, to_z, of_z, sym, subst, arith}
use Rattle.std.proofs.lemmas.Int.{ints}
use Rattle.std.specs.Prelude.{Err}
use Rattle.qz_types.specs.declared.states.StateCommand.TheVariants.{CheckIn}
use Rattle.qz_stores.specs.Stores.{Appends, Submits}
use Rattle.qz_checkin.specs.Entries.{of_states}
use Rattle.qz_checkin.specs.View.{view as states_view}
use Rattle.qz_run.specs.Stores.{checks_in}
use Rattle.qz_run.specs.declared.stores.TheConstants.{CHECK_IN_INTERVAL}
use Rattle.qz_seen.specs.Seen.{node_name}
use Rattle.qz_run_stores.specs.Declining.{HasDeclined}
use Rattle.qz_run_stores.specs.View.{run_state}
use Rattle.qz_run_stores.proofs.Rows.{checked_in, check_in_declinable, check_in_declines}
use Rattle.qz_run_stores.proofs.Ways.{states_kept}
use Rattle.qz_run_stores.proofs.Going.{later_then, closes_then, stay_then, within_then}
use Rattle.qz_run_stores.proofs.running.RunStoresStores.check_in.Goals as goal

pub returns-in-Ok-check_in-clause-accepted : goal.returns-in-Ok-check_in-clause-accepted
returns-in-Ok-check_in-clause-accepted g c =
    let self = c.args.self.now in
    let reading : to_z w64 (of_z w64 c.args.at) ≡ c.args.at = omega (arith, ints) in
    let small : c.args.node < 2 ^ 32 = omega arith in
    checked_in self.rows_before (states_view self.states) (states_view c.check_in.new.self) (run_state self).view (run_state self).log c.args.at c.args.node self.rows_within small
    (subst (λ (at : ℤ). Appends of_states (record { at = at; seat = 0; command = CheckIn (node_name c.args.node) CHECK_IN_INTERVAL }) tt (states_view self.states) (states_view c.check_in.new.self)) reading
    (subst (λ (name : List ℕ). Appends of_states (record { at = to_z w64 (of_z w64 c.args.at); seat = 0; command = CheckIn name CHECK_IN_INTERVAL }) tt (states_view self.states) (states_view c.check_in.new.self))
    c.in-Ok.ensures.name c.in-Ok-check_in.ensures.one))

pub declined-requires : goal.declined-requires
declined-requires g c =
    let self = c.args.self.now in
    let reading : to_z w64 (of_z w64 c.args.at) ≡ c.args.at = omega (arith, ints) in
    check_in_declinable (states_view self.states) (states_view c.check_in.new.self) c.args.at c.args.node c.in-Err.error
    (subst (λ (at : ℤ). Submits of_states (record { at = at; seat = 0; command = CheckIn (node_name c.args.node) CHECK_IN_INTERVAL }) (Err c.in-Err.error) (states_view self.states) (states_view c.check_in.new.self)) reading
    (subst (λ (name : List ℕ). Submits of_states (record { at = to_z w64 (of_z w64 c.args.at); seat = 0; command = CheckIn name CHECK_IN_INTERVAL }) (Err c.in-Err.error) (states_view self.states) (states_view c.check_in.new.self))
    c.in-Ok.ensures.name c.in-Err.ensures.one))

pub returns-clause-declined : goal.returns-clause-declined
returns-clause-declined g c =
    let self = c.args.self.now in
    let reading : to_z w64 (of_z w64 c.args.at) ≡ c.args.at = omega (arith, ints) in
    subst (λ why. HasDeclined (states_view c.check_in.new.self) (node_name c.args.node) c.args.at (checks_in CHECK_IN_INTERVAL) why) (sym c.declined.ensures)
    (check_in_declines (states_view self.states) (states_view c.check_in.new.self) c.args.at c.args.node c.in-Err.error
    (subst (λ (at : ℤ). Submits of_states (record { at = at; seat = 0; command = CheckIn (node_name c.args.node) CHECK_IN_INTERVAL }) (Err c.in-Err.error) (states_view self.states) (states_view c.check_in.new.self)) reading
    (subst (λ (name : List ℕ). Submits of_states (record { at = to_z w64 (of_z w64 c.args.at); seat = 0; command = CheckIn name CHECK_IN_INTERVAL }) (Err c.in-Err.error) (states_view self.states) (states_view c.check_in.new.self))
    c.in-Ok.ensures.name c.in-Err.ensures.one)))

pub invariant_of-self-clause-states_later : goal.invariant_of-self-clause-states_later
invariant_of-self-clause-states_later g c =
    let self = c.args.self.now in
    later_then of_states _ c.check_in.result (states_view self.states_begun.value).faults (states_view self.states) (states_view c.check_in.new.self) c.check_in.ensures.one self.states_later

pub invariant_of-self-clause-states_close : goal.invariant_of-self-clause-states_close
invariant_of-self-clause-states_close g c =
    let self = c.args.self.now in
    closes_then of_states _ c.check_in.result (states_view self.states_begun.value) (states_view self.states) (states_view c.check_in.new.self) c.check_in.ensures.one self.states_later self.states_close

pub invariant_of-self-clause-rows_within : goal.invariant_of-self-clause-rows_within
invariant_of-self-clause-rows_within g c =
    let self = c.args.self.now in
    within_then self.rows_before _ c.check_in.result (states_view self.states) (states_view c.check_in.new.self) c.check_in.ensures.one self.rows_within

pub invariant_of-self-clause-rows_stay : goal.invariant_of-self-clause-rows_stay
invariant_of-self-clause-rows_stay g c =
    let self = c.args.self.now in
    stay_then self.rows_before (states_view self.states_begun.value).history.entries _ c.check_in.result (states_view self.states) (states_view c.check_in.new.self) c.check_in.ensures.one self.rows_within self.rows_stay

pub invariant_of-self-clause-states_kept : goal.invariant_of-self-clause-states_kept
invariant_of-self-clause-states_kept g c =
    let self = c.args.self.now in
    states_kept self.states_begun.value self.states c.check_in.new.self _ c.check_in.result (omega (arith, self.rows_counted, self.rows_within)) c.check_in.ensures.one c.check_in.ensures.any_moment self.states_kept
