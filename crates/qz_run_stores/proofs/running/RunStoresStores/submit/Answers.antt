use Rattle.std.proofs.Common.{◌≡◌, ◌<◌, ◌^◌, ℤ, w64, to_z, of_z, sym, ap, ◌∙◌, subst, arith}
use Rattle.std.proofs.lemmas.Int.{ints}
use Rattle.std.specs.Prelude.{Err}
use Rattle.qz_types.specs.Entries.{EntryData}
use Rattle.qz_model.specs.History.{replay}
use Rattle.qz_stores.specs.Stores.{Appends, Submits}
use Rattle.qz_trigger_store.specs.Entries.{trigger_entry}
use Rattle.qz_trigger_store.specs.View.{view}
use Rattle.qz_trigger_store.proofs.Kept.{history_valid, payloads_enough}
use Rattle.qz_seen.specs.Asking.{entry_of}
use Rattle.qz_run_stores.specs.Declining.{DeclinesEntry}
use Rattle.qz_run_stores.specs.View.{run_state}
use Rattle.qz_run_stores.proofs.Accepting.{accepts}
use Rattle.qz_run_stores.proofs.Asked.{asked_then}
use Rattle.qz_run_stores.proofs.Declining.{entry_declinable, entry_declines}
use Rattle.qz_run_stores.proofs.Ways.{triggers_kept}
use Rattle.qz_run_stores.proofs.Going.{current_then, later_then, closes_then, entries_stay_then, entries_within_then}
use Rattle.qz_run_stores.proofs.running.RunStoresStores.submit.Goals as goal

pub declined-requires : goal.declined-requires
declined-requires g c =
    let s = c.args.self.now.triggers in
    let reading : to_z w64 (of_z w64 c.args.at) ≡ c.args.at = omega (arith, ints) in
    let entry_is : c.in-Ok.entry ≡ entry_of (replay (view s).history) c.args.at c.args.node c.args.command =
    c.in-Ok.ensures ∙ ap (λ (at : ℤ). entry_of (replay (view s).history) at c.args.node c.args.command) reading in
    entry_declinable (view s) (view c.submit.new.self) c.args.at c.args.node c.args.command c.args.self.now.current (history_valid s) c.requires.time c.requires.clock c.requires.can c.in-Err.error
    (subst (λ (e : EntryData). Submits trigger_entry e (Err c.in-Err.error) (view s) (view c.submit.new.self)) entry_is c.in-Err.ensures.one)

pub returns-in-Ok-submit-clause-accepted : goal.returns-in-Ok-submit-clause-accepted
returns-in-Ok-submit-clause-accepted g c =
    let self = c.args.self.now in
    let s = self.triggers in
    let reading : to_z w64 (of_z w64 c.args.at) ≡ c.args.at = omega (arith, ints) in
    let entry_is : c.in-Ok.entry ≡ entry_of (replay (view s).history) c.args.at c.args.node c.args.command =
    c.in-Ok.ensures ∙ ap (λ (at : ℤ). entry_of (replay (view s).history) at c.args.node c.args.command) reading in
    let small : c.args.node < 2 ^ 32 = omega arith in
    accepts self.entries_before (view s) (view c.submit.new.self) (run_state self).states c.args.at c.args.node c.args.command c.in-Ok-submit.reply self.entries_within small self.current (history_valid s) (λ is_open. omega (arith, payloads_enough s is_open))
    c.requires.time c.requires.clock c.requires.can
    (subst (λ (e : EntryData). Appends trigger_entry e c.in-Ok-submit.reply (view s) (view c.submit.new.self)) entry_is c.in-Ok-submit.ensures.one)

pub returns-in-Err-clause-declined : goal.returns-in-Err-clause-declined
returns-in-Err-clause-declined g c =
    let s = c.args.self.now.triggers in
    let reading : to_z w64 (of_z w64 c.args.at) ≡ c.args.at = omega (arith, ints) in
    let entry_is : c.in-Ok.entry ≡ entry_of (replay (view s).history) c.args.at c.args.node c.args.command =
    c.in-Ok.ensures ∙ ap (λ (at : ℤ). entry_of (replay (view s).history) at c.args.node c.args.command) reading in
    subst (λ why. DeclinesEntry (view c.submit.new.self) (entry_of (replay (view c.submit.new.self).history) c.args.at c.args.node c.args.command) why) (sym c.declined.ensures)
    (entry_declines (view s) (view c.submit.new.self) c.args.at c.args.node c.args.command c.args.self.now.current (history_valid s) c.requires.time c.requires.clock c.requires.can c.in-Err.error
    (subst (λ (e : EntryData). Submits trigger_entry e (Err c.in-Err.error) (view s) (view c.submit.new.self)) entry_is c.in-Err.ensures.one))

pub invariant_of-self-clause-later : goal.invariant_of-self-clause-later
invariant_of-self-clause-later g c =
    let self = c.args.self.now in
    later_then trigger_entry c.in-Ok.entry c.submit.result (view self.triggers_begun.value).faults (view self.triggers) (view c.submit.new.self) c.submit.ensures.one self.later

pub invariant_of-self-clause-closes : goal.invariant_of-self-clause-closes
invariant_of-self-clause-closes g c =
    let self = c.args.self.now in
    closes_then trigger_entry c.in-Ok.entry c.submit.result (view self.triggers_begun.value) (view self.triggers) (view c.submit.new.self) c.submit.ensures.one self.later self.closes

pub invariant_of-self-clause-entries_within : goal.invariant_of-self-clause-entries_within
invariant_of-self-clause-entries_within g c =
    let self = c.args.self.now in
    entries_within_then self.entries_before c.in-Ok.entry c.submit.result (view self.triggers) (view c.submit.new.self) c.submit.ensures.one self.entries_within

pub invariant_of-self-clause-entries_stay : goal.invariant_of-self-clause-entries_stay
invariant_of-self-clause-entries_stay g c =
    let self = c.args.self.now in
    entries_stay_then self.entries_before (view self.triggers_begun.value).history.entries c.in-Ok.entry c.submit.result (view self.triggers) (view c.submit.new.self) c.submit.ensures.one self.entries_within self.entries_stay

pub invariant_of-self-clause-asked : goal.invariant_of-self-clause-asked
invariant_of-self-clause-asked g c =
    let self = c.args.self.now in
    let s = self.triggers in
    let reading : to_z w64 (of_z w64 c.args.at) ≡ c.args.at = omega (arith, ints) in
    let entry_is : c.in-Ok.entry ≡ entry_of (replay (view s).history) c.args.at c.args.node c.args.command =
    c.in-Ok.ensures ∙ ap (λ (at : ℤ). entry_of (replay (view s).history) at c.args.node c.args.command) reading in
    let small : c.args.node < 2 ^ 32 = omega arith in
    asked_then self.entries_before (view self.triggers_begun.value) (view s) (view c.submit.new.self) c.in-Ok.entry c.submit.result self.base_stays self.entries_stay self.entries_within c.submit.ensures.one
    (record { at = c.args.at; node = c.args.node; small = small; command = c.args.command; entry = entry_is }) self.asked

pub invariant_of-self-clause-kept : goal.invariant_of-self-clause-kept
invariant_of-self-clause-kept g c =
    let self = c.args.self.now in
    triggers_kept self.triggers_begun.value self.triggers c.submit.new.self c.in-Ok.entry c.submit.result (omega (arith, self.entries_counted, self.entries_within)) c.submit.ensures.one c.submit.ensures.any_moment self.kept

-- whatever the store answered, it isn't old
pub invariant_of-self-clause-current : goal.invariant_of-self-clause-current
invariant_of-self-clause-current g c = current_then c.in-Ok.entry c.submit.result (view c.args.self.now.triggers) (view c.submit.new.self) c.args.self.now.current c.submit.ensures.one
