-- What an opening finds is a whole list, since a state store has no snapshots.
use Rattle.std.proofs.Common.{◌≡◌, ℕ, List, [], ◌++◌, append-nil, refl, sym, subst}
use Rattle.std.specs.Prelude.{Option, Some, None, Ok, Err, IfOk}
use Rattle.std.specs.declared.result.Result.{Result}
use Rattle.qz_journal.specs.Slots.{slots_of, slot_in_use}
use Rattle.qz_types.specs.Entries.{StateEntryData}
use Rattle.qz_stores.specs.Bases.{HoldAll}
use Rattle.qz_stores.specs.Opening.{IsBase}
use Rattle.qz_stores.proofs.WithoutSlots.{all_there}
use Rattle.qz_checkin.specs.Rows.{StateTables, new_state_tables}
use Rattle.qz_checkin.specs.History.{StateHistory}
use Rattle.qz_checkin.specs.Kinds.{state_kind}
use Rattle.qz_checkin.specs.Laws.{state_lawful}
use Rattle.qz_checkin.specs.Bytes.{list_of, IsWhole, StandsFrom}

-- no slot is in use
shut : (slot : Option ℕ) (v n : ℕ) (ps : List (List ℕ)) (T : StateTables) → IsBase state_kind slot v ps T n → slot ≡ None
shut None v n ps T base = refl
shut (Some gate) v n ps T base = absurd base.snapshot

pub whole_there : (v : ℕ) (b : List ℕ) (h : StateHistory) → StandsFrom v b h → IsWhole (list_of v h.entries) b
whole_there v b h stands = all_there state_kind state_lawful v b h (shut (slot_in_use (slots_of b)) v h.base_count stands.payloads h.base stands.read.base) stands

-- and the store goes on from it
pub goes_on : (v : ℕ) (opened b : List ℕ) (h : StateHistory) → opened ≡ b → StandsFrom v b h → (more : List StateEntryData) × (v ≡ v) × HoldAll state_kind v new_state_tables opened (h.entries ++ more)
goes_on v opened b h same stands =
    ([], refl, subst (λ (l : List ℕ). HoldAll state_kind v new_state_tables l (h.entries ++ [])) (sym same) (subst (HoldAll state_kind v new_state_tables b) (sym (append-nil h.entries)) (whole_there v b h stands)))

pub ok_one : {X F : Type 0} (r : Result X F) (P Q : X → Type 0) → IfOk r P → ((x : X) → P x → Q x) → IfOk r Q
ok_one (Ok x) P Q p one = one x p
ok_one (Err e) P Q p one = tt
