-- What holds of each state store.
use Rattle.std.proofs.Common.{List, [], ◌∷◌, refl, subst}
use Rattle.std.proofs.Math.Logic.{∥∥₁_elim}
use Rattle.qz_disk.specs.declared.disk.Disk.{Ghosts}
use Rattle.qz_types.specs.Entries.{StateEntryData}
use Rattle.qz_checkin.specs.Rows.{StateTables, new_state_tables, StateOutcome, accepted, refused, IsAccepted, state_transaction}
use Rattle.qz_checkin.specs.History.{rows_left, IsLegalFrom}
use Rattle.qz_checkin.specs.View.{entries_of}
use Rattle.qz_checkin.specs.declared.stores.StateStore.{StateStore}

IsAccepted-prop : (o : StateOutcome) → IsProp (IsAccepted o)
IsAccepted-prop (accepted T) p q = refl
IsAccepted-prop (refused x) p q = absurd p

IsLegalFrom-prop : (T : StateTables) (es : List StateEntryData) → IsProp (IsLegalFrom T es)
IsLegalFrom-prop T [] p q = refl
IsLegalFrom-prop T (e ∷ es) p q = λ i. (IsAccepted-prop (state_transaction T e) p.0 q.0 i, IsLegalFrom-prop (rows_left T (state_transaction T e)) es p.1 q.1 i)

-- its history is legal
pub legal : {D : Type 0} {g : Ghosts D} (s : StateStore D g) → IsLegalFrom new_state_tables (entries_of s)
legal s = ∥∥₁_elim s.store.legal (IsLegalFrom-prop new_state_tables (entries_of s)) (λ l. subst (λ (T : StateTables). IsLegalFrom T (entries_of s)) (s.store.new_base refl) l)
