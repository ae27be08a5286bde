-- What an opening of each store tells of the bytes.
use Rattle.std.proofs.Common.{◌≡◌, ◌++◌, [], List, ℕ, sym, ◌∙◌, ap, subst}
use Rattle.std.proofs.lemmas.List.{append-nil}
use Rattle.std.specs.Prelude.{None}
use Rattle.qz_disk.specs.declared.disk.Disk.{Ghosts}
use Rattle.qz_journal.specs.Slots.{slots_of as slots_in, slot_in_use}
use Rattle.qz_types.specs.Entries.{EntryData}
use Rattle.qz_trigger_store.specs.Bytes.{Whole, list_of, IsWhole, Stands, StandsFrom, BeginsNew}
use Rattle.qz_trigger_store.specs.View.{view, version_of, slots_of, found_of, added_of, GoesOnFrom}
use Rattle.qz_trigger_store.specs.declared.stores.TriggerStore.{TriggerStore}
use Rattle.qz_checkin.specs.Bytes.{Whole as WholeRows, IsWhole as IsWholeRows, Stands as RowsStand}
use Rattle.qz_checkin.specs.View.{view as states_view, whole_of, GoesOnFrom as RowsGoOnFrom}
use Rattle.qz_checkin.specs.declared.stores.StateStore.{StateStore}
use Rattle.qz_cluster.specs.Found.{IsFoundIn, AreFoundIn}

module _ {D : Type 0} {g : Ghosts D} where
  pub found_in : (bytes : List ℕ) (t : TriggerStore D g) → slots_of t ≡ slots_in bytes → added_of t ≡ [] → (slot_in_use (slots_of t) ≡ None → BeginsNew (version_of t) (view t).history)
      → StandsFrom (version_of t) bytes (view t).history → (slot_in_use (slots_in bytes) ≡ None → IsWhole (list_of (version_of t) (found_of t)) bytes)
      → ((w : Whole) → IsWhole w bytes → GoesOnFrom t w × Stands w bytes (view t).history) → IsFoundIn bytes (view t)
  found_in bytes t slots none begins stands without whole = record {
    version = version_of t;
    stands = stands;
    whole = λ w held. (whole w held).1;
    without_slots = λ closed. record {
      version = version_of t;
      begins = begins (ap slot_in_use slots ∙ closed);
      whole = subst (λ (es : List EntryData). IsWhole (list_of (version_of t) es) bytes) (sym (ap (λ (es : List EntryData). found_of t ++ es) none ∙ append-nil (found_of t))) (without closed);
    };
  }

  pub are_found_in : (bytes : List ℕ) (s : StateStore D g) → IsWholeRows (whole_of s) bytes → ((v : WholeRows) → IsWholeRows v bytes → RowsGoOnFrom s v × RowsStand v bytes (states_view s).history) → AreFoundIn bytes (states_view s)
  are_found_in bytes s held whole = record { all = whole_of s; held = held; whole = λ v is. (whole v is).1 }
