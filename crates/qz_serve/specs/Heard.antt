-- What was done in a history under some seats' numbers: the entries that were accepted, with their replies.
use Rattle.std.specs.Prelude.{ℕ, Bool, true, false, List, [], ◌∷◌, ◌++◌, length, drop, Ok, Err}
use Rattle.std.specs.declared.result.Result.{Result}
use Rattle.qz_types.specs.Entries.{EntryData}
use Rattle.qz_types.specs.declared.replies.Refusal.{Refusal}
use Rattle.qz_types.specs.declared.replies.Reply.{Reply}
use Rattle.qz_row_lock.specs.Views.{has}
use Rattle.qz_stores.specs.Stores.{EntryKind, StoreState}
use Rattle.qz_shared.specs.Since.{history_at}

-- an entry that was accepted, and its reply
pub record Deed : Type 0 where
  pub entry : EntryData
  pub reply : Reply

-- these deeds, with the entry as the latest of them where it is own and was accepted
abbrev pub with_deed : Bool → EntryData → Result Reply Refusal → List Deed → List Deed
with_deed true e (Ok reply) past = record { entry = e; reply = reply } ∷ past
with_deed true e (Err refusal) past = past
with_deed false e answered past = past

module _ (answer : List EntryData → EntryData → Result Reply Refusal) (is_own : EntryData → Bool) where
  -- These deeds and those of further entries, the latest first, where the entries in `done` came before them. Each entry is
  -- answered after all those before it.
  abbrev pub deeds_from : List Deed → List EntryData → List EntryData → List Deed
  deeds_from past done [] = past
  deeds_from past done (e ∷ es) = deeds_from (with_deed (is_own e) e (answer done e) past) (done ++ e ∷ []) es

module _ {H : Type 0} (kind : EntryKind H EntryData Reply) (listed : H → List EntryData) (seat_of : EntryData → ℕ) (opened : StoreState H EntryData) where
  -- what the store that was opened so answers to an entry after these
  abbrev pub answer_after : List EntryData → EntryData → Result Reply Refusal
  answer_after done e = kind.answer (history_at kind listed opened done) e

  -- What was done under these numbers, the latest first, where the store's entries are these and those of `base` come before
  -- all that was done.
  abbrev pub heard : List ℕ → List EntryData → List EntryData → List Deed
  heard numbers base entries = deeds_from answer_after (λ e. has numbers (seat_of e)) [] base (drop (length base) entries)

  -- what was done under these numbers since the store was opened
  abbrev pub heard_since : List ℕ → List EntryData → List Deed
  heard_since numbers entries = heard numbers (listed opened.history) entries
