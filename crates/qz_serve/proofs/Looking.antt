-- A look changes nothing that a seat has.
use Rattle.std.proofs.Common.{◌≡◌, ℕ, List, [], ◌++◌, sym, ap, ◌∙◌, append-nil}
use mathlib.Core.List.{IsPrefix}
use Rattle.qz_types.specs.Entries.{EntryData}
use Rattle.qz_types.specs.declared.replies.Reply.{Reply}
use Rattle.qz_row_lock.specs.Views.{entries_of}
use Rattle.qz_stores.specs.Stores.{EntryKind, StoreState}
use Rattle.qz_serve.specs.Heard.{heard}
use Rattle.qz_serve.proofs.Deeds.{stays}

-- what was taken is given back as it was, so that nothing is the seat's
pub none_own : {E : Type 0} (log seen mine_taken mine after : List E) → seen ≡ log → mine_taken ≡ mine → ((further : List E) → log ≡ seen ++ further → after ≡ mine_taken ++ further) → after ≡ mine
none_own log seen mine_taken mine after is same f = f [] (sym is ∙ sym (append-nil seen)) ∙ append-nil mine_taken ∙ same

-- so its deeds are as they were
pub same_deeds : {H : Type 0} (kind : EntryKind H EntryData Reply) (listed : H → List EntryData) (seat_of : EntryData → ℕ) (opened : StoreState H EntryData) (base : List EntryData) (ids ids_now : List ℕ) (past past_now seen seen_now mine mine_now : List EntryData)
    → seen ≡ base ++ past → mine ≡ entries_of seat_of ids past → seen_now ≡ base ++ past_now → mine_now ≡ entries_of seat_of ids_now past_now → IsPrefix seen seen_now → mine_now ≡ mine → ids_now ≡ ids
    → heard kind listed seat_of opened ids_now base seen_now ≡ heard kind listed seat_of opened ids base seen
same_deeds kind listed seat_of opened base ids ids_now past past_now seen seen_now mine mine_now is own is_now own_now begins same same_ids =
    ap (λ i. heard kind listed seat_of opened i base seen_now) same_ids
    ∙ stays kind listed seat_of opened ids base past past_now begins.0 seen seen_now mine is own (sym begins.1) is_now (sym same ∙ own_now ∙ ap (λ i. entries_of seat_of i past_now) same_ids)
