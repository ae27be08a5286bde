-- What is known of a node's jobs goes with its seat into the seat that it is joined into.
use Rattle.std.proofs.Common.{◌≡◌, ℕ, List, [], ◌++◌, refl, sym, ap, ◌∙◌, subst, append-nil}
use mathlib.Core.List.{IsPrefix}
use Rattle.qz_types.specs.Entries.{EntryData}
use Rattle.qz_types.specs.declared.replies.Reply.{Reply}
use Rattle.qz_row_lock.specs.Views.{has, entries_of}
use Rattle.qz_row_lock.proofs.Claims.{owned_first, owned_second}
use Rattle.qz_stores.specs.Stores.{EntryKind, StoreState}
use Rattle.qz_node.specs.Jobs.{JobMeaning}
use Rattle.qz_rounds.proofs.Lists.{prefix_trans}
use Rattle.qz_serve.specs.Heard.{Deed, heard, deeds_from, answer_after}
use Rattle.qz_serve.specs.Ran.{RanOrMore}
use Rattle.qz_serve.specs.Knowing.{RanIn}
use Rattle.qz_serve.proofs.Deeds.{stays, after_is, others}

module _ {H : Type 0} (kind : EntryKind H EntryData Reply) (listed : H → List EntryData) (seat_of : EntryData → ℕ) (opened : StoreState H EntryData) (base : List EntryData) where
  -- a seat with no entries has done nothing
  pub no_deeds : (ids : List ℕ) (past seen mine : List EntryData) → seen ≡ base ++ past → mine ≡ entries_of seat_of ids past → mine ≡ [] → heard kind listed seat_of opened ids base seen ≡ []
  no_deeds ids past seen mine is own none =
      ap (deeds_from (answer_after kind listed seat_of opened) (λ e. has ids (seat_of e)) [] base) (after_is base past seen is) ∙ others (answer_after kind listed seat_of opened) (λ e. has ids (seat_of e)) [] base past (sym own ∙ none)

  -- what a seat's own thread told is known by the seat
  pub ran_in : (numbers ids : List ℕ) (past seen mine : List EntryData) (before after : List JobMeaning) → ids ≡ numbers → seen ≡ base ++ past → mine ≡ entries_of seat_of ids past → RanOrMore (heard kind listed seat_of opened ids base seen) before after
      → RanIn (λ n e. heard kind listed seat_of opened n base e) seat_of base numbers ids seen mine before after
  ran_in numbers ids past seen mine before after same is own ran =
      let here : RanIn (λ n e. heard kind listed seat_of opened n base e) seat_of base ids ids seen mine before after = record {
        ran = λ added begins has_own.
            let stay = stays kind listed seat_of opened ids base past added begins.0 seen (base ++ added) mine is own (sym begins.1) refl (sym has_own) in
            subst (λ h. RanOrMore h before after) (sym stay) ran;
      } in
      subst (λ i. RanIn (λ n e. heard kind listed seat_of opened n base e) seat_of base i ids seen mine before after) same here

module _ (heard : List ℕ → List EntryData → List Deed) (seat_of : EntryData → ℕ) (base : List EntryData) (numbers a b all : List ℕ) (seen seen_all mine mine_all : List EntryData) (before after : List JobMeaning) where
  pub joins_first : RanIn heard seat_of base numbers a seen mine before after → all ≡ a ++ b → IsPrefix seen seen_all → entries_of seat_of a mine_all ≡ mine → RanIn heard seat_of base numbers all seen_all mine_all before after
  joins_first r split begins own = record {
    ran = λ added goes has_own.
        let whole : entries_of seat_of (a ++ b) added ≡ mine_all = ap (λ i. entries_of seat_of i added) (sym split) ∙ has_own in
        r.ran added (prefix_trans seen seen_all (base ++ added) begins goes) (sym (owned_first seat_of a b added) ∙ ap (entries_of seat_of a) whole ∙ own);
  }

  pub joins_second : RanIn heard seat_of base numbers b seen mine before after → all ≡ a ++ b → IsPrefix seen seen_all → entries_of seat_of b mine_all ≡ mine → RanIn heard seat_of base numbers all seen_all mine_all before after
  joins_second r split begins own = record {
    ran = λ added goes has_own.
        let whole : entries_of seat_of (a ++ b) added ≡ mine_all = ap (λ i. entries_of seat_of i added) (sym split) ∙ has_own in
        r.ran added (prefix_trans seen seen_all (base ++ added) begins goes) (sym (owned_second seat_of a b added) ∙ ap (entries_of seat_of b) whole ∙ own);
  }

module _ (heard : List ℕ → List EntryData → List Deed) (seat_of : EntryData → ℕ) (base : List EntryData) where
  own_again : (ids : List ℕ) (xs : List EntryData) → entries_of seat_of ids (entries_of seat_of ids xs) ≡ entries_of seat_of ids xs
  own_again ids xs = ap (λ i. entries_of seat_of ids (entries_of seat_of i xs)) (sym (append-nil ids)) ∙ owned_first seat_of ids [] xs

  -- what is known where all seats were joined into one, and the store has what that seat has
  pub closing : (numbers all : List ℕ) (past seen mine whole : List EntryData) (before after : List JobMeaning) → mine ≡ entries_of seat_of all past → whole ≡ base ++ mine → IsPrefix seen whole
      → RanIn heard seat_of base numbers all seen mine before after → RanOrMore (heard numbers whole) before after
  closing numbers all past seen mine whole before after own is begins r =
      let has_own : entries_of seat_of all mine ≡ mine = ap (entries_of seat_of all) own ∙ own_again all past ∙ sym own in
      subst (λ w. RanOrMore (heard numbers w) before after) (sym is) (r.ran mine (subst (IsPrefix seen) is begins) has_own)
