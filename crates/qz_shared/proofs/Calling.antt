-- A call by a seat, from what the lock and the store say of it.
use Rattle.std.proofs.Common.{◌≡◌, List, [], ◌∷◌, ◌++◌, Bool, true, false, refl, sym, ap, ◌∙◌, append-nil}
use Rattle.std.specs.Prelude.{Ok, Err, not, MatchResult}
use Rattle.std.specs.declared.result.Result.{Result}
use mathlib.Core.List.{IsPrefix}
use Rattle.qz_types.specs.declared.errors.SubmitError.{SubmitError}
use Rattle.qz_types.specs.declared.errors.SubmitError.TheVariants as submit
use Rattle.qz_stores.specs.Stores.{EntryKind, StoreState, Submits}
use Rattle.qz_shared.specs.Since.{IsSince}
use Rattle.qz_shared.specs.Calls.{Known, Called}

open_not : (b : Bool) → not b ≡ true → b ≡ false
open_not true p = sym p
open_not false p = refl

module _ {H E R : Type 0} (kind : EntryKind H E R) (listed : H → List E) where
  -- nothing further is the seat's
  none_more : (s t : H) (seen mine after : List E) → t ≡ s → seen ≡ listed s → ((further : List E) → listed t ≡ seen ++ further → after ≡ mine ++ further) → after ≡ mine
  none_more s t seen mine after same at f = f [] (ap listed same ∙ sym at ∙ sym (append-nil seen)) ∙ append-nil mine

  mine_after : ((e : E) (h : H) → listed (kind.with_entry e h) ≡ listed h ++ e ∷ []) → (s t : StoreState H E) (e : E) (r : Result R SubmitError) (seen mine after : List E)
      → Submits kind e r s t → seen ≡ listed s.history → ((further : List E) → listed t.history ≡ seen ++ further → after ≡ mine ++ further)
      → MatchResult r (λ _. after ≡ mine ++ e ∷ []) (λ _. after ≡ mine)
  mine_after lists s t e (Ok reply) seen mine after a at f = f (e ∷ []) (ap listed a.history ∙ lists e s.history ∙ ap (λ l. l ++ e ∷ []) (sym at))
  mine_after lists s t e (Err (submit.Closed gate)) seen mine after a at f = none_more s.history t.history seen mine after a.0.same.history at f
  mine_after lists s t e (Err (submit.Refused refusal)) seen mine after a at f = none_more s.history t.history seen mine after a.same.history at f
  mine_after lists s t e (Err (submit.JournalFull need room)) seen mine after a at f = none_more s.history t.history seen mine after a.same.history at f
  mine_after lists s t e (Err submit.NoMemory) seen mine after a at f = none_more s.history t.history seen mine after a.same.history at f
  mine_after lists s t e (Err submit.Fault) seen mine after a at f = none_more s.history t.history seen mine after a.history at f

  -- a seat took the store, had it do one transaction, and gave it back
  pub called : ((e : E) (h : H) → listed (kind.with_entry e h) ≡ listed h ++ e ∷ []) → (opened before after : StoreState H E) (e : E) (r : Result R SubmitError) (s t : Known E) (seen mine : List E)
      → IsSince kind listed opened before → IsPrefix s.seen (listed before.history) → Submits kind e r before after
      → seen ≡ listed before.history → mine ≡ s.mine → t.seen ≡ listed after.history → ((further : List E) → listed after.history ≡ seen ++ further → t.mine ≡ mine ++ further)
      → (s.shut ≡ true → not before.is_open ≡ true) → t.shut ≡ not after.is_open → Called kind listed opened e r s t
  called lists opened before after e r s t seen mine since begins submits at same seen_is further was now = record {
    before = before;
    after = after;
    since = since;
    begins = begins;
    submits = submits;
    seen_is = seen_is;
    mine_is = mine_after lists before after e r seen s.mine t.mine submits at (λ f q. further f q ∙ ap (λ l. l ++ f) same);
    was_shut = λ q. open_not before.is_open (was q);
    shut_is = now;
  }
