-- What a call by a seat makes of what it knows.
use Rattle.std.proofs.Common.{◌≡◌, List, [], ◌∷◌, ◌++◌, sym, ap, ◌∙◌, subst, append-nil}
use Rattle.std.specs.Prelude.{Ok, Err, not, MatchResult}
use Rattle.std.specs.declared.result.Result.{Result}
use Rattle.std.specs.List.{AllByRecursion}
use mathlib.Core.List.{IsPrefix}
use Rattle.qz_types.specs.declared.errors.SubmitError.{SubmitError}
use Rattle.qz_types.specs.declared.errors.SubmitError.TheVariants as submit
use Rattle.qz_stores.specs.Stores.{EntryKind, StoreState, Submits}
use Rattle.qz_shared.specs.Since.{further}
use Rattle.qz_shared.specs.Calls.{Known, Called}
use Rattle.qz_shared.proofs.Answered.{refused_at, full_at}
use Rattle.qz_shared.proofs.Sinces.{goes_on}
use Rattle.qz_rounds.specs.Declining.{IsCause}
use Rattle.qz_rounds.proofs.Lists.{prefix_trans, all_more}

module _ {H E R : Type 0} (kind : EntryKind H E R) (listed : H → List E) (lists : (e : E) (h : H) → listed (kind.with_entry e h) ≡ listed h ++ e ∷ []) where
  same_list : (before after : H) → after ≡ before → IsPrefix (listed before) (listed after)
  same_list before after same = ([], append-nil (listed before) ∙ ap listed (sym same))

  goes : (e : E) (r : Result R SubmitError) (before after : StoreState H E) → Submits kind e r before after → IsPrefix (listed before.history) (listed after.history)
  goes e (Ok reply) before after s = (e ∷ [], sym (ap listed s.history ∙ lists e before.history))
  goes e (Err (submit.Closed at)) before after s = same_list before.history after.history s.0.same.history
  goes e (Err (submit.Refused refusal)) before after s = same_list before.history after.history s.same.history
  goes e (Err (submit.JournalFull need room)) before after s = same_list before.history after.history s.same.history
  goes e (Err submit.NoMemory) before after s = same_list before.history after.history s.same.history
  goes e (Err submit.Fault) before after s = same_list before.history after.history s.history

  module _ (opened : StoreState H E) (e : E) where
    -- what was seen stays seen
    pub sees_on : (r : Result R SubmitError) (s t : Known E) → Called kind listed opened e r s t → IsPrefix s.seen t.seen
    sees_on r s t c = subst (IsPrefix s.seen) (sym c.seen_is) (prefix_trans s.seen (listed c.before.history) (listed c.after.history) c.begins (goes e r c.before c.after c.submits))

    -- where the entry was accepted it is seen last, after the entries of the opened store
    pub seen_last : (reply : R) (s t : Known E) (c : Called kind listed opened e (Ok reply) s t) → t.seen ≡ (listed opened.history ++ further listed opened (listed c.before.history)) ++ e ∷ []
    seen_last reply s t c = c.seen_is ∙ ap listed c.submits.history ∙ lists e c.before.history ∙ ap (λ l. l ++ e ∷ []) (goes_on kind listed lists opened c.before c.since)

    one_more : (P : E → Type 0) (r : Result R SubmitError) (mine now : List E) → MatchResult r (λ _. now ≡ mine ++ e ∷ []) (λ _. now ≡ mine) → P e → AllByRecursion P mine → AllByRecursion P now
    one_more P (Ok x) mine now is p all = subst (AllByRecursion P) (sym is) (all_more P mine e all p)
    one_more P (Err x) mine now is p all = subst (AllByRecursion P) (sym is) all

    -- what holds of the entry and of those before holds of all
    pub all_after : (P : E → Type 0) (r : Result R SubmitError) (s t : Known E) → Called kind listed opened e r s t → P e → AllByRecursion P s.mine → AllByRecursion P t.mine
    all_after P r s t c p all = one_more P r s.mine t.mine c.mine_is p all

    cause : (error : SubmitError) (s t : Known E) → Called kind listed opened e (Err error) s t → IsCause kind listed opened e t error
    cause (submit.Refused refusal) s t c = (refused_at kind listed opened e refusal s t c).1
    cause (submit.JournalFull need room) s t c = let full = full_at kind listed opened e need room s t c in (full.1, full.2)
    cause submit.NoMemory s t c = tt
    cause submit.Fault s t c = c.shut_is ∙ ap not c.submits.is_open
    cause (submit.Closed at) s t c = c.shut_is ∙ ap not (c.submits.0.same.is_open ∙ c.submits.0.was_closed)

    -- an error has its cause
    pub cause_of : (r : Result R SubmitError) (error : SubmitError) (s t : Known E) → r ≡ Err error → Called kind listed opened e r s t → IsCause kind listed opened e t error
    cause_of r error s t is c = cause error s t (subst (λ x. Called kind listed opened e x s t) is c)
