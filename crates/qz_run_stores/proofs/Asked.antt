-- What a run adds is what its nodes ask.
use Rattle.std.proofs.Common.{◌≡◌, ◌≤◌, ◌∷◌, ◌++◌, [], List, length, take, drop, sym, ap, ◌∙◌, subst}
use Rattle.std.proofs.Math.Logic.{∥∥₁_map}
use Rattle.std.proofs.Math.Seq.{drop-length, take-length}
use Rattle.std.proofs.lemmas.List.{drop-append-le, take-append-drop}
use Rattle.std.specs.Prelude.{ℕ, Result, Ok, Err}
use Rattle.qz_types.specs.Entries.{EntryData}
use Rattle.qz_types.specs.Tables.{SchedulerTables}
use Rattle.qz_types.specs.declared.replies.Reply.{Reply}
use Rattle.qz_types.specs.declared.errors.SubmitError.{SubmitError}
use Rattle.qz_types.specs.declared.errors.SubmitError.TheVariants as submit
use Rattle.qz_model.specs.History.{History, tables_left, replay_from, replay, with_entry}
use Rattle.qz_model.specs.Transaction.{transaction}
use Rattle.qz_model.proofs.Histories.{replay_from-append}
use Rattle.qz_stores.specs.Stores.{Submits}
use Rattle.qz_trigger_store.specs.Entries.{TriggerState, trigger_entry}
use Rattle.qz_run_stores.specs.Asked.{IsAsked, AreAsked}

asked-more : (T : SchedulerTables) (es : List EntryData) (e : EntryData) → AreAsked T es → IsAsked (replay_from T es) e → AreAsked T (es ++ e ∷ [])
asked-more T [] e all one = (one, tt)
asked-more T (f ∷ es) e all one = (all.0, asked-more (tables_left T (transaction T f)) es e all.1 one)

-- the tables after what the run has added so far
replayed_on : (n : ℕ) (b s : History) → s.base ≡ b.base → take n s.entries ≡ b.entries → replay_from (replay b) (drop n s.entries) ≡ replay s
replayed_on n b s base stay =
    sym (replay_from-append b.base b.entries (drop n s.entries))
    ∙ (λ i. replay_from (sym base i) (sym stay i ++ drop n s.entries))
    ∙ ap (replay_from s.base) (take-append-drop n s.entries)

asked_with : (n : ℕ) (b s t : History) (e : EntryData) → s.base ≡ b.base → take n s.entries ≡ b.entries → n ≤ length s.entries → t ≡ with_entry e s → IsAsked (replay s) e → AreAsked (replay b) (drop n s.entries)
    → AreAsked (replay b) (drop n t.entries)
asked_with n b s t e base stay within is one all =
    subst (AreAsked (replay b)) (sym (ap (λ (h : History). drop n h.entries) is ∙ drop-append-le n s.entries (e ∷ []) within))
    (asked-more (replay b) (drop n s.entries) e all (subst (λ (T : SchedulerTables). IsAsked T e) (sym (replayed_on n b s base stay)) one))

asked_so : (n : ℕ) (b s t : History) → t ≡ s → AreAsked (replay b) (drop n s.entries) → AreAsked (replay b) (drop n t.entries)
asked_so n b s t same all = subst (λ (h : History). AreAsked (replay b) (drop n h.entries)) (sym same) all

-- what one submission leaves asked
asked_by : (n : ℕ) (b s t : TriggerState) (e : EntryData) (r : Result Reply SubmitError) → s.history.base ≡ b.history.base → take n s.history.entries ≡ b.history.entries → n ≤ length s.history.entries
    → Submits trigger_entry e r s t → IsAsked (replay s.history) e → AreAsked (replay b.history) (drop n s.history.entries) → AreAsked (replay b.history) (drop n t.history.entries)
asked_by n b s t e (Ok reply) base stay within done one all = asked_with n b.history s.history t.history e base stay within done.history one all
asked_by n b s t e (Err (submit.Closed at)) base stay within done one all = asked_so n b.history s.history t.history done.0.same.history all
asked_by n b s t e (Err (submit.Refused refusal)) base stay within done one all = asked_so n b.history s.history t.history done.same.history all
asked_by n b s t e (Err (submit.JournalFull need room)) base stay within done one all = asked_so n b.history s.history t.history done.same.history all
asked_by n b s t e (Err submit.NoMemory) base stay within done one all = asked_so n b.history s.history t.history done.same.history all
asked_by n b s t e (Err submit.Fault) base stay within done one all = asked_so n b.history s.history t.history done.history all

pub asked_then : (n : ℕ) (b s t : TriggerState) (e : EntryData) (r : Result Reply SubmitError) → s.history.base ≡ b.history.base → take n s.history.entries ≡ b.history.entries → n ≤ length s.history.entries
    → Submits trigger_entry e r s t → IsAsked (replay s.history) e → ∥ AreAsked (replay b.history) (drop n s.history.entries) ∥₁ → ∥ AreAsked (replay b.history) (drop n t.history.entries) ∥₁
asked_then n b s t e r base stay within done one all = ∥∥₁_map all (asked_by n b s t e r base stay within done one)

-- at first nothing is added
pub none_asked : (T : SchedulerTables) (n : ℕ) (es : List EntryData) → n ≡ length es → ∥ AreAsked T (drop n es) ∥₁
none_asked T n es all = subst (λ xs. ∥ AreAsked T xs ∥₁) (sym (drop-length es) ∙ sym (ap (λ k. drop k es) all)) ∣ tt ∣₁

pub all_stay : {E : Type 0} (n : ℕ) (es : List E) → n ≡ length es → take n es ≡ es
all_stay n es all = ap (λ k. take k es) all ∙ take-length es
