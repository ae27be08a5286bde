-- What one entry more adds.
use Rattle.std.proofs.Common.{◌≡◌, ◌∙◌, ◌⊎◌, inr, ℕ, ◌+◌, List, [], ◌∷◌, ◌++◌, length, sym, ap, subst, refl, arith, append-nil, append_assoc}
use Rattle.std.specs.Prelude.{nat_lt, if◌then◌else◌}
use Rattle.qz_types.specs.Entries.{EntryData}
use Rattle.qz_types.specs.Outcomes.{accepted, IsAccepted}
use Rattle.qz_types.specs.declared.replies.Reply.{Reply}
use Rattle.qz_types.specs.Tables.{SchedulerTables}
use Rattle.qz_model.specs.History.{tables_left, replay_from}
use Rattle.qz_model.specs.Transaction.{transaction}
use Rattle.qz_model.proofs.Histories.{replay_from-append}
use Rattle.qz_stores.specs.Replaying.{IsPassed, IsTaken}
use Rattle.qz_trigger_store.specs.Entries.{IsRecordOf}
use Rattle.qz_trigger_store.specs.Kinds.{trigger_kind}
use Rattle.qz_trigger_store.proofs.Outcomes.{passes}
use Rattle.qz_trigger_store.proofs.Moments.{last_moment-accepted}
use Rattle.qz_history.specs.Objects.{object_text}
use Rattle.qz_history.specs.Told.{told_entry, told_from, told_outcome}

pub told_more : (from number : ℕ) (T : SchedulerTables) (es : List EntryData) (e : EntryData)
    → told_from from number T (es ++ e ∷ []) ≡ told_from from number T es ++ told_entry from (number + length es) (replay_from T es) e
told_more from number T [] e =
    let place : number ≡ number + length {A = EntryData} [] = omega arith in
    subst (λ n. told_entry from number T e ++ [] ≡ told_entry from n T e) place (append-nil (told_entry from number T e))
told_more from number T (d ∷ es) e =
    let further = told_more from (number + 1) (tables_left T (transaction T d)) es e in
    let place : number + 1 + length es ≡ number + length (d ∷ es) = omega arith in
    let moved = subst (λ n. told_from from (number + 1) (tables_left T (transaction T d)) (es ++ e ∷ []) ≡ told_from from (number + 1) (tables_left T (transaction T d)) es ++ told_entry from n (replay_from (tables_left T (transaction T d)) es) e) place further in
    ap (λ l. told_entry from number T d ++ l) moved ∙ sym (append_assoc (told_entry from number T d) (told_from from (number + 1) (tables_left T (transaction T d)) es) (told_entry from (number + length (d ∷ es)) (replay_from T (d ∷ es)) e))

-- What is told of an entry that is accepted: its moment is the last one of the tables that it leaves.
pub told_accepted : (from number : ℕ) (T U : SchedulerTables) (e : EntryData) (r : Reply) → transaction T e ≡ accepted U r
    → told_entry from number T e ≡ (if nat_lt from number then object_text number U.last_moment e r else [])
unfolding told_entry
told_accepted from number T U e r way =
    subst (λ m. told_outcome from number m e (transaction T e) ≡ (if nat_lt from number then object_text number U.last_moment e r else [])) (last_moment-accepted T U e r way)
    (subst (λ o. told_outcome from number U.last_moment e o ≡ (if nat_lt from number then object_text number U.last_moment e r else [])) (sym way) refl)

-- One entry more leaves what its transaction leaves.
pub replayed_more : (T U V : SchedulerTables) (es : List EntryData) (e : EntryData) → U ≡ replay_from T es → V ≡ tables_left U (transaction U e) → V ≡ replay_from T (es ++ e ∷ [])
replayed_more T U V es e so_far left = left ∙ ap (λ (W : SchedulerTables). tables_left W (transaction W e)) so_far ∙ sym (replay_from-append T es (e ∷ []))

-- A record of an entry that is accepted is taken.
pub taken_next : (T : SchedulerTables) (payload : List ℕ) (es fs : List EntryData) (e : EntryData) → fs ≡ es ++ e ∷ [] → IsRecordOf payload e → IsAccepted (transaction T e)
    → IsPassed trigger_kind payload es fs ⊎ IsTaken trigger_kind T payload es fs
taken_next T payload es fs e next recorded fine = inr (e, next, recorded, passes (transaction T e) fine)

-- What is told of it comes last.
pub told_next : (from number count : ℕ) (T U : SchedulerTables) (es fs : List EntryData) (e : EntryData) (text : List ℕ) → U ≡ replay_from T es → count ≡ number + length es → fs ≡ es ++ e ∷ []
    → text ≡ told_entry from count U e → told_from from number T fs ≡ told_from from number T es ++ text
told_next from number count T U es fs e text state count_is next told =
    let here : told_entry from (number + length es) (replay_from T es) e ≡ text =
    ap (λ (V : SchedulerTables). told_entry from (number + length es) V e) (sym state) ∙ ap (λ n. told_entry from n U e) (sym count_is) ∙ sym told in
    ap (told_from from number T) next ∙ told_more from number T es e ∙ ap (λ l. told_from from number T es ++ l) here
