-- A run is told the replies and moments that the store keeps.
use Rattle.std.proofs.Common.{◌≡◌, List, [], ◌∷◌, ◌++◌, map, append_assoc, refl, sym, ap, ◌∙◌}
use Rattle.std.specs.Prelude.{reverse}
use Rattle.std.proofs.lemmas.List.{append-nil, reverse-append}
use Rattle.qz_types.specs.Entries.{EntryData}
use Rattle.qz_types.specs.Outcomes.{Outcome, accepted, refused, IsAccepted}
use Rattle.qz_types.specs.Tables.{SchedulerTables, recorded_moment}
use Rattle.qz_types.specs.declared.replies.Reply.{Reply}
use Rattle.qz_model.specs.History.{tables_left, onto_replies, IsLegalFrom, replies_from, moments_from}
use Rattle.qz_model.specs.Transaction.{transaction}
use Rattle.qz_run.specs.Stores.{Event}
use Rattle.qz_run_stores.specs.Accounts.{reply_of, event_of, events_onto}

one_more : {A : Type 0} (x : A) (xs past : List A) → reverse (x ∷ xs) ++ past ≡ reverse xs ++ x ∷ past
one_more x xs past = ap (λ ys. ys ++ past) (reverse-append (x ∷ []) xs) ∙ append_assoc (reverse xs) (x ∷ []) past

reply_more : (o : Outcome) (rs past : List Reply) → IsAccepted o → reverse (onto_replies o rs) ++ past ≡ reverse rs ++ reply_of o ∷ past
reply_more (accepted next r) rs past is = one_more r rs past
reply_more (refused x) rs past is = absurd is

replies_onto : (past : List Event) (T : SchedulerTables) (es : List EntryData) → IsLegalFrom T es → map (λ e. e.reply) (events_onto past T es) ≡ reverse (replies_from T es) ++ map (λ e. e.reply) past
replies_onto past T [] legal = refl
replies_onto past T (e ∷ es) legal =
    replies_onto (event_of T e ∷ past) (tables_left T (transaction T e)) es legal.1
    ∙ sym (reply_more (transaction T e) (replies_from (tables_left T (transaction T e)) es) (map (λ x. x.reply) past) legal.0)

moments_onto : (past : List Event) (T : SchedulerTables) (es : List EntryData) → map (λ e. e.moment) (events_onto past T es) ≡ reverse (moments_from T es) ++ map (λ e. e.moment) past
moments_onto past T [] = refl
moments_onto past T (e ∷ es) =
    moments_onto (event_of T e ∷ past) (tables_left T (transaction T e)) es
    ∙ sym (one_more (recorded_moment T e.at) (moments_from (tables_left T (transaction T e)) es) (map (λ x. x.moment) past))

pub replies_told : (T : SchedulerTables) (es : List EntryData) → IsLegalFrom T es → map (λ e. e.reply) (events_onto [] T es) ≡ reverse (replies_from T es)
replies_told T es legal = replies_onto [] T es legal ∙ append-nil (reverse (replies_from T es))

pub moments_told : (T : SchedulerTables) (es : List EntryData) → map (λ e. e.moment) (events_onto [] T es) ≡ reverse (moments_from T es)
moments_told T es = moments_onto [] T es ∙ append-nil (reverse (moments_from T es))
