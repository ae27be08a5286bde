-- What is kept of an entry that was accepted.
use Rattle.std.proofs.Common.{◌≡◌, ℤ, List, [], ◌∷◌, ◌++◌, refl, sym, ◌∙◌, ap, subst}
use Rattle.std.specs.Prelude.{Option, Some, None, Ok}
use Rattle.qz_types.specs.Entries.{EntryData}
use Rattle.qz_types.specs.declared.replies.Reply.{Reply}
use Rattle.qz_types.specs.Tables.{SchedulerTables, recorded_moment}
use Rattle.qz_types.specs.Outcomes.{Outcome, accepted, refused}
use Rattle.qz_model.specs.Transaction.{transaction}
use Rattle.qz_model.specs.History.{tables_left, onto_replies, replay_from, replies_from, moments_from}
use Rattle.qz_model.proofs.Histories.{replay_from-append, replies_from-append, moments_from-append}
use Rattle.qz_plain.specs.Replies.{IsCopyOf, CopiesReply}
use Rattle.qz_trigger_store.specs.Accepted.{HasOneMore, IsKept}
use Rattle.qz_trigger_store.specs.Entries.{answer_of}
use Rattle.qz_trigger_store.specs.declared.accepted.Accepted.{Accepted}
use Rattle.qz_trigger_store.proofs.Moments.{last_moment-accepted}

-- an outcome that is answered so, and leaves these tables
pub accepted_as : (T U : SchedulerTables) (o : Outcome) (r : Reply) → answer_of o ≡ Ok r → U ≡ tables_left T o → o ≡ accepted U r
accepted_as T U (accepted V s) r answer left = (let same : s ≡ r = cc in λ i. accepted (sym left i) (same i))
accepted_as T U (refused x) r answer left = absurd cc

-- the copy of a reply is the reply
pub copied : (o : Outcome) (copy : Option Reply) (r : Reply) → answer_of o ≡ Ok r → CopiesReply copy o → IsCopyOf copy r
copied (accepted V s) copy r answer is = let same : s ≡ r = cc in subst (IsCopyOf copy) same is
copied (refused x) copy r answer is = absurd cc

-- the last moment is that of the entry
pub moment_is : (T U : SchedulerTables) (e : EntryData) (r : Reply) → answer_of (transaction T e) ≡ Ok r → U ≡ tables_left T (transaction T e) → U.last_moment ≡ recorded_moment T e.at
moment_is T U e r answer left = last_moment-accepted T U e r (accepted_as T U (transaction T e) r answer left)

tables_at : (N T : SchedulerTables) (found old : List EntryData) → T ≡ replay_from N (found ++ old) → T ≡ replay_from (replay_from N found) old
tables_at N T found old same = same ∙ replay_from-append N found old

-- The moments and the replies of what was accepted have one more, after an entry more. N is a new store's tables, `found` what the
-- store had at its opening, and `old` and `new` what it accepted.
module _ (N T : SchedulerTables) (found old new : List EntryData) (e : EntryData) (is : new ≡ old ++ e ∷ []) (same : T ≡ replay_from N (found ++ old)) where
  pub one_moment : moments_from (replay_from N found) new ≡ moments_from (replay_from N found) old ++ recorded_moment T e.at ∷ []
  one_moment =
      let B = replay_from N found in
      ap (moments_from B) is ∙ moments_from-append B old (e ∷ [])
      ∙ ap (λ (W : SchedulerTables). moments_from B old ++ recorded_moment W e.at ∷ []) (sym (tables_at N T found old same))

  pub one_reply : (U : SchedulerTables) (r : Reply) → answer_of (transaction T e) ≡ Ok r → U ≡ tables_left T (transaction T e) → replies_from (replay_from N found) new ≡ replies_from (replay_from N found) old ++ r ∷ []
  one_reply U r answer left =
      let B = replay_from N found in
      let there : transaction (replay_from B old) e ≡ accepted U r = ap (λ (W : SchedulerTables). transaction W e) (sym (tables_at N T found old same)) ∙ accepted_as T U (transaction T e) r answer left in
      ap (replies_from B) is ∙ replies_from-append B old (e ∷ []) ∙ ap (λ (o : Outcome). replies_from B old ++ onto_replies o []) there

-- what is kept now has one entry more than what was kept
on_kept : (old now : Option Accepted) (e : EntryData) (m : ℤ) (r : Reply) → IsKept old now e m r → (b : Accepted) → now ≡ Some b → (a : Accepted) × (old ≡ Some a) × HasOneMore a b e m r
on_kept None now e m r kept b is = absurd cc
on_kept (Some a) now e m r kept b is = let same : kept.0 ≡ b = cc in (a, refl, subst (λ (x : Accepted). HasOneMore a x e m r) same kept.2)

-- So what is kept stays what was accepted.
module _ (old now : Option Accepted) (e : EntryData) (m : ℤ) (r : Reply) (kept : IsKept old now e m r) where
  pub kept_entries : (es fs : List EntryData) → ((a : Accepted) → old ≡ Some a → a.entries.items ≡ es) → fs ≡ es ++ e ∷ [] → (b : Accepted) → now ≡ Some b → b.entries.items ≡ fs
  kept_entries es fs each more b is =
      let k = on_kept old now e m r kept b is in
      k.2.entries ∙ ap (λ (l : List EntryData). l ++ e ∷ []) (each k.0 k.1) ∙ sym more

  pub kept_moments : (ms ns : List ℤ) → ((a : Accepted) → old ≡ Some a → a.moments.items ≡ ms) → ns ≡ ms ++ m ∷ [] → (b : Accepted) → now ≡ Some b → b.moments.items ≡ ns
  kept_moments ms ns each more b is =
      let k = on_kept old now e m r kept b is in
      k.2.moments ∙ ap (λ (l : List ℤ). l ++ m ∷ []) (each k.0 k.1) ∙ sym more

  pub kept_replies : (rs ss : List Reply) → ((a : Accepted) → old ≡ Some a → a.replies.items ≡ rs) → ss ≡ rs ++ r ∷ [] → (b : Accepted) → now ≡ Some b → b.replies.items ≡ ss
  kept_replies rs ss each more b is =
      let k = on_kept old now e m r kept b is in
      k.2.replies ∙ ap (λ (l : List Reply). l ++ r ∷ []) (each k.0 k.1) ∙ sym more
