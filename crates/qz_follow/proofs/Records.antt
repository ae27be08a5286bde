-- One record more of what was taken.
use Rattle.std.proofs.Common.{◌≡◌, ℕ, ◌+◌, List, [], ◌∷◌, ◌++◌, length, refl, sym, ◌∙◌, ap, subst, arith}
use Rattle.std.specs.Prelude.{Option, Some, None}
use Rattle.std.proofs.Math.Logic.{∥∥₁_map}
use Rattle.std.proofs.lemmas.List.Elements.{All-push}
use Rattle.qz_civil.specs.Lists.{WithRoom}
use Rattle.qz_journal.proofs.Stands.{end_of-push}
use Rattle.qz_journal.specs.Commits.{need_of}
use Rattle.qz_journal.specs.Layout.{IsPayload}
use Rattle.qz_model.specs.History.{IsLegalFrom, replay_from, tables_left}
use Rattle.qz_model.specs.Transaction.{transaction}
use Rattle.qz_stores.proofs.Whole.{zip_both}
use Rattle.qz_stores.specs.Kinds.{IsAccepted}
use Rattle.qz_types.specs.Entries.{EntryData}
use Rattle.qz_types.specs.Outcomes.{accepted}
use Rattle.qz_types.specs.Tables.{SchedulerTables}
use Rattle.qz_types.specs.declared.replies.Reply.{Reply}
use Rattle.qz_trigger_store.proofs.Outcomes.{left_as}
use Rattle.qz_trigger_store.specs.Entries.{IsRecordOf}
use Rattle.qz_trigger_store.specs.Kinds.{trigger_kind}
use Rattle.qz_trigger_store.specs.Laws.{trigger_lawful}
use Rattle.qz_follow.specs.Kept.{AreKept, KeepsRecords, IsKeptToo}

-- the tables that it leaves
pub replayed_more : (start T U : SchedulerTables) (es : List EntryData) (e : EntryData) (r : Reply) → T ≡ replay_from start es → transaction T e ≡ accepted U r → U ≡ replay_from start (es ++ e ∷ [])
replayed_more start T U es e r before is =
    left_as T U (transaction T e) r is ∙ ap (λ (X : SchedulerTables). tables_left X (transaction X e)) before ∙ sym (trigger_lawful.replay_more start es e)

pub legal_more : (start T : SchedulerTables) (es : List EntryData) (e : EntryData) → T ≡ replay_from start es → ∥ IsLegalFrom start es ∥₁ → IsAccepted trigger_kind T e → ∥ IsLegalFrom start (es ++ e ∷ []) ∥₁
legal_more start T es e before legal passes = ∥∥₁_map legal (λ l. trigger_lawful.legal_more start es e l (subst (λ (X : SchedulerTables). IsAccepted trigger_kind X e) before passes))

-- what is kept
are_kept : (end : ℕ) (es : List EntryData) (e : EntryData) (p : List ℕ) (ps : List (List ℕ)) → AreKept end es ps → IsPayload p → IsRecordOf p e → AreKept (end + need_of (length p)) (es ++ e ∷ []) (ps ++ p ∷ [])
are_kept end es e p ps kept size is = record {
  sizes = All-push IsPayload ps p kept.sizes size;
  recorded = zip_both IsRecordOf ps (p ∷ []) es (e ∷ []) kept.recorded (is, tt);
  end_is = omega (arith, kept.end_is, end_of-push ps p);
}

keeps_by : (end : ℕ) (es : List EntryData) (e : EntryData) (p : List ℕ) (old new : Option (WithRoom (List ℕ))) → IsKeptToo p old new → IsPayload p → IsRecordOf p e → KeepsRecords end es old → KeepsRecords (end + need_of (length p)) (es ++ e ∷ []) new
keeps_by end es e p None new too size is kept = subst (KeepsRecords (end + need_of (length p)) (es ++ e ∷ [])) (sym too) tt
keeps_by end es e p (Some list) new too size is kept =
    subst (KeepsRecords (end + need_of (length p)) (es ++ e ∷ [])) (sym too.1) (subst (AreKept (end + need_of (length p)) (es ++ e ∷ [])) (sym too.2) (are_kept end es e p list.items kept size is))

pub keeps_more : (end : ℕ) (es : List EntryData) (e : EntryData) (p : List ℕ) (old new : Option (WithRoom (List ℕ))) → IsKeptToo p old new → IsPayload p → IsRecordOf p e → ∥ KeepsRecords end es old ∥₁ → ∥ KeepsRecords (end + need_of (length p)) (es ++ e ∷ []) new ∥₁
keeps_more end es e p old new too size is kept = ∥∥₁_map kept (keeps_by end es e p old new too size is)

-- before the first record
pub legal_new : (start : SchedulerTables) (es : List EntryData) → es ≡ [] → ∥ IsLegalFrom start es ∥₁
legal_new start es none = subst (λ (l : List EntryData). ∥ IsLegalFrom start l ∥₁) (sym none) ∣ trigger_lawful.legal_none start ∣₁

pub replayed_new : (start T : SchedulerTables) (es : List EntryData) → T ≡ start → es ≡ [] → T ≡ replay_from start es
replayed_new start T es new none = new ∙ ap (replay_from start) (sym none)

pub kept_new : (es : List EntryData) (kept : Option (WithRoom (List ℕ))) → es ≡ [] → KeepsRecords 16 [] kept → ∥ KeepsRecords 16 es kept ∥₁
kept_new es kept none is = ∣ subst (λ (l : List EntryData). KeepsRecords 16 l kept) (sym none) is ∣₁
