-- Entries that have records, and the tables that they leave.
use Rattle.std.proofs.Common.{◌≡◌, ℕ, List, [], ◌∷◌, false, refl, IsTrue, subst, sym}
use Rattle.std.specs.List.{AllByRecursion}
use Rattle.qz_types.specs.Entries.{EntryData, is_entry}
use Rattle.qz_types.specs.Tables.{SchedulerTables}
use Rattle.qz_codec.proofs.ValidEntries.{entry_valid}
use Rattle.qz_codec.specs.Layout.{entry}
use Rattle.qz_codec.specs.Records.{recorded}
use Rattle.qz_values.specs.declared.versions.Version.{Version}
use Rattle.qz_values.specs.declared.versions.Version.TheVariants.{One, Two}
use Rattle.qz_model.specs.History.{IsLegalFrom, replay_from}
use Rattle.qz_model.specs.Invariant.{TablesValid}
use Rattle.qz_model.proofs.Histories.{valid-replay}
use Rattle.qz_snapshot.specs.Opening.{is_part}
use Rattle.qz_stores.specs.Kinds.{HasRecord}
use Rattle.qz_trigger_store.specs.Entries.{IsRecordOf}
use Rattle.qz_trigger_store.specs.Kinds.{trigger_kind}

-- an entry that has a record is proper
pub each_proper : (es : List EntryData) → AllByRecursion (HasRecord trigger_kind) es → AllByRecursion (λ e. IsTrue (is_entry e)) es
each_proper [] all = tt
each_proper (e ∷ es) all = (entry_valid all.0.1.version e all.0.1.has, each_proper es all.1)

-- what is accepted from valid tables on leaves valid tables
pub valid_after : (T : SchedulerTables) (es : List EntryData) → TablesValid T → AllByRecursion (HasRecord trigger_kind) es → IsLegalFrom T es → TablesValid (replay_from T es)
valid_after T es valid all legal = valid-replay T es (each_proper es all) valid legal

-- a record begins with the byte of its version
no_part : (version : Version) (e : EntryData) → is_part (recorded entry version e) ≡ false
no_part One e = refl
no_part Two e = refl

pub record_apart : (bytes : List ℕ) (e : EntryData) → IsRecordOf bytes e → is_part bytes ≡ false
record_apart bytes e is = subst (λ (b : List ℕ). is_part b ≡ false) (sym is.bytes_are) (no_part is.version e)
