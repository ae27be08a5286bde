-- Histories that are ends of one whole list.
use Rattle.std.proofs.Common.{◌≡◌, ℕ, ◌+◌, List, length}
use Rattle.std.specs.Prelude.{Option}
use Rattle.qz_types.specs.Entries.{EntryData}
use Rattle.qz_types.specs.Tables.{SchedulerTables}
use Rattle.qz_model.specs.History.{History, replay}
use Rattle.qz_stores.proofs.Histories as store
use Rattle.qz_trigger_store.specs.Bytes.{Whole, BeginsAs, IsWhole, MayBe, AreEnds}
use Rattle.qz_trigger_store.specs.Kinds.{trigger_kind}
use Rattle.qz_trigger_store.specs.Laws.{trigger_lawful}

pub same_tables : (start : SchedulerTables) (h g : History) → AreEnds start h g → replay h ≡ replay g
same_tables = store.same_state trigger_kind trigger_lawful

pub same_count : (start : SchedulerTables) (h g : History) → AreEnds start h g → h.base_count + length h.entries ≡ g.base_count + length g.entries
same_count = store.same_count trigger_kind trigger_lawful

-- what a crash leaves can be opened
pub opened_again : (w : Whole) (h : History) (u : Option EntryData) (b : List ℕ) → MayBe w h u b → (v : Whole) × BeginsAs w v × IsWhole v b
opened_again = store.may_hold trigger_kind trigger_lawful
