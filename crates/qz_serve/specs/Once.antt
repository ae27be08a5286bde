-- What one transaction comes to for a call.
use Rattle.std.specs.Prelude.{⊤, ◌≡◌, ◌⊎◌, ◌+◌, true, false, Result, Err, OnOk, IfErr}
use Rattle.qz_journal.specs.Commits.{need_of}
use Rattle.qz_run.specs.declared.commands.Declined.{Declined}
use Rattle.qz_run.specs.declared.commands.Declined.TheVariants as why
use Rattle.qz_stores.specs.Stores.{EntryKind, StoreState}
use Rattle.qz_serve.specs.Declining.{AtLimit, Declines}

-- The entry is the last of the history now, and its record is one payload more.
pub record AddsOne {H E R : Type 0} (kind : EntryKind H E R) (e : E) (s t : StoreState H E) : Type 0 where
  pub history : t.history ≡ kind.with_entry e s.history
  pub gate : t.gate ≡ s.gate + need_of (kind.size e)
  pub payloads : t.payloads ≡ s.payloads + 1

-- Nothing was added.
pub record AddsNone {H E : Type 0} (s t : StoreState H E) : Type 0 where
  pub history : t.history ≡ s.history
  pub gate : t.gate ≡ s.gate
  pub payloads : t.payloads ≡ s.payloads

-- A store was asked for one transaction, and this came of it for the call: its entry was added, or nothing was. Where the work goes
-- on, the store is open, and after a fault it is closed. At a limit or a full journal it declined the entry as it stood.
pub record Once {H E R : Type 0} (kind : EntryKind H E R) (e : E) (result : Result ⊤ Declined) (s t : StoreState H E) : Type 0 where
  pub adds : AddsOne kind e s t ⊎ AddsNone s t
  pub stays : OnOk result (t.is_open ≡ true)
  pub fault : result ≡ Err why.Fault → t.is_open ≡ false
  pub declined : IfErr result (AtLimit (Declines kind s e))
