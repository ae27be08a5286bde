-- What a run tells of the entries that a store accepted since it was opened.
use Rattle.std.proofs.Common.{◌≡◌, ◌∷◌, ◌++◌, [], List, ℕ, ◌+◌, length, length-append, refl, sym, subst, arith}
use Rattle.std.proofs.Math.Seq.{take-length}
use Rattle.std.proofs.KnownBytes.{Appends-nil}
use Rattle.std.specs.Io.KnownBytes.{Appends}
use Rattle.qz_disk.specs.declared.disk.Disk.{Ghosts}
use Rattle.qz_io.specs.Outside.{Outside, IsHandedOn}
use Rattle.qz_types.specs.Entries.{EntryData}
use Rattle.qz_types.specs.Outcomes.{Outcome, accepted, refused, IsAccepted}
use Rattle.qz_types.specs.Tables.{SchedulerTables}
use Rattle.qz_types.specs.declared.replies.Reply.{Reply}
use Rattle.qz_model.specs.History.{tables_left, onto_replies, IsLegalFrom, replay_from, replies_from, moments_from}
use Rattle.qz_model.specs.Transaction.{transaction}
use Rattle.qz_trigger_store.specs.View.{view, base_of, found_of, added_of, moments_of, replies_of}
use Rattle.qz_trigger_store.specs.declared.stores.TriggerStore.{TriggerStore}
use Rattle.qz_trigger_store.proofs.Kept.{legal}
use Rattle.qz_top.specs.NodeRuns.{IsOfNodes, WritesRun}
use Rattle.qz_top.specs.declared.statuses.Status.{Status}
use Rattle.qz_top.specs.declared.statuses.Status.TheVariants as status

moments_length : (T : SchedulerTables) (es : List EntryData) → length (moments_from T es) ≡ length es
moments_length T [] = refl
moments_length T (e ∷ es) = let rest = moments_length (tables_left T (transaction T e)) es in omega (arith, rest)

one_reply : (o : Outcome) (rs : List Reply) → IsAccepted o → length (onto_replies o rs) ≡ length rs + 1
one_reply (accepted next reply) rs is = omega arith
one_reply (refused refusal) rs is = absurd is

replies_length : (T : SchedulerTables) (es : List EntryData) → IsLegalFrom T es → length (replies_from T es) ≡ length es
replies_length T [] legal = refl
replies_length T (e ∷ es) legal =
    let T' : SchedulerTables = tables_left T (transaction T e) in
    let rest = replies_length T' es legal.1 in
    let one = one_reply (transaction T e) (replies_from T' es) legal.0 in
    omega (arith, rest, one)

legal_after : (T : SchedulerTables) (es fs : List EntryData) → IsLegalFrom T (es ++ fs) → IsLegalFrom (replay_from T es) fs
legal_after T [] fs legal = legal
legal_after T (e ∷ es) fs legal = legal_after (tables_left T (transaction T e)) es fs legal.1

module _ {D : Type 0} {g : Ghosts D} (t : TriggerStore D g) where
  pub as_many_moments : length (moments_of t) ≡ length (added_of t)
  as_many_moments = moments_length (replay_from (base_of t) (found_of t)) (added_of t)

  pub as_many_replies : length (replies_of t) ≡ length (added_of t)
  as_many_replies = replies_length (replay_from (base_of t) (found_of t)) (added_of t) (legal_after (base_of t) (found_of t) (added_of t) (legal t))

  pub counted_both : length (view t).history.entries ≡ length (found_of t) + length (added_of t)
  counted_both = length-append (found_of t) (added_of t)

-- The whole text was written, and the status is not of the output.
pub wrote_all : (s : Status) (text : List ℕ) (old new : Outside) → IsOfNodes s → Appends old.held new.held text → IsHandedOn new.held new.handed → WritesRun s text old new
wrote_all status.Ok text old new is appends handed = (appends, handed)
wrote_all (status.Budget firings) text old new is appends handed = (appends, handed)
wrote_all (status.TooMany count) text old new is appends handed = (appends, handed)
wrote_all status.Fenced text old new is appends handed = (appends, handed)
wrote_all (status.JournalFull need room) text old new is appends handed = (appends, handed)
wrote_all status.DiskFault text old new is appends handed = (appends, handed)
wrote_all status.NoMemory text old new is appends handed = (length text, omega arith, subst (λ (l : List ℕ). Appends old.held new.held l) (sym (take-length text)) appends)
wrote_all status.WriteFault text old new is appends handed = absurd is
wrote_all (status.BadWords fault) text old new is appends handed = absurd is
wrote_all (status.BadLine line kind) text old new is appends handed = absurd is
wrote_all status.ReadFault text old new is appends handed = absurd is
wrote_all (status.NotAStore store) text old new is appends handed = absurd is
wrote_all (status.Damaged store at) text old new is appends handed = absurd is
wrote_all status.Exists text old new is appends handed = absurd is
wrote_all status.OldStore text old new is appends handed = absurd is
wrote_all (status.BadStream at) text old new is appends handed = absurd is

-- Nothing was written.
pub wrote_none : (text : List ℕ) (o : Outside) → WritesRun status.NoMemory text o o
wrote_none text o = (0, omega arith, Appends-nil o.held)
