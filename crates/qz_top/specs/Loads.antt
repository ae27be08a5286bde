-- What `load` makes of the document on its input.
use Rattle.std.proofs.Common.{inl, inr}
use Rattle.std.specs.Prelude.{⊤, ◌≡◌, ◌⊎◌, ℕ, ℤ, List, [], Option, None, Ok, Err}
use Rattle.std.specs.Io.KnownBytes.{Appends, IsAtEnd}
use Rattle.qz_io.specs.Clocks.{Tells}
use Rattle.qz_io.specs.Handlers.{IfKnown}
use Rattle.qz_io.specs.Outside.{Outside, only_output}
use Rattle.qz_types.specs.declared.commands.Command.{Command}
use Rattle.qz_job_json.specs.declared.faults.LineFault.{LineFault}
use Rattle.qz_document.specs.Document.{document_meaning}
use Rattle.qz_document.specs.declared.documents.Document.{Document}
use Rattle.qz_cluster.specs.Steps.{is_closed}
use Rattle.qz_open.specs.Opened.{AreAlwaysAlone}
use Rattle.qz_top.specs.Clients.{client_steps, DidCommands, DidSome}
use Rattle.qz_top.specs.Lines.{kind_of}
use Rattle.qz_top.specs.Resting.{RestsRun}
use Rattle.qz_top.specs.Statuses.{status_at, Finishes}
use Rattle.qz_top.specs.Trails.{RunState}
use Rattle.qz_top.specs.declared.line_handler.LineEnd.{LineEnd}
use Rattle.qz_top.specs.declared.statuses.BadKind.{BadKind}
use Rattle.qz_top.specs.declared.statuses.Status.{Status}
use Rattle.qz_top.specs.declared.statuses.Status.TheVariants as status

-- the bytes are no document, for this reason
pub record IsNoDocument (kind : BadKind) (bytes : List ℕ) : Type 0 where
  pub fault : LineFault
  pub meaning : document_meaning bytes ≡ Err fault
  pub kind_is : kind ≡ kind_of fault

-- Why no document was had: a read failed, or the bytes are none, or there was no memory. A document has the line number 0.
abbrev pub CauseOfNone : Status → Option (List ℕ) → Type 0
CauseOfNone (status.BadLine line kind) left = (line ≡ 0) × IfKnown left (IsNoDocument kind)
CauseOfNone status.ReadFault left = ⊤
CauseOfNone status.NoMemory left = ⊤
CauseOfNone s left = ⊥

-- No document was had, and nothing was done.
pub record HadNone (s : Status) (before after : RunState) (old new : Outside) : Type 0 where
  pub cause : CauseOfNone s old.left
  pub same : after ≡ before
  pub kept : Appends old.held new.held []
  pub told : Tells old.readings new.readings []

-- this document was read from the input, which ends with it
pub record HadDocument (document : Document) (left left_now : Option (List ℕ)) : Type 0 where
  pub meaning : IfKnown left (λ bytes. document_meaning bytes ≡ Ok document)
  pub ended : IsAtEnd left_now

-- All commands of the document were done and answered. Then a checkpoint was made where one was due, and the output was flushed, or that failed. The clock was asked for
-- their readings and for no more.
pub record DidAll (honest : Type 0) (s : Status) (document : Document) (before after : RunState) (old new : Outside) : Type 0 where
  pub then : Outside
  pub last : RunState
  pub did : DidCommands honest document.at document.commands before last old then
  pub rests : RestsRun s last after
  pub asked_no_more : new.readings ≡ then.readings
  pub faults : ℕ
  pub faults_now : ℕ
  pub finishes : Finishes s (is_closed after.cluster) (only_output then) (only_output new) faults faults_now

-- The first commands of the document were done and answered, and the next one ended it. Then the output was flushed, if it could
-- be: nothing more was written, and the clock wasn't asked again.
pub record DidFirst (honest : Type 0) (s : Status) (document : Document) (before after : RunState) (old new : Outside) : Type 0 where
  pub end : LineEnd
  pub status_is : s ≡ status_at 0 end
  pub then : Outside
  pub did : DidSome honest end document.at document.commands before after old then
  pub wrote_no_more : Appends then.held new.held []
  pub asked_no_more : new.readings ≡ then.readings

abbrev pub DidDocument : Type 0 → Status → Document → RunState → RunState → Outside → Outside → Type 0
DidDocument honest s document before after old new = DidAll honest s document before after old new ⊎ DidFirst honest s document before after old new

-- the same of a call that is given no input
abbrev pub no_input : Outside → Outside
no_input o = record o { left = None }

-- A document was read, and its commands were done.
pub record Loaded (honest : Type 0) (s : Status) (before after : RunState) (old new : Outside) : Type 0 where
  pub document : Document
  pub had : HadDocument document old.left new.left
  pub did : DidDocument honest s document before after (no_input old) (no_input new)

abbrev pub Loads : Type 0 → Status → RunState → RunState → Outside → Outside → Type 0
Loads honest s before after old new = HadNone s before after old new ⊎ Loaded honest s before after old new

-- No job with `no_concurrent` has two open executions before any command or at the end, by what the commands were answered.
abbrev pub AloneThrough : {honest : Type 0} {at : Option ℤ} {commands : List Command} {before after : RunState} {old new : Outside}
    → DidCommands honest at commands before after old new → Type 0
AloneThrough {commands = commands} did = AreAlwaysAlone [] (client_steps commands did.moments) did.replies

abbrev pub AloneInDocument : {honest : Type 0} {s : Status} {document : Document} {before after : RunState} {old new : Outside}
    → DidDocument honest s document before after old new → Type 0
AloneInDocument (inl all) = AloneThrough all.did
AloneInDocument (inr first) = AloneThrough first.did.did

abbrev pub AloneInLoad : {honest : Type 0} {s : Status} {before after : RunState} {old new : Outside} → Loads honest s before after old new → Type 0
AloneInLoad (inl none) = ⊤
AloneInLoad (inr loaded) = AloneInDocument loaded.did
