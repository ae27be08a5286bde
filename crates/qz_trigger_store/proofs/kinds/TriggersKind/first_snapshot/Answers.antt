use Rattle.std.proofs.Common.{◌≡◌, [], ap, subst}
use Rattle.std.specs.Prelude.{All, IfOk, OnOk}
use Rattle.qz_journal.specs.Commits.{HaveRoom}
use Rattle.qz_journal.specs.Layout.{IsPayload, end_of}
use Rattle.qz_snapshot.specs.Checkpoints.{snapshot_written}
use Rattle.qz_snapshot.specs.Snapshots.{IsSnapshot}
use Rattle.qz_tables.specs.Contents.{TablesData}
use Rattle.qz_types.specs.Tables.{SchedulerTables}
use Rattle.qz_trigger_store.proofs.Snapshots.{begins_of, parts_of}
use Rattle.qz_trigger_store.proofs.kinds.TriggersKind.first_snapshot.Goals as goal

pub returns-clause-payloads : goal.returns-clause-payloads
returns-clause-payloads c =
    subst (λ (T : SchedulerTables). IfOk c.first_snapshot.result (λ r. IfOk r (λ ps. (ps ≡ snapshot_written T 0 0) × All IsPayload ps))) (ap (λ (d : TablesData). d.tables) c.tables.ensures) c.first_snapshot.ensures.payloads

pub returns-clause-begins : goal.returns-clause-begins
returns-clause-begins c has =
    begins_of c.first_snapshot.result c.args.self.now.tables.tables
    (subst (λ (T : SchedulerTables). IfOk c.first_snapshot.result (λ r. OnOk r (IsSnapshot (snapshot_written T 0 0) T 0 0))) (ap (λ (d : TablesData). d.tables) c.tables.ensures) c.first_snapshot.ensures.snapshot)

pub returns-clause-parts : goal.returns-clause-parts
returns-clause-parts c = parts_of c.first_snapshot.result c.args.self.now.tables.tables

pub returns-clause-room : goal.returns-clause-room
returns-clause-room c =
    subst (λ (T : SchedulerTables). IfOk c.first_snapshot.result (λ r. OnOk r (HaveRoom (snapshot_written T 0 0) (end_of []) 0))) (ap (λ (d : TablesData). d.tables) c.tables.ensures) c.first_snapshot.ensures.room
