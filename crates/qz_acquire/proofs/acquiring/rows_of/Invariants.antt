use Rattle.std.proofs.Common.{◌≡◌, ◌+◌, ◌++◌, map, drop}
use Rattle.qz_acquire.specs.Choosing.{rows_from}
use Rattle.qz_acquire.proofs.acquiring.rows_of.Given as goal

abbrev pub invariant-loop-trigger : goal.invariant-loop-trigger
invariant-loop-trigger l =
    (l.entry ≡ l.tables.tables.next_entry + l.trigger-index)
    × (l.rows.items ++ rows_from l.tables.tables l.me l.entry (map (λ r. r.now) (drop l.trigger-index l.triggers)) ≡ rows_from l.tables.tables l.me l.tables.tables.next_entry (map (λ r. r.now) l.triggers))
