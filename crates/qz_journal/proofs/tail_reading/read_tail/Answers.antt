use Rattle.std.proofs.Common.{◌∙◌, ℕ, List, length, take, sym, ap, subst}
use Rattle.std.proofs.lemmas.Result.{err_from_is_err_and}
use Rattle.qz_journal.specs.Layout.{IsHeader}
use Rattle.qz_journal.specs.Slots.{slots_of}
use Rattle.qz_journal.proofs.Calls.{synced_then}
use Rattle.qz_journal.proofs.TailBytes.{header_refused, tail_damaged, tail_unless}
use Rattle.qz_journal.proofs.tail_reading.read_tail.Goals as goal

pub returns-in_err-header-clause-refused : goal.returns-in_err-header-clause-refused
returns-in_err-header-clause-refused g c h payloads =
    let p = err_from_is_err_and c.from_residual.result c.from_residual.ensures.1 in
    rw (p.1, p.2) (header_refused c.in_err-header.field-0.0 _ _ c.args.kind (c.in-Ok.ensures.content h) (c.in_err-header.ensures.refused h) payloads)

pub returns-clause-damaged : goal.returns-clause-damaged
returns-clause-damaged g c h =
    let front = c.in_ok-header.ensures in
    let tail = c.read_from_slot.ensures in
    let same = (front.reads h).content in
    tail_damaged _ c.in_ok-header.header.version c.args.kind c.in_ok-header.header.slots _ _ (same ∙ c.in-Ok.ensures.content h) (front.slots h ∙ ap slots_of (sym same)) (subst (λ (b : List ℕ). IsHeader c.in_ok-header.header.version c.args.kind (take 16 b)) (sym same) (front.header h))
    tail.start tail.sizes (tail.ends h) tail.gate (tail.led h)

pub returns-clause-reads_err : goal.returns-clause-reads_err
returns-clause-reads_err g c h =
    let synced = c.in-Ok.ensures in
    let long = synced.length ∙ g.met.D.Disk.whole h c.synced_length.new.disk ∙ ap length (synced.content h) in
    tail_unless _ c.in-Ok.len _ _ _ _ (g.met.D.Disk.lawful h c.read_header.new.disk) long c.in_ok-header.ensures.long
    (synced_then 16 _ _ _ (g.met.D.Disk.lawful h c.synced_length.new.disk) (synced.content h) (synced.any_moment h) (synced.bytes_read h) (c.in_ok-header.ensures.reads h)) (c.read_from_slot.ensures.reads h)
