use Rattle.std.proofs.Common.{refl, []}
use Rattle.std.proofs.lemmas.Result.{err_from_is_err_and}
use Rattle.qz_journal.specs.declared.errors.MountError.TheVariants as mount
use Rattle.qz_journal.proofs.TrueTails.{whole_tail, tail_only_outside}
use Rattle.qz_journal.proofs.journal.Journal.remount_tail.Goals as goal

pub returns-in_err-start-clause-refused : goal.returns-in_err-start-clause-refused
returns-in_err-start-clause-refused g c h =
    let p = err_from_is_err_and c.from_residual.result c.from_residual.ensures.1 in
    rw (p.1, p.2) ([], c.in_err-start.ensures.refused h [])

pub returns-in_err-start-clause-whole : goal.returns-in_err-start-clause-whole
returns-in_err-start-clause-whole g c h version payloads holds slots =
    let p = err_from_is_err_and c.from_residual.result c.from_residual.ensures.1 in
    rw (p.1, p.2) (tail_only_outside _ version c.args.self.now.kind payloads [] c.in_err-start.field-0.0 holds slots (c.in_err-start.ensures.refused h []))

pub returns-then-not-is_whole-clause-whole : goal.returns-then-not-is_whole-clause-whole
returns-then-not-is_whole-clause-whole g c h version payloads holds slots =
    let found = c.in_ok-start.field-0.found in
    tail_only_outside _ version c.args.self.now.kind payloads found.payloads (mount.Damaged found.gate) holds slots (c.in_ok-start.ensures.damaged h c.if-not-is_whole.true)

pub returns-clause-whole : goal.returns-clause-whole
returns-clause-whole g c h version payloads holds slots =
    let t = c.in_ok-start.field-0 in
    let told = c.in_ok-start.ensures in
    whole_tail _ _ t.found.version version c.args.self.now.kind t.start t.found.gate t.count t.found.slots payloads t.found.payloads refl (told.slots h) told.start.0 (told.whole h c.if-not-is_whole.false) told.gate (told.counted c.if-not-is_whole.false) holds slots
