use Rattle.qz_journal.proofs.TrueTails.{whole_tail, tail_only_outside}
use Rattle.qz_journal.proofs.journal.Journal.mount_tail.Goals as goal

pub returns-in-Ok-clause-whole : goal.returns-in-Ok-clause-whole
returns-in-Ok-clause-whole g c h version payloads holds slots =
    let journal = c.in-Ok.mounted.0 in
    let found = c.in-Ok.ensures in
    whole_tail _ _ journal.version version c.args.kind c.in-Ok.mounted.1 journal.gate journal.count journal.slots payloads c.in-Ok.mounted.2 (found.reads h).content (found.slots h) found.ground.2 (found.stands h) found.ground.3 found.ground.4 holds slots

pub returns-in-Err-clause-whole : goal.returns-in-Err-clause-whole
returns-in-Err-clause-whole g c h version payloads holds slots = tail_only_outside _ version c.args.kind payloads _ _ holds slots (c.in-Err.ensures.refused h)
