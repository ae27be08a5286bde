use Rattle.std.proofs.Common.{◌≡◌, Err, None, Some, sym, ap, ◌∙◌}
use Rattle.qz_snapshot.proofs.checkpoints.clear_free.Goals as goal

pub unreachable-requires : goal.unreachable-requires
unreachable-requires g c =
    let shut = (c.clear_slot.ensures.closed c.in-Err-Closed.field-0-0).0 (c.in-Err-Closed.is ∙ ap Err c.in-Err-Closed.field-0-is) in
    let no : None ≡ Some c.in-Err-Closed.field-0-0 = sym c.requires.ready ∙ shut in cc
