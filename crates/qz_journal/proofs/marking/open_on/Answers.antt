use Rattle.std.proofs.Common.{refl, arith}
use Rattle.qz_journal.proofs.Marks.{offset_leaves, opens_leaves, opens, same_bytes}
use Rattle.qz_journal.proofs.marking.open_on.Goals as goal

pub returns-in_err-put_through-clause-any_moment : goal.returns-in_err-put_through-clause-any_moment
returns-in_err-put_through-clause-any_moment g c h durable none =
    offset_leaves _ c.args.gate c.args.offset _ _ c.requires.place (let whole = g.met.D.Disk.whole h c.args.disk.now in omega (arith, whole, c.requires.long)) durable none
    (same_bytes c.to_be_bytes.ensures (c.put_through.ensures.told h))

pub returns-clause-any_moment : goal.returns-clause-any_moment
returns-clause-any_moment g c h durable none =
    opens_leaves _ _ c.args.gate c.args.offset _ _ _ c.requires.place (let whole = g.met.D.Disk.whole h c.args.disk.now in omega (arith, whole, c.requires.long)) c.ranges.offset.fits refl
    (same_bytes c.to_be_bytes.ensures (c.in_ok-put_through.ensures.told h)) (c.put_through-2.ensures.told h)
    (g.met.D.Disk.lawful h c.put_through.new.disk) durable none

pub returns-clause-opened : goal.returns-clause-opened
returns-clause-opened g c h =
    opens _ _ c.args.gate c.args.offset _ _ _ c.requires.place (let whole = g.met.D.Disk.whole h c.args.disk.now in omega (arith, whole, c.requires.long)) c.ranges.offset.fits refl
    (same_bytes c.to_be_bytes.ensures (c.in_ok-put_through.ensures.told h)) (c.put_through-2.ensures.told h)
