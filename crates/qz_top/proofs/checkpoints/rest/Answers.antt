use Rattle.std.proofs.Common.{◌≡◌, inl, true, false, not, refl, sym, ap, ◌∙◌, arith}
use Rattle.qz_trigger_store.proofs.Images.{rests}
use Rattle.qz_top.proofs.CheckedStores.{checked_rests, checked_few, starved_rests}
use Rattle.qz_top.proofs.checkpoints.rest.Goals as goal

-- the store is closed
pub returns-then-closed-clause-rests : goal.returns-then-closed-clause-rests
returns-then-closed-clause-rests g c = inl refl

pub returns-then-closed-clause-few : goal.returns-then-closed-clause-few
returns-then-closed-clause-few g c opened = let bad : false ≡ true = ap not (sym opened) ∙ sym c.closed.ensures ∙ c.if-closed.true in absurd cc

pub returns-then-closed-clause-any_moment : goal.returns-then-closed-clause-any_moment
returns-then-closed-clause-any_moment g c honest = rests c.args.triggers.now (g.met.D.Disk.lawful honest _) honest

-- none is due
pub returns-then-behind-lt-CHECKPOINT_AFTER-clause-rests : goal.returns-then-behind-lt-CHECKPOINT_AFTER-clause-rests
returns-then-behind-lt-CHECKPOINT_AFTER-clause-rests g c = inl refl

pub returns-then-behind-lt-CHECKPOINT_AFTER-clause-few : goal.returns-then-behind-lt-CHECKPOINT_AFTER-clause-few
returns-then-behind-lt-CHECKPOINT_AFTER-clause-few g c opened = inl (omega (arith, c.behind.ensures, c.if-behind-lt-CHECKPOINT_AFTER.true))

pub returns-then-behind-lt-CHECKPOINT_AFTER-clause-any_moment : goal.returns-then-behind-lt-CHECKPOINT_AFTER-clause-any_moment
returns-then-behind-lt-CHECKPOINT_AFTER-clause-any_moment g c honest = rests c.args.triggers.now (g.met.D.Disk.lawful honest _) honest

-- a snapshot was made, or has no room
pub returns-in-Ok-clause-rests : goal.returns-in-Ok-clause-rests
returns-in-Ok-clause-rests g c = checked_rests c.args.triggers.now c.checkpoint.new.self _ c.in-Ok.ensures.one c.in-Ok.ensures.unchanged

pub returns-in-Ok-clause-few : goal.returns-in-Ok-clause-few
returns-in-Ok-clause-few g c opened = checked_few c.args.triggers.now c.checkpoint.new.self _ c.in-Ok.ensures.unchanged c.in-Ok.ensures.no_room c.in-Ok.ensures.behind

-- there is no memory
pub returns-in-Err-NoMemory-clause-rests : goal.returns-in-Err-NoMemory-clause-rests
returns-in-Err-NoMemory-clause-rests g c = starved_rests c.args.triggers.now c.checkpoint.new.self (rw c.in-Err-NoMemory.field-0-is at c.in-Err-NoMemory.ensures.unchanged)
