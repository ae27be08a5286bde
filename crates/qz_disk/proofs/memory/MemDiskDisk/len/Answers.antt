use Rattle.std.proofs.Common.{sym, refl}
use Rattle.qz_disk.specs.declared.calls.Call.TheVariants.{Len}
use Rattle.qz_disk.proofs.Causes.{on_ok}
use Rattle.qz_disk.proofs.MemoryCalls.{kept_by, not_fresh, len_call}
use Rattle.qz_disk.proofs.memory.MemDiskDisk.len.Goals as goal

pub invariant_of-self-2 : goal.invariant_of-self-2
invariant_of-self-2 c = record {
  fresh = not_fresh _ (on_ok _ _ (sym c.if-is_err.ensures.value) c.prepare.ensures.copied);
  kept = λ is. kept_by _ _ _ Len _ (c.prepare.new.self.kept is) refl c.push_reserved.ensures.items;
}

pub returns-clause-told : goal.returns-clause-told
returns-clause-told c _ = len_call _ _ _ _ _ (record { same_first = c.prepare.ensures.first; same_calls = c.prepare.ensures.calls; pushed = c.push_reserved.ensures.items })
