use Rattle.std.proofs.Common.{ℕ, List, length, take, drop, ◌∙◌, refl, sym, ap, ◌≡◌, arith, true}
use Rattle.qz_disk.specs.declared.calls.Call.TheVariants.{Read}
use Rattle.qz_disk.specs.Memory.{standing_of}
use Rattle.qz_disk.proofs.Causes.{on_ok}
use Rattle.qz_disk.proofs.MemoryCalls.{kept_by, not_fresh, read_call}
use Rattle.qz_disk.proofs.memory.MemDiskDisk.read.Goals as goal

pub invariant_of-self-2 : goal.invariant_of-self-2
invariant_of-self-2 c = record {
  fresh = not_fresh _ (on_ok _ _ (sym c.if-is_err.ensures.value) c.prepare.ensures.copied);
  kept = λ is. kept_by _ _ _ (Read c.args.at (length c.copy_from_slice.new.self)) _ (c.prepare.new.self.kept is) refl c.push_reserved.ensures.items;
}

pub returns-clause-told : goal.returns-clause-told
returns-clause-told c _ =
    let copied : c.prepare.new.self.copied ≡ true = on_ok _ _ (sym c.if-is_err.ensures.value) c.prepare.ensures.copied in
    let same : (standing_of c.prepare.new.self.first c.prepare.new.self.calls.items).content ≡ (standing_of c.args.self.now.first c.args.self.now.calls.items).content = λ i. (standing_of (c.prepare.ensures.first i) (c.prepare.ensures.calls i)).content in
    let held = c.deref.ensures.value ∙ c.prepare.new.self.kept copied ∙ same in
    let bytes = c.copy_from_slice.ensures.after ∙ ap (λ (n : ℕ). take n (drop c.args.at c.deref.result.now)) (omega (arith, c.copy_from_slice.ensures.len)) ∙ ap (λ (l : List ℕ). take (length c.copy_from_slice.new.self) (drop c.args.at l)) held in
    read_call _ _ _ _ _ c.args.at c.copy_from_slice.new.self bytes (record { same_first = c.prepare.ensures.first; same_calls = c.prepare.ensures.calls; pushed = c.push_reserved.ensures.items })
