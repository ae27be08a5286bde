use Rattle.std.proofs.Common.{◌++◌, ◌∷◌, [], List, ℕ, ◌∙◌, sym, ap}
use Rattle.qz_disk.specs.declared.calls.Call.TheVariants.{Write}
use Rattle.qz_disk.specs.Disk.{written}
use Rattle.qz_disk.specs.Memory.{Standing}
use Rattle.qz_disk.proofs.Causes.{on_ok}
use Rattle.qz_disk.proofs.MemoryCalls.{standing-push, not_fresh, write_call}
use Rattle.qz_disk.proofs.memory.MemDiskDisk.write_at.Goals as goal

pub invariant_of-self-in-Ok : goal.invariant_of-self-in-Ok
invariant_of-self-in-Ok c =
    let bytes_are = c.from_vec-bytes.ensures ∙ c.in-Ok.ensures.items in
    let pushed = c.push_reserved.ensures.items ∙ ap (λ (l : List ℕ). c.prepare.new.self.calls.items ++ Write c.args.at l ∷ []) bytes_are in
    let wrote = on_ok _ _ c.if-is_ok.ensures.negation c.overwrite.ensures.ok in
    record {
      fresh = not_fresh _ (on_ok _ _ (sym c.if-is_err.ensures.value) c.prepare.ensures.copied);
      kept = λ is. wrote ∙ ap (λ (l : List ℕ). written c.args.at c.args.from.now l) (c.prepare.new.self.kept is) ∙ sym (ap (λ (s : Standing). s.content) (standing-push _ _ _ (Write c.args.at c.args.from.now) pushed));
    }

pub returns-in-Ok-clause-told : goal.returns-in-Ok-clause-told
returns-in-Ok-clause-told c _ =
    let bytes_are = c.from_vec-bytes.ensures ∙ c.in-Ok.ensures.items in
    let pushed = c.push_reserved.ensures.items ∙ ap (λ (l : List ℕ). c.prepare.new.self.calls.items ++ Write c.args.at l ∷ []) bytes_are in
    write_call _ _ _ _ _ c.args.at c.args.from.now (record { same_first = c.prepare.ensures.first; same_calls = c.prepare.ensures.calls; pushed = pushed })
