use Rattle.std.proofs.Common.{◌≡◌, ◌∙◌, sym, subst}
use Rattle.qz_disk.specs.Disk.{IsLawful}
use Rattle.qz_disk.specs.Memory.{Standing, IsImageOf, standing_of, memory_state}
use Rattle.qz_disk.specs.MemoryLaws.{memory_lawful}
use Rattle.qz_disk.specs.Recorded.{content_of, record_of}
use Rattle.qz_disk.proofs.Causes.{on_ok}
use Rattle.qz_disk.proofs.Choices.{brings_image}
use Rattle.qz_disk.proofs.MemoryCalls.{restart_call}
use Rattle.qz_disk.proofs.memory.MemDiskDisk.restart.Goals as goal

pub returns-clause-told : goal.returns-clause-told
returns-clause-told c _ =
    let ok = sym c.if-is_err-2.ensures.value in
    let same : standing_of c.prepare.new.self.first c.prepare.new.self.calls.items ≡ standing_of c.args.self.now.first c.args.self.now.calls.items = λ i. standing_of (c.prepare.ensures.first i) (c.prepare.ensures.calls i) in
    let lawful : IsLawful (memory_state c.prepare.new.self.first c.prepare.new.self.calls.items) = memory_lawful _ _ in
    let among = brings_image _ _ _ _ lawful.content (on_ok _ _ ok c.bring_up.ensures.chosen) in
    restart_call _ _ _ _ _ (content_of (record_of c.bring_up.new.self)) (subst (λ (s : Standing). IsImageOf s (content_of (record_of c.bring_up.new.self))) same among) (record { same_first = c.bring_up.ensures.first ∙ c.prepare.ensures.first; same_calls = c.prepare.ensures.calls; pushed = on_ok _ _ ok c.bring_up.ensures.calls })
