use Rattle.std.proofs.Common.{◌≡◌, ◌∙◌, ℕ, List, sym, subst}
use Rattle.std.proofs.KnownBytes.{Appends-nil}
use Rattle.qz_journal.specs.Tails.{IsTail}
use Rattle.qz_journal.specs.declared.layout.TheConstants.{TRIGGERS}
use Rattle.qz_tell.specs.Histories.{MayEnd}
use Rattle.qz_tell.proofs.Openings.{read_alone, read_failed}
use Rattle.qz_tell.proofs.Tells.{ends_early, ends_unopened, fault_of, never_ok, no_disk_failed, no_write_failed, nothing_told, refusal_not_ok, same_error, told_all, told_part, writes_failed}
use Rattle.qz_tell.proofs.readings.read.Goals as goal

-- Both were opened.

pub returns-in-Ok-tell_payloads-clause-all : goal.returns-in-Ok-tell_payloads-clause-all
returns-in-Ok-tell_payloads-clause-all g c opened stands =
    let j = c.in-Ok.journal in
    let e = c.in-Ok.ensures in
    told_all g.D.Disk c.args.triggers j.disk j.slots c.slot-slot.result c.version-version.result c.in-Ok.start c.in-Ok.payloads e.reads
    (λ p. subst (λ v. IsTail (g.D.Disk.state j.disk).content v TRIGGERS c.in-Ok.start c.in-Ok.payloads) (sym c.version-version.ensures.value) (e.stands p)) e.slots e.ground.2 c.slot-slot.ensures opened stands
    c.args.from c.in-Ok-tell_payloads.begins (g.K.Sink.held c.args.out.now) (g.K.Sink.held c.tell_payloads.new.out) c.in-Ok-tell_payloads.ensures.all

pub returns-in-Ok-clause-part : goal.returns-in-Ok-clause-part
returns-in-Ok-clause-part g c opened stands =
    let j = c.in-Ok.journal in
    let e = c.in-Ok.ensures in
    told_part g.D.Disk c.args.triggers j.disk j.slots c.slot-slot.result c.version-version.result c.in-Ok.start c.in-Ok.payloads e.reads
    (λ p. subst (λ v. IsTail (g.D.Disk.state j.disk).content v TRIGGERS c.in-Ok.start c.in-Ok.payloads) (sym c.version-version.ensures.value) (e.stands p)) e.slots e.ground.2 c.slot-slot.ensures opened stands
    c.args.from (g.K.Sink.held c.args.out.now) (g.K.Sink.held c.tell_payloads.new.out) c.in-Err-tell_payloads.ensures.part

pub returns-in-Ok-clause-ends : goal.returns-in-Ok-clause-ends
returns-in-Ok-clause-ends g c opened stands =
    let j = c.in-Ok.journal in
    let e = c.in-Ok.ensures in
    subst (MayEnd g.D.Disk.honest) (sym c.status_of.ensures)
    (ends_early g.D.Disk c.args.triggers j.disk j.slots c.slot-slot.result c.version-version.result c.in-Ok.start c.in-Ok.payloads e.reads
    (λ p. subst (λ v. IsTail (g.D.Disk.state j.disk).content v TRIGGERS c.in-Ok.start c.in-Ok.payloads) (sym c.version-version.ensures.value) (e.stands p)) e.slots e.ground.2 c.slot-slot.ensures opened stands
    c.in-Err-tell_payloads.error c.in-Err-tell_payloads.ensures.unfit)

-- Or not.

pub returns-clause-part : goal.returns-clause-part
returns-clause-part g c opened stands = nothing_told g.D.Disk.honest c.args.from opened (g.K.Sink.held c.args.out.now) (g.K.Sink.held c.args.out.now) (Appends-nil (g.K.Sink.held c.args.out.now))

pub returns-clause-ends : goal.returns-clause-ends
returns-clause-ends g c opened stands = subst (MayEnd g.D.Disk.honest) (sym c.refusal_of.ensures) (ends_unopened g.D.Disk c.args.triggers opened stands c.in-Err.error c.in-Err.ensures.refused)
