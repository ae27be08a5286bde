use Rattle.std.proofs.Common.{◌∙◌, ◌+◌, List, length, refl, sym, ap, subst}
use Rattle.std.specs.List.{AllByRecursion}
use Rattle.qz_stores.specs.Kinds.{HasRecord}
use Rattle.qz_stores.specs.Bases.{HoldAll}
use Rattle.qz_stores.proofs.Appending.{none_more, images_of}
use Rattle.qz_stores.proofs.mounting.begin.Goals as goal

pub invariant_of-result-clause-counted : goal.invariant_of-result-clause-counted
invariant_of-result-clause-counted g c =
    let r = c.args.reread in
    r.counted ∙ ap (λ (l : List g.row.K-Entry.Denot). r.base_count + length l) (sym (none_more r.entries.items c.new.result.items c.new.ensures))

pub invariant_of-result-clause-legal : goal.invariant_of-result-clause-legal
invariant_of-result-clause-legal g c =
    let r = c.args.reread in
    subst (λ (l : List g.row.K-Entry.Denot). ∥ g.K.Kind.kind.IsLegalFrom (g.K.Kind.state r.base.value) l ∥₁) (sym (none_more r.entries.items c.new.result.items c.new.ensures)) c.requires.legal

pub invariant_of-result-clause-replayed : goal.invariant_of-result-clause-replayed
invariant_of-result-clause-replayed g c =
    let r = c.args.reread in
    r.replayed ∙ ap (λ (l : List g.row.K-Entry.Denot). g.K.Kind.kind.replay_from (g.K.Kind.state r.base.value) l) (sym (none_more r.entries.items c.new.result.items c.new.ensures))

pub invariant_of-result-clause-recorded : goal.invariant_of-result-clause-recorded
invariant_of-result-clause-recorded g c =
    let r = c.args.reread in
    subst (λ (l : List g.row.K-Entry.Denot). ∥ AllByRecursion (HasRecord g.K.Kind.kind) l ∥₁) (sym (none_more r.entries.items c.new.result.items c.new.ensures)) c.requires.recorded

pub invariant_of-result-clause-ended : goal.invariant_of-result-clause-ended
invariant_of-result-clause-ended g c honest start whole held =
    let r = c.args.reread in
    let j = c.args.journal in
    c.requires.ended honest start whole (subst (λ x. HoldAll g.K.Kind.kind r.version start (g.D.Disk.state x.disk).content whole) c.of-opened.ensures held)

pub invariant_of-result-clause-stands : goal.invariant_of-result-clause-stands
invariant_of-result-clause-stands g c honest now start whole held =
    let r = c.args.reread in
    let j = c.args.journal in
    subst (HoldAll g.K.Kind.kind r.version start (g.D.Disk.state j.disk).content) (sym (none_more whole c.new.result.items c.new.ensures)) (subst (λ x. HoldAll g.K.Kind.kind r.version start (g.D.Disk.state x.disk).content whole) c.of-opened.ensures held)

pub invariant_of-result-clause-gated : goal.invariant_of-result-clause-gated
invariant_of-result-clause-gated g c honest now start whole held =
    let r = c.args.reread in
    c.requires.gated honest start whole (subst (λ x. HoldAll g.K.Kind.kind r.version start (g.D.Disk.state x.disk).content whole) c.of-opened.ensures held)

pub invariant_of-result-clause-marked : goal.invariant_of-result-clause-marked
invariant_of-result-clause-marked g c honest now start whole held payloads holds =
    let r = c.args.reread in
    c.requires.marked honest start whole (subst (λ x. HoldAll g.K.Kind.kind r.version start (g.D.Disk.state x.disk).content whole) c.of-opened.ensures held) payloads holds

pub invariant_of-result-clause-images : goal.invariant_of-result-clause-images
invariant_of-result-clause-images g c honest start whole held =
    let r = c.args.reread in
    let j = c.args.journal in
    images_of g.K.Kind.kind g.met.K.Kind.lawful r.version start _ _ (g.D.Disk.state j.disk) refl (j.durable honest c.requires.open) (invariant_of-result-clause-stands g c honest refl start whole held)
