use Rattle.std.proofs.Common.{◌≡◌, ◌∙◌, ℕ, List, [], length, Some, None, sym, ap, subst}
use Rattle.qz_journal.specs.Beginning.{Begins}
use Rattle.qz_journal.specs.Layout.{Holds, end_of}
use Rattle.qz_journal.specs.Slots.{slot_in_use}
use Rattle.qz_journal.specs.Tails.{start_of}
use Rattle.qz_journal.proofs.Once.{holds_once}
use Rattle.qz_stores.specs.Bases.{ComeBefore, HoldAll, IsEndOf}
use Rattle.qz_stores.specs.Compacting.{Compacts}
use Rattle.qz_stores.proofs.Beginnings.{begins_as, compacted_end, compacted_counts, was_begun, not_begun}
use Rattle.qz_stores.proofs.stores.Store.compacted.Goals as goal

pub begin-requires-in-Ok-begin-clause-ended : goal.begin-requires-in-Ok-begin-clause-ended
begin-requires-in-Ok-begin-clause-ended g c honest start whole held =
    let k = g.K.Kind.kind in
    let v = c.args.version in
    let T = g.K.Kind.state c.args.state in
    let parts = k.snapshot_of T 0 0 in
    let e = c.in-Ok.ensures in
    let b = g.D.Disk.state c.first_payloads.new.disk in
    let j = c.in-Ok-begin.journal in
    let d = g.D.Disk.state j.disk in
    let m = begins_as v c.number.result k.number c.as_slice.result.now parts None b d c.number.ensures (c.as_slice.ensures ∙ e.payloads.0) (c.in-Ok-begin.ensures.begun honest) in
    let n = c.started.ensures in
    let is = compacted_end k g.met.K.Kind.lawful v T parts e.begins e.parts (g.met.K.Kind.valid c.args.state) d.content m.made.0 start whole (subst (λ x. HoldAll k x start d.content whole) n.numbers.0 held) in
    subst (λ h. IsEndOf k start h whole) (λ i. k.history (sym n.numbers.1 i) (sym n.base i) (sym n.numbers.3 i)) is

pub begin-requires-in-Ok-begin-clause-gated : goal.begin-requires-in-Ok-begin-clause-gated
begin-requires-in-Ok-begin-clause-gated g c honest start whole held payloads holds =
    let k = g.K.Kind.kind in
    let v = c.args.version in
    let T = g.K.Kind.state c.args.state in
    let parts = k.snapshot_of T 0 0 in
    let e = c.in-Ok.ensures in
    let b = g.D.Disk.state c.first_payloads.new.disk in
    let j = c.in-Ok-begin.journal in
    let d = g.D.Disk.state j.disk in
    let m = begins_as v c.number.result k.number c.as_slice.result.now parts None b d c.number.ensures (c.as_slice.ensures ∙ e.payloads.0) (c.in-Ok-begin.ensures.begun honest) in
    let same : parts ≡ payloads = holds_once d.content v v k.number parts payloads m.made.0.holds (subst (λ x. Holds d.content x k.number payloads) c.started.ensures.numbers.0 holds) in
    let now = c.as_slice.ensures ∙ e.payloads.0 ∙ same in
    (c.in-Ok-begin.ensures.new.2 ∙ ap end_of now, c.in-Ok-begin.ensures.new.3 ∙ ap (λ (l : List (List ℕ)). length l) now)

pub begin-requires-in-Ok-begin-clause-marked : goal.begin-requires-in-Ok-begin-clause-marked
begin-requires-in-Ok-begin-clause-marked g c honest start whole held payloads holds =
    let k = g.K.Kind.kind in
    let v = c.args.version in
    let T = g.K.Kind.state c.args.state in
    let parts = k.snapshot_of T 0 0 in
    let e = c.in-Ok.ensures in
    let b = g.D.Disk.state c.first_payloads.new.disk in
    let j = c.in-Ok-begin.journal in
    let d = g.D.Disk.state j.disk in
    let m = begins_as v c.number.result k.number c.as_slice.result.now parts None b d c.number.ensures (c.as_slice.ensures ∙ e.payloads.0) (c.in-Ok-begin.ensures.begun honest) in
    let n = c.started.ensures in
    let here = subst (λ x. Holds d.content x k.number payloads) n.numbers.0 holds in
    subst (λ many. ComeBefore k (slot_in_use j.slots) (start_of j.slots) payloads many) (sym n.numbers.1)
    (compacted_counts k g.met.K.Kind.lawful v T parts e.begins e.parts (g.met.K.Kind.valid c.args.state) d.content m.made.0 j.slots payloads c.in-Ok-begin.ensures.new.5 here)

pub returns-in-Ok-begin-clause-made : goal.returns-in-Ok-begin-clause-made
returns-in-Ok-begin-clause-made g c honest =
    let k = g.K.Kind.kind in
    let v = c.args.version in
    let T = g.K.Kind.state c.args.state in
    let parts = k.snapshot_of T 0 0 in
    let e = c.in-Ok.ensures in
    let b = g.D.Disk.state c.first_payloads.new.disk in
    let j = c.in-Ok-begin.journal in
    let d = g.D.Disk.state j.disk in
    let m = begins_as v c.number.result k.number c.as_slice.result.now parts None b d c.number.ensures (c.as_slice.ensures ∙ e.payloads.0) (c.in-Ok-begin.ensures.begun honest) in
    let a = g.D.Disk.state c.args.disk in
    let is = was_begun k g.met.K.Kind.lawful v T parts e.begins e.parts (g.met.K.Kind.valid c.args.state) a b d (e.found honest) (e.unchanged honest) (e.any_moment honest) m in
    let journal = c.begin-in-Ok-begin.ensures.journal in
    (subst (λ x. Compacts k v T None a (g.D.Disk.state x.disk)) (sym journal) is, c.begin-in-Ok-begin.ensures.opened.3 ∙ ap (λ x. (g.D.Disk.state x.disk).content) (sym journal))

pub returns-in-Ok-begin-clause-goes_on : goal.returns-in-Ok-begin-clause-goes_on
returns-in-Ok-begin-clause-goes_on g c honest =
    let made = returns-in-Ok-begin-clause-made g c honest in
    let version = c.begin-in-Ok-begin.ensures.version ∙ c.started.ensures.numbers.0 in
    ([], version, subst (λ (b : List ℕ). HoldAll g.K.Kind.kind c.args.version (g.K.Kind.state c.args.state) b []) (sym made.1) made.0.made.0)

pub returns-in-Ok-clause-made : goal.returns-in-Ok-clause-made
returns-in-Ok-clause-made g c honest =
    let k = g.K.Kind.kind in
    let v = c.args.version in
    let T = g.K.Kind.state c.args.state in
    let parts = k.snapshot_of T 0 0 in
    let e = c.in-Ok.ensures in
    let b = g.D.Disk.state c.first_payloads.new.disk in
    let a = g.D.Disk.state c.args.disk in
    let d = g.D.Disk.state c.in-Err-begin.disk in
    let m = begins_as v c.number.result k.number c.as_slice.result.now parts (Some c.in-Err-begin.error) b d c.number.ensures (c.as_slice.ensures ∙ e.payloads.0) (c.in-Err-begin.ensures.begun honest) in
    not_begun k g.met.K.Kind.lawful v T parts e.begins e.parts (g.met.K.Kind.valid c.args.state) a b d (e.found honest) (e.unchanged honest) (e.any_moment honest) c.in-Err-begin.error c.not_made.result c.not_made.ensures.memory c.not_made.ensures.fault m
