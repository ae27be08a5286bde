use Rattle.std.proofs.Common.{◌≡◌, List, [], sym, ◌∙◌, ap, subst}
use Rattle.std.specs.Prelude.{Some, None}
use Rattle.std.specs.List.{AllByRecursion}
use Rattle.qz_journal.specs.Making.{Makes}
use Rattle.qz_stores.specs.Kinds.{HasRecord}
use Rattle.qz_stores.specs.Bases.{HoldAll}
use Rattle.qz_stores.proofs.NewStores.{new_here, read_end, read_gate}
use Rattle.qz_stores.proofs.stores.Store.create.Goals as goal

pub begin-requires-clause-recorded : goal.begin-requires-clause-recorded
begin-requires-clause-recorded g c = subst (λ (l : List g.row.K-Entry.Denot). ∥ AllByRecursion (HasRecord g.K.Kind.kind) l ∥₁) (sym c.nothing_read.ensures.none.0) ∣ tt ∣₁

pub begin-requires-clause-legal : goal.begin-requires-clause-legal
begin-requires-clause-legal g c =
    let r = c.nothing_read.result in
    subst (λ (l : List g.row.K-Entry.Denot). ∥ g.K.Kind.kind.IsLegalFrom (g.K.Kind.state r.base.value) l ∥₁) (sym c.nothing_read.ensures.none.0) ∣ g.met.K.Kind.lawful.legal_none (g.K.Kind.state r.base.value) ∣₁

pub begin-requires-clause-ended : goal.begin-requires-clause-ended
begin-requires-clause-ended g c honest start whole held =
    let k = g.K.Kind.kind in
    let r = c.nothing_read.result in
    let e = c.nothing_read.ensures in
    let t = g.D.Disk.state c.in-Ok.journal.disk in
    read_end k g.met.K.Kind.lawful c.args.version r.version r.base_count c.number.result start (g.D.Disk.state c.args.disk) t (g.K.Kind.state r.base.value) r.entries.items whole e.version e.base.0 e.base.1 e.none.0 c.number.ensures
    (c.in-Ok.ensures.made honest).made held

pub begin-requires-clause-gated : goal.begin-requires-clause-gated
begin-requires-clause-gated g c honest start whole held payloads holds =
    let new = c.in-Ok.ensures.new in
    read_gate g.K.Kind.kind g.met.K.Kind.lawful c.args.version c.number.result c.nothing_read.result.version c.in-Ok.journal.gate c.in-Ok.journal.count (g.D.Disk.state c.args.disk) (g.D.Disk.state c.in-Ok.journal.disk) payloads
    c.number.ensures (c.in-Ok.ensures.made honest).made holds new.2 new.3

pub returns-in-Ok-clause-made : goal.returns-in-Ok-clause-made
returns-in-Ok-clause-made g c honest =
    subst (λ j. Makes c.args.version g.K.Kind.kind.number None (g.D.Disk.state c.args.disk) (g.D.Disk.state j.disk)) (sym c.begin.ensures.journal)
    (subst (λ n. Makes c.args.version n None (g.D.Disk.state c.args.disk) (g.D.Disk.state c.in-Ok.journal.disk)) c.number.ensures (c.in-Ok.ensures.made honest))

pub returns-in-Err-clause-made : goal.returns-in-Err-clause-made
returns-in-Err-clause-made g c honest =
    subst (λ n. Makes c.args.version n (Some c.in-Err.refused.0) (g.D.Disk.state c.args.disk) (g.D.Disk.state c.in-Err.refused.1)) c.number.ensures (c.in-Err.ensures.made honest)

pub returns-in-Ok-clause-whole : goal.returns-in-Ok-clause-whole
returns-in-Ok-clause-whole g c honest =
    let k = g.K.Kind.kind in
    let s = c.begin.result in
    let t = g.D.Disk.state c.in-Ok.journal.disk in
    let held = new_here k g.met.K.Kind.lawful c.args.version c.number.result (g.D.Disk.state c.args.disk) t c.number.ensures (c.in-Ok.ensures.made honest).made in
    let same : t.content ≡ (g.D.Disk.state s.journal.disk).content = sym (ap (λ j. (g.D.Disk.state j.disk).content) c.begin.ensures.journal) in
    let opened = c.begin.ensures.opened.3 in
    (subst (λ b. HoldAll k c.args.version (k.empty c.args.version) b []) same held, opened ∙ same, ([], c.begin.ensures.version ∙ c.nothing_read.ensures.version, subst (λ b. HoldAll k c.args.version (k.empty c.args.version) b []) (sym opened) held))
