use Rattle.std.proofs.Common.{◌∙◌, sym, subst}
use Rattle.std.specs.Prelude.{Some}
use Rattle.qz_trigger_store.specs.View.{disk_state}
use Rattle.qz_follow.specs.Promoting.{Promotes}
use Rattle.qz_follow.proofs.Joined.{starts_new, starts_with, starts_other}
use Rattle.qz_follow.proofs.Begun.{full_as, opens_new, whole_new, goes_new, opens_with, whole_with, goes_with, behind_with, begun_with, not_begun_with, lacks_with}
use Rattle.qz_follow.proofs.Promoted.{made_begins, not_made}
use Rattle.qz_follow.proofs.beginning.begin.Goals as goal

pub returns-in-Ok-clause-store : goal.returns-in-Ok-clause-store
returns-in-Ok-clause-store g c =
    let v = c.args.version in
    let start = c.args.start.now.value.tables in
    let e = c.in-Ok.ensures in
    opens_new v start c.in-Ok.store (starts_new v start c.args.base c.in-None.is c.requires.based) e.opened.is_open e.history e.nothing.0 e.nothing.1 e.nothing.2

pub returns-in-Ok-clause-begins : goal.returns-in-Ok-clause-begins
returns-in-Ok-clause-begins g c honest = made_begins c.args.version c.args.start.now.value.tables (g.D.Disk.state c.args.disk) (disk_state c.in-Ok.store) (c.in-Ok.ensures.made honest)

pub returns-in-Ok-clause-goes_on : goal.returns-in-Ok-clause-goes_on
returns-in-Ok-clause-goes_on g c honest =
    let v = c.args.version in
    let start = c.args.start.now.value.tables in
    goes_new v start c.in-Ok.store (starts_new v start c.args.base c.in-None.is c.requires.based) (c.in-Ok.ensures.whole honest).2

pub returns-in-Ok-clause-place : goal.returns-in-Ok-clause-place
returns-in-Ok-clause-place g c honest other =
    let v = c.args.version in
    let start = c.args.start.now.value.tables in
    absurd (other (starts_new v start c.args.base c.in-None.is c.requires.based))

pub returns-in-Err-clause-begins : goal.returns-in-Err-clause-begins
returns-in-Err-clause-begins g c honest entries =
    let v = c.args.version in
    let start = c.args.start.now.value.tables in
    let s = g.D.Disk.state c.args.disk in
    let t = g.D.Disk.state c.in-Err.disk in
    subst (λ x. Promotes v start entries (Some x) s t) (sym c.from.ensures) (not_made v start entries c.in-Err.error s t (c.in-Err.ensures.made honest))

pub returns-in-Ok-compacted-clause-store : goal.returns-in-Ok-compacted-clause-store
returns-in-Ok-compacted-clause-store g c =
    let v = c.args.version in
    let start = c.args.start.now.value.tables in
    let t = c.in-Some.tables in
    let e = c.in-Ok-compacted.ensures in
    opens_with v start t.tables c.in-Ok-compacted.store (starts_with v start c.args.base t c.in-Some.is c.requires.based) e.opened.is_open e.history e.version e.none.0 e.none.1

pub returns-in-Ok-compacted-clause-begins : goal.returns-in-Ok-compacted-clause-begins
returns-in-Ok-compacted-clause-begins g c honest =
    let v = c.args.version in
    let start = c.args.start.now.value.tables in
    let t = c.in-Some.tables in
    begun_with v start t.tables (starts_with v start c.args.base t c.in-Some.is c.requires.based) (g.D.Disk.state c.args.disk) (disk_state c.in-Ok-compacted.store) (c.in-Ok-compacted.ensures.made honest).0

pub returns-in-Ok-compacted-clause-goes_on : goal.returns-in-Ok-compacted-clause-goes_on
returns-in-Ok-compacted-clause-goes_on g c honest =
    let v = c.args.version in
    let start = c.args.start.now.value.tables in
    let t = c.in-Some.tables in
    goes_with v start t.tables c.in-Ok-compacted.store (starts_with v start c.args.base t c.in-Some.is c.requires.based) (c.in-Ok-compacted.ensures.goes_on honest)

pub returns-in-Ok-compacted-clause-plain : goal.returns-in-Ok-compacted-clause-plain
returns-in-Ok-compacted-clause-plain g c new =
    let v = c.args.version in
    let start = c.args.start.now.value.tables in
    absurd (starts_other v start c.args.base c.in-Some.tables c.in-Some.is c.requires.based new)

pub returns-in-Ok-compacted-clause-place : goal.returns-in-Ok-compacted-clause-place
returns-in-Ok-compacted-clause-place g c honest other =
    let v = c.args.version in
    let start = c.args.start.now.value.tables in
    let t = c.in-Some.tables in
    let e = c.in-Ok-compacted.ensures in
    behind_with v start t.tables c.in-Ok-compacted.store (starts_with v start c.args.base t c.in-Some.is c.requires.based) (e.place honest) e.room

pub returns-in-Err-compacted-clause-begins : goal.returns-in-Err-compacted-clause-begins
returns-in-Err-compacted-clause-begins g c honest entries =
    let v = c.args.version in
    let start = c.args.start.now.value.tables in
    let s = g.D.Disk.state c.args.disk in
    let t = g.D.Disk.state c.in-Err-compacted.disk in
    let with = starts_with v start c.args.base c.in-Some.tables c.in-Some.is c.requires.based in
    subst (λ x. Promotes v start entries (Some x) s t) (sym c.from-in-Err-compacted.ensures) (not_begun_with v start c.in-Some.tables.tables with s t entries c.in-Err-compacted.error (c.in-Err-compacted.ensures.made honest))

pub returns-in-Ok-clause-whole : goal.returns-in-Ok-clause-whole
returns-in-Ok-clause-whole g c honest =
    let v = c.args.version in
    let start = c.args.start.now.value.tables in
    let whole = c.in-Ok.ensures.whole honest in
    whole_new v start c.in-Ok.store (starts_new v start c.args.base c.in-None.is c.requires.based) (disk_state c.in-Ok.store).content whole.0 whole.1

pub returns-in-Ok-compacted-clause-whole : goal.returns-in-Ok-compacted-clause-whole
returns-in-Ok-compacted-clause-whole g c honest =
    let v = c.args.version in
    let start = c.args.start.now.value.tables in
    let t = c.in-Some.tables in
    let made = c.in-Ok-compacted.ensures.made honest in
    whole_with v start t.tables c.in-Ok-compacted.store (starts_with v start c.args.base t c.in-Some.is c.requires.based) (disk_state c.in-Ok-compacted.store).content made.0.made.0 made.1

pub returns-in-Err-compacted-clause-no_room : goal.returns-in-Err-compacted-clause-no_room
returns-in-Err-compacted-clause-no_room g c need room is =
    let v = c.args.version in
    let start = c.args.start.now.value.tables in
    let t = c.in-Some.tables in
    let with = starts_with v start c.args.base t c.in-Some.is c.requires.based in
    (starts_other v start c.args.base t c.in-Some.is c.requires.based, lacks_with start t.tables need room with (c.in-Err-compacted.ensures.no_room need room (full_as c.in-Err-compacted.error need room (sym c.from-in-Err-compacted.ensures ∙ is))))
