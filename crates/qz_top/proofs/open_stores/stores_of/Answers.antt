use Rattle.std.proofs.Common.{sym, refl, ◌∙◌}
use Rattle.qz_top.specs.NodeRuns.{both}
use Rattle.qz_top.proofs.open_stores.stores_of.Goals as goal

-- an old store is given back as it was opened
pub returns-then-is_old-clause-err : goal.returns-then-is_old-clause-err
returns-then-is_old-clause-err g c triggers states begins o =
    let cluster = c.args.run.cluster in
    let stores = c.into_stores-triggers.ensures in
    let end = c.ran_no_script.ensures in
    let disk = c.into_disk.ensures in
    let states_disk = c.into_disk-then-is_old.ensures in
    record {
      opened = both cluster.triggers cluster.states;
      are_opened = begins.are_opened;
      found = begins.found;
      was_old = rw stores.0 at (sym c.is_old.ensures ∙ c.if-is_old.true);
      status_is = end.status;
      none = end.trail;
      reads = λ honest. rw (end.disks.0 ∙ disk, end.disks.1 ∙ states_disk, stores.0, stores.1) (begins.reads honest);
      untouched = refl;
    }

pub returns-clause-ok : goal.returns-clause-ok
returns-clause-ok g c triggers states begins =
    let stores = c.into_stores-triggers.ensures in
    let current = sym c.is_old.ensures ∙ c.if-is_old.false in
    rw (stores.0, stores.1)
    (record {
      are_opened = begins.are_opened;
      current = rw stores.0 at current;
      keeps = c.requires;
      nothing_added = begins.nothing_added;
      found = begins.found;
      goes_on = begins.goes_on;
      rows_go_on = begins.rows_go_on;
      no_earlier = begins.no_earlier;
      reads = begins.reads;
    })
