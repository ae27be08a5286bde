use Rattle.std.proofs.Common.{◌≡◌, refl, sym, ap, ◌∙◌, subst, [], List, ℕ, length}
use Rattle.qz_disk.specs.declared.disk.Disk.{Ghosts}
use Rattle.qz_journal.specs.Layout.{Holds}
use Rattle.qz_journal.specs.declared.layout.TheConstants.{TRIGGERS, STATES}
use Rattle.qz_cluster.specs.View.{view as cluster_view}
use Rattle.qz_stores.proofs.NewStores.{new_whole, new_found, placed_new}
use Rattle.qz_types.specs.Entries.{EntryData}
use Rattle.qz_model.specs.History.{History}
use Rattle.qz_trigger_store.specs.View.{found_of, added_of}
use Rattle.qz_trigger_store.specs.Bytes.{Whole, list_of, IsWhole}
use Rattle.qz_trigger_store.specs.Kinds.{trigger_kind}
use Rattle.qz_trigger_store.specs.Laws.{trigger_lawful}
use Rattle.qz_checkin.specs.Bytes.{Whole as WholeRows, list_of as rows_list_of, IsWhole as IsWholeRows}
use Rattle.qz_checkin.specs.Kinds.{state_kind}
use Rattle.qz_checkin.specs.Laws.{state_lawful}
use Rattle.qz_top.proofs.GeneratingLaws.{none_found}
use Rattle.qz_top.proofs.TrailLaws.{new_state}
use Rattle.qz_top.proofs.in_memory.new_stores.Goals as goal

-- the whole list of a new store
abbrev none : Whole
none = list_of 2 []

abbrev no_rows : WholeRows
no_rows = rows_list_of 2 []

pub returns-in-Ok-clause-told : goal.returns-in-Ok-clause-told
returns-in-Ok-clause-told c =
    let mounted = c.in-Ok.ensures in
    let held = new_whole trigger_kind trigger_lawful 2 _ c.in_ok-triggers.ensures.empty c.in_ok-triggers.ensures.header in
    ((tt, ∣ (none, mounted.goes_on tt none held) ∣₁), mounted.rows_told tt)

pub returns-in-Ok-clause-new : goal.returns-in-Ok-clause-new
returns-in-Ok-clause-new c =
    let mounted = c.in-Ok.ensures in
    let cluster = c.in-Ok.cluster in
    let empty = c.in_ok-triggers.ensures.empty in
    let no_states = c.in_ok-states.ensures.empty in
    let held = new_whole trigger_kind trigger_lawful 2 _ empty c.in_ok-triggers.ensures.header in
    let rows_held = new_whole state_kind state_lawful 2 _ no_states c.in_ok-states.ensures.header in
    let found = mounted.found tt in
    let reads = mounted.reads tt in
    let history = new_found trigger_kind trigger_lawful 2 _ _ held (found.0.whole none held) in
    let nothing = none_found (found_of cluster.triggers) (added_of cluster.triggers) (ap (λ (h : History). length h.entries) history) in
    new_state (cluster_view cluster) history (new_found state_kind state_lawful 2 _ _ rows_held (found.1.whole no_rows rows_held)) mounted.opened.0 mounted.opened.1 mounted.nothing_held
    (placed_new cluster.triggers.store tt mounted.opened.0.is_open none (mounted.goes_on tt none held) (subst (λ (b : List ℕ). Holds b 2 TRIGGERS []) (sym reads.0.content) empty))
    (placed_new cluster.states.store tt mounted.opened.1.is_open no_rows (mounted.rows_go_on tt no_rows rows_held) (subst (λ (b : List ℕ). Holds b 2 STATES []) (sym reads.1.content) no_states))
    (mounted.behind ∙ ap (λ (l : List EntryData). length l) nothing) mounted.standing
