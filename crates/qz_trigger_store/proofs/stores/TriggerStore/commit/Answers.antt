use Rattle.std.proofs.Common.{◌≡◌, ◌∙◌, ℤ, List, [], ◌∷◌, ◌++◌, sym, ap, w64, to_z, of_z, arith}
use Rattle.std.proofs.lemmas.Grind.{common_steps}
use Rattle.std.proofs.lemmas.Int.{to_z-of_z}
use Rattle.qz_types.specs.Entries.{EntryData}
use Rattle.qz_types.specs.Tables.{SchedulerTables}
use Rattle.qz_model.specs.History.{replay_from, replies_from, moments_from}
use Rattle.qz_model.specs.Transaction.{transaction}
use Rattle.qz_trigger_store.specs.declared.triggers.Triggers.{Triggers}
use Rattle.qz_trigger_store.proofs.Accepting.{copied, moment_is, one_moment, one_reply, kept_entries, kept_moments, kept_replies}
use Rattle.qz_trigger_store.proofs.stores.TriggerStore.commit.Goals as goal

pub keep-requires-clause-copy : goal.keep-requires-clause-copy
keep-requires-clause-copy g c kept = copied (transaction c.args.self.now.store.state.tables.tables c.args.entry) c.args.whole.copy c.in-Ok.reply c.in-Ok.ensures.answered (c.requires.copy kept)

pub invariant_of-self-clause-entries : goal.invariant_of-self-clause-entries
invariant_of-self-clause-entries g c =
    let s = c.args.self.now in
    kept_entries _ _ _ _ _ c.keep.ensures s.store.added.items c.commit.new.self.added.items s.entries (c.in-Ok.ensures.entries ∙ ap (λ (e : EntryData). s.store.added.items ++ e ∷ []) (sym c.in-Ok.ensures.ok.0))

pub invariant_of-self-clause-moments : goal.invariant_of-self-clause-moments
invariant_of-self-clause-moments g c =
    let s = c.args.self.now in
    let t = c.commit.new.self in
    let same : to_z w64 (of_z w64 c.last_moment-moment.result) ≡ c.last_moment-moment.result = grind (arith, common_steps, to_z-of_z) in
    let moment = same ∙ c.last_moment-moment.ensures.value ∙ ap (λ (t : Triggers). t.tables.tables.last_moment) c.state.ensures.kept
    ∙ moment_is s.store.state.tables.tables t.state.tables.tables c.args.entry c.in-Ok.reply c.in-Ok.ensures.answered c.in-Ok.ensures.state in
    let N : SchedulerTables = s.store.base.value.tables.tables in
    let before : List ℤ = moments_from (replay_from N s.store.found.items) s.store.added.items in
    kept_moments _ _ _ _ _ c.keep.ensures before (moments_from (replay_from t.base.value.tables.tables t.found.items) t.added.items) s.moments
    (ap (λ (B : SchedulerTables). moments_from (replay_from B t.found.items) t.added.items) c.in-Ok.ensures.opened.2
    ∙ ap (λ (found : List EntryData). moments_from (replay_from N found) t.added.items) c.in-Ok.ensures.opened.3
    ∙ one_moment N s.store.state.tables.tables s.store.found.items s.store.added.items t.added.items c.args.entry c.in-Ok.ensures.entries s.store.replayed
    ∙ ap (λ (m : ℤ). before ++ m ∷ []) (sym moment))

pub invariant_of-self-clause-replies : goal.invariant_of-self-clause-replies
invariant_of-self-clause-replies g c =
    let s = c.args.self.now in
    let t = c.commit.new.self in
    let N : SchedulerTables = s.store.base.value.tables.tables in
    kept_replies _ _ _ _ _ c.keep.ensures (replies_from (replay_from N s.store.found.items) s.store.added.items) (replies_from (replay_from t.base.value.tables.tables t.found.items) t.added.items) s.replies
    (ap (λ (B : SchedulerTables). replies_from (replay_from B t.found.items) t.added.items) c.in-Ok.ensures.opened.2
    ∙ ap (λ (found : List EntryData). replies_from (replay_from N found) t.added.items) c.in-Ok.ensures.opened.3
    ∙ one_reply N s.store.state.tables.tables s.store.found.items s.store.added.items t.added.items c.args.entry c.in-Ok.ensures.entries s.store.replayed t.state.tables.tables c.in-Ok.reply c.in-Ok.ensures.answered c.in-Ok.ensures.state)
