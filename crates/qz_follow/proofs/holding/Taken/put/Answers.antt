use Rattle.std.proofs.Common.{List, ◌+◌, ◌∙◌, length, sym, ap, subst}
use Rattle.qz_journal.specs.Commits.{need_of}
use Rattle.qz_model.specs.History.{IsLegalFrom, replay_from}
use Rattle.qz_types.specs.Entries.{EntryData}
use Rattle.qz_follow.proofs.Records.{legal_more, replayed_more, keeps_more}
use Rattle.qz_follow.proofs.NewTables.{still_some, keeps_on}
use Rattle.qz_follow.specs.Kept.{KeepsRecords}
use Rattle.qz_follow.proofs.holding.Taken.put.Goals as goal

pub invariant_of-self-clause-legal : goal.invariant_of-self-clause-legal
invariant_of-self-clause-legal c =
    let s = c.args.self.now in
    subst (λ (l : List EntryData). ∥ IsLegalFrom s.start.value.tables l ∥₁) (sym c.and.ensures) (legal_more s.start.value.tables s.tables.tables s.entries.items c.args.entry s.replayed s.legal c.requires.accepted)

pub invariant_of-self-clause-replayed : goal.invariant_of-self-clause-replayed
invariant_of-self-clause-replayed c =
    let s = c.args.self.now in
    replayed_more s.start.value.tables s.tables.tables c.commit-reply.new.self.tables s.entries.items c.args.entry c.commit-reply.result s.replayed c.commit-reply.ensures.ok ∙ ap (replay_from s.start.value.tables) (sym c.and.ensures)

pub invariant_of-self-clause-recorded : goal.invariant_of-self-clause-recorded
invariant_of-self-clause-recorded c =
    let s = c.args.self.now in
    let p = c.args.payload.now in
    subst (λ (l : List EntryData). ∥ KeepsRecords (s.end + need_of (length p)) l c.keep.new.kept ∥₁) (sym c.and.ensures)
    (keeps_more s.end s.entries.items c.args.entry p s.kept c.keep.new.kept (c.keep.ensures p c.requires.placed) c.requires.size c.requires.record s.recorded)

pub invariant_of-self-clause-based : goal.invariant_of-self-clause-based
invariant_of-self-clause-based c =
    let s = c.args.self.now in
    keeps_on s.version s.stage s.start.value.tables s.entries.items c.and.result.items s.kept c.keep.new.kept s.base c.requires.here (still_some c.args.payload.now s.kept c.keep.new.kept (c.keep.ensures c.args.payload.now c.requires.placed)) s.based
