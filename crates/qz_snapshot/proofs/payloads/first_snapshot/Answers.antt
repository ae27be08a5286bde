use Rattle.std.proofs.Common.{◌≡◌, ℕ, List, [], ◌∷◌, length, map, None, ◌+◌, ap, subst, sym, ◌∙◌, arith}
use Rattle.std.specs.Prelude.{IfNone}
use Rattle.std.proofs.lemmas.List.{length-map}
use Rattle.std.proofs.lemmas.List.Elements.{All-same}
use Rattle.qz_journal.specs.Commits.{LackRoom, room_for}
use Rattle.qz_journal.specs.Layout.{IsPayload, blocks, end_of}
use Rattle.qz_snapshot.specs.Checkpoints.{head_written, snapshot_written}
use Rattle.qz_snapshot.specs.Heads.{head_bytes}
use Rattle.qz_snapshot.proofs.HeadBytes.{head_length}
use Rattle.qz_snapshot.proofs.Rooms.{full_by}
use Rattle.qz_snapshot.proofs.Written.{are_payloads, group_names, job_group_names}
use Rattle.qz_snapshot.proofs.payloads.first_snapshot.Goals as goal

pub payloads_of-requires-clause-groups : goal.payloads_of-requires-clause-groups
payloads_of-requires-clause-groups c = group_names c.args.tables.now.tables c.requires.valid

pub payloads_of-requires-clause-job_groups : goal.payloads_of-requires-clause-job_groups
payloads_of-requires-clause-job_groups c = job_group_names c.args.tables.now.tables c.requires.valid

pub cut_rows-requires-clause-groups : goal.cut_rows-requires-clause-groups
cut_rows-requires-clause-groups c = group_names c.args.tables.now.tables c.requires.valid

pub cut_rows-requires-clause-job_groups : goal.cut_rows-requires-clause-job_groups
cut_rows-requires-clause-job_groups c = job_group_names c.args.tables.now.tables c.requires.valid

pub room_lacked-requires : goal.room_lacked-requires
room_lacked-requires c = record {
  sizes = All-same IsPayload _ _ (ap (λ l. map (λ p. p.items) l) c.deref.ensures.value ∙ c.in_ok-cut_rows-in-None.ensures.pieces) (are_payloads _ c.in_ok-cut_rows-in-None.ensures.short);
}

pub returns-in_ok-room_lacked-in-None-clause-full : goal.returns-in_ok-room_lacked-in-None-clause-full
returns-in_ok-room_lacked-in-None-clause-full c =
    let T = c.args.tables.now.tables in
    let head = head_written T 0 0 in
    let full = c.in_ok-room_lacked-in-None.field-0 in
    let pieces_are = ap (λ l. map (λ p. p.items) l) c.deref.ensures.value ∙ c.in_ok-cut_rows-in-None.ensures.pieces in
    let need = subst (λ (l : List (List ℕ)). full.need ≡ length (blocks (head_bytes head ∷ l))) pieces_are (c.in_ok-room_lacked-in-None.ensures.need (head_bytes head) (head_length head)) in
    let many : length (snapshot_written T 0 0) ≡ 1 + length c.deref.result.now = omega (arith, length-map c.deref.result.now (λ p. p.items), ap length pieces_are) in
    let lack = subst (λ o. IfNone o (LackRoom (snapshot_written T 0 0) (end_of []) 0)) c.in-None.is c.in_ok-payloads.ensures.lack in
    full_by (snapshot_written T 0 0) (end_of []) 0 full.need full.room (omega arith) lack need (c.in_ok-room_lacked-in-None.ensures.room ∙ ap (λ n. room_for (end_of []) 0 n) (sym many))
