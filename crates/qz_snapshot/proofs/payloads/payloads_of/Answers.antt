use Rattle.std.proofs.Common.{◌≡◌, ℕ, List, ◌∷◌, length, map, ap, subst, ◌∙◌, arith}
use Rattle.std.proofs.lemmas.List.{length-map}
use Rattle.std.proofs.lemmas.List.Elements.{All-same}
use Rattle.qz_journal.specs.Layout.{IsPayload}
use Rattle.qz_journal.specs.Commits.{LackRoom, HaveRoom}
use Rattle.qz_snapshot.specs.Checkpoints.{rows_written, head_written}
use Rattle.qz_snapshot.specs.Heads.{head_bytes, HasWidths}
use Rattle.qz_snapshot.specs.Snapshots.{numbers_of}
use Rattle.qz_pieces.specs.Pieces.{pieces as cut}
use Rattle.qz_snapshot.proofs.HeadBytes.{head_length}
use Rattle.qz_snapshot.proofs.Rooms.{few}
use Rattle.qz_snapshot.proofs.Snapshotted.{is_snapshot}
use Rattle.qz_snapshot.proofs.Written.{are_payloads, sizes_with}
use Rattle.qz_snapshot.proofs.payloads.payloads_of.Goals as goal

pub have_room-requires : goal.have_room-requires
have_room-requires c = All-same IsPayload _ _ (ap (λ l. map (λ p. p.items) l) c.deref.ensures.value ∙ c.in_ok-pieces.ensures.pieces) (are_payloads _ c.in_ok-pieces.ensures.short)

pub returns-then-not-have_room-clause-lack : goal.returns-then-not-have_room-clause-lack
returns-then-not-have_room-clause-lack c =
    let head = head_written c.args.tables.now.tables c.args.count c.args.entries in
    subst (λ (l : List (List ℕ)). LackRoom (head_bytes head ∷ l) c.args.offset c.args.count) (ap (λ l. map (λ p. p.items) l) c.deref.ensures.value ∙ c.in_ok-pieces.ensures.pieces)
    (c.have_room.ensures.lack c.if-not-have_room.true (head_bytes head) (head_length head))

pub head_of-head-requires-clause-before : goal.head_of-head-requires-clause-before
head_of-head-requires-clause-before c = (few _ c.args.offset c.args.count (c.have_room.ensures.room c.if-not-have_room.false)).before

pub head_of-head-requires-clause-entries : goal.head_of-head-requires-clause-entries
head_of-head-requires-clause-entries c = let before = (few _ c.args.offset c.args.count (c.have_room.ensures.room c.if-not-have_room.false)).before in omega (arith, before, c.requires.counted)

pub head_of-head-requires-clause-pieces : goal.head_of-head-requires-clause-pieces
head_of-head-requires-clause-pieces c =
    let pieces = (few _ c.args.offset c.args.count (c.have_room.ensures.room c.if-not-have_room.false)).pieces in
    omega (arith, pieces, length-map c.deref.result.now (λ p. p.items), ap length c.deref.ensures.value, c.len.ensures)

pub returns-clause-sizes : goal.returns-clause-sizes
returns-clause-sizes c = sizes_with (head_bytes c.head_of-head.result) _ _ c.in_ok-after_head.ensures (head_length c.head_of-head.result)
    (All-same IsPayload _ _ c.in_ok-pieces.ensures.pieces (are_payloads _ c.in_ok-pieces.ensures.short))

pub returns-clause-room : goal.returns-clause-room
returns-clause-room c =
    let head = head_written c.args.tables.now.tables c.args.count c.args.entries in
    subst (λ (l : List (List ℕ)). HaveRoom (head_bytes head ∷ l) c.args.offset c.args.count) (ap (λ l. map (λ p. p.items) l) c.deref.ensures.value ∙ c.in_ok-pieces.ensures.pieces)
    (c.have_room.ensures.room c.if-not-have_room.false (head_bytes head) (head_length head))

pub returns-clause-snapshot : goal.returns-clause-snapshot
returns-clause-snapshot c =
    let T = c.args.tables.now.tables in
    let pieces = c.in_ok-pieces.ensures in
    let count : c.len.result ≡ length (cut (rows_written T)) = omega (arith, c.len.ensures, length-map c.in_ok-pieces.pieces.items (λ p. p.items), ap length pieces.pieces) in
    let head : c.head_of-head.result ≡ head_written T c.args.count c.args.entries =
    c.head_of-head.ensures.head ∙ ap (λ (n : ℕ). record { payloads = c.args.count; entries = c.args.entries; pieces = n; numbers = numbers_of T }) count in
    is_snapshot T c.args.count c.args.entries (subst HasWidths head c.head_of-head.ensures.widths) pieces.short pieces.recorded.0 pieces.recorded.1
