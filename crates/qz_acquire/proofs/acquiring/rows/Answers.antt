use Rattle.std.proofs.Common.{◌≡◌, map, length, w64, to_z, of_z, sym, ap, ◌∙◌, arith}
use Rattle.std.proofs.lemmas.List.{length-map}
use Rattle.qz_model.specs.Acquiring.{chosen}
use Rattle.qz_acquire.proofs.Granting.{room_of_chosen}
use Rattle.qz_acquire.proofs.acquiring.rows.Goals as goal

pub rows_of-requires : goal.rows_of-requires
rows_of-requires c =
    let T = c.args.tables.now.tables in
    let m = to_z w64 (of_z w64 c.args.moment) in
    let limit = to_z w64 (of_z w64 c.args.limit) in
    let count : length c.deref.result.now ≡ length (chosen T m limit c.args.max) =
    sym (length-map c.deref.result.now (λ r. r.now)) ∙ ap length (ap (map (λ r. r.now)) c.deref.ensures.value ∙ c.in_ok-triggers.ensures) in
    let room = room_of_chosen T m limit c.args.max c.requires.numbers in
    omega (arith, count, room.numbers)
