use Rattle.std.proofs.Common.{[], ◌∷◌, map, refl}
use Rattle.qz_row_lock.specs.Seats.{ids, mine, seen}
use Rattle.qz_serve.specs.Asking.{heard_in, first_entries}
use Rattle.qz_serve.specs.Knowing.{ShowsRan}
use Rattle.qz_serve.proofs.Told.{each_put}
use Rattle.qz_serve.proofs.Worked.{none_ran}
use Rattle.qz_serve.proofs.threads.serving.run_main.Goals as goal

pub returns-clause-told : goal.returns-clause-told
returns-clause-told g c =
    let row = c.args.row.now in
    let means = g.M.Meaning.meanings in
    let n = c.run_listed-seat.result.0 in
    let told = means c.run_listed-seat.result.1 in
    let taken = map means c.take_list-list.new.lists.items in
    each_put (λ k. ShowsRan row n (k ∷ [])) c.args.seat.number [] told (none_ran (heard_in row) g.S.RowStore.seat_of (first_entries row) (c.args.seat.number ∷ []) (ids n) (seen n) (mine n) told)
    0 1 (map means c.args.lists.now.items) taken taken (map means c.put_list.new.lists.items) (means c.take_list-list.result) refl c.take_list-list.ensures.list c.take_list-list.ensures.rest c.put_list.ensures refl c.run_listed-seat.ensures.ran refl
