use Rattle.std.proofs.Common.{◌≡◌, ℤ, ◌+ℤ◌, map, fold, length, w64, to_z, of_z, sym, ap, ◌∙◌, arith}
use Rattle.std.proofs.lemmas.Int.{to_z-of_z}
use Rattle.std.proofs.lemmas.Grind.{common_steps}
use Rattle.qz_acquire.specs.Choosing.{with_row, taken_row}
use Rattle.qz_acquire.proofs.Granting.{can_grant, outcome}
use Rattle.qz_acquire.proofs.Refused.{acquire_clear}
use Rattle.qz_acquire.proofs.acquiring.prepare_acquire.Goals as goal

pub rows-requires-clause-numbers : goal.rows-requires-clause-numbers
rows-requires-clause-numbers c =
    (acquire_clear c.args.tables.now.tables c.args.moment c.args.me.now c.args.no_later c.args.window c.args.max (c.in_default.ensures c.args.moment c.args.no_later c.args.window)).1

pub returns-clause-possible : goal.returns-clause-possible
returns-clause-possible c =
    let T = c.args.tables.now.tables in
    let clear = acquire_clear T c.args.moment c.args.me.now c.args.no_later c.args.window c.args.max (c.in_default.ensures c.args.moment c.args.no_later c.args.window) in
    can_grant c.args.tables.now c.reserve.new.self (to_z w64 (of_z w64 c.args.moment)) (to_z w64 (of_z w64 (to_z w64 (of_z w64 c.args.no_later) +ℤ to_z w64 (of_z w64 c.args.window)))) c.args.max c.args.me.now c.from_vec.result
    c.requires.valid clear.1 c.reserve.ensures.tables (c.from_vec.ensures ∙ c.in_ok-rows.ensures)
    (omega (arith, ap length c.from_vec.ensures, c.len.ensures, c.in_ok-reserve.ensures.room.fired))

pub returns-clause-ok : goal.returns-clause-ok
returns-clause-ok c =
    let T = c.args.tables.now.tables in
    let moment : to_z w64 (of_z w64 c.args.moment) ≡ c.args.moment = grind (arith, common_steps, to_z-of_z) in
    let earliest : to_z w64 (of_z w64 c.args.no_later) ≡ c.args.no_later = grind (arith, common_steps, to_z-of_z) in
    let wide : to_z w64 (of_z w64 c.args.window) ≡ c.args.window = grind (arith, common_steps, to_z-of_z) in
    let sum : to_z w64 (of_z w64 (c.args.no_later +ℤ c.args.window)) ≡ c.args.no_later +ℤ c.args.window = grind (arith, common_steps, to_z-of_z) in
    let limit = ap (λ (x : ℤ). to_z w64 (of_z w64 (x +ℤ to_z w64 (of_z w64 c.args.window)))) earliest ∙ ap (λ (x : ℤ). to_z w64 (of_z w64 (c.args.no_later +ℤ x))) wide ∙ sum in
    let clear = acquire_clear T c.args.moment c.args.me.now c.args.no_later c.args.window c.args.max (c.in_default.ensures c.args.moment c.args.no_later c.args.window) in
    outcome T (record (fold with_row T c.from_vec.result) { last_moment = c.args.moment }) c.args.moment (to_z w64 (of_z w64 c.args.moment)) c.args.no_later c.args.window
    (to_z w64 (of_z w64 (to_z w64 (of_z w64 c.args.no_later) +ℤ to_z w64 (of_z w64 c.args.window)))) c.args.max c.args.me.now c.from_vec.result c.in_ok-taken.taken clear.0 clear.1 moment limit
    (c.from_vec.ensures ∙ c.in_ok-rows.ensures) (c.in_ok-taken.ensures ∙ ap (map taken_row) (c.deref.ensures.value ∙ sym c.from_vec.ensures))
    (ap (λ (x : ℤ). record (fold with_row T c.from_vec.result) { last_moment = x }) (sym moment))
