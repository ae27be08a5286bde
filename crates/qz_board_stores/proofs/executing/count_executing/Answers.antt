use Rattle.std.proofs.Common.{◌≡◌, ℕ, ◌+◌, Bool, not, List, Some, get_or, unwrap_or, sym, ap, ◌∙◌, arith}
use Rattle.std.proofs.lemmas.Grind.{common_steps}
use Rattle.std.proofs.lemmas.List.Sums.{count_by_more_yes, count_by_more_no}
use Rattle.std.proofs.lemmas.Option.{slice_get_within, unwrap_or-slice_get}
use Rattle.std.specs.List.{slice_get}
use Rattle.qz_types.specs.Rows.{FiredData}
use Rattle.qz_types.specs.States.{is_acquired}
use Rattle.qz_board_stores.proofs.executing.count_executing.Goals as goal
use Rattle.qz_board_stores.proofs.executing.count_executing.Goals.{then-is_executing, else-is_executing}

at_place : (rows : List FiredData) (place : ℕ) (row : FiredData) → slice_get rows place ≡ Some row → get_or rows place row ≡ row
at_place rows place row is = sym (unwrap_or-slice_get rows place row) ∙ ap (λ o. unwrap_or o row) is

pub loop-place-preserved : goal.loop-place-preserved
loop-place-preserved c =
    let rows = c.args.tables.now.tables.fired in
    let row = c.in-Some.row.now in
    let begun : FiredData → Bool = (λ f. not (is_acquired f.state)) in
    let is : slice_get rows c.loop-place.place ≡ Some row = grind (arith, common_steps) in
    let within = slice_get_within rows c.loop-place.place row is in
    let same = ap begun (at_place rows c.loop-place.place row is) in
    elim c.if-is_executing.branch [
      | then-is_executing w ↦ w.count-is ∙ ap (λ n. n + 1) c.loop-place.invariant ∙ sym (count_by_more_yes begun rows c.loop-place.place row within (same ∙ sym c.is_executing.ensures ∙ w.if-is_executing.true))
      | else-is_executing w ↦ w.count-is ∙ c.loop-place.invariant ∙ sym (count_by_more_no begun rows c.loop-place.place row within (same ∙ sym c.is_executing.ensures ∙ w.if-is_executing.false))
    ]
