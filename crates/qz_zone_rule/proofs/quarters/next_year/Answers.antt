use Rattle.std.proofs.Common.{◌≡◌, ◌≤ℤ◌, ◌/◌, ◌∙◌, pos, arith}
use Rattle.jiff_core.proofs.SignedLemmas.{signed_arith}
use Rattle.jiff_core.specs.Date.{epoch_day}
use Rattle.jiff_tz.proofs.YearLemmas.{back_year}
use Rattle.qz_zone_rule.proofs.Years.{day_number, last_is_later, same_year}
use Rattle.qz_zone_rule.proofs.quarters.next_year.Goals as goal

first : (c : goal.After-unsigned_abs) → epoch_day c.unwrap-date.result ≡ pos (c.args.place / 96)
first c =
    let value = rw c.unwrap-date.ensures at c.from_unix_epoch_day.ensures.value in
    omega (arith, signed_arith, value)

later : (c : goal.After-unsigned_abs) → epoch_day c.unwrap-date.result ≤ℤ epoch_day c.constrain-last.result
later c =
    let year = c.constrain-last.ensures.year ∙ back_year c.unwrap-date.result.year c.unwrap-date.result.year_in in
    last_is_later c.unwrap-date.result c.constrain-last.result year c.constrain-last.ensures.month c.constrain-last.ensures.day

last : (c : goal.After-unsigned_abs) → epoch_day c.constrain-last.result ≡ pos c.unsigned_abs.result
last c =
    let first = first c in
    let later = later c in
    day_number (epoch_day c.constrain-last.result) c.unsigned_abs.result (omega (arith, signed_arith)) (omega (arith, signed_arith)) (rw c.to_unix_epoch_day.ensures.value at c.unsigned_abs.ensures.value)

pub returns-clause-later : goal.returns-clause-later
returns-clause-later c =
    let first = first c in
    let later = later c in
    let last = last c in
    omega (arith, signed_arith)

pub returns-clause-same : goal.returns-clause-same
returns-clause-same c i h k =
    let year = c.constrain-last.ensures.year ∙ back_year c.unwrap-date.result.year c.unwrap-date.result.year_in in
    same_year c.unwrap-date.result c.constrain-last.result c.args.place i c.unsigned_abs.result (first c) (last c) year h k
