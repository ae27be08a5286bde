-- How long a zone keeps one offset. Seconds are counted from 1970-01-01T00:00:00Z on.
use Rattle.std.specs.Prelude.{ℕ, ◌*◌, ◌<◌, ◌↔◌, ℤ, pos, ◌<ℤ◌, List, Option, IfSome}
use Rattle.qz_civil.specs.declared.limits.TheConstants.{SECONDS}
use Rattle.qz_civil.specs.declared.stretches.Stretch.{Stretch}
use Rattle.qz_civil.specs.Zones.{next_start}

-- the second begins before that moment, where there is one
abbrev pub BeginsBefore : Option ℤ → ℕ → Type 0
BeginsBefore moment second = IfSome moment (λ start. pos (second * 1000) <ℤ start)

-- the seconds before `end` are those that begin before the next stretch does, counted from the second `from`
abbrev pub LastsUntilNext : List Stretch → ℕ → ℕ → Type 0
LastsUntilNext zone from end =
    (second : ℕ) → second < SECONDS
    → (second < end) ↔ BeginsBefore (next_start zone (pos (from * 1000))) second
