-- The moments that a cron text names in a zone.
use Rattle.std.specs.Prelude.{◌≡◌, ℕ, ◌*◌, true, ℤ, pos, List}
use Rattle.qz_civil.specs.declared.fields.CronFields.{CronFields}
use Rattle.qz_civil.specs.declared.stretches.Stretch.{Stretch}
use Rattle.qz_civil.specs.Fields.{meets}
use Rattle.qz_civil.specs.Zones.{civil}

-- a whole second begins at t, and the local time at t meets the fields
pub record IsMatch (fields : CronFields) (zone : List Stretch) (t : ℤ) : Type 0 where
  pub second : ℕ
  pub whole : t ≡ pos (second * 1000)
  pub met : meets fields (civil zone t) ≡ true
