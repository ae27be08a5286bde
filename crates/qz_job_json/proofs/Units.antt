-- Kinds of triggers and their misfire instructions.
use Rattle.std.proofs.Common.{◌≡◌, ℤ, refl}
use Rattle.qz_civil.specs.Timings.{is_within, is_misfire}
use Rattle.std.specs.Prelude.{negsuc}
use Rattle.qz_civil.specs.declared.timings.Kind.{Kind}
use Rattle.qz_civil.specs.declared.timings.Kind.TheVariants as kind
use Rattle.qz_job_json.specs.Schedules.{last_of}

pub misfires_to_last : (k : Kind) (code : ℤ) → is_misfire k code ≡ is_within (negsuc 0) (last_of k) code
misfires_to_last (kind.Simple interval count) code = refl
misfires_to_last (kind.Cron fields zone) code = refl
misfires_to_last (kind.Interval unit every zone preserve skip) code = refl
misfires_to_last (kind.Daily unit every from to days zone) code = refl
