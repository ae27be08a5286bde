use Rattle.std.proofs.Common.{◌≡◌, length, arith, ap}
use Rattle.std.proofs.lemmas.Grind.{common_steps}
use Rattle.qz_values.specs.declared.versions.Version.TheVariants.{Two}
use Rattle.qz_codec.specs.Records.{recorded}
use Rattle.qz_codec.proofs.RecordFormats.{record_short, record_unique}
use Rattle.qz_codec.proofs.records.write.Goals as goal

pub returns-clause-size : goal.returns-clause-size
returns-clause-size g c =
    let whole : c.from_vec.result ≡ recorded g.R.Recorded.fields Two c.args.value.now = grind (arith, common_steps) in
    let same : length c.from_vec.result ≡ length (recorded g.R.Recorded.fields Two c.args.value.now) = ap length whole in
    (omega arith, omega (arith, record_short c.is_format.ensures.format Two c.args.value.now c.in_ok-put_fields.ensures.valid, c.is_format.ensures.short))

pub returns-clause-short : goal.returns-clause-short
returns-clause-short g c =
    let whole : c.from_vec.result ≡ recorded g.R.Recorded.fields Two c.args.value.now = grind (arith, common_steps) in
    let same : length c.from_vec.result ≡ length (recorded g.R.Recorded.fields Two c.args.value.now) = ap length whole in
    omega (arith, same, record_short c.is_format.ensures.format Two c.args.value.now c.in_ok-put_fields.ensures.valid)

pub returns-clause-unique : goal.returns-clause-unique
returns-clause-unique g c =
    let whole : c.from_vec.result ≡ recorded g.R.Recorded.fields Two c.args.value.now = grind (arith, common_steps) in
    λ x is. record_unique c.is_format.ensures.format c.from_vec.result x c.args.value.now is (record { version = Two; has = c.in_ok-put_fields.ensures.valid; bytes_are = whole })
