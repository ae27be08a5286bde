use Rattle.std.proofs.lemmas.Result.{err_from_is_err_and}
use Rattle.qz_codec.specs.Reading.{itself}
use Rattle.qz_codec.proofs.RecordFormats.{meant_exact, meant_fault}
use Rattle.qz_codec.proofs.records.read_value.Goals as goal

pub returns-in_err-value-clause-exact : goal.returns-in_err-value-clause-exact
returns-in_err-value-clause-exact g c =
    let p = err_from_is_err_and c.from_residual.result c.from_residual.ensures.1 in
    rw (p.1, p.2) (meant_fault itself g.R.Recorded.fields_at c.args.bytes.now c.in_err-value.field-0.0 c.in_err-value.ensures.exact)

pub returns-clause-exact : goal.returns-clause-exact
returns-clause-exact g c = meant_exact itself g.R.Recorded.fields_at c.args.bytes.now c.in_ok-value.field-0-0 c.in_ok-value.value c.in_ok-value.ensures.exact
