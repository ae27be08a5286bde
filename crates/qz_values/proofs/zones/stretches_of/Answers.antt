use Rattle.std.proofs.Common.{arith}
use Rattle.std.proofs.lemmas.Result.{IfOk-weaker}
use Rattle.qz_values.proofs.ReaderLaws.{gives_valid}
use Rattle.qz_values.proofs.ZoneFormats.{table_format}
use Rattle.qz_values.proofs.zones.stretches_of.Goals as goal

pub returns-clause-valid : goal.returns-clause-valid
returns-clause-valid c =
    IfOk-weaker c.list_of.result _ _ (λ x is. is.valid)
    (gives_valid (table_format c.args.version) (λ x. (x.0, x.1.now)) c.args.bytes.now c.list_of.result (λ i. omega (arith, c.type_inv.bytes i)) c.list_of.ensures)
