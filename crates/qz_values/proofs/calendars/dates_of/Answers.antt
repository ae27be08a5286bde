use Rattle.std.proofs.Common.{arith}
use Rattle.std.proofs.lemmas.Result.{IfOk-weaker}
use Rattle.qz_values.proofs.ReaderLaws.{gives_valid}
use Rattle.qz_values.proofs.CalendarFormats.{dates_format, dates_valid}
use Rattle.qz_values.proofs.calendars.dates_of.Goals as goal

pub returns-clause-valid : goal.returns-clause-valid
returns-clause-valid c =
    IfOk-weaker c.list_of.result _ _ (λ x is. dates_valid c.args.version x.0 is)
    (gives_valid (dates_format c.args.version) (λ x. (x.0, x.1.now)) c.args.bytes.now c.list_of.result (λ i. omega (arith, c.type_inv.bytes i)) c.list_of.ensures)
