use Rattle.std.proofs.Common.{arith}
use Rattle.qz_codec.proofs.RecordFormats.{is_found, is_only}
use Rattle.qz_codec.proofs.records.read.Goals as goal

pub returns-clause-found : goal.returns-clause-found
returns-clause-found g c = is_found c.is_format.ensures.format c.args.bytes.now c.placed_of.result (λ i. omega (arith, c.type_inv.bytes i)) c.placed_of.ensures

pub returns-clause-only : goal.returns-clause-only
returns-clause-only g c = is_only c.is_format.ensures.format c.args.bytes.now c.placed_of.result c.placed_of.ensures
