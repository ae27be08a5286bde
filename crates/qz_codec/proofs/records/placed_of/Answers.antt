use Rattle.std.proofs.Common.{arith}
use Rattle.qz_codec.proofs.RecordFormats.{place_near}
use Rattle.qz_codec.proofs.records.placed_of.Goals as goal

pub overflow_sub-result : goal.overflow_sub-result
overflow_sub-result g c =
    let place = place_near c.is_format.ensures.format c.args.bytes.now c.in-Err-Wrong.left (rw c.in-Err-Wrong.field-0-is at c.in-Err-Wrong.ensures) in
    place.within

pub overflow_cast-result : goal.overflow_cast-result
overflow_cast-result g c =
    let place = place_near c.is_format.ensures.format c.args.bytes.now c.in-Err-Wrong.left (rw c.in-Err-Wrong.field-0-is at c.in-Err-Wrong.ensures) in
    record { fits = omega (arith, place.near, c.is_format.ensures.short) }
