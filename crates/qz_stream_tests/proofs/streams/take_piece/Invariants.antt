use Rattle.std.proofs.Common.{length}
use Rattle.qz_stream_tests.proofs.streams.take_piece.Given as goal

abbrev pub decreases-rest : goal.decreases-rest
decreases-rest l = length l.rest
