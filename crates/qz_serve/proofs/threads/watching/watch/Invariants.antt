use Rattle.qz_board_looks.specs.Watches.{GoesOn}
use Rattle.qz_serve.proofs.threads.watching.watch.Given as goal

abbrev pub invariant-looks : goal.invariant-looks
invariant-looks g l = record {
  goes_on : GoesOn l.fn.watch l.watch;
}
