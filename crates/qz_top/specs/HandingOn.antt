-- Whether what a call wrote left the output.
use Rattle.std.specs.Prelude.{◌≡◌, ◌⊎◌}
use Rattle.qz_civil.specs.Causes.{Rose}
use Rattle.qz_io.specs.Outside.{IsHandedOn}
use Rattle.qz_io.specs.declared.traits.Sink as sink

-- all that the output holds was handed on, or it failed in the call
abbrev pub HandsOnAll : {K : Type 0} → sink.Ghosts K → K → K → Type 0
HandsOnAll k old new = IsHandedOn (k.held new) (k.handed new) ⊎ Rose (k.faults old) (k.faults new)

-- the same, or the call didn't touch the output
abbrev pub HandsOnWritten : {K : Type 0} → sink.Ghosts K → K → K → Type 0
HandsOnWritten k old new = HandsOnAll k old new ⊎ (new ≡ old)
