-- The outside of a call, by the objects that it is given.
use Rattle.std.specs.Prelude.{None}
use Rattle.qz_io.specs.declared.traits.Source as source
use Rattle.qz_io.specs.declared.traits.Sink as sink
use Rattle.qz_io.specs.declared.traits.Clock as clock
use Rattle.qz_io.specs.Outside.{Outside}

-- of an input, an output and a clock
abbrev pub outside : {S K C : Type 0} → source.Ghosts S → sink.Ghosts K → clock.Ghosts C → S → K → C → Outside
outside s k c input out clock = record {
  left = s.left input;
  held = k.held out;
  handed = k.handed out;
  readings = c.readings clock;
}

-- of an input and an output
abbrev pub without_clock : {S K : Type 0} → source.Ghosts S → sink.Ghosts K → S → K → Outside
without_clock s k input out = record { left = s.left input; held = k.held out; handed = k.handed out; readings = None }

-- of an output and a clock
abbrev pub without_input : {K C : Type 0} → sink.Ghosts K → clock.Ghosts C → K → C → Outside
without_input k c out clock = record { left = None; held = k.held out; handed = k.handed out; readings = c.readings clock }

-- of an output alone
abbrev pub output_alone : {K : Type 0} → sink.Ghosts K → K → Outside
output_alone k out = record { left = None; held = k.held out; handed = k.handed out; readings = None }
