-- All that a node has heard, the latest first, and when it may end.
use Rattle.std.specs.Prelude.{⊤, ◌≡◌, ◌≤ℤ◌, ℤ, Bool, false, List, [], ◌∷◌, Option, Some, None}
use Rattle.std.specs.Option.{option_or}
use Rattle.std.specs.List.{list_any}
use Rattle.qz_types.specs.declared.replies.Taken.{Taken}
use Rattle.qz_types.specs.declared.replies.MovedRow.{MovedRow}
use Rattle.qz_types.specs.declared.replies.Reply.{Reply}
use Rattle.qz_types.specs.declared.replies.Reply.TheVariants as reply
use Rattle.qz_node.specs.declared.turns.Heard.{Heard}
use Rattle.qz_node.specs.declared.turns.Heard.TheVariants as hears
use Rattle.qz_node.specs.Turns.{TurnData, new_turn, learnt, CanHear, is_fenced}

-- the turn of a node that has heard this
abbrev pub turn_of : ℤ → List Heard → TurnData
turn_of until [] = new_turn until
turn_of until (h ∷ past) = learnt (turn_of until past) h

-- Each thing could be heard when it was.
abbrev pub CouldHear : ℤ → List Heard → Type 0
CouldHear until [] = ⊤
CouldHear until (h ∷ past) = CanHear (turn_of until past) h × CouldHear until past

-- what a thing that is heard says of misfired and of acquired triggers
abbrev pub misfired_in : Reply → Option (List MovedRow)
misfired_in (reply.Misfired moved) = Some moved
misfired_in other = None

abbrev pub acquired_in : Reply → Option (List Taken)
acquired_in (reply.Acquired taken) = Some taken
acquired_in other = None

abbrev pub misfired_by : Heard → Option (List MovedRow)
misfired_by (hears.Reply r) = misfired_in r.now
misfired_by other = None

abbrev pub acquired_by : Heard → Option (List Taken)
acquired_by (hears.Reply r) = acquired_in r.now
acquired_by other = None

-- it is Fenced
abbrev pub is_fencing : Heard → Bool
is_fencing (hears.Refused r) = is_fenced r.now
is_fencing other = false

-- the last Misfired that was heard
abbrev pub last_misfired : List Heard → Option (List MovedRow)
last_misfired [] = None
last_misfired (h ∷ past) = option_or (misfired_by h) (last_misfired past)

-- the last Acquired that was heard
abbrev pub last_acquired : List Heard → Option (List Taken)
last_acquired [] = None
last_acquired (h ∷ past) = option_or (acquired_by h) (last_acquired past)

-- Fenced was heard.
abbrev pub was_fenced : List Heard → Bool
was_fenced heard = list_any is_fencing heard

-- The last Misfires and Acquire were empty, no entry is held, and the moment is at least the one up to which the node works.
pub record IsDone (until now : ℤ) (heard : List Heard) : Type 0 where
  pub no_misfires : last_misfired heard ≡ Some []
  pub none_due : last_acquired heard ≡ Some []
  pub none_held : (turn_of until heard).held ≡ None
  pub late_enough : until ≤ℤ now
