-- The times for which a trigger fires, as the replies of a history tell them, and a schedule that is followed time by time.
-- Times are in ms since 1970-01-01T00:00:00Z.
use Rattle.std.specs.Prelude.{◌≡◌, ℤ, List, [], ◌∷◌, ◌++◌, Option, Some, None, if◌then◌else◌}
use Rattle.qz_types.specs.declared.keys.Key.{Key}
use Rattle.qz_types.specs.declared.replies.Reply.{Reply}
use Rattle.qz_types.specs.declared.replies.Reply.TheVariants.{Fired}
use Rattle.qz_types.specs.Words.{same_key}

-- these times, and before them the scheduled time of the reply, if by it an execution of the trigger of this key begins
abbrev pub onto_times : Key → Reply → List ℤ → List ℤ
onto_times key (Fired entry scheduled at next trigger job) times = if same_key key trigger then scheduled ∷ times else times
onto_times key reply times = times

-- the scheduled times of the trigger's Fired replies, in order
abbrev pub fired_times : Key → List Reply → List ℤ
fired_times key [] = []
fired_times key (reply ∷ replies) = onto_times key reply (fired_times key replies)

-- `after` gives the time of a schedule that comes after another. From its time `next` on the schedule goes through these times,
-- none left out and none twice, and goes on with `left`. None is no time: the schedule has ended.
abbrev pub AreInTurn : (ℤ → Option ℤ) → Option ℤ → List ℤ → Option ℤ → Type 0
AreInTurn after next [] left = next ≡ left
AreInTurn after next (time ∷ times) left = (next ≡ Some time) × AreInTurn after (after time) times left

-- the times are the whole schedule from `next` on
abbrev pub AreAllFrom : (ℤ → Option ℤ) → Option ℤ → List ℤ → Type 0
AreAllFrom after next times = AreInTurn after next times None

-- the first list begins the second
abbrev pub IsPrefix : List ℤ → List ℤ → Type 0
IsPrefix front all = (rest : List ℤ) × (all ≡ front ++ rest)
