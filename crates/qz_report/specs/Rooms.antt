-- How full the stores are, and what came of a checkpoint.
use Rattle.std.specs.Prelude.{ℕ, List, ◌∷◌, ◌++◌, codes}
use Rattle.std.specs.Fmt.{decimal}
use Rattle.qz_steps.specs.declared.rooms.Fill.{Fill}
use Rattle.qz_steps.specs.declared.rooms.Marked.{Marked}
use Rattle.qz_steps.specs.declared.rooms.Marked.TheVariants.{Made, NoRoom}
use Rattle.qz_steps.specs.declared.rooms.Room.{Room}

abbrev pub marked_text : Marked → List ℕ
marked_text Made = codes "checkpoint made"
marked_text NoRoom = codes "checkpoint no room"

-- of a store the offset of its closed gate, and how many payloads stand before it
unfoldable pub triggers_text : Fill → List ℕ
triggers_text fill = codes "room triggers " ++ decimal fill.bytes ++ 32 ∷ decimal fill.payloads

unfoldable pub behind_text : ℕ → List ℕ
behind_text behind = codes " behind " ++ decimal behind

unfoldable pub states_text : Fill → List ℕ
states_text fill = codes " states " ++ decimal fill.bytes ++ 32 ∷ decimal fill.payloads

abbrev pub room_text : Room → List ℕ
room_text room = triggers_text room.triggers ++ behind_text room.behind ++ states_text room.states
