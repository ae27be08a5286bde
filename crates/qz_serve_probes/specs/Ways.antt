-- The ways of calling the top call on the system's clock, by what its words ask for.
use Rattle.std.specs.Prelude.{⊤, Result, Ok, Err, IsSome}
use Rattle.qz_words.specs.declared.serves.Serving.{Serving}
use Rattle.qz_words.specs.declared.wishes.WordFault.{WordFault}

-- they ask for nodes in threads
abbrev pub AsksServe : Result Serving WordFault → Type 0
AsksServe (Ok p) = ⊤
AsksServe (Err fault) = ⊥

-- they ask for looks at a board, too
abbrev pub AsksLooks : Result Serving WordFault → Type 0
AsksLooks (Ok p) = IsSome p.looks
AsksLooks (Err fault) = ⊥

-- the call doesn't have them
abbrev pub AsksInVain : Result Serving WordFault → Type 0
AsksInVain (Ok p) = ⊥
AsksInVain (Err fault) = ⊤
