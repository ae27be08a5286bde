-- The ways of calling the top call, by what its words ask for.
use Rattle.std.specs.Prelude.{⊤, Result, Ok, Err}
use Rattle.qz_words.specs.declared.wishes.WordFault.{WordFault}
use Rattle.qz_words.specs.declared.wishes.Wish.{Wish}
use Rattle.qz_words.specs.declared.wishes.Wish.TheVariants as wish

-- there are no words
abbrev pub AsksNothing : Result Wish WordFault → Type 0
AsksNothing (Ok wish.Own) = ⊤
AsksNothing w = ⊥

-- they ask for `init`
abbrev pub AsksInit : Result Wish WordFault → Type 0
AsksInit (Ok wish.Init) = ⊤
AsksInit w = ⊥

-- they ask for `script`
abbrev pub AsksScript : Result Wish WordFault → Type 0
AsksScript (Ok wish.Script) = ⊤
AsksScript w = ⊥

-- they ask for `load`
abbrev pub AsksLoad : Result Wish WordFault → Type 0
AsksLoad (Ok wish.Load) = ⊤
AsksLoad w = ⊥

-- they ask for `list`
abbrev pub AsksList : Result Wish WordFault → Type 0
AsksList (Ok wish.List) = ⊤
AsksList w = ⊥

-- they ask for `migrate`
abbrev pub AsksMigrate : Result Wish WordFault → Type 0
AsksMigrate (Ok wish.Migrate) = ⊤
AsksMigrate w = ⊥

-- they ask for `follow`
abbrev pub AsksFollow : Result Wish WordFault → Type 0
AsksFollow (Ok wish.Follow) = ⊤
AsksFollow w = ⊥

-- they ask for `compact`
abbrev pub AsksCompact : Result Wish WordFault → Type 0
AsksCompact (Ok wish.Compact) = ⊤
AsksCompact w = ⊥

-- they ask for `times`
abbrev pub AsksTimes : Result Wish WordFault → Type 0
AsksTimes (Ok (wish.Times after count)) = ⊤
AsksTimes w = ⊥

-- they ask for `run`
abbrev pub AsksRun : Result Wish WordFault → Type 0
AsksRun (Ok (wish.Run nodes from until budget)) = ⊤
AsksRun w = ⊥

-- they ask for `gen`
abbrev pub AsksGen : Result Wish WordFault → Type 0
AsksGen (Ok (wish.Gen seed jobs days)) = ⊤
AsksGen w = ⊥

-- no call has them
abbrev pub AsksInVain : Result Wish WordFault → Type 0
AsksInVain (Err fault) = ⊤
AsksInVain w = ⊥
