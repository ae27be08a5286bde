-- The lines that a history is printed as.
use Rattle.std.specs.Prelude.{ℕ, ℤ, ◌+◌, List, [], ◌∷◌, ◌++◌, codes}
use Rattle.std.specs.Fmt.{decimal, signed_decimal}
use Rattle.qz_types.specs.Entries.{EntryData}
use Rattle.qz_types.specs.declared.commands.Actor.{Actor}
use Rattle.qz_types.specs.declared.commands.Actor.TheVariants.{Client, Node}
use Rattle.qz_types.specs.declared.replies.Reply.{Reply}
use Rattle.qz_steps.specs.Words.{word_of_command}
use Rattle.qz_report.specs.Names.{escaped}
use Rattle.qz_report.specs.Replies.{ok_text}

-- a client, or NODE:EPOCH
abbrev pub actor_text : Actor → List ℕ
actor_text Client = codes "client"
actor_text (Node member) = escaped member.node ++ 58 ∷ decimal member.epoch

-- NUMBER MOMENT ACTOR WORD REPLY, with the line feed
unfoldable pub history_line : ℕ → ℤ → EntryData → Reply → List ℕ
history_line number moment entry reply =
    decimal number ++ 32 ∷ signed_decimal moment ++ 32 ∷ actor_text entry.actor
    ++ 32 ∷ word_of_command entry.command ++ 32 ∷ ok_text reply ++ 10 ∷ []

-- a line for each entry with its moment and its reply, numbered on from this number
abbrev pub history_text : List EntryData → List ℤ → List Reply → ℕ → List ℕ
history_text (e ∷ es) (m ∷ ms) (r ∷ rs) number = history_line number m e r ++ history_text es ms rs (number + 1)
history_text es ms rs number = []
