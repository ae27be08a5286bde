-- The object that a transaction is told as.
use Rattle.std.specs.Prelude.{ℕ, ℤ, List, [], ◌∷◌, ◌++◌, codes}
use Rattle.std.specs.Fmt.{decimal}
use Rattle.qz_types.specs.Entries.{EntryData}
use Rattle.qz_types.specs.declared.commands.Actor.{Actor}
use Rattle.qz_types.specs.declared.commands.Actor.TheVariants.{Client, Node}
use Rattle.qz_types.specs.declared.replies.Reply.{Reply}
use Rattle.qz_report.specs.Replies.{ok_text}
use Rattle.qz_json_rows.specs.Json.{label, more, quoted}
use Rattle.qz_json_rows.specs.Lines.{line_text}

-- the epoch under which a node asked
abbrev pub epoch_member : Actor → List ℕ
epoch_member Client = []
epoch_member (Node member) = more (codes "epoch") (decimal member.epoch)

-- {"number":N,"epoch":N,"line":LINE,"reply":T}, with a line feed
unfoldable pub object_text : ℕ → ℤ → EntryData → Reply → List ℕ
object_text number moment e reply =
    123 ∷ label (codes "number") ++ decimal number ++ epoch_member e.actor ++ more (codes "line") (line_text moment e)
    ++ more (codes "reply") (quoted (ok_text reply)) ++ 125 ∷ 10 ∷ []
