-- Nodes that aren't members any more.
use Rattle.std.specs.Prelude.{◌≡◌, ◌<◌, List, Some}
use Rattle.std.specs.List.{AllByRecursion}
use Rattle.qz_types.specs.Rows.{MemberData}
use Rattle.qz_types.specs.Entries.{EntryData}
use Rattle.qz_types.specs.declared.commands.Actor.TheVariants.{Node}
use Rattle.qz_types.specs.Tables.{SchedulerTables}
use Rattle.qz_types.specs.Words.{member_of}

-- the epoch was given, and the node isn't a member under it: it left, or another took its place, or it was recovered
pub record IsGone (T : SchedulerTables) (me : MemberData) : Type 0 where
  pub given : me.epoch < T.next_epoch
  pub no_member : member_of me.node T.members ≡ Some me → ⊥

-- none of these entries is the node's under this epoch
abbrev pub NeverActs : MemberData → List EntryData → Type 0
NeverActs me es = AllByRecursion (λ e. e.actor ≡ Node me → ⊥) es
