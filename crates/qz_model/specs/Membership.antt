-- The fence for nodes that aren't members any more.
use Rattle.std.specs.Prelude.{ℕ, List, Bool, false, ◌==◌, Option, Some, None, option_map, if◌then◌else◌}
use Rattle.qz_types.specs.Rows.{MemberData}
use Rattle.qz_types.specs.declared.replies.Refusal.{Refusal}
use Rattle.qz_types.specs.declared.replies.Refusal.TheVariants.{Fenced}
use Rattle.qz_types.specs.Tables.{SchedulerTables}
use Rattle.qz_types.specs.Words.{member_of}

-- the epoch of the member of this name, if there is one
unfoldable pub live_epoch : SchedulerTables → List ℕ → Option ℕ
live_epoch T node = option_map (λ member. member.epoch) (member_of node T.members)

-- the node's own epoch is the member's
abbrev pub is_live : ℕ → Option ℕ → Bool
is_live epoch None = false
is_live epoch (Some live) = epoch == live

-- a node that isn't a member under its epoch is fenced
unfoldable pub node_refusal : SchedulerTables → MemberData → Option Refusal
node_refusal T me = if is_live me.epoch (live_epoch T me.node) then None else Some (Fenced (live_epoch T me.node))
