-- The nodes of one call, and what they ask for while no thread is at work.
use Rattle.std.specs.Prelude.{◌≡◌, ◌⊎◌, ℕ, zero, suc, ℤ, List, [], ◌∷◌, ◌++◌, codes, Contains}
use Rattle.std.specs.List.{AllByRecursion}
use Rattle.qz_types.specs.Entries.{EntryData, StateEntryData}
use Rattle.qz_types.specs.Rows.{MemberData}
use Rattle.qz_types.specs.declared.commands.Actor.TheVariants.{Client, Node}
use Rattle.qz_types.specs.declared.commands.Command.TheVariants.{Join, Leave}
use Rattle.qz_types.specs.declared.states.StateCommand.TheVariants.{CheckIn, Forget}
use Rattle.qz_run.specs.declared.stores.TheConstants.{CHECK_IN_INTERVAL}
use Rattle.qz_seen.specs.Seen.{node_name}
use Rattle.qz_cluster.specs.Steps.{ClusterState}
use Rattle.qz_top.specs.NodeRuns.{WentOn}

-- n1, n2 and so on: the names of so many nodes
abbrev pub node_names : ℕ → List (List ℕ)
node_names zero = []
node_names (suc n) = node_names n ++ node_name n ∷ []

-- the node that works at the end, by the call itself
abbrev pub main_name : List ℕ
main_name = codes "main"

abbrev pub our_names : ℕ → List (List ℕ)
our_names nodes = node_names nodes ++ main_name ∷ []

module _ (shows : ℤ → Type 0) (names : List (List ℕ)) where
  -- One of these nodes joins, at a reading that the clock shows.
  pub record IsJoin (e : EntryData) : Type 0 where
    pub node : List ℕ
    pub ours : Contains names node
    pub is : e ≡ record { at = e.at; actor = Client; seat = 0; command = Join node }
    pub shown : shows e.at

  -- One of them leaves.
  pub record IsLeave (e : EntryData) : Type 0 where
    pub me : MemberData
    pub ours : Contains names me.node
    pub is : e ≡ record { at = e.at; actor = Node me; seat = 0; command = Leave }
    pub shown : shows e.at

  -- One of them checks in.
  pub record IsCheckIn (e : StateEntryData) : Type 0 where
    pub node : List ℕ
    pub ours : Contains names node
    pub is : e ≡ record { at = e.at; seat = 0; command = CheckIn node CHECK_IN_INTERVAL }
    pub shown : shows e.at

  -- The row of one of them is removed.
  pub record IsForget (e : StateEntryData) : Type 0 where
    pub node : List ℕ
    pub last : ℤ
    pub ours : Contains names node
    pub is : e ≡ record { at = e.at; seat = 0; command = Forget node last }
    pub shown : shows e.at

  -- Between two states of the stores some of these nodes came and went, and nothing else was done.
  pub record CameAndWent (begun end : ClusterState) : Type 0 where
    pub added : List EntryData
    pub rows : List StateEntryData
    pub went_on : WentOn begun end added rows
    pub by_ours : AllByRecursion (λ e. IsJoin e ⊎ IsLeave e) added
    pub rows_by_ours : AllByRecursion (λ e. IsCheckIn e ⊎ IsForget e) rows
