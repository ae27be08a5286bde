-- What the calls have in common that open both stores: what they opened, what holds of a state, and what a crash leaves.
use Rattle.std.specs.Prelude.{⊤, ◌≡◌, ◌≤◌, ℕ, List, [], ◌∷◌, ◌++◌}
use Rattle.qz_disk.specs.declared.disk.Disk.{Ghosts}
use Rattle.qz_types.specs.Entries.{EntryData, StateEntryData}
use Rattle.qz_laws.specs.Losses.{AreExact}
use Rattle.qz_stores.specs.Bases.{WholeList, IsEndOf}
use Rattle.qz_stores.specs.Kinds.{StoreKind}
use Rattle.qz_trigger_store.specs.Bytes.{Whole, IsWhole}
use Rattle.qz_trigger_store.specs.Kinds.{trigger_kind}
use Rattle.qz_trigger_store.specs.Opening.{IsOpened}
use Rattle.qz_checkin.specs.Bytes.{Whole as WholeRows, IsWhole as IsWholeRows}
use Rattle.qz_checkin.specs.Kinds.{state_kind}
use Rattle.qz_checkin.specs.Opening.{IsOpened as AreOpened}
use Rattle.qz_cluster.specs.Steps.{ClusterState}
use Rattle.qz_top.specs.Calls.{HasSoundStores, RecoversLosses}
use Rattle.qz_top.specs.Found.{IsFoundOn, HoldWhole}
use Rattle.qz_top.specs.Moments.{HasTriggers, HasStates}
use Rattle.qz_top.specs.NodeRuns.{IsKept}

-- a list that begins with this one, in the same format version and from the same start
abbrev pub longer : {S E : Type 0} → WholeList S E → List E → WholeList S E
longer w more = record { version = w.version; start = w.start; entries = w.entries ++ more }

-- The bytes of a trigger store hold a whole list that begins with this one. Of all executions that were lost in it, from its start
-- on, each yielded one recovery trigger if its job asked for it and was still stored, else none.
pub record HoldLonger (w : Whole) (bytes : List ℕ) : Type 0 where
  pub more : List EntryData
  pub held : IsWhole (longer w more) bytes
  pub recovered : ∥ AreExact w.start (w.entries ++ more) ∥₁

-- The bytes of a state store hold a whole list that begins with this one.
pub record HoldLongerRows (v : WholeRows) (bytes : List ℕ) : Type 0 where
  pub more : List StateEntryData
  pub held : IsWholeRows (longer v more) bytes

-- The later history has all that the earlier one has: there is a whole list of which the earlier one is an end, and the later one is
-- an end of that list or of one that goes on from it. So the tables that the earlier one left are those that the later one went on from.
abbrev pub HasAllOf : {H S E R : Type 0} → StoreKind H S E R → H → H → Type 0
HasAllOf {S = S} {E = E} k later earlier = ∥ ((start : S) × (entries : List E) × (more : List E) × IsEndOf k start earlier entries × IsEndOf k start later (entries ++ more)) ∥₁

-- each of these states has all that the one before it has
abbrev pub LoseNothing : ClusterState → List ClusterState → Type 0
LoseNothing S [] = ⊤
LoseNothing S (S' ∷ later) = HasAllOf trigger_kind S'.triggers.history S.triggers.history × HasAllOf state_kind S'.states.history S.states.history × LoseNothing S' later

-- Both stores that stand on the disks were opened.
pub record WereOpened {D : Type 0} (g : Ghosts D) (triggers states : D) (opened : ClusterState) : Type 0 where
  -- their histories are legal, and the tables and rows that they leave are valid
  pub are_opened : IsOpened opened.triggers × AreOpened opened.states
  pub nothing_held : opened.held ≡ []
  -- the histories are what the bytes tell from the slot in use on; where the bytes hold whole lists, they are ends of these
  pub found : g.honest → IsFoundOn g triggers states opened
  pub no_earlier : (g.faults triggers ≤ opened.triggers.faults) × (g.faults states ≤ opened.states.faults)

-- The histories are legal, the tables and rows are valid, and each execution that was lost since the history's base was recovered
-- once if its job asked for it, else not at all.
pub record IsInOrder (S : ClusterState) : Type 0 where
  pub sound : HasSoundStores S
  pub recovered : RecoversLosses S

-- What a call leaves on its disks, `triggers'` and `states'`, whose stores are in this state at its end. The premise of each crash is
-- that the disks are honest and held these whole lists when the call began.
pub record OutlastsCrashes {D : Type 0} (g : Ghosts D) (triggers states triggers' states' : D) (end : ClusterState) : Type 0 where
  pub faults : (g.faults triggers' ≡ end.triggers.faults) × (g.faults states' ≡ end.states.faults)
  -- at the end a crash leaves the bytes of each store's history, or of that with its undecided entry
  pub at_end : (w : Whole) (v : WholeRows) → HoldWhole g triggers states w v → (b : List ℕ)
      → ((g.state triggers').IsImage b → HasTriggers w b end) × ((g.state states').IsImage b → HasStates v b end)
  -- At any moment it leaves what it could have left before the call, until the stores are open; and then on each disk the whole list
  -- of before, with what was added to it until then.
  pub any_moment : (w : Whole) (v : WholeRows) → HoldWhole g triggers states w v
      → ∥ IsKept g triggers triggers' (HoldLonger w) × IsKept g states states' (HoldLongerRows v) ∥₁
