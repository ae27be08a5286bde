-- The order of linking: the triggers of each job, in the order in which they became its triggers.
use Rattle.std.specs.Prelude.{◌≡◌, ◌≢◌, List, [], ◌∷◌, ◌++◌, if◌then◌else◌}
use Rattle.std.specs.Ordering.{is_eq}
use Rattle.qz_types.specs.Words.{key_cmp}
use Rattle.qz_types.specs.declared.keys.Key.{Key}

-- the keys of a job's triggers
abbrev pub linked : Key → List (Key × List Key) → List Key
linked job [] = []
linked job (p ∷ ps) = if is_eq (key_cmp job p.0) then p.1 else linked job ps

-- each job has the keys that it had
abbrev pub KeepsLinks : List (Key × List Key) → List (Key × List Key) → Type 0
KeepsLinks old new = (job : Key) → linked job new ≡ linked job old

-- each job but this one has the keys that it had
abbrev pub KeepsOtherLinks : Key → List (Key × List Key) → List (Key × List Key) → Type 0
KeepsOtherLinks job old new = (other : Key) → other ≢ job → linked other new ≡ linked other old

-- one place of the list is left out
pub record IsTakenOut {X : Type 0} (x : X) (old new : List X) : Type 0 where
  pub before : List X
  pub after : List X
  pub was : old ≡ before ++ x ∷ after
  pub is : new ≡ before ++ after

-- the key was put last in the list of this job
pub record IsLinked (job key : Key) (old new : List (Key × List Key)) : Type 0 where
  pub here : linked job new ≡ linked job old ++ key ∷ []
  pub others : KeepsOtherLinks job old new

-- the key was taken out of the list of this job
pub record IsUnlinked (job key : Key) (old new : List (Key × List Key)) : Type 0 where
  pub here : IsTakenOut key (linked job old) (linked job new)
  pub others : KeepsOtherLinks job old new

-- the key was taken out of the list of one job and put last in that of another
pub record IsMoved (from to key : Key) (old new : List (Key × List Key)) : Type 0 where
  pub here : IsTakenOut key (linked from old) (linked from new)
  pub there : linked to new ≡ linked to old ++ key ∷ []
  pub others : (other : Key) → other ≢ from → other ≢ to → linked other new ≡ linked other old
