-- What nodes that worked on shared stores leave.
use Rattle.std.specs.Prelude.{◌≡◌, ◌≤◌, ℕ, ℤ, List, [], ◌∷◌, ◌++◌, map}
use Rattle.std.specs.List.{AllByRecursion}
use Rattle.qz_types.specs.Entries.{EntryData, StateEntryData}
use Rattle.qz_types.specs.Rows.{MemberData}
use Rattle.qz_row_lock.specs.Views.{times}
use Rattle.qz_node.specs.Jobs.{JobMeaning}
use Rattle.qz_checkin.specs.Rows.{StateTables}
use Rattle.qz_serve.specs.Heard.{Deed}
use Rattle.qz_serve.specs.Ran.{RanOrMore}
use Rattle.qz_serve.specs.Entries.{IsScheduled}
use Rattle.qz_serve.specs.Knowing.{Worker, IsOfNodes, IsOfRounds, EachTold, numbers_of}

-- Some members worked up to a moment, each by a scheduler thread and a check-in thread, while the clock showed these readings.
-- Each store's entries are what they were, and then what these threads asked for. Each scheduler thread had a number of its own,
-- and each member's jobs were told what was done under that number. `heard` tells what was done under some numbers, where a
-- trigger store's entries are these, and `leaves` which rows a list of state entries leaves.
pub record NodesServed (shows : ℤ → Type 0) (until : ℤ) (heard : List ℕ → List EntryData → List Deed) (leaves : List StateEntryData → StateTables → Type 0) (members : List MemberData)
    (first now : List EntryData) (first_rows now_rows : List StateEntryData) (before after : List (List JobMeaning)) : Type 0 where
  pub workers : List Worker
  pub added : List EntryData
  pub added_rows : List StateEntryData
  pub who : map (λ w. w.me) workers ≡ members
  pub once : (x : ℕ) → times x (numbers_of workers) ≤ 1
  pub now_are : now ≡ first ++ added
  pub rows_are : now_rows ≡ first_rows ++ added_rows
  pub entries : AllByRecursion (IsOfNodes shows until leaves first_rows now_rows workers) added
  pub rows : AllByRecursion (IsOfRounds shows until leaves first_rows now_rows workers) added_rows
  pub told : EachTold (λ n. RanOrMore (heard (n ∷ []) now)) (numbers_of workers) before after

-- One member worked alone up to a moment, under the number 0.
pub record MainServed (shows : ℤ → Type 0) (until : ℤ) (heard : List ℕ → List EntryData → List Deed) (me : MemberData) (first now : List EntryData) (before after : List (List JobMeaning)) : Type 0 where
  pub added : List EntryData
  pub now_are : now ≡ first ++ added
  pub entries : AllByRecursion (IsScheduled shows until me 0) added
  pub told : EachTold (λ n. RanOrMore (heard (n ∷ []) now)) (0 ∷ []) before after
