-- What nodes leave, where all seats were joined and the stores were taken back.
use Rattle.std.proofs.Common.{◌≡◌, ◌≤◌, ℕ, ℤ, List, [], ◌∷◌, ◌++◌, sym, ap, ◌∙◌, subst, arith}
use Rattle.std.specs.List.{AllByRecursion}
use mathlib.Core.List.{IsPrefix}
use Rattle.qz_types.specs.Entries.{EntryData, StateEntryData}
use Rattle.qz_types.specs.Rows.{MemberData}
use Rattle.qz_row_lock.specs.Views.{entries_of, times}
use Rattle.qz_node.specs.Jobs.{JobMeaning}
use Rattle.qz_checkin.specs.Rows.{StateTables}
use Rattle.qz_serve.specs.Heard.{Deed}
use Rattle.qz_serve.specs.Ran.{RanOrMore}
use Rattle.qz_serve.specs.Entries.{IsScheduled}
use Rattle.qz_serve.specs.Knowing.{numbers_of, EachTold, RanIn, MembersWorked}
use Rattle.qz_serve.specs.Served.{NodesServed, MainServed}
use Rattle.qz_serve.proofs.Asks.{under_same}
use Rattle.qz_serve.proofs.Joining.{closing}
use Rattle.qz_serve.proofs.Told.{each_map}
use Rattle.qz_serve.proofs.Worked.{all_nodes_on, all_rounds_on}

at_most_one : (own : ℕ → ℕ) (all : ℕ → ℕ) → ((x : ℕ) → own x ≤ all x) → ((x : ℕ) → all x ≤ 1) → (x : ℕ) → own x ≤ 1
at_most_one own all few one x = let f = few x in let o = one x in omega arith

module _ (shows : ℤ → Type 0) (until : ℤ) (seat_of : EntryData → ℕ) where
  -- in words of what the rows say of the stores that were put there
  in_row : (leaves : List StateEntryData → StateTables → Type 0) (heard : List ℕ → List EntryData → List Deed) (members : List MemberData)
      (ids : List ℕ) (past base mine seen now : List EntryData) (base_rows mine_rows seen_rows now_rows : List StateEntryData) (before after : List (List JobMeaning))
      → mine ≡ entries_of seat_of ids past → now ≡ base ++ mine → IsPrefix seen now → ((x : ℕ) → times x ids ≤ 1) → now_rows ≡ base_rows ++ mine_rows → IsPrefix seen_rows now_rows
      → MembersWorked shows until leaves base_rows members (λ numbers b a. RanIn heard seat_of base numbers ids seen mine b a) ids mine seen_rows mine_rows before after
      → NodesServed shows until heard leaves members base now base_rows now_rows before after
  in_row leaves heard members ids past base mine seen now base_rows mine_rows seen_rows now_rows before after own is begins once rows_are begins_rows m =
      let w = m.worked in
      record {
        workers = m.workers;
        added = mine;
        added_rows = mine_rows;
        who = m.who;
        once = at_most_one (λ x. times x (numbers_of m.workers)) (λ x. times x ids) w.own once;
        now_are = is;
        rows_are = rows_are;
        entries = all_nodes_on shows until leaves base_rows seen_rows now_rows m.workers m.workers mine begins_rows (λ v c. c) w.entries;
        rows = all_rounds_on shows until leaves base_rows seen_rows now_rows m.workers m.workers mine_rows begins_rows (λ v c. c) w.rows;
        told = each_map (λ n b a. RanIn heard seat_of base (n ∷ []) ids seen mine b a) (λ n. RanOrMore (heard (n ∷ []) now)) (λ n b a r. closing heard seat_of base (n ∷ []) ids past seen mine now b a own is begins r) (numbers_of m.workers) before after w.told;
      }

  -- in words of those stores themselves
  pub nodes_served : (leaves_in leaves : List StateEntryData → StateTables → Type 0) (heard_in heard : List ℕ → List EntryData → List Deed) (members : List MemberData)
      (ids : List ℕ) (past base first mine seen now : List EntryData) (base_rows first_in first_rows mine_rows seen_rows now_rows : List StateEntryData) (before after : List (List JobMeaning))
      → mine ≡ entries_of seat_of ids past → now ≡ base ++ mine → IsPrefix seen now → ((x : ℕ) → times x ids ≤ 1) → now_rows ≡ base_rows ++ mine_rows → IsPrefix seen_rows now_rows
      → MembersWorked shows until leaves_in first_in members (λ numbers b a. RanIn heard_in seat_of base numbers ids seen mine b a) ids mine seen_rows mine_rows before after
      → leaves_in ≡ leaves → heard_in ≡ heard → base ≡ first → base_rows ≡ first_rows → first_in ≡ first_rows
      → NodesServed shows until heard leaves members first now first_rows now_rows before after
  nodes_served leaves_in leaves heard_in heard members ids past base first mine seen now base_rows first_in first_rows mine_rows seen_rows now_rows before after own is begins once rows_are begins_rows m leaves_is heard_is first_is rows_is in_is =
      let same : first_in ≡ base_rows = in_is ∙ sym rows_is in
      let at_base = subst (λ f. MembersWorked shows until leaves_in f members (λ numbers b a. RanIn heard_in seat_of base numbers ids seen mine b a) ids mine seen_rows mine_rows before after) same m in
      let served = in_row leaves_in heard_in members ids past base mine seen now base_rows mine_rows seen_rows now_rows before after own is begins once rows_are begins_rows at_base in
      subst (λ l. NodesServed shows until heard l members first now first_rows now_rows before after) leaves_is
      (subst (λ h. NodesServed shows until h leaves_in members first now first_rows now_rows before after) heard_is
      (subst (λ f. NodesServed shows until heard_in leaves_in members f now first_rows now_rows before after) first_is
      (subst (λ f. NodesServed shows until heard_in leaves_in members base now f now_rows before after) rows_is served)))

-- the same of the node `main`, which works alone
pub main_served : (shows : ℤ → Type 0) (up_to until : ℤ) (seat_of : EntryData → ℕ) (heard_in heard : List ℕ → List EntryData → List Deed) (me : MemberData) (number : ℕ) (ids : List ℕ) (past base first mine seen now : List EntryData) (before after : List (List JobMeaning))
    → mine ≡ entries_of seat_of ids past → now ≡ base ++ mine → IsPrefix seen now → AllByRecursion (IsScheduled shows up_to me number) mine
    → EachTold (λ n b a. RanIn heard_in seat_of base (n ∷ []) ids seen mine b a) (number ∷ []) before after
    → number ≡ 0 → heard_in ≡ heard → base ≡ first → up_to ≡ until → MainServed shows until heard me first now before after
main_served shows up_to until seat_of heard_in heard me number ids past base first mine seen now before after own is begins all told number_is heard_is first_is until_is =
    let told_in : EachTold (λ n. RanOrMore (heard_in (n ∷ []) now)) (number ∷ []) before after =
    each_map (λ n b a. RanIn heard_in seat_of base (n ∷ []) ids seen mine b a) (λ n. RanOrMore (heard_in (n ∷ []) now)) (λ n b a r. closing heard_in seat_of base (n ∷ []) ids past seen mine now b a own is begins r) (number ∷ []) before after told in
    record {
      added = mine;
      now_are = is ∙ ap (λ l. l ++ mine) first_is;
      entries = under_same shows up_to until me number 0 mine number_is all until_is;
      told = subst (λ k. EachTold (λ n. RanOrMore (heard (n ∷ []) now)) (k ∷ []) before after) number_is (subst (λ h. EachTold (λ n. RanOrMore (h (n ∷ []) now)) (number ∷ []) before after) heard_is told_in);
    }
