-- What threads leave goes with their seats into the seats that these are joined into.
use Rattle.std.proofs.Common.{◌≡◌, ◌⊎◌, inl, inr, ◌≤◌, ◌<◌, ◌+◌, ◌-◌, ◌==◌, ℕ, ℤ, Bool, true, false, List, [], ◌∷◌, ◌++◌, length, suc, set, get_or, take, drop, refl, sym, ap, ◌∙◌, subst, arith}
use Rattle.std.specs.Prelude.{Contains}
use Rattle.std.specs.List.{AllByRecursion}
use Rattle.std.proofs.lemmas.List.Elements.{Contains-append_left, Contains-append_right, Contains-push}
use Rattle.std.proofs.lemmas.List.{take_all}
use mathlib.Core.List.{IsPrefix}
use Rattle.qz_types.specs.Entries.{EntryData, StateEntryData}
use Rattle.qz_types.specs.Rows.{MemberData}
use Rattle.qz_row_lock.specs.Views.{bit, entries_of, times}
use Rattle.qz_row_lock.proofs.Claims.{times-append}
use Rattle.qz_node.specs.Jobs.{JobMeaning}
use Rattle.qz_checkin.specs.Rows.{StateTables}
use Rattle.qz_rounds.specs.Adding.{IsRecovery, IsRoundEntry}
use Rattle.qz_rounds.proofs.Lists.{all_map, all_joined}
use Rattle.qz_rounds.proofs.Lasting.{recoveries_on, entries_on}
use Rattle.qz_serve.specs.Heard.{Deed}
use Rattle.qz_serve.specs.Entries.{IsScheduled}
use Rattle.qz_serve.specs.Knowing.{Worker, numbers_of, IsOfNodes, IsOfRounds, RanIn, HaveWorked, MembersWorked}
use Rattle.qz_serve.proofs.Asks.{under_same}
use Rattle.qz_serve.proofs.Joining.{joins_first, joins_second}
use Rattle.qz_serve.proofs.Told.{none_told, each_map, each_put}

-- a node without jobs has none
pub none_ran : (heard : List ℕ → List EntryData → List Deed) (seat_of : EntryData → ℕ) (base : List EntryData) (numbers ids : List ℕ) (seen mine : List EntryData) (after : List JobMeaning)
    → RanIn heard seat_of base numbers ids seen mine [] after → RanIn heard seat_of base numbers ids seen mine [] []
none_ran heard seat_of base numbers ids seen mine after r = record { ran = λ added begins own. none_told (heard numbers (base ++ added)) after (r.ran added begins own) }

module _ (shows : ℤ → Type 0) (until : ℤ) (leaves : List StateEntryData → StateTables → Type 0) (first : List StateEntryData) where
  asked_on : (w : Worker) (seen more : List StateEntryData) → IsPrefix seen more → (e : EntryData) → IsScheduled shows until w.me w.number e ⊎ IsRecovery shows leaves first w.me seen e → IsScheduled shows until w.me w.number e ⊎ IsRecovery shows leaves first w.me more e
  asked_on w seen more p e (inl s) = inl s
  asked_on w seen more p e (inr r) = inr (recoveries_on shows leaves first w.me seen more (e ∷ []) p (r, tt)).0

  -- more was seen, and more nodes are counted
  nodes_on : (seen more : List StateEntryData) (ws vs : List Worker) → IsPrefix seen more → ((w : Worker) → Contains ws w → Contains vs w) → (e : EntryData) → IsOfNodes shows until leaves first seen ws e → IsOfNodes shows until leaves first more vs e
  nodes_on seen more ws vs p among e of = record { worker = of.worker; is_one = among of.worker of.is_one; asked = asked_on of.worker seen more p e of.asked }

  rounds_on : (seen more : List StateEntryData) (ws vs : List Worker) → IsPrefix seen more → ((w : Worker) → Contains ws w → Contains vs w) → (e : StateEntryData) → IsOfRounds shows until leaves first seen ws e → IsOfRounds shows until leaves first more vs e
  rounds_on seen more ws vs p among e of = record { worker = of.worker; is_one = among of.worker of.is_one; asked = (entries_on shows leaves first of.worker.me.node seen more (e ∷ []) p (of.asked, tt)).0 }

  -- the same of lists
  pub all_nodes_on : (seen more : List StateEntryData) (ws vs : List Worker) (es : List EntryData) → IsPrefix seen more → ((w : Worker) → Contains ws w → Contains vs w)
      → AllByRecursion (IsOfNodes shows until leaves first seen ws) es → AllByRecursion (IsOfNodes shows until leaves first more vs) es
  all_nodes_on seen more ws vs es p among all = all_map (IsOfNodes shows until leaves first seen ws) (IsOfNodes shows until leaves first more vs) (nodes_on seen more ws vs p among) es all

  pub all_rounds_on : (seen more : List StateEntryData) (ws vs : List Worker) (es : List StateEntryData) → IsPrefix seen more → ((w : Worker) → Contains ws w → Contains vs w)
      → AllByRecursion (IsOfRounds shows until leaves first seen ws) es → AllByRecursion (IsOfRounds shows until leaves first more vs) es
  all_rounds_on seen more ws vs es p among all = all_map (IsOfRounds shows until leaves first seen ws) (IsOfRounds shows until leaves first more vs) (rounds_on seen more ws vs p among) es all

  itself : (w : Worker) → Contains (w ∷ []) w
  itself w = Contains-push [] w

  one_number : (n : ℕ) (ids one two : List ℕ) → ids ≡ one ++ two → one ≡ n ∷ [] → (x : ℕ) → times x (n ∷ []) ≤ times x ids
  one_number n ids one two is own x = subst (λ l. times x (n ∷ []) ≤ times x l) (sym (is ∙ ap (λ l. l ++ two) own)) (let t = times-append x (n ∷ []) two in omega arith)

  more_numbers : (n : ℕ) (numbers ids rest pair : List ℕ) → ids ≡ rest ++ pair → ((x : ℕ) → times x numbers ≤ times x rest) → ((x : ℕ) → times x (n ∷ []) ≤ times x pair) → (x : ℕ) → times x (n ∷ numbers) ≤ times x ids
  more_numbers n numbers ids rest pair is few one x = subst (λ l. times x (n ∷ numbers) ≤ times x l) (sym is) (let t = times-append x rest pair in let f = few x in let o = one x in omega arith)

  module _ (heard : List ℕ → List EntryData → List Deed) (seat_of : EntryData → ℕ) (base : List EntryData) where
    abbrev ran_of : List ℕ → List EntryData → List EntryData → List ℕ → List JobMeaning → List JobMeaning → Type 0
    ran_of ids seen mine numbers before after = RanIn heard seat_of base numbers ids seen mine before after

    -- A node's two threads have ended, and the seats of its trigger threads were joined.
    pub pair_worked : (up_to : ℤ) (me : MemberData) (now number : ℕ) (ids one two : List ℕ) (past mine one_mine two_mine seen one_seen : List EntryData) (rows mine_rows : List StateEntryData) (before after : List JobMeaning)
        → mine ≡ entries_of seat_of ids past → ids ≡ one ++ two → now ≡ number → one ≡ number ∷ [] → entries_of seat_of one mine ≡ one_mine → entries_of seat_of two mine ≡ two_mine → IsPrefix one_seen seen
        → AllByRecursion (IsScheduled shows up_to me now) one_mine → AllByRecursion (IsRecovery shows leaves first me rows) two_mine → AllByRecursion (IsRoundEntry shows leaves first me.node rows) mine_rows
        → ran_of one one_seen one_mine (now ∷ []) before after → up_to ≡ until
        → HaveWorked shows until leaves first (record { me = me; number = number } ∷ []) (ran_of ids seen mine) ids mine rows mine_rows (before ∷ []) (after ∷ [])
    pair_worked up_to me now number ids one two past mine one_mine two_mine seen one_seen rows mine_rows before after own is same alone mine_one mine_two begins scheduled recovered rounds ran until_is =
        let w : Worker = record { me = me; number = number } in
        record {
          own = one_number number ids one two is alone;
          entries = all_joined (IsOfNodes shows until leaves first rows (w ∷ [])) seat_of one two ids past mine one_mine two_mine own is mine_one mine_two
              (all_map (IsScheduled shows until me number) (IsOfNodes shows until leaves first rows (w ∷ [])) (λ e s. record { worker = w; is_one = itself w; asked = inl s }) one_mine (under_same shows up_to until me now number one_mine same scheduled until_is))
              (all_map (IsRecovery shows leaves first me rows) (IsOfNodes shows until leaves first rows (w ∷ [])) (λ e r. record { worker = w; is_one = itself w; asked = inr r }) two_mine recovered);
          rows = all_map (IsRoundEntry shows leaves first me.node rows) (IsOfRounds shows until leaves first rows (w ∷ [])) (λ e r. record { worker = w; is_one = itself w; asked = r }) mine_rows rounds;
          told = (joins_first heard seat_of base (number ∷ []) one two ids one_seen seen one_mine mine before after (subst (λ n. ran_of one one_seen one_mine (n ∷ []) before after) same ran) is begins mine_one, refl);
        }

    -- A node's threads have ended, and those of the nodes after it. The seats of all were joined, and the node's list was put back.
    pub nodes_joined : (w : Worker) (ws : List Worker) (ids rest pair : List ℕ) (past mine rest_mine pair_mine seen rest_seen pair_seen : List EntryData)
        (row_of : StateEntryData → ℕ) (ids_r rest_r pair_r : List ℕ) (past_r mine_r rest_mine_r pair_mine_r seen_r rest_seen_r pair_seen_r : List StateEntryData)
        (i m : ℕ) (lists taken now after : List (List JobMeaning)) (own told : List JobMeaning)
        → mine ≡ entries_of seat_of ids past → ids ≡ rest ++ pair → (entries_of seat_of rest mine ≡ rest_mine) × (entries_of seat_of pair mine ≡ pair_mine) → IsPrefix rest_seen seen × IsPrefix pair_seen seen
        → mine_r ≡ entries_of row_of ids_r past_r → ids_r ≡ rest_r ++ pair_r → (entries_of row_of rest_r mine_r ≡ rest_mine_r) × (entries_of row_of pair_r mine_r ≡ pair_mine_r) → IsPrefix rest_seen_r seen_r × IsPrefix pair_seen_r seen_r
        → m ≡ suc i → own ≡ get_or lists i [] → taken ≡ set lists i [] → after ≡ set now i told → take m now ≡ take m taken
        → HaveWorked shows until leaves first ws (ran_of rest rest_seen rest_mine) rest rest_mine rest_seen_r rest_mine_r (drop m taken) (drop m now)
        → HaveWorked shows until leaves first (w ∷ []) (ran_of pair pair_seen pair_mine) pair pair_mine pair_seen_r pair_mine_r (own ∷ []) (told ∷ [])
        → HaveWorked shows until leaves first (w ∷ ws) (ran_of ids seen mine) ids mine seen_r mine_r (drop i lists) (drop i after)
    nodes_joined w ws ids rest pair past mine rest_mine pair_mine seen rest_seen pair_seen row_of ids_r rest_r pair_r past_r mine_r rest_mine_r pair_mine_r seen_r rest_seen_r pair_seen_r i m lists taken now after own told
        is split owns begins is_r split_r owns_r begins_r m_is own_is taken_is after_is same r p =
        let among_rest : (v : Worker) → Contains ws v → Contains (w ∷ ws) v = λ v c. Contains-append_right (w ∷ []) ws v c in
        let among_pair : (v : Worker) → Contains (w ∷ []) v → Contains (w ∷ ws) v = λ v c. Contains-append_left (w ∷ []) ws v c in
        record {
          own = more_numbers w.number (numbers_of ws) ids rest pair split r.own p.own;
          entries = all_joined (IsOfNodes shows until leaves first seen_r (w ∷ ws)) seat_of rest pair ids past mine rest_mine pair_mine is split owns.0 owns.1
              (all_nodes_on rest_seen_r seen_r ws (w ∷ ws) rest_mine begins_r.0 among_rest r.entries) (all_nodes_on pair_seen_r seen_r (w ∷ []) (w ∷ ws) pair_mine begins_r.1 among_pair p.entries);
          rows = all_joined (IsOfRounds shows until leaves first seen_r (w ∷ ws)) row_of rest_r pair_r ids_r past_r mine_r rest_mine_r pair_mine_r is_r split_r owns_r.0 owns_r.1
              (all_rounds_on rest_seen_r seen_r ws (w ∷ ws) rest_mine_r begins_r.0 among_rest r.rows) (all_rounds_on pair_seen_r seen_r (w ∷ []) (w ∷ ws) pair_mine_r begins_r.1 among_pair p.rows);
          told = each_put (λ n. ran_of ids seen mine (n ∷ [])) w.number (numbers_of ws) told (none_ran heard seat_of base (w.number ∷ []) ids seen mine told) i m lists taken now after own m_is own_is taken_is after_is same
              (joins_second heard seat_of base (w.number ∷ []) rest pair ids pair_seen seen pair_mine mine own told p.told.0 split begins.1 owns.1)
              (each_map (λ n. ran_of rest rest_seen rest_mine (n ∷ [])) (λ n. ran_of ids seen mine (n ∷ [])) (λ n b a x. joins_first heard seat_of base (n ∷ []) rest pair ids rest_seen seen rest_mine mine b a x split begins.0 owns.0) (numbers_of ws) (drop m taken) (drop m now) r.told);
        }

-- the same up to a moment that is the same
pub at_moment : (shows : ℤ → Type 0) (up_to until : ℤ) (leaves : List StateEntryData → StateTables → Type 0) (first : List StateEntryData) (members : List MemberData)
    (ran : List ℕ → List JobMeaning → List JobMeaning → Type 0) (ids : List ℕ) (mine : List EntryData) (seen_rows mine_rows : List StateEntryData) (was before after : List (List JobMeaning))
    → MembersWorked shows up_to leaves first members ran ids mine seen_rows mine_rows was after → was ≡ before → up_to ≡ until → MembersWorked shows until leaves first members ran ids mine seen_rows mine_rows before after
at_moment shows up_to until leaves first members ran ids mine seen_rows mine_rows was before after m same is =
    subst (λ u. MembersWorked shows u leaves first members ran ids mine seen_rows mine_rows before after) is (subst (λ b. MembersWorked shows up_to leaves first members ran ids mine seen_rows mine_rows b after) same m)

nil_of : {A : Type 0} (xs : List A) → length xs < 1 → xs ≡ []
nil_of [] z = refl
nil_of (x ∷ xs) z = absurd (omega arith)

-- where there are no members, nobody works
pub none_worked : (shows : ℤ → Type 0) (until : ℤ) (leaves : List StateEntryData → StateTables → Type 0) (first : List StateEntryData) (members : List MemberData)
    (ran : List ℕ → List JobMeaning → List JobMeaning → Type 0) (ids : List ℕ) (mine : List EntryData) (seen_rows mine_rows : List StateEntryData) (lists : List (List JobMeaning))
    → length members < 1 → mine ≡ [] → mine_rows ≡ [] → MembersWorked shows until leaves first members ran ids mine seen_rows mine_rows lists lists
none_worked shows until leaves first members ran ids mine seen_rows mine_rows lists few none none_rows = record {
  workers = [];
  who = sym (nil_of members few);
  worked = record {
    own = λ x. omega arith;
    entries = subst (AllByRecursion (IsOfNodes shows until leaves first seen_rows [])) (sym none) tt;
    rows = subst (AllByRecursion (IsOfRounds shows until leaves first seen_rows [])) (sym none_rows) tt;
    told = refl;
  };
}

-- the first of a slice, and the others
pub first_and_others : {A : Type 0} (xs : List A) (x : A) → 1 ≤ length xs → x ≡ get_or xs 0 x → x ∷ take (length xs - 1) (drop 1 xs) ≡ xs
first_and_others [] x some is = absurd (omega arith)
first_and_others (y ∷ ys) x some is = ap (λ l. x ∷ l) (take_all (length (y ∷ ys) - 1) ys (omega arith)) ∙ ap (λ z. z ∷ ys) is

bit_most : (b : Bool) → bit b + 0 ≤ 1
bit_most true = omega arith
bit_most false = omega arith

-- one number is there once
pub alone : (n : ℕ) (ids : List ℕ) → ids ≡ n ∷ [] → (x : ℕ) → times x ids ≤ 1
alone n ids is x = subst (λ l. times x l ≤ 1) (sym is) (bit_most (n == x))
