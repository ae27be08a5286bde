-- The parts of a call's course, and what all of them added.
use Rattle.std.proofs.Common.{◌≡◌, ◌⊎◌, inl, inr, ℕ, zero, suc, ◌+◌, ℤ, List, [], ◌∷◌, ◌++◌, length, length-append, add-one, map, refl, sym, ap, ◌∙◌, subst}
use Rattle.std.specs.Prelude.{Option, Some, None, Result, Ok, Err, IfOk, IfSome}
use Rattle.qz_types.specs.Entries.{EntryData, StateEntryData}
use Rattle.qz_types.specs.Rows.{MemberData}
use Rattle.qz_node.specs.Jobs.{JobMeaning}
use Rattle.qz_cluster.specs.Steps.{ClusterState}
use Rattle.qz_top.specs.NodeRuns.{WentOn}
use Rattle.qz_run.specs.declared.commands.Declined.{Declined}
use Rattle.qz_run.specs.declared.commands.Declined.TheVariants as why
use Rattle.qz_serve.specs.Courses.{DidNothing, EndsBy, MainEnded, NodesEnded, TookCourse, TookTurn, TookTurns, Turn, WorkedAsMain, WorkedAsNodes}
use Rattle.qz_serve.specs.Declining.{AtLimit}
use Rattle.qz_serve.specs.Limits.{WasDeclined}
use Rattle.qz_seen.specs.Seen.{node_name}
use Rattle.qz_serve.specs.Ours.{CameAndWent, node_names}
use Rattle.qz_serve.proofs.Moving.{went_none, went_then, came_none}

-- what was added between two states of the stores
abbrev pub Added : ClusterState → ClusterState → Type 0
Added S T = (added : List EntryData) × (rows : List StateEntryData) × WentOn S T added rows

added_none : (S T : ClusterState) → T ≡ S → Added S T
added_none S T same = ([], [], subst (λ (U : ClusterState). WentOn S U [] []) (sym same) (went_none S))

added_then : (S T U : ClusterState) → Added S T → Added T U → Added S U
added_then S T U one two = (one.0 ++ two.0, one.1 ++ two.1, went_then S T U one.0 two.0 one.1 two.1 one.2 two.2)

-- a member of this name, which no table has
abbrev nobody : List ℕ → MemberData
nobody name = record { node = name; epoch = 0 }

abbrev all_nobody : List (List ℕ) → List MemberData
all_nobody [] = []
all_nobody (name ∷ names) = nobody name ∷ all_nobody names

nobodies : (names : List (List ℕ)) → map (λ (m : MemberData). m.node) (all_nobody names) ≡ names
nobodies [] = refl
nobodies (name ∷ names) = ap (λ more. name ∷ more) (nobodies names)

module _ (shows : ℤ → Type 0) (until : ℤ) (nodes : List (List ℕ)) (main : List ℕ) where
  came_added : (names : List (List ℕ)) (S T : ClusterState) → CameAndWent shows names S T → Added S T
  came_added names S T came = (came.added, came.rows, came.went_on)

  main_added : (me : MemberData) (S T : ClusterState) (j k : List (List JobMeaning)) → WorkedAsMain shows until me S T j k ⊎ DidNothing S T j k → Added S T
  main_added me S T j k (inl worked) = (worked.served.added, [], worked.went_on)
  main_added me S T j k (inr nothing) = added_none S T nothing.0

  nodes_added : (members : List MemberData) (S T : ClusterState) (j k : List (List JobMeaning)) → WorkedAsNodes shows until members S T j k ⊎ DidNothing S T j k → Added S T
  nodes_added members S T j k (inl worked) = (worked.served.added, worked.served.added_rows, worked.went_on)
  nodes_added members S T j k (inr nothing) = added_none S T nothing.0

  turn_added : (cause : Option Declined) (t : Turn) (end : ClusterState) (k : List (List JobMeaning)) → TookTurn shows until nodes main cause t end k → Added t.begun end
  turn_added cause t end k took =
      added_then t.begun t.joined end (came_added _ _ _ took.joins) (added_then t.joined t.worked end (main_added t.me _ _ _ _ took.works) (came_added _ _ _ took.leaves))

  turns_added : (cause : Option Declined) (turns : List Turn) (S T : ClusterState) (j k : List (List JobMeaning)) → TookTurns shows until nodes main cause turns S T j k → Added S T
  turns_added cause [] S T j k nothing = added_none S T nothing.0
  turns_added cause (t ∷ past) S T j k took = added_then S t.begun T (turns_added None past S t.begun j t.jobs took.0) (turn_added cause t T k took.1)

  pub course_added : (cause : Option Declined) (S T : ClusterState) (j k : List (List JobMeaning)) → TookCourse shows until nodes main cause S T j k → Added S T
  course_added cause S T j k took =
      added_then S took.joined T (came_added nodes S took.joined took.joins)
      (added_then took.joined took.worked T (nodes_added took.members _ _ _ _ took.works) (turns_added cause took.turns took.worked T took.told k took.took))

  no_cause : (why : Declined) → Some why ≡ None → ⊥
  no_cause why is = let bad = is in cc

  -- A course that was cut short: as its nodes joined, or before.
  pub course_of_joins : (why : Declined) (S T : ClusterState) (j : List (List JobMeaning)) → CameAndWent shows nodes S T → TookCourse shows until nodes main (Some why) S T j j
  course_of_joins why S T j came =
      record { joined = T; joins = came; members = all_nobody nodes; names = nobodies nodes; worked = T; told = j; works = inr (refl, refl); ended = λ is. absurd (no_cause why is); turns = []; took = (refl, refl) }

  pub course_none : (why : Declined) (S : ClusterState) (j : List (List JobMeaning)) → TookCourse shows until nodes main (Some why) S S j j
  course_none why S j = course_of_joins why S S j (came_none shows nodes S)

  -- once they have worked, or when it was cut short then
  pub course_of_nodes : (why : Declined) (members : List MemberData) (S T U : ClusterState) (j k : List (List JobMeaning)) → map (λ (m : MemberData). m.node) members ≡ nodes → CameAndWent shows nodes S T
      → WorkedAsNodes shows until members T U j k ⊎ DidNothing T U j k → TookCourse shows until nodes main (Some why) S U j k
  course_of_nodes why members S T U j k names came works =
      record { joined = T; joins = came; members = members; names = names; worked = U; told = k; works = works; ended = λ is. absurd (no_cause why is); turns = []; took = (refl, refl) }

  pub course_of_turns : (cause : Option Declined) (members : List MemberData) (turns : List Turn) (S T U V : ClusterState) (j k l : List (List JobMeaning)) → map (λ (m : MemberData). m.node) members ≡ nodes → CameAndWent shows nodes S T
      → WorkedAsNodes shows until members T U j k ⊎ DidNothing T U j k → NodesEnded shows until members T U → TookTurns shows until nodes main cause turns U V k l → TookCourse shows until nodes main cause S V j l
  course_of_turns cause members turns S T U V j k l names came works ended took =
      record { joined = T; joins = came; members = members; names = names; worked = U; told = k; works = works; ended = λ is. ended; turns = turns; took = took }

  -- A turn: cut short as the node joined, or once it had worked; or whole.
  abbrev pub IsTurn : Option Declined → ClusterState → ClusterState → List (List JobMeaning) → List (List JobMeaning) → Type 0
  IsTurn cause S T j k = (t : Turn) × (t.begun ≡ S) × (t.jobs ≡ j) × TookTurn shows until nodes main cause t T k

  pub turn_of_join : (why : Declined) (S T : ClusterState) (j : List (List JobMeaning)) → CameAndWent shows (main ∷ []) S T → IsTurn (Some why) S T j j
  turn_of_join why S T j came = (
    record { me = nobody main; begun = S; joined = T; worked = T; jobs = j },
    refl,
    refl,
    record { name = refl; joins = came; works = inr (refl, refl); ended = λ is. absurd (no_cause why is); leaves = came_none shows (nodes ++ main ∷ []) T },
  )

  pub turn_of_main : (why : Declined) (me : MemberData) (S T U : ClusterState) (j k : List (List JobMeaning)) → me.node ≡ main → CameAndWent shows (main ∷ []) S T
      → WorkedAsMain shows until me T U j k ⊎ DidNothing T U j k → IsTurn (Some why) S U j k
  turn_of_main why me S T U j k name came works = (
    record { me = me; begun = S; joined = T; worked = U; jobs = j },
    refl,
    refl,
    record { name = name; joins = came; works = works; ended = λ is. absurd (no_cause why is); leaves = came_none shows (nodes ++ main ∷ []) U },
  )

  pub turn_of_leaves : (cause : Option Declined) (me : MemberData) (S T U V : ClusterState) (j k : List (List JobMeaning)) → me.node ≡ main → CameAndWent shows (main ∷ []) S T
      → WorkedAsMain shows until me T U j k ⊎ DidNothing T U j k → MainEnded shows until me T U → CameAndWent shows (nodes ++ main ∷ []) U V → IsTurn cause S V j k
  turn_of_leaves cause me S T U V j k name came works ended left = (
    record { me = me; begun = S; joined = T; worked = U; jobs = j },
    refl,
    refl,
    record { name = name; joins = came; works = works; ended = λ is. ended; leaves = left },
  )

  -- one turn more
  abbrev pub AreTurns : Option Declined → ClusterState → ClusterState → List (List JobMeaning) → List (List JobMeaning) → Type 0
  AreTurns cause S T j k = (turns : List Turn) × TookTurns shows until nodes main cause turns S T j k

  pub turns_none : (S : ClusterState) (j : List (List JobMeaning)) → AreTurns None S S j j
  turns_none S j = ([], (refl, refl))

  pub turns_more : (cause : Option Declined) (S T U : ClusterState) (j k l : List (List JobMeaning)) → AreTurns None S T j k → IsTurn cause T U k l → AreTurns cause S U j l
  turns_more cause S T U j k l past last = (
    last.0 ∷ past.0,
    (
      subst (λ (x : List (List JobMeaning)). TookTurns shows until nodes main None past.0 S last.0.begun j x) (sym last.2) (subst (λ (X : ClusterState). TookTurns shows until nodes main None past.0 S X j k) (sym last.1) past.1),
      last.3,
    ),
  )

  -- the same for a cause that is the same
  pub turn_for : (cause same : Option Declined) (S T : ClusterState) (j k : List (List JobMeaning)) → cause ≡ same → IsTurn cause S T j k → IsTurn same S T j k
  turn_for cause same S T j k is turn = subst (λ (o : Option Declined). IsTurn o S T j k) is turn

-- of what a call gave back, another fact
pub if_ok_map : {A E : Type 0} (P Q : A → Type 0) (r : Result A E) → ((a : A) → P a → Q a) → IfOk r P → IfOk r Q
if_ok_map P Q (Ok a) f p = f a p
if_ok_map P Q (Err e) f p = tt

pub length-node_names : (n : ℕ) → length (node_names n) ≡ n
length-node_names zero = refl
length-node_names (suc n) = length-append (node_names n) (node_name n ∷ []) ∙ ap (λ k. k + 1) (length-node_names n) ∙ add-one n

-- The same by other names.
pub came_named : (shows : ℤ → Type 0) (ns ms : List (List ℕ)) (S T : ClusterState) → ns ≡ ms → CameAndWent shows ns S T → CameAndWent shows ms S T
came_named shows ns ms S T same came = subst (λ (xs : List (List ℕ)). CameAndWent shows xs S T) same came

pub course_named : (shows : ℤ → Type 0) (t u : ℤ) (ns ms : List (List ℕ)) (m n : List ℕ) (cause : Option Declined) (S T : ClusterState) (j k : List (List JobMeaning)) → t ≡ u → ns ≡ ms → m ≡ n → TookCourse shows t ns m cause S T j k → TookCourse shows u ms n cause S T j k
course_named shows t u ns ms m n cause S T j k same names mains took =
    subst (λ (x : ℤ). TookCourse shows x ms n cause S T j k) same (subst (λ (x : List (List ℕ)). TookCourse shows t x n cause S T j k) names (subst (λ (x : List ℕ). TookCourse shows t ns x cause S T j k) mains took))

pub turns_until : (shows : ℤ → Type 0) (t u : ℤ) (ns : List (List ℕ)) (m : List ℕ) (cause : Option Declined) (S T : ClusterState) (j k : List (List JobMeaning)) → t ≡ u → AreTurns shows t ns m cause S T j k → AreTurns shows u ns m cause S T j k
turns_until shows t u ns m cause S T j k same turns = subst (λ (x : ℤ). AreTurns shows x ns m cause S T j k) same turns

pub nodes_named : (shows : ℤ → Type 0) (t u : ℤ) (ms ns : List MemberData) (S T : ClusterState) (j k : List (List JobMeaning)) → t ≡ u → ms ≡ ns → WorkedAsNodes shows t ms S T j k ⊎ DidNothing S T j k → WorkedAsNodes shows u ns S T j k ⊎ DidNothing S T j k
nodes_named shows t u ms ns S T j k same names works =
    subst (λ (x : ℤ). WorkedAsNodes shows x ns S T j k ⊎ DidNothing S T j k) same (subst (λ (x : List MemberData). WorkedAsNodes shows t x S T j k ⊎ DidNothing S T j k) names works)

pub nodes_ended_until : (shows : ℤ → Type 0) (t u : ℤ) (ms : List MemberData) (S T : ClusterState) → t ≡ u → NodesEnded shows t ms S T → NodesEnded shows u ms S T
nodes_ended_until shows t u ms S T same ended = subst (λ (x : ℤ). NodesEnded shows x ms S T) same ended

pub ends_named : (shows : ℤ → Type 0) (t u : ℤ) (ns ms : List (List ℕ)) (cause : Option Declined) (S : ClusterState) → t ≡ u → ns ≡ ms → EndsBy shows t ns cause S → EndsBy shows u ms cause S
ends_named shows t u ns ms cause S same names ends = subst (λ (x : ℤ). EndsBy shows x ms cause S) same (subst (λ (x : List (List ℕ)). EndsBy shows t x cause S) names ends)

pub declined_named : (shows : ℤ → Type 0) (t u : ℤ) (ns ms : List (List ℕ)) (S T : ClusterState) (cause : Option Declined) → t ≡ u → ns ≡ ms → IfSome cause (AtLimit (WasDeclined shows t ns S T)) → IfSome cause (AtLimit (WasDeclined shows u ms S T))
declined_named shows t u ns ms S T cause same names d = subst (λ (x : ℤ). IfSome cause (AtLimit (WasDeclined shows x ms S T))) same (subst (λ (xs : List (List ℕ)). IfSome cause (AtLimit (WasDeclined shows t xs S T))) names d)

-- what threads were declined, where whether a disk failed was seen of the stores
pub cause_seen : (P : Declined → Type 0) (told cause : Option Declined) → (cause ≡ Some why.Fault) ⊎ (cause ≡ told) → IfSome told (AtLimit P) → IfSome cause (AtLimit P)
cause_seen P told cause (inl is) d = subst (λ (o : Option Declined). IfSome o (AtLimit P)) (sym is) tt
cause_seen P told cause (inr is) d = subst (λ (o : Option Declined). IfSome o (AtLimit P)) (sym is) d
