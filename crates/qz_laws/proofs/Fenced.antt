-- A node that is gone never acts again.
use Rattle.std.proofs.Common.{◌≡◌, ℕ, ◌<◌, ℤ, true, false, List, [], ◌∷◌, Option, Some, None, IsSomeAnd, IsTrue, refl, sym, ap, ◌∙◌, subst, arith}
use Rattle.std.specs.List.{AllByRecursion}
use Rattle.std.proofs.lemmas.Bool.{and_parts}
use Rattle.std.proofs.lemmas.Map.Lookups.{exact_bytes}
use Rattle.qz_types.specs.Rows.{MemberData}
use Rattle.qz_types.specs.Entries.{EntryData, is_command, is_of_node, has_actor, is_entry}
use Rattle.qz_types.specs.declared.commands.Command.{Command}
use Rattle.qz_types.specs.declared.commands.Command.TheVariants.{Leave, Acquire, Release, Fire, Complete, Misfires, Recover}
use Rattle.qz_types.specs.declared.commands.Actor.{Actor}
use Rattle.qz_types.specs.declared.commands.Actor.TheVariants.{Node}
use Rattle.qz_types.specs.declared.replies.Refusal.{Refusal}
use Rattle.qz_types.specs.Tables.{SchedulerTables, recorded_moment}
use Rattle.qz_types.specs.Outcomes.{Outcome, unless, IsAccepted}
use Rattle.qz_types.specs.Words.{text_cmp, same_text, member_of}
use Rattle.qz_model.specs.Acquiring.{acquire_refusal}
use Rattle.qz_model.specs.History.{tables_left, IsLegalFrom}
use Rattle.qz_model.specs.Invariant.{TablesValid}
use Rattle.qz_model.specs.Membership.{node_refusal}
use Rattle.qz_model.specs.Recovery.{leave_refusal}
use Rattle.qz_model.specs.Transaction.{by_command, transaction}
use Rattle.qz_model.proofs.Histories.{valid-left}
use Rattle.qz_model.proofs.KeptAcquiring.{member_of_actor}
use Rattle.qz_model.proofs.LookUps.{equal_from}
use Rattle.qz_model.proofs.Refusals.{no_first}
use Rattle.qz_model.proofs.RowLaws.{member_of-node, each_member, All-member_of}
use Rattle.qz_model.proofs.RowPoints.{All-weaker}
use Rattle.qz_laws.specs.Fence.{IsGone, NeverActs}
use Rattle.qz_laws.proofs.Facts.{IsNot}
use Rattle.qz_laws.proofs.Histories.{AreValid, facts_left}

no_refusal : (x : Option Refusal) (o : Outcome) → IsAccepted (unless x o) → x ≡ None
no_refusal None o is = refl
no_refusal (Some refusal) o is = absurd is

-- a node's command is refused where the node is no member under its epoch
clear_of : (T : SchedulerTables) (m : ℤ) (me : MemberData) (c : Command) → is_of_node c ≡ true → IsAccepted (by_command T m (Node me) c) → node_refusal T me ≡ None
clear_of T m me Leave is done = (no_first (node_refusal T me) (leave_refusal T me) (no_refusal _ _ done)).0
clear_of T m me (Acquire no_later window max) is done = (no_first (node_refusal T me) (acquire_refusal T max) (no_refusal _ _ done)).0
clear_of T m me (Release entry) is done = no_refusal _ _ done
clear_of T m me (Fire entry) is done = no_refusal _ _ done
clear_of T m me (Complete entry code) is done = no_refusal _ _ done
clear_of T m me Misfires is done = no_refusal _ _ done
clear_of T m me (Recover node) is done = no_refusal _ _ done
clear_of T m me c is done = absurd (cc)

-- a node gives no command of a client
node_command : (c : Command) (me : MemberData) → has_actor (is_of_node c) (Node me) ≡ true → is_of_node c ≡ true
node_command c me is = elim (is_of_node c) as (λ b. has_actor b (Node me) ≡ true → b ≡ true) [ true ↦ λ e. refl | false ↦ λ e. absurd (cc) ] is

entry_of_node : (e : EntryData) (me : MemberData) → IsTrue (is_entry e) → e.actor ≡ Node me → is_of_node e.command ≡ true
unfolding is_entry
entry_of_node e me good by =
    node_command e.command me (subst (λ (a : Actor). has_actor (is_of_node e.command) a ≡ true) by (and_parts (is_command e.command) (has_actor (is_of_node e.command) e.actor) good).1)

-- texts that the order doesn't tell apart are equal
same_text-exact : (a b : List ℕ) → same_text a b ≡ true → a ≡ b
unfolding same_text
same_text-exact a b same = exact_bytes a b (equal_from (text_cmp a b) same)

-- the member of its name and epoch is the node itself
found_member : (T : SchedulerTables) (me : MemberData) (o : Option MemberData) → member_of me.node T.members ≡ o → IsSomeAnd o (λ m. m.epoch ≡ me.epoch) → AllByRecursion (IsNot me) T.members → ⊥
found_member T me None found is none = is
found_member T me (Some m) found is none =
    let name : me.node ≡ m.node = same_text-exact me.node m.node (member_of-node me.node m T.members found) in
    let first : m ≡ record { node = m.node; epoch = me.epoch } = ap (λ (n : ℕ). record { node = m.node; epoch = n }) is in
    let second : record { node = m.node; epoch = me.epoch } ≡ me = ap (λ (n : List ℕ). record { node = n; epoch = me.epoch }) (sym name) in
    All-member_of (IsNot me) me.node m T.members none found (first ∙ second)

acts_not : (T : SchedulerTables) (e : EntryData) (me : MemberData) → IsTrue (is_entry e) → IsAccepted (transaction T e) → AllByRecursion (IsNot me) T.members → e.actor ≡ Node me → ⊥
acts_not T e me good is none by =
    let done : IsAccepted (by_command T (recorded_moment T e.at) (Node me) e.command) = subst (λ (a : Actor). IsAccepted (by_command T (recorded_moment T e.at) a e.command)) by is in
    found_member T me (member_of me.node T.members) refl (member_of_actor T me (clear_of T (recorded_moment T e.at) me e.command (entry_of_node e me good by) done)) none

never_acts : (T : SchedulerTables) (es : List EntryData) (me : MemberData) → TablesValid T → AreValid es → IsLegalFrom T es → me.epoch < T.next_epoch → AllByRecursion (IsNot me) T.members → NeverActs me es
never_acts T [] me valid good legal given none = tt
never_acts T (e ∷ es) me valid good legal given none =
    let f = (facts_left T e valid legal.0).2 in (
      acts_not T e me good.0 legal.0 none,
      never_acts (tables_left T (transaction T e)) es me (valid-left T e good.0 valid) good.1 legal.1 (omega (arith, f.next_epoch)) (f.members me given none),
    )

pub gone_never_acts : (T : SchedulerTables) (es : List EntryData) (me : MemberData) → TablesValid T → AreValid es → IsLegalFrom T es → IsGone T me → NeverActs me es
gone_never_acts T es me valid good legal gone =
    never_acts T es me valid good legal gone.given
    (All-weaker (λ m. member_of m.node T.members ≡ Some m) (IsNot me) T.members (λ m found same. gone.no_member (subst (λ (n : MemberData). member_of n.node T.members ≡ Some n) same found))
    (each_member T.members valid.references_and_limits.ordered.members))
