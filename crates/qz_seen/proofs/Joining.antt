-- What a Join leaves.
use Rattle.std.proofs.Common.{◌≡◌, ◌+◌, ◌==◌, ℤ, ℕ, List, [], true, false, not, length, Option, Some, None, IsSomeAnd, is_some, refl, sym, ap, ◌∙◌, subst}
use Rattle.std.proofs.lemmas.Bool.{and_from, eq-eqb, false_from_ne_true}
use Rattle.std.proofs.lemmas.Cmp.{nat_list_cmp_total}
use Rattle.qz_types.specs.Rows.{MemberData, FiredData}
use Rattle.qz_types.specs.declared.replies.Reply.{Reply}
use Rattle.qz_types.specs.declared.replies.Reply.TheVariants.{Joined}
use Rattle.qz_types.specs.Tables.{SchedulerTables}
use Rattle.qz_types.specs.Outcomes.{accepted, unless}
use Rattle.qz_types.specs.Words.{text_cmp, same_text, member_of, put_member, without_member}
use Rattle.qz_model.specs.Invariant.{TablesValid}
use Rattle.qz_model.specs.Recovery.{lost_of, rows_of_others, recoveries, recovered, with_new_member, join_refusal, joined, join}
use Rattle.qz_model.specs.Tests.{is_of}
use Rattle.qz_model.proofs.Changes.{HasMember, passes}
use Rattle.qz_model.proofs.LookUps.{row_of-put, row_of-put_own}
use Rattle.qz_model.proofs.NamedRows.{same_text_laws}
use Rattle.qz_model.proofs.RowPoints.{All-weaker, All-left}
use Rattle.qz_model.proofs.RowLaws.{member_of-alike, member_of-node, member_of-without_own, member_of-without_member}
use Rattle.qz_seen.specs.Seen.{rows_of}
use Rattle.qz_seen.proofs.NodeRows.{IsOthers, rows-none, none-filter}

-- the members with one more: it is found, and the others are as they were
pub member_put : (member : MemberData) (members : List MemberData) → member_of member.node members ≡ None → member_of member.node (put_member member members) ≡ Some member
unfolding member_of put_member
member_put member members absent = row_of-put_own text_cmp (λ r. r.node) nat_list_cmp_total member members absent

pub other_put : (k : List ℕ) (member : MemberData) (members : List MemberData) → same_text member.node k ≡ false → member_of k (put_member member members) ≡ member_of k members
unfolding member_of put_member same_text
other_put k member members differ = row_of-put text_cmp (λ r. r.node) k member members (same_text_laws.symm k member.node ∙ differ)

-- the reply is a Joined
pub record IsJoined (r : Reply) : Type 0 where
  pub epoch : ℕ
  pub executions : ℕ
  pub triggers : ℕ
  pub reply : r ≡ Joined epoch executions triggers

pub record HasJoined (node : List ℕ) (T T' : SchedulerTables) (m : ℤ) (r : Reply) : Type 0 where
  pub answer : IsJoined r
  pub last : T'.last_moment ≡ m
  pub member : is_some (member_of node T'.members) ≡ true
  pub free : rows_of node T'.fired ≡ []
  pub others_free : (k : List ℕ) → same_text node k ≡ false → rows_of k T.fired ≡ [] → rows_of k T'.fired ≡ []
  pub others_members : (k : List ℕ) → same_text node k ≡ false → member_of k T'.members ≡ member_of k T.members

-- a node that is no member has no rows
no_rows : (T : SchedulerTables) (node : List ℕ) → TablesValid T → member_of node T.members ≡ None → rows_of node T.fired ≡ []
no_rows T node valid absent = rows-none node T.fired (All-weaker (HasMember T.members) (IsOthers node) T.fired (λ f has. false_from_ne_true (same_text node f.node) (λ same.
    let found : member_of f.node T.members ≡ None = sym (member_of-alike node f.node T.members same) ∙ absent in
    subst (λ o. IsSomeAnd o (λ m. m.epoch ≡ f.epoch)) found has)) valid.rows_of_members.rows)

-- a member's rows are its own
pub its_own : (members : List MemberData) (node : List ℕ) (member : MemberData) (f : FiredData) → member_of node members ≡ Some member → HasMember members f → same_text node f.node ≡ true → is_of member f ≡ true
unfolding is_of
its_own members node member f found has same =
    let at : member_of f.node members ≡ Some member = sym (member_of-alike node f.node members same) ∙ found in
    let its : member.epoch ≡ f.epoch = subst (λ o. IsSomeAnd o (λ m. m.epoch ≡ f.epoch)) at has in
    and_from (same_text member.node f.node) (member.epoch == f.epoch)
    (sym (same_text_laws.congr node member.node f.node (member_of-node node member members found)) ∙ same) (eq-eqb member.epoch f.epoch its)

-- after the member is recovered, none of its rows is left
none_recovered : (T : SchedulerTables) (node : List ℕ) (member : MemberData) → TablesValid T → member_of node T.members ≡ Some member → rows_of node (rows_of_others member T.fired) ≡ []
unfolding rows_of_others
none_recovered T node member valid found = rows-none node (rows_of_others member T.fired) (All-left (HasMember T.members) (IsOthers node) (is_of member) T.fired valid.rows_of_members.rows
    (λ f other has. false_from_ne_true (same_text node f.node) (λ same. let mine : is_of member f ≡ true = its_own T.members node member f found has same in cc)))

others_recovered : (k : List ℕ) (member : MemberData) (T : SchedulerTables) → rows_of k T.fired ≡ [] → rows_of k (rows_of_others member T.fired) ≡ []
unfolding rows_of_others
others_recovered k member T none = none-filter k (λ f. not (is_of member f)) T.fired none

joins_new : (T T' : SchedulerTables) (m : ℤ) (node : List ℕ) (r : Reply) → TablesValid T → member_of node T.members ≡ None → joined T m node None ≡ accepted T' r → HasJoined node T T' m r
unfolding with_new_member
joins_new T T' m node r valid absent e =
    let new : MemberData = record { node = node; epoch = T.next_epoch } in
    let same : accepted (record T { members = put_member new T.members; next_epoch = T.next_epoch + 1; last_moment = m }) (Joined T.next_epoch 0 0) ≡ accepted T' r = e in
    let is : record T { members = put_member new T.members; next_epoch = T.next_epoch + 1; last_moment = m } ≡ T' = cc in
    let members : T'.members ≡ put_member new T.members = ap (λ t. t.members) (sym is) in
    let fired : T'.fired ≡ T.fired = ap (λ t. t.fired) (sym is) in
    record {
      answer = record { epoch = T.next_epoch; executions = 0; triggers = 0; reply = cc };
      last = ap (λ t. t.last_moment) (sym is);
      member = ap (λ ms. is_some (member_of node ms)) members ∙ ap is_some (member_put new T.members absent);
      free = ap (rows_of node) fired ∙ no_rows T node valid absent;
      others_free = λ k differ none. ap (rows_of k) fired ∙ none;
      others_members = λ k differ. ap (member_of k) members ∙ other_put k new T.members differ;
    }

joins_again : (T T' : SchedulerTables) (m : ℤ) (node : List ℕ) (member : MemberData) (r : Reply) → TablesValid T → member_of node T.members ≡ Some member → joined T m node (Some member) ≡ accepted T' r
    → HasJoined node T T' m r
unfolding with_new_member recovered
joins_again T T' m node member r valid found e =
    let new : MemberData = record { node = node; epoch = T.next_epoch } in
    let left : List MemberData = without_member member.node T.members in
    let after : SchedulerTables = record (with_new_member (recovered T member) node) { last_moment = m } in
    let same : accepted after (Joined T.next_epoch (length (lost_of member T.fired)) (length (recoveries T member))) ≡ accepted T' r = e in
    let is : after ≡ T' = cc in
    let members : T'.members ≡ put_member new left = ap (λ t. t.members) (sym is) in
    let fired : T'.fired ≡ rows_of_others member T.fired = ap (λ t. t.fired) (sym is) in
    let alike : same_text node member.node ≡ true = member_of-node node member T.members found in
    let absent : member_of node left ≡ None = member_of-alike node member.node left alike ∙ member_of-without_own member.node T.members in
    record {
      answer = record { epoch = T.next_epoch; executions = length (lost_of member T.fired); triggers = length (recoveries T member); reply = cc };
      last = ap (λ t. t.last_moment) (sym is);
      member = ap (λ ms. is_some (member_of node ms)) members ∙ ap is_some (member_put new left absent);
      free = ap (rows_of node) fired ∙ none_recovered T node member valid found;
      others_free = λ k differ none. ap (rows_of k) fired ∙ others_recovered k member T none;
      others_members = λ k differ. ap (member_of k) members ∙ other_put k new left differ ∙ member_of-without_member member.node k T.members (sym (same_text_laws.congr node member.node k alike) ∙ differ);
    }

joins_at : (T T' : SchedulerTables) (m : ℤ) (node : List ℕ) (o : Option MemberData) (r : Reply) → TablesValid T → member_of node T.members ≡ o → unless (join_refusal T o) (joined T m node o) ≡ accepted T' r
    → HasJoined node T T' m r
joins_at T T' m node None r valid found e = joins_new T T' m node r valid found (passes (join_refusal T None) _ T' r e).outcome
joins_at T T' m node (Some member) r valid found e = joins_again T T' m node member r valid found (passes (join_refusal T (Some member)) _ T' r e).outcome

pub has_joined : (T T' : SchedulerTables) (m : ℤ) (node : List ℕ) (r : Reply) → TablesValid T → join T m node ≡ accepted T' r → HasJoined node T T' m r
has_joined T T' m node r valid e = joins_at T T' m node (member_of node T.members) r valid refl e
