-- A member goes that has no rows, and the tables stay valid.
use Rattle.std.proofs.Common.{◌≡◌, ◌<◌, ◌==◌, true, false, List, Some, IsSomeAnd, refl, sym, ◌∙◌, subst, arith}
use Rattle.std.specs.List.{AllByRecursion}
use Rattle.std.proofs.lemmas.Bool.{and_from, eq-eqb}
use Rattle.qz_types.specs.Rows.{MemberData, FiredData}
use Rattle.qz_types.specs.Tables.{SchedulerTables}
use Rattle.qz_types.specs.Words.{same_text, member_of, without_member}
use Rattle.qz_model.specs.Invariant.{TablesValid}
use Rattle.qz_model.specs.Tests.{is_of}
use Rattle.qz_model.proofs.Changes.{HasMember, HasNumber, HasNumber-kept}
use Rattle.qz_model.proofs.References.{references-members}
use Rattle.qz_model.proofs.RowLaws.{ordered-without_member, All-without_member, member_of-without_member, member_of-alike, length-without_member}
use Rattle.qz_model.proofs.RowPoints.{All-weaker, All-both}

module _ (T : SchedulerTables) (me live : MemberData) (valid : TablesValid T) (found : member_of me.node T.members ≡ Some live) (epoch : live.epoch ≡ me.epoch)
    (none : AllByRecursion (λ f. is_of me f ≡ false) T.fired) where
  abbrev members_left : List MemberData
  members_left = without_member me.node T.members

  abbrev without_me : SchedulerTables
  without_me = record T { members = members_left }

  -- a row of another member still has it
  row_left : (f : FiredData) → HasMember T.members f → is_of me f ≡ false → HasMember members_left f
  unfolding is_of
  row_left f has other = elim (same_text me.node f.node) as (λ b. same_text me.node f.node ≡ b → HasMember members_left f) [
    | true ↦ λ same.
        let at : member_of f.node T.members ≡ Some live = sym (member_of-alike me.node f.node T.members same) ∙ found in
        let its : live.epoch ≡ f.epoch = subst (λ o. IsSomeAnd o (λ m. m.epoch ≡ f.epoch)) at has in
        let equal : (me.epoch == f.epoch) ≡ true = eq-eqb me.epoch f.epoch (sym epoch ∙ its) in
        let mine : is_of me f ≡ true = and_from (same_text me.node f.node) (me.epoch == f.epoch) same equal in
        absurd (cc)
    | false ↦ λ differ. subst (λ o. IsSomeAnd o (λ m. m.epoch ≡ f.epoch)) (sym (member_of-without_member me.node f.node T.members differ)) has
  ] refl

  pub valid-without_member : TablesValid without_me
  valid-without_member = let was = valid.references_and_limits in record {
    references_and_limits = references-members T was members_left T.next_epoch (ordered-without_member me.node T.members was.ordered.members)
        (omega (arith, length-without_member me.node T.members, was.limits.members)) was.limits.next_epoch;
    acquired_match = valid.acquired_match;
    concurrency_agrees = valid.concurrency_agrees;
    one_exclusive = valid.one_exclusive;
    blocked_are_busy = valid.blocked_are_busy;
    rows_of_members = record {
      given = All-without_member (λ m. m.epoch < T.next_epoch) (λ m. m.epoch < T.next_epoch) me.node T.members valid.rows_of_members.given (λ m differ is. is);
      distinct = All-without_member (λ m. AllByRecursion (λ n. n.epoch ≡ m.epoch → n ≡ m) T.members) (λ m. AllByRecursion (λ n. n.epoch ≡ m.epoch → n ≡ m) members_left) me.node T.members
          valid.rows_of_members.distinct
          (λ m differ all. All-without_member (λ n. n.epoch ≡ m.epoch → n ≡ m) (λ n. n.epoch ≡ m.epoch → n ≡ m) me.node T.members all (λ n other is. is));
      rows = All-both (HasMember T.members) (λ f. is_of me f ≡ false) (HasMember members_left) T.fired row_left valid.rows_of_members.rows none;
    };
    next_times = valid.next_times;
    fresh = record {
      fired = valid.fresh.fired;
      added = All-weaker (HasNumber T) (HasNumber without_me) T.triggers
          (λ t has. HasNumber-kept T without_me t (omega arith) (λ n below none. none) (λ n all. all) has) valid.fresh.added;
    };
    row_times = valid.row_times;
  }
