use Rattle.std.proofs.Common.{map, ap, subst, ◌∙◌}
use Rattle.std.specs.List.{AllByRecursion}
use Rattle.std.proofs.lemmas.Result.{on_ok_weaker}
use Rattle.qz_codec.specs.Layout.{member}
use Rattle.qz_codec.specs.Rows.{fired, IsFired}
use Rattle.qz_codec.specs.Values.{IsMember}
use Rattle.qz_pieces.specs.declared.kinds.RowKind.TheVariants.{Group, Member, Fired, JobGroup}
use Rattle.qz_values.specs.Fields.{IsName, text}
use Rattle.qz_snapshot.proofs.Written.{short_of, four_short}
use Rattle.qz_snapshot.proofs.payloads.add_states.Goals as goal

pub returns-clause-short : goal.returns-clause-short
returns-clause-short c = on_ok_weaker c.add_rows-4.result
    (λ last. four_short _ _ _ _
    (short_of Group (λ version. text) _ _ (ap (λ l. map (λ r. r.now) l) c.deref.ensures.value ∙ c.in_ok-sorted_groups.ensures) c.in_ok-add_rows.ensures.short)
    (short_of Member (λ version. member) _ _ (ap (λ l. map (λ r. r.now) l) c.deref-2.ensures.value ∙ c.in_ok-sorted_members.ensures) c.in_ok-add_rows-2.ensures.short)
    (short_of Fired (λ version. fired) _ _ (ap (λ l. map (λ r. r.now) l) c.deref-3.ensures.value ∙ c.in_ok-sorted_fired.ensures) c.in_ok-add_rows-3.ensures.short)
    (short_of JobGroup (λ version. text) _ _ (ap (λ l. map (λ r. r.now) l) c.deref-4.ensures.value ∙ c.in_ok-sorted_job_groups.ensures) last))
    c.add_rows-4.ensures.short

pub returns-clause-recorded : goal.returns-clause-recorded
returns-clause-recorded c = on_ok_weaker c.add_rows-4.result
    (λ last. record {
      groups = subst (AllByRecursion IsName) (ap (λ l. map (λ r. r.now) l) c.deref.ensures.value ∙ c.in_ok-sorted_groups.ensures) c.in_ok-add_rows.ensures.recorded;
      members = subst (AllByRecursion IsMember) (ap (λ l. map (λ r. r.now) l) c.deref-2.ensures.value ∙ c.in_ok-sorted_members.ensures) c.in_ok-add_rows-2.ensures.recorded;
      fired = subst (AllByRecursion IsFired) (ap (λ l. map (λ r. r.now) l) c.deref-3.ensures.value ∙ c.in_ok-sorted_fired.ensures) c.in_ok-add_rows-3.ensures.recorded;
      job_groups = subst (AllByRecursion IsName) (ap (λ l. map (λ r. r.now) l) c.deref-4.ensures.value ∙ c.in_ok-sorted_job_groups.ensures) last;
    })
    c.add_rows-4.ensures.recorded
