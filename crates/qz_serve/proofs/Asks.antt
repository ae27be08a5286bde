-- What an ask that ends no execution leaves of what a thread knows.
use Rattle.std.proofs.Common.{◌≡◌, ℕ, ℤ, List, [], ◌∷◌, ◌++◌, sym, ap, ◌∙◌, subst, refl}
use Rattle.std.specs.Prelude.{Option}
use Rattle.std.specs.List.{AllByRecursion}
use Rattle.qz_types.specs.Entries.{EntryData}
use Rattle.qz_types.specs.Rows.{MemberData}
use Rattle.qz_types.specs.declared.commands.Command.{Command}
use Rattle.qz_types.specs.declared.replies.Reply.{Reply}
use Rattle.qz_node.specs.declared.contexts.JobContext.{JobContext}
use Rattle.qz_rounds.proofs.Lists.{all_more}
use Rattle.qz_serve.specs.Heard.{Deed}
use Rattle.qz_serve.specs.Ran.{context_after, context_in}
use Rattle.qz_serve.specs.Entries.{IsWork, IsScheduled, entry_by}

-- what the job is told next, after one deed more
pub told_next : (before after : List Deed) (e : EntryData) (reply : Reply) (context next : Option JobContext) → after ≡ record { entry = e; reply = reply } ∷ before → context ≡ context_in before → next ≡ context_after context reply → next ≡ context_in after
told_next before after e reply context next more is then = then ∙ ap (λ c. context_after c reply) is ∙ ap context_in (sym more)

-- one more entry of the thread, under a number that stays
pub scheduled_more : (shows : ℤ → Type 0) (until : ℤ) (me : MemberData) (number now : ℕ) (at same : ℤ) (command : Command) (before after : List EntryData)
    → after ≡ before ++ entry_by same me number command ∷ [] → same ≡ at → now ≡ number → IsWork until command → shows at
    → AllByRecursion (IsScheduled shows until me number) before → AllByRecursion (IsScheduled shows until me now) after
scheduled_more shows until me number now at same command before after is at_is number_is work shown all =
    let more : AllByRecursion (IsScheduled shows until me number) (before ++ entry_by same me number command ∷ []) =
    all_more (IsScheduled shows until me number) before (entry_by same me number command) all (record { by = refl; under = refl; asks = work; shown = subst shows (sym at_is) shown }) in
    subst (λ n. AllByRecursion (IsScheduled shows until me n) after) (sym number_is) (subst (AllByRecursion (IsScheduled shows until me number)) (sym is) more)

-- the same entries, where moment and number are the same
pub under_same : (shows : ℤ → Type 0) (up_to until : ℤ) (me : MemberData) (now number : ℕ) (es : List EntryData) → now ≡ number → AllByRecursion (IsScheduled shows up_to me now) es → up_to ≡ until → AllByRecursion (IsScheduled shows until me number) es
under_same shows up_to until me now number es same all until_is = subst (λ n. AllByRecursion (IsScheduled shows until me n) es) same (subst (λ u. AllByRecursion (IsScheduled shows u me now) es) until_is all)
