-- What a follower is after its reader's answer.
use Rattle.std.proofs.Common.{◌≡◌, ◌≢◌, ◌∙◌, ℕ, List, [], length, take, refl, sym, ap, subst, arith}
use Rattle.std.specs.Prelude.{Some, None, Result, Ok, Err}
use Rattle.std.proofs.lemmas.List.{take_all}
use Rattle.qz_model.specs.History.{replay_from}
use Rattle.qz_types.specs.Tables.{SchedulerTables}
use Rattle.qz_stream.specs.Standing.{Feeds, Tells, fed_of, handed_at, IsReading}
use Rattle.qz_stream.specs.declared.place.BadStream.{BadStream}
use Rattle.qz_stream.specs.declared.place.Next.{Next}
use Rattle.qz_stream.specs.declared.place.Next.TheVariants as next
use Rattle.qz_stream.specs.declared.place.Place.{Place}
use Rattle.qz_stream.specs.declared.place.Place.TheVariants as place
use Rattle.qz_trigger_store.specs.Kinds.{trigger_kind}
use Rattle.qz_trigger_store.specs.Laws.{trigger_lawful}
use Rattle.qz_follow.proofs.Gathering.{trigger_gathered}
use Rattle.qz_follow.proofs.Steps.{more_next, bad_next, payload_next}
use Rattle.qz_follow.specs.Following.{Following, Follows}
use Rattle.qz_follow.specs.Payloads.{held_of}
use Rattle.qz_follow.specs.Taking.{IsBegun, IsRenewed, Adds}
use Rattle.qz_follow.specs.declared.faults.FollowFault.TheVariants as fault

reading_handed : (p : Place) (tail : List ℕ) → IsReading p → handed_at p tail ≡ []
reading_handed place.Header tail is = refl
reading_handed place.Block tail is = refl
reading_handed place.Whole tail is = absurd is
reading_handed place.Ended tail is = refl
reading_handed place.Bad tail is = refl

reading_good : (p : Place) → IsReading p → p ≢ place.Bad
reading_good p is bad = let no : IsReading place.Bad = subst IsReading bad is in no

-- The reader answered, and the version was taken over. Nothing else has changed.
module _ (bytes : List ℕ) (f g : Following) (r : Result Next BadStream) (none : f.fault ≡ None) (told : Tells r bytes g.standing) (feeds : Feeds (fed_of r bytes) f.standing g.standing)
    (begun : IsBegun g.standing.version f.stage f.version g.version) (renewed : IsRenewed trigger_kind (held_of f) (held_of g)) where
  fed_as : (x : Result Next BadStream) → r ≡ x → Feeds (fed_of x bytes) f.standing g.standing
  fed_as x is = subst (λ (y : Result Next BadStream). Feeds (fed_of y bytes) f.standing g.standing) is feeds

  told_as : (x : Result Next BadStream) → r ≡ x → Tells x bytes g.standing
  told_as x is = subst (λ (y : Result Next BadStream). Tells y bytes g.standing) is told

  -- all bytes were fed
  whole : (h : Following) → Follows bytes f h → Follows (take (length bytes) bytes) f h
  whole h follows = subst (λ (l : List ℕ). Follows l f h) (sym (take_all (length bytes) bytes (omega arith))) follows

  pub reads_more : r ≡ Ok next.More → g.fault ≡ None → Follows (take (length bytes) bytes) f g
  reads_more is no_fault = whole g (λ fed followed.
      more_next trigger_kind trigger_lawful trigger_gathered fed bytes f g followed none (fed_as (Ok next.More) is) begun renewed
      (reading_handed g.standing.place g.standing.tail (told_as (Ok next.More) is)) (reading_good g.standing.place (told_as (Ok next.More) is)) no_fault)

  pub reads_end : r ≡ Ok next.Ended → g.fault ≡ None → Follows (take (length bytes) bytes) f g
  reads_end is no_fault =
      let ended : g.standing.place ≡ place.Ended = told_as (Ok next.Ended) is in
      let good : g.standing.place ≢ place.Bad = λ bad. let no : place.Ended ≡ place.Bad = sym ended ∙ bad in cc in
      whole g (λ fed followed.
      more_next trigger_kind trigger_lawful trigger_gathered fed bytes f g followed none (fed_as (Ok next.Ended) is) begun renewed (ap (λ (p : Place). handed_at p g.standing.tail) ended) good no_fault)

  pub reads_bad : (e : BadStream) → r ≡ Err e → g.fault ≡ Some (fault.BadStream e.at) → Follows (take (length bytes) bytes) f g
  reads_bad e is is_fault =
      let here = told_as (Err e) is in
      whole g (λ fed followed. bad_next trigger_kind trigger_lawful trigger_gathered fed bytes f g followed none (fed_as (Err e) is) begun renewed e.at here.0 here.1 is_fault)

  pub reads_payload : (used : ℕ) (T : SchedulerTables) (h : Following) → r ≡ Ok (next.Payload used) → T ≡ replay_from g.start g.entries → Adds trigger_kind T g h → Follows (take used bytes) f h
  reads_payload used T h is state adds fed followed =
      payload_next trigger_kind trigger_lawful trigger_gathered fed (take used bytes) f g followed none (fed_as (Ok (next.Payload used)) is) begun renewed (told_as (Ok (next.Payload used)) is).0 T h state adds
