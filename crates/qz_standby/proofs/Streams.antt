-- A stream before any byte, and how long one is that goes on.
use Rattle.std.proofs.Common.{◌≡◌, inl, inr, ⊎_elim, ℕ, ◌+◌, ◌^◌, ◌<◌, ◌≤◌, List, [], ◌∷◌, ◌++◌, length, take, length-append, refl, sym, ◌∙◌, ap, subst, arith, append-nil}
use Rattle.std.specs.Prelude.{Option, Some, None}
use Rattle.std.proofs.KnownBytes.{Consumes-trans}
use Rattle.std.specs.Io.KnownBytes.{Consumes, IsAtEnd}
use Rattle.qz_journal.specs.Layout.{blocks, end_of}
use Rattle.qz_stream.specs.Blocks.{Splits, IsUnfinished, IsBadPlace}
use Rattle.qz_stream.specs.Standing.{StandsAt}
use Rattle.qz_stream.specs.declared.place.Place.{Place}
use Rattle.qz_stream.specs.declared.place.Place.TheVariants as place
use Rattle.qz_stream.proofs.Once.{no_splits-short}
use Rattle.qz_trigger_store.specs.Kinds.{trigger_kind}
use Rattle.qz_trigger_store.specs.Laws.{trigger_lawful}
use Rattle.qz_types.specs.Entries.{EntryData}
use Rattle.qz_types.specs.Tables.{SchedulerTables}
use Rattle.qz_follow.specs.Following.{Following, IsFollowed, Follows, IsFault, IsEnded}
use Rattle.qz_follow.specs.Payloads.{IsFine, StandsBy}
use Rattle.qz_follow.specs.declared.faults.FollowFault.{FollowFault}
use Rattle.qz_follow.specs.declared.faults.FollowFault.TheVariants as fault
use Rattle.qz_follow.proofs.Gathering.{trigger_gathered}
use Rattle.qz_follow.proofs.Told.{first_fault, end_taken}
use Rattle.qz_standby.specs.Reading.{GoesOn, WasFed, HasRead, HasMet, IsUnread}
use Rattle.qz_standby.specs.declared.errors.Unread.TheVariants as unread
use Rattle.qz_standby.specs.declared.reading.TheConstants.{PIECE, STREAM_LIMIT}

-- Where no byte was fed there is no fault, and no end.

no_splits : (ps : List (List ℕ)) (tail : List ℕ) → Splits [] ps tail → ⊥
no_splits ps tail splits = no_splits-short [] (omega arith) ps tail splits

no_bad : (before : List (List ℕ)) (at : ℕ) → IsBadPlace [] before at → ⊥
no_bad before at (inl front) = omega (arith, front.0.there)
no_bad before at (inr gate) = no_splits before gate.tail gate.splits

no_fault : (v : ℕ) (T : SchedulerTables) (es : List EntryData) (x : FollowFault) → IsFault v [] T es x → ⊥
no_fault v T es (fault.BadStream at) (inl bad) = no_bad bad.before at bad.bad
no_fault v T es (fault.BadStream at) (inr (inl unfit)) = no_splits _ unfit.next.tail unfit.next.splits
no_fault v T es (fault.BadStream at) (inr (inr lack)) = no_splits _ lack.tail lack.splits
no_fault v T es (fault.JournalFull need room) full = no_splits _ full.next.tail full.next.splits
no_fault v T es fault.NoMemory wanting = no_splits _ wanting.next.tail wanting.next.splits

fresh_by : (f : Following) (o : Option FollowFault) → f.fault ≡ o → IsFollowed [] f → f.fault ≡ None
fresh_by f None is followed = is
fresh_by f (Some x) is followed = absurd (no_fault f.version f.start f.entries x (first_fault trigger_kind trigger_lawful trigger_gathered [] f x followed is))

pub fresh_fine : (f : Following) → IsFollowed [] f → f.fault ≡ None
fresh_fine f followed = fresh_by f f.fault refl followed

pub fresh_open : (f : Following) → IsFollowed [] f → IsEnded f → ⊥
fresh_open f followed ended = let end = end_taken trigger_kind trigger_lawful trigger_gathered [] f followed ended.0 ended.1 in no_splits end.0 end.2.tail end.2.splits

-- A stream that goes on has no more bytes than a store may have, a gate and three bytes of a length.

unfinished_short : (gate : ℕ) (tail : List ℕ) → gate < 2 ^ 29 → IsUnfinished gate tail → gate + length tail ≤ STREAM_LIMIT
unfinished_short gate [] low is = omega (arith, low)
unfinished_short gate (first ∷ behind) low is = ⊎_elim (λ few. omega (arith, low, few)) (λ more. omega (arith, more.0.within, more.1)) is.1

split_long : (fed : List ℕ) (ps : List (List ℕ)) (tail : List ℕ) → Splits fed ps tail → length fed ≡ end_of ps + length tail
split_long fed ps tail splits =
    omega (arith, ap length splits.whole, length-append splits.head (blocks ps ++ tail), splits.long, length-append (blocks ps) tail)

stands_short : (p : Place) (fed : List ℕ) (ps : List (List ℕ)) (gate : ℕ) (tail : List ℕ) → StandsAt p fed ps gate tail → (p ≡ place.Ended → ⊥) → (p ≡ place.Bad → ⊥) → length fed ≤ STREAM_LIMIT
stands_short place.Header fed ps gate tail is going_on good = omega (arith, is.short)
stands_short place.Block fed ps gate tail is going_on good =
    omega (arith, split_long fed ps tail is.splits, is.gate_is, unfinished_short gate tail (omega (arith, is.gate_is, is.within)) is.unfinished)
stands_short place.Whole fed ps gate tail is going_on good = omega (arith, split_long fed ps [] is.splits, is.within)
stands_short place.Ended fed ps gate tail is going_on good = absurd (going_on refl)
stands_short place.Bad fed ps gate tail is going_on good = absurd (good refl)

fine_of : (fed : List ℕ) (f : Following) → IsFollowed fed f → f.fault ≡ None → IsFine trigger_kind fed f
fine_of fed f is none = subst (λ (x : Option FollowFault). StandsBy trigger_kind x fed f) none is.stands

pub going_short : (fed : List ℕ) → GoesOn fed → length fed ≤ STREAM_LIMIT
going_short fed going =
    let f = going.follower in
    let fine = fine_of fed f going.followed going.fine in
    stands_short f.standing.place fed fine.payloads f.standing.gate f.standing.tail fine.after.stands (λ ended. going.not_ended (going.fine, ended)) fine.good

-- Bytes that were fed.

module _ (left now : Option (List ℕ)) where
  -- no byte of the last piece is there
  pub stopped : (bytes : List ℕ) (f : Following) → Consumes left now bytes → IsFollowed bytes f → f.fault ≡ None → (IsEnded f → ⊥) → WasFed left now f
  stopped bytes f taken followed fine going_on =
      let going : GoesOn bytes = record { follower = f; followed = followed; fine = fine; not_ended = going_on } in
      record {
        before = bytes;
        piece = [];
        taken = subst (Consumes left now) (sym (append-nil bytes)) taken;
        followed = subst (λ (l : List ℕ). IsFollowed l f) (sym (append-nil bytes)) followed;
        goes_on = going;
        one_piece = omega arith;
        few = omega (arith, going_short bytes going, length-append bytes []);
      }

  -- the input ended
  pub at_end : (mid : Option (List ℕ)) (bytes into : List ℕ) (count : ℕ) (f : Following) → count ≡ 0 → 0 < length into → Consumes left mid bytes → Consumes mid now (take count into) × (count ≡ 0 → 0 < length into → IsAtEnd now) → IsFollowed bytes f → f.fault ≡ None → (IsEnded f → ⊥)
      → HasRead left now f
  at_end mid bytes into count f none some first second followed fine going_on =
      let same : bytes ++ take count into ≡ bytes = ap (λ (n : ℕ). bytes ++ take n into) none ∙ append-nil bytes in
      record {
        fed = stopped bytes f (subst (Consumes left now) same (Consumes-trans left mid now bytes (take count into) first second.0)) followed fine going_on;
        fine = fine;
        end = inr (second.1 none some);
      }

  -- one piece more was fed
  pub fed_more : (mid : Option (List ℕ)) (bytes piece : List ℕ) (f f' : Following) → Consumes left mid bytes → Consumes mid now piece → IsFollowed bytes f → f.fault ≡ None → (IsEnded f → ⊥) → Follows piece f f' → length piece ≤ PIECE → WasFed left now f'
  fed_more mid bytes piece f f' first second followed fine going_on feeds short =
      let going : GoesOn bytes = record { follower = f; followed = followed; fine = fine; not_ended = going_on } in
      record {
        before = bytes;
        piece = piece;
        taken = Consumes-trans left mid now bytes piece first second;
        followed = feeds bytes followed;
        goes_on = going;
        one_piece = short;
        few = omega (arith, going_short bytes going, length-append bytes piece, short);
      }

  -- a fault that was met
  pub met_unread : (x : FollowFault) → HasMet x left now → IsUnread (unread.Stream x) left now
  met_unread (fault.BadStream at) met = met
  met_unread (fault.JournalFull need room) met = met
  met_unread fault.NoMemory met = inr met
