-- After a fault all bytes are passed over.
use Rattle.std.proofs.Common.{◌≡◌, inl, inr, ℕ, ◌≤◌, length, List, [], ◌∷◌, ◌++◌, refl, sym, subst, arith, append-nil}
use Rattle.std.specs.Prelude.{Option, Some}
use Rattle.qz_stores.specs.Kinds.{StoreKind}
use Rattle.qz_journal.specs.Slots.{slots_of}
use Rattle.qz_journal.specs.declared.slots.Slots.{Slots}
use Rattle.qz_stream.proofs.Fronts.{version-more, slots_more}
use Rattle.qz_stream.proofs.Parts.{splits-append, splits-long}
use Rattle.qz_stream.proofs.Steps.{feeds-over}
use Rattle.qz_stream.specs.Blocks.{IsBadPlace}
use Rattle.qz_stream.specs.Front.{IsVersionOf}
use Rattle.qz_stream.specs.Standing.{Standing, IsAfter}
use Rattle.qz_stream.specs.declared.place.Place.TheVariants as place
use Rattle.qz_follow.proofs.Froms.{base_some}
use Rattle.qz_follow.specs.Payloads.{AreRead, LackBase, AreSound, HasNext, IsFault, Following, IsStuck, StandsBy, IsFollowed}
use Rattle.qz_follow.specs.declared.faults.FollowFault.{FollowFault}
use Rattle.qz_follow.specs.declared.faults.FollowFault.TheVariants as fault

next_more : (fed more payload : List ℕ) (before : List (List ℕ)) → HasNext fed before payload → HasNext (fed ++ more) before payload
next_more fed more payload before next = record { tail = next.tail ++ more; splits = splits-append fed more (before ++ payload ∷ []) next.tail next.splits; within = next.within }

-- the version stays where a payload is whole
version_next : (fed more payload : List ℕ) (before : List (List ℕ)) (told : Option ℕ) → HasNext fed before payload → IsVersionOf fed told → IsVersionOf (fed ++ more) told
version_next fed more payload before told next is = version-more fed more told (omega (arith, splits-long fed (before ++ payload ∷ []) next.tail next.splits)) is

-- and where the bytes are bad
bad_over : (fed more : List ℕ) (ps : List (List ℕ)) (at : ℕ) (told : Option ℕ) → IsBadPlace fed ps at → IsVersionOf fed told → IsBadPlace (fed ++ more) ps at × IsVersionOf (fed ++ more) told
bad_over fed more ps at told bad is =
    let s : Standing = record { version = told; slots = slots_of fed; place = place.Bad; gate = at; tail = [] } in
    let here : IsAfter fed ps s = record { version = is; slots = λ _ _. refl; stands = bad } in
    let after : IsAfter (fed ++ more) (ps ++ []) s = feeds-over s more (inr refl) fed ps here in
    (subst (λ (l : List (List ℕ)). IsBadPlace (fed ++ more) l at) (append-nil ps) after.stands, after.version)

module _ {H S E R : Type 0} (k : StoreKind H S E R) (v : ℕ) (start : S) (es : List E) where
  -- without payloads the slots aren't looked at
  sound_nil : (s t : Slots) → AreSound k v s [] start es → AreSound k v t [] start es
  sound_nil s t (inl (end, read)) =
      inl (end, record { from = read.from; begin = record { are_from = read.begin.are_from; count = read.begin.count; base = read.begin.base }; taken = read.taken; room = read.room; end_is = read.end_is })
  sound_nil s t (inr awaits) = absurd (base_some k s [] awaits.slot awaits.base.in_use refl)

  sound_over : (fed more : List ℕ) (ps : List (List ℕ)) → 16 ≤ length fed → AreSound k v (slots_of fed) ps start es → AreSound k v (slots_of (fed ++ more)) ps start es
  sound_over fed more ps long sound = subst (λ (x : Slots). AreSound k v x ps start es) (sym (slots_more fed more long)) sound

  sound_bad : (fed more : List ℕ) (ps : List (List ℕ)) (at : ℕ) → IsBadPlace fed ps at → AreSound k v (slots_of fed) ps start es → AreSound k v (slots_of (fed ++ more)) ps start es
  sound_bad fed more ps at (inl front) sound =
      subst (λ (l : List (List ℕ)). AreSound k v (slots_of (fed ++ more)) l start es) (sym front.1)
      (sound_nil (slots_of fed) (slots_of (fed ++ more)) (subst (λ (l : List (List ℕ)). AreSound k v (slots_of fed) l start es) front.1 sound))
  sound_bad fed more ps at (inr gate) sound = sound_over fed more ps (splits-long fed ps gate.tail gate.splits) sound

  read_over : (fed more : List ℕ) (ps : List (List ℕ)) (end : ℕ) → 16 ≤ length fed → AreRead k v (slots_of fed) ps start es end → AreRead k v (slots_of (fed ++ more)) ps start es end
  read_over fed more ps end long read = subst (λ (x : Slots). AreRead k v x ps start es end) (sym (slots_more fed more long)) read

next_long : (fed payload : List ℕ) (before : List (List ℕ)) → HasNext fed before payload → 16 ≤ length fed
next_long fed payload before next = splits-long fed (before ++ payload ∷ []) next.tail next.splits

module _ {H S E R : Type 0} (k : StoreKind H S E R) (fed more : List ℕ) (v : ℕ) (start : S) (es : List E) (told : Option ℕ) (is : IsVersionOf fed told) where
  -- the first fault stays the first
  fault_over : (x : FollowFault) → IsFault k v fed start es x → IsFault k v (fed ++ more) start es x × IsVersionOf (fed ++ more) told
  fault_over (fault.BadStream at) (inl bad) =
      let stays = bad_over fed more bad.before at told bad.bad is in (inl (record { before = bad.before; bad = stays.0; sound = sound_bad k v start es fed more bad.before at bad.bad bad.sound }), stays.1)
  fault_over (fault.BadStream at) (inr (inl unfit)) = (
    inr (inl (record {
      before = unfit.before;
      payload = unfit.payload;
      next = next_more fed more unfit.payload unfit.before unfit.next;
      end = unfit.end;
      read = read_over k v start es fed more unfit.before unfit.end (next_long fed unfit.payload unfit.before unfit.next) unfit.read;
      at_is = unfit.at_is;
      no_part = unfit.no_part;
      unfit = unfit.unfit;
    })),
    version_next fed more unfit.payload unfit.before told unfit.next is,
  )
  fault_over (fault.BadStream at) (inr (inr lack)) =
      let long = splits-long fed lack.payloads lack.tail lack.splits in (
        inr (inr (record {
          payloads = lack.payloads;
          tail = lack.tail ++ more;
          splits = splits-append fed more lack.payloads lack.tail lack.splits;
          within = lack.within;
          lack = subst (λ (x : Slots). LackBase k x lack.payloads at) (sym (slots_more fed more long)) lack.lack;
          start_is = lack.start_is;
          none = lack.none;
        })),
        version-more fed more told (omega (arith, long)) is,
      )
  fault_over (fault.JournalFull need room) full = (
    record {
      before = full.before;
      payload = full.payload;
      next = next_more fed more full.payload full.before full.next;
      end = full.end;
      read = read_over k v start es fed more full.before full.end (next_long fed full.payload full.before full.next) full.read;
      entry = full.entry;
      is_record = full.is_record;
      accepted = full.accepted;
      full = full.full;
    },
    version_next fed more full.payload full.before told full.next is,
  )
  fault_over fault.NoMemory wanting = (
    record {
      before = wanting.before;
      payload = wanting.payload;
      next = next_more fed more wanting.payload wanting.before wanting.next;
      sound = sound_over k v start es fed more wanting.before (next_long fed wanting.payload wanting.before wanting.next) wanting.sound;
    },
    version_next fed more wanting.payload wanting.before told wanting.next is,
  )

module _ {H S E R : Type 0} (k : StoreKind H S E R) where
  pub over : (fed more : List ℕ) (f : Following S E) (x : FollowFault) → f.fault ≡ Some x → IsFollowed k fed f → IsFollowed k (fed ++ more) f
  over fed more f x is_fault is =
      let stuck : IsStuck k fed f x = subst (λ (o : Option FollowFault). StandsBy k o fed f) is_fault is.stands in
      let stays = fault_over k fed more f.version f.start f.entries is.told is.version x stuck.first in
      let still : IsStuck k (fed ++ more) f x = record { first = stays.0; headed = stuck.headed } in
      record { told = is.told; version = stays.1; version_is = is.version_is; stands = subst (λ (o : Option FollowFault). StandsBy k o (fed ++ more) f) (sym is_fault) still }
