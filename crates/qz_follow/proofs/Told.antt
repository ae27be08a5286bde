-- What a follower tells of the bytes that were fed.
use Rattle.std.proofs.Common.{◌≡◌, ◌≢◌, ◌⊎◌, ⊎_elim, inl, inr, ℕ, ◌+◌, ◌<◌, ◌≤◌, true, false, List, [], ◌∷◌, ◌++◌, length, drop, if◌then◌else◌, refl, sym, ◌∙◌, ap, subst, arith, append_assoc, append-nil}
use Rattle.std.specs.Prelude.{Option, Some, None, Bool, unwrap_or}
use Rattle.std.specs.List.{AllZip}
use Rattle.std.proofs.Math.Logic.{∥∥₁_elim, ∥∥₁_map}
use Rattle.std.proofs.Props.{props}
use Rattle.qz_journal.proofs.Marks.{AreSlots, offset_is}
use Rattle.qz_journal.proofs.TrueTails.{InUse, greater_in_use}
use Rattle.qz_journal.specs.Commits.{IsFull, HaveRoom}
use Rattle.qz_journal.specs.Layout.{Holds, blocks, end_of}
use Rattle.qz_journal.specs.Slots.{slot as slot_of, slots_of, slot_in_use, offset_in}
use Rattle.qz_journal.specs.Tails.{start_at, start_of}
use Rattle.qz_journal.specs.declared.slots.Slots.{Slots}
use Rattle.qz_stores.proofs.Once.{none_unfit}
use Rattle.qz_stores.proofs.Whole.{records_append, one_record, recorded_once, recorded_back, recorded_few, have_records, legal_front}
use Rattle.qz_stores.specs.Bases.{records, RecordEntries, HoldAll, IsSnapshotAt}
use Rattle.qz_stores.specs.Bytes.{Encode}
use Rattle.qz_stores.specs.Kinds.{StoreKind, IsLawful}
use Rattle.qz_stores.specs.Opening.{BeginWell, IsBase}
use Rattle.qz_stream.proofs.Faults.{bad_told, end_told}
use Rattle.qz_stream.proofs.Once.{splits-compared, no_block-less, no_splits-short, taken-after, taken-before, taken_once}
use Rattle.qz_stream.proofs.Stores.{store-taken, holds-store}
use Rattle.qz_stream.specs.Blocks.{Splits, AreTaken, IsEnd}
use Rattle.qz_stream.specs.Standing.{StandsAt, length_at, header_length_of}
use Rattle.qz_stream.specs.declared.place.Place.{Place}
use Rattle.qz_stream.specs.declared.place.Place.TheVariants as place
use Rattle.qz_follow.proofs.Bases.{counted, base_still, come_sound}
use Rattle.qz_follow.proofs.Froms.{end_append, from_once, from_more, from_all, Reaches, reaches, base_more, base_some, base_in_use, base_start}
use Rattle.qz_follow.proofs.Gathering.{AreGathered}
use Rattle.qz_follow.proofs.Rooms.{full_not}
use Rattle.qz_follow.specs.Payloads.{base_slot, AreFrom, BeginFrom, AreRead, AwaitBase, LackBase, AreAwaited, AreSound, HaveEntries, HasTaken, IsFollowable, HasNext, IsFault, Following, held_of, IsFine, IsStuck, StandsBy, IsFollowed, IsSeen}
use Rattle.qz_follow.specs.declared.faults.FollowFault.{FollowFault}
use Rattle.qz_follow.specs.declared.faults.FollowFault.TheVariants as fault

-- payloads that the bytes have are the first of all that they have
begins : (bytes : List ℕ) (ps qs : List (List ℕ)) (tail : List ℕ) → Splits bytes ps tail → AreTaken bytes qs → (more : List (List ℕ)) × (qs ≡ ps ++ more)
begins bytes ps qs tail splits (inr none) = absurd (none.1 ps tail splits)
begins bytes ps qs tail splits (inl taken) =
    ⊎_elim (λ same. ([], sym same.0 ∙ sym (append-nil ps)))
    (λ less. ⊎_elim (λ l. (l.next ∷ l.more, l.are)) (λ l. absurd (no_block-less qs ps taken.0 taken.2 l)) less)
    (splits-compared bytes ps qs tail taken.0 splits taken.1)

next_begins : (bytes : List ℕ) (before qs : List (List ℕ)) (payload : List ℕ) → HasNext bytes before payload → AreTaken bytes qs → (more : List (List ℕ)) × (qs ≡ before ++ payload ∷ more)
next_begins bytes before qs payload next taken =
    let found = begins bytes (before ++ payload ∷ []) qs next.tail next.splits taken in
    (found.0, found.1 ∙ append_assoc before (payload ∷ []) found.0)

-- where the header isn't whole
header_told-at : (p : Place) (fed : List ℕ) (ps : List (List ℕ)) (gate : ℕ) (tail : List ℕ) (n : ℕ) → StandsAt p fed ps gate tail → length_at p tail ≡ Some n → (n ≡ length fed) × (length fed < 16)
header_told-at place.Header fed ps gate tail n is told = let same : length tail ≡ n = cc in (sym same ∙ ap length is.tail_is, is.short)
header_told-at place.Block fed ps gate tail n is told = absurd (cc)
header_told-at place.Whole fed ps gate tail n is told = absurd (cc)
header_told-at place.Ended fed ps gate tail n is told = absurd (cc)
header_told-at place.Bad fed ps gate tail n is told = absurd (cc)

header_short-at : (p : Place) (fed : List ℕ) (ps : List (List ℕ)) (gate : ℕ) (tail : List ℕ) → StandsAt p fed ps gate tail → length fed < 16 → p ≢ place.Bad → length_at p tail ≡ Some (length fed)
header_short-at place.Header fed ps gate tail is short good = ap (λ (l : List ℕ). Some (length l)) is.tail_is
header_short-at place.Block fed ps gate tail is short good = absurd (no_splits-short fed short ps tail is.splits)
header_short-at place.Whole fed ps gate tail is short good = absurd (no_splits-short fed short ps [] is.splits)
header_short-at place.Ended fed ps gate tail is short good = absurd (no_splits-short fed short ps is.tail is.splits)
header_short-at place.Bad fed ps gate tail is short good = absurd (good refl)

no_header : (p : Place) (tail : List ℕ) (n : ℕ) → p ≢ place.Header → length_at p tail ≡ Some n → ⊥
no_header place.Header tail n other told = other refl
no_header place.Block tail n other told = cc
no_header place.Whole tail n other told = cc
no_header place.Ended tail n other told = cc
no_header place.Bad tail n other told = cc

next_long : (fed : List ℕ) (before : List (List ℕ)) (payload : List ℕ) → HasNext fed before payload → length fed < 16 → ⊥
next_long fed before payload next short = no_splits-short fed short (before ++ payload ∷ []) next.tail next.splits

none_blocks : (xs : List (List ℕ)) → length (blocks xs) ≡ 0 → xs ≡ []
none_blocks [] is = refl
none_blocks (x ∷ xs) is = absurd (omega (arith, is))

nil_parts : (b xs : List (List ℕ)) → [] ≡ b ++ xs → xs ≡ []
nil_parts [] xs is = sym is
nil_parts (x ∷ b) xs is = absurd (omega (arith, ap length is))

module _ {H S E R : Type 0} (k : StoreKind H S E R) (lawful : IsLawful k) (gathered : AreGathered k) where
  -- the records of some payloads, one, and others
  records_with : (before more : List (List ℕ)) (p : List ℕ) → k.is_part p ≡ false → records k (before ++ p ∷ more) ≡ records k before ++ p ∷ records k more
  records_with before more p is =
      ap (records k) (sym (append_assoc before (p ∷ []) more)) ∙ records_append k (before ++ p ∷ []) more
      ∙ ap (λ (l : List (List ℕ)). l ++ records k more) (records_append k before (p ∷ []) ∙ ap (λ (l : List (List ℕ)). records k before ++ l) (one_record k p is))
      ∙ append_assoc (records k before) (p ∷ []) (records k more)

  -- the entries of the first payloads are the first entries
  zip_front : (xs ys : List (List ℕ)) (es fs : List E) → AllZip k.IsRecordOf xs es → AllZip k.IsRecordOf (xs ++ ys) fs → fs ≡ es ++ drop (length es) fs
  zip_front [] ys [] fs p q = refl
  zip_front [] ys (e ∷ es) fs p q = absurd p
  zip_front (x ∷ xs) ys [] fs p q = absurd p
  zip_front (x ∷ xs) ys (e ∷ es) [] p q = absurd q
  zip_front (x ∷ xs) ys (e ∷ es) (f ∷ fs) p q =
      let first : f ≡ e = lawful.records_once x f e q.0 p.0 in
      let rest : fs ≡ es ++ drop (length es) fs = zip_front xs ys es fs p.1 q.1 in
      λ i. first i ∷ rest i

  front_entries : (ps qs more : List (List ℕ)) (es fs : List E) → qs ≡ ps ++ more → RecordEntries k ps es → RecordEntries k qs fs → fs ≡ es ++ drop (length es) fs
  front_entries ps qs more es fs is one all =
      ∥∥₁_elim one (k.lists_once fs (es ++ drop (length es) fs)) (λ x. ∥∥₁_elim all (k.lists_once fs (es ++ drop (length es) fs))
      (λ y. zip_front (records k ps) (records k more) es fs x (subst (λ (l : List (List ℕ)). AllZip k.IsRecordOf l fs) (ap (records k) is ∙ records_append k ps more) y)))

  -- ---- what payloads begin with

  have_of : (v : ℕ) (slots : Slots) (ps : List (List ℕ)) (start : S) (es : List E) → AreSound k v slots ps start es → HaveEntries k v slots ps start es
  have_of v slots ps start es (inl (end, read)) = inl (read.from, read.begin, read.taken.recorded)
  have_of v slots ps start es (inr awaited) = inr awaited

  base_once : (o : Option ℕ) (v n m : ℕ) (xs : List (List ℕ)) (T U : S) → IsBase k o v xs T n → IsBase k o v xs U m → T ≡ U
  base_once None v n m xs T U p q = p.0 ∙ sym q.0
  base_once (Some slot) v n m xs T U p q = (lawful.snapshots_once xs T U p.before q.before n m p.snapshot q.snapshot).0

  begin_once : (v : ℕ) (slots : Slots) (ps xs ys : List (List ℕ)) (T U : S) → BeginFrom k v slots ps xs T → BeginFrom k v slots ps ys U → (xs ≡ ys) × (T ≡ U)
  begin_once v slots ps xs ys T U p q =
      let same = from_once (start_at (base_slot k slots ps) slots) ps xs ys p.are_from q.are_from in
      (same, base_once (base_slot k slots ps) v p.count q.count ys T U (subst (λ (l : List (List ℕ)). IsBase k (base_slot k slots ps) v l T p.count) same p.base) q.base)

  -- more payloads come
  begin_on : (v : ℕ) (slots : Slots) (ps more xs : List (List ℕ)) (T : S) → base_slot k slots (ps ++ more) ≡ base_slot k slots ps → BeginFrom k v slots ps xs T → BeginFrom k v slots (ps ++ more) (xs ++ more) T
  begin_on v slots ps more xs T same b = record {
    are_from = subst (λ (o : Option ℕ). AreFrom (start_at o slots) (ps ++ more) (xs ++ more)) (sym same) (from_more (start_at (base_slot k slots ps) slots) ps xs more b.are_from);
    count = b.count;
    base = subst (λ (o : Option ℕ). IsBase k o v (xs ++ more) T b.count) (sym same) (base_still k lawful (base_slot k slots ps) v b.count xs more T b.base);
  }

  well_some : (xs : List (List ℕ)) (T : S) (n : ℕ) → BeginWell k xs T n → xs ≡ [] → ⊥
  well_some xs T n well none =
      let h = lawful.headed xs T well.before n well.snapshot in
      omega (arith, ap length (sym none ∙ h.2))

  -- what begins at a slot
  well_at : (v : ℕ) (slots : Slots) (ps xs : List (List ℕ)) (T : S) (slot : ℕ) → base_slot k slots ps ≡ Some slot → (b : BeginFrom k v slots ps xs T) → AreFrom (start_of slots) ps xs × BeginWell k xs T b.count
  well_at v slots ps xs T slot in_use b =
      (subst (λ (n : ℕ). AreFrom n ps xs) (base_start k slots ps slot in_use) b.are_from, subst (λ (o : Option ℕ). IsBase k o v xs T b.count) in_use b.base)

  not_awaited : (v : ℕ) (slots : Slots) (ps xs : List (List ℕ)) (T U : S) (es : List E) → AreAwaited k v slots ps T es → BeginFrom k v slots ps xs U → ⊥
  not_awaited v slots ps xs T U es a b =
      let w = well_at v slots ps xs U a.slot a.base.in_use b in
      ⊎_elim
      (λ early. well_some xs U b.count w.1 (none_blocks xs (omega (arith, early.1, w.0.offset_is, ap end_of w.0.parts, end_append w.0.before xs))))
      (λ there. gathered.not_both xs U b.count (subst k.AreCutShort (from_once (start_of slots) ps a.parts xs there.0 w.0) there.1) w.1)
      a.base.short

  entries_once : (v : ℕ) (slots : Slots) (ps : List (List ℕ)) (T U : S) (es fs : List E) → HaveEntries k v slots ps T es → HaveEntries k v slots ps U fs → (T ≡ U) × (es ≡ fs)
  entries_once v slots ps T U es fs (inl p) (inl q) =
      let same = begin_once v slots ps p.0 q.0 T U p.1 q.1 in
      (same.1, recorded_once k lawful q.0 es fs (subst (λ (l : List (List ℕ)). RecordEntries k l es) same.0 p.2) q.2)
  entries_once v slots ps T U es fs (inl p) (inr q) = absurd (not_awaited v slots ps p.0 U T fs q p.1)
  entries_once v slots ps T U es fs (inr p) (inl q) = absurd (not_awaited v slots ps q.0 T U es p q.1)
  entries_once v slots ps T U es fs (inr p) (inr q) = (p.start_is ∙ sym q.start_is, p.none ∙ sym q.none)

  fine : (fed : List ℕ) (f : Following S E) → IsFollowed k fed f → f.fault ≡ None → IsFine k fed f
  fine fed f is none = subst (λ (x : Option FollowFault). StandsBy k x fed f) none is.stands

  sound_of : (fed : List ℕ) (f : Following S E) → (here : IsFine k fed f) → AreSound k f.version (slots_of fed) here.payloads f.start f.entries
  sound_of fed f here = come_sound k lawful f.stage (slots_of fed) here.payloads (held_of f) here.come

  taken_fine : (fed : List ℕ) (f : Following S E) → IsFine k fed f → HasTaken k f.version fed f.start f.entries
  taken_fine fed f here = record {
    payloads = here.payloads;
    whole = taken-after fed here.payloads f.standing here.after here.good;
    have = have_of f.version (slots_of fed) here.payloads f.start f.entries (sound_of fed f here);
  }

  -- Without a fault all entries of the bytes were taken.
  pub all_taken : (fed : List ℕ) (f : Following S E) → IsFollowed k fed f → f.fault ≡ None → HasTaken k f.version fed f.start f.entries
  all_taken fed f is none = taken_fine fed f (fine fed f is none)

  pub one_taken : (v : ℕ) (bytes : List ℕ) (T U : S) (es fs : List E) → HasTaken k v bytes T es → HasTaken k v bytes U fs → (T ≡ U) × (es ≡ fs)
  one_taken v bytes T U es fs p q =
      let same : q.payloads ≡ p.payloads = taken_once bytes q.payloads p.payloads q.whole p.whole in
      entries_once v (slots_of bytes) p.payloads T U es fs p.have (subst (λ (l : List (List ℕ)). HaveEntries k v (slots_of bytes) l U fs) same q.have)

  -- ---- the bytes of a store

  start_is : (s : Slots) (gate offset : ℕ) → slot_in_use s ≡ Some gate → offset_in s gate ≡ Some offset → start_of s ≡ offset
  start_is s gate offset in_use is = ap (λ (o : Option ℕ). start_at o s) in_use ∙ ap (λ (o : Option ℕ). unwrap_or o 16) is

  module _ (v : ℕ) (O : S) (bytes : List ℕ) (es : List E) (triggers : k.number ≡ 84) (held : HoldAll k v O bytes es) where
    abbrev own : List (List ℕ)
    own = held.store.0

    abbrev marks : Slots
    marks = slots_of bytes

    whole : AreTaken bytes own
    whole = store-taken bytes v own (holds-store bytes v own (subst (λ n. Holds bytes v n own) triggers held.store.1))

    abbrev pub IsTold : Type 0
    IsTold = (earlier : List E) × (later : List E) × (es ≡ earlier ++ later) × HasTaken k v bytes (k.replay_from O earlier) later

    plain : base_slot k marks own ≡ None → O ≡ k.empty v → IsTold
    plain none new = (
      [],
      es,
      refl,
      record {
        payloads = own;
        whole = whole;
        have = inl (
          own,
          record {
            are_from = subst (λ (o : Option ℕ). AreFrom (start_at o marks) own own) (sym none) (from_all own);
            count = 0;
            base = subst (λ (o : Option ℕ). IsBase k o v own (k.replay_from O []) 0) (sym none) (lawful.replay_none O ∙ new, refl);
          },
          held.recorded own held.store.1,
        );
      },
    )

    based : (slot offset : ℕ) → base_slot k marks own ≡ Some slot → start_of marks ≡ offset → k.IsValid O → k.IsLegalFrom O es → IsSnapshotAt k O own es offset → ∥ IsTold ∥₁
    based slot offset in_use offset_at valid legal snap =
        ∥∥₁_elim snap.recorded squash₁ (λ zip.
        ∥∥₁_map (lawful.valid_left O snap.earlier valid (have_records k (records k snap.before) snap.earlier zip) (legal_front k lawful O snap.earlier snap.later (subst (k.IsLegalFrom O) snap.entries_are legal))) (λ left. (
          snap.earlier,
          snap.later,
          snap.entries_are,
          record {
            payloads = own;
            whole = whole;
            have = inl (
              snap.from,
              record {
                are_from = record { before = snap.before; parts = snap.payloads_are; offset_is = base_start k marks own slot in_use ∙ offset_at ∙ snap.offset_is };
                count = length snap.earlier;
                base = subst (λ (o : Option ℕ). IsBase k o v snap.from (k.replay_from O snap.earlier) (length snap.earlier)) (sym in_use)
                    (record { before = length snap.before; snapshot = snap.snapshot; counted = recorded_few k snap.before snap.earlier zip; valid = left });
              },
              recorded_back k snap.before snap.from snap.earlier snap.later snap.recorded
                  (subst (λ (l : List E). RecordEntries k (snap.before ++ snap.from) l) snap.entries_are (subst (λ (l : List (List ℕ)). RecordEntries k l es) snap.payloads_are (held.recorded own held.store.1))),
            );
          },
        )))

    at_slot : (slot : ℕ) → base_slot k marks own ≡ Some slot → ∥ IsTold ∥₁
    at_slot slot in_use = ⊎_elim
        (λ none. let no : ◌≡◌ {A = Option ℕ} None (Some slot) = sym none ∙ base_in_use k marks own slot in_use in absurd (cc))
        (λ (found : InUse marks).
        let there : slot_of found.gate bytes ≡ Some found.offset = sym (offset_is found.gate marks bytes found.is_slot (record { a = refl; b = refl })) ∙ found.offset_is in
        ∥∥₁_elim held.valid squash₁ (λ valid. ∥∥₁_elim held.legal squash₁ (λ legal. ∥∥₁_elim (held.slots own held.store.1 found.gate found.offset found.is_slot there) squash₁
        (based slot found.offset in_use (start_is marks found.gate found.offset found.in_use found.offset_is) valid legal))))
        (greater_in_use marks.a marks.b)

    told_at : (o : Option ℕ) → base_slot k marks own ≡ o → IsFollowable k v O bytes → ∥ IsTold ∥₁
    told_at None none (inl new) = ∣ plain none new ∣₁
    told_at None none (inr (qs, slot, holds, is)) =
        let same : qs ≡ own = taken_once bytes qs own (store-taken bytes v qs (holds-store bytes v qs (subst (λ n. Holds bytes v n qs) triggers holds))) whole in
        let no : ◌≡◌ {A = Option ℕ} None (Some slot) = sym none ∙ ap (base_slot k marks) (sym same) ∙ is in
        absurd (cc)
    told_at (Some slot) in_use way = at_slot slot in_use

    pub store_taken : IsFollowable k v O bytes → ∥ IsTold ∥₁
    store_taken way = told_at (base_slot k marks own) refl way

  -- ---- with a fault the first of them were taken

  none_recorded : (es : List E) → RecordEntries k [] es → es ≡ []
  none_recorded es recorded = recorded_once k lawful [] es [] recorded ∣ tt ∣₁

  abbrev IsFront : S → S → List E → List E → Type 0
  IsFront T U es fs = (fs ≡ es ++ drop (length es) fs) × ((T ≡ U) ⊎ (es ≡ []))

  none_front : (T U : S) (es fs : List E) → es ≡ [] → IsFront T U es fs
  none_front T U es fs none = (subst (λ (l : List E). fs ≡ l ++ drop (length l) fs) (sym none) refl, inr none)

  begin_front : (v : ℕ) (slots : Slots) (ps more xs : List (List ℕ)) (T U : S) (es fs : List E) → (ps ≡ [] → ⊥) → BeginFrom k v slots ps xs T → RecordEntries k xs es → HaveEntries k v slots (ps ++ more) U fs → IsFront T U es fs
  begin_front v slots ps more xs T U es fs some b recorded (inl q) =
      let same = begin_once v slots (ps ++ more) (xs ++ more) q.0 T U (begin_on v slots ps more xs T (base_more k slots ps more some) b) q.1 in
      (front_entries xs q.0 more es fs (sym same.0) recorded q.2, inl same.1)
  begin_front v slots ps more xs T U es fs some b recorded (inr q) = absurd (not_awaited v slots (ps ++ more) (xs ++ more) U T fs q (begin_on v slots ps more xs T (base_more k slots ps more some) b))

  have_front : (v : ℕ) (slots : Slots) (ps more : List (List ℕ)) (T U : S) (es fs : List E) → HaveEntries k v slots ps T es → HaveEntries k v slots (ps ++ more) U fs → IsFront T U es fs
  have_front v slots [] more T U es fs (inl p) q =
      none_front T U es fs (none_recorded es (subst (λ (l : List (List ℕ)). RecordEntries k l es) (nil_parts p.1.are_from.before p.0 p.1.are_from.parts) p.2))
  have_front v slots (p1 ∷ ps) more T U es fs (inl p) q =
      let some : p1 ∷ ps ≡ [] → ⊥ = λ none. omega (arith, ap length none) in
      begin_front v slots (p1 ∷ ps) more p.0 T U es fs some p.1 p.2 q
  have_front v slots ps more T U es fs (inr p) q = none_front T U es fs p.none

  front_as : (v : ℕ) (fed : List ℕ) (ps more : List (List ℕ)) (T U : S) (es fs : List E) → AreSound k v (slots_of fed) ps T es → (all : HasTaken k v fed U fs) → all.payloads ≡ ps ++ more → IsFront T U es fs
  front_as v fed ps more T U es fs sound all is =
      have_front v (slots_of fed) ps more T U es fs (have_of v (slots_of fed) ps T es sound) (subst (λ (l : List (List ℕ)). HaveEntries k v (slots_of fed) l U fs) is all.have)

  fault_front : (v : ℕ) (fed : List ℕ) (T U : S) (es fs : List E) (x : FollowFault) → IsFault k v fed T es x → HasTaken k v fed U fs → IsFront T U es fs
  fault_front v fed T U es fs (fault.BadStream at) (inl bad) all =
      let found = taken-before fed bad.before all.payloads at bad.bad all.whole in front_as v fed bad.before found.0 T U es fs bad.sound all found.1
  fault_front v fed T U es fs (fault.BadStream at) (inr (inl unfit)) all =
      let found = next_begins fed unfit.before all.payloads unfit.payload unfit.next all.whole in front_as v fed unfit.before (unfit.payload ∷ found.0) T U es fs (inl (unfit.end, unfit.read)) all found.1
  fault_front v fed T U es fs (fault.BadStream at) (inr (inr lack)) all = none_front T U es fs lack.none
  fault_front v fed T U es fs (fault.JournalFull need room) full all =
      let found = next_begins fed full.before all.payloads full.payload full.next all.whole in front_as v fed full.before (full.payload ∷ found.0) T U es fs (inl (full.end, full.read)) all found.1
  fault_front v fed T U es fs fault.NoMemory wanting all =
      let found = next_begins fed wanting.before all.payloads wanting.payload wanting.next all.whole in front_as v fed wanting.before (wanting.payload ∷ found.0) T U es fs wanting.sound all found.1

  front_by : (o : Option FollowFault) (fed : List ℕ) (f : Following S E) (U : S) (fs : List E) → StandsBy k o fed f → HasTaken k f.version fed U fs → IsFront f.start U f.entries fs
  front_by None fed f U fs here all =
      let same = taken_once fed all.payloads here.payloads all.whole (taken-after fed here.payloads f.standing here.after here.good) in
      front_as f.version fed here.payloads [] f.start U f.entries fs (sound_of fed f here) all (same ∙ sym (append-nil here.payloads))
  front_by (Some x) fed f U fs here all = fault_front f.version fed f.start U f.entries fs x here.first all

  pub first_taken : (fed : List ℕ) (f : Following S E) (U : S) (fs : List E) → IsFollowed k fed f → HasTaken k f.version fed U fs → ((more : List E) × (fs ≡ f.entries ++ more)) × ((f.start ≡ U) ⊎ (f.entries ≡ []))
  first_taken fed f U fs is all = let front = front_by f.fault fed f U fs is.stands all in ((drop (length f.entries) fs, front.0), front.1)

  -- ---- Where the bytes have a fault, the follower has one.

  no_base : (ps more : List (List ℕ)) (slots : Slots) (p : List ℕ) → k.is_part p ≡ false → base_slot k slots (ps ++ p ∷ more) ≡ base_slot k slots ps
  no_base [] more slots p is = ap (λ (b : Bool). if◌then◌else◌ {A = Option ℕ} b (slot_in_use slots) None) is
  no_base (q ∷ ps) more slots p is = refl

  -- payloads that go on with one that is no part
  record Goes (v : ℕ) (slots : Slots) (before more : List (List ℕ)) (p : List ℕ) (T U : S) (es : List E) (end : ℕ) (fs : List E) (read : AreRead k v slots before T es end) : Type 0 where
    pub start : T ≡ U
    pub recorded : Encode k (records k read.from ++ p ∷ records k more) fs
    pub legal : k.IsLegalFrom T fs
    pub room : HaveRoom (records k read.from ++ p ∷ records k more) 16 0

  goes : (v : ℕ) (slots : Slots) (before more : List (List ℕ)) (p : List ℕ) (T U : S) (es : List E) (end : ℕ) (fs : List E) → k.is_part p ≡ false → (read : AreRead k v slots before T es end) → AreSound k v slots (before ++ p ∷ more) U fs
      → Goes v slots before more p T U es end fs read
  goes v slots before more p T U es end fs other read (inl (last, all)) =
      let on = begin_on v slots before (p ∷ more) read.from T (no_base before more slots p other) read.begin in
      let same = begin_once v slots (before ++ p ∷ more) (read.from ++ p ∷ more) all.from T U on all.begin in
      let whole : records k all.from ≡ records k read.from ++ p ∷ records k more = ap (records k) (sym same.0) ∙ records_with read.from more p other in
      record {
        start = same.1;
        recorded = subst (λ (l : List (List ℕ)). Encode k l fs) whole all.taken.recorded;
        legal = subst (λ (W : S). k.IsLegalFrom W fs) (sym same.1) all.taken.legal;
        room = subst (λ (l : List (List ℕ)). HaveRoom l 16 0) whole all.room;
      }
  goes v slots before more p T U es end fs other read (inr awaited) =
      absurd (not_awaited v slots (before ++ p ∷ more) (read.from ++ p ∷ more) U T fs awaited (begin_on v slots before (p ∷ more) read.from T (no_base before more slots p other) read.begin))

  no_lack : (v : ℕ) (slots : Slots) (ps more : List (List ℕ)) (at : ℕ) (U : S) (fs : List E) → LackBase k slots ps at → AreSound k v slots (ps ++ more) U fs → ⊥
  no_lack v slots ps more at U fs lack (inl (end, read)) =
      let in_use : base_slot k slots (ps ++ more) ≡ Some at = base_more k slots ps more (base_some k slots ps at lack.in_use) ∙ lack.in_use in
      let w = well_at v slots (ps ++ more) read.from U at in_use read.begin in
      let r = reaches (start_of slots) ps more read.from w.0 lack.behind in
      let none = lack.none r.ys r.from in
      none.1 U read.begin.count (gathered.well_front r.ys more U read.begin.count r.some none.0 (subst (λ (l : List (List ℕ)). BeginWell k l U read.begin.count) r.whole w.1))
  no_lack v slots ps more at U fs lack (inr awaited) = ⊎_elim
      (λ early. omega (arith, early.1, lack.behind, end_append ps more))
      (λ there.
      let r = reaches (start_of slots) ps more awaited.parts there.0 lack.behind in
      (lack.none r.ys r.from).0 (gathered.cut_front r.ys more r.some (subst k.AreCutShort r.whole there.1)))
      awaited.base.short

  sound_as : (fed : List ℕ) (f : Following S E) (here : IsFine k fed f) (ps : List (List ℕ)) → here.payloads ≡ ps → AreSound k f.version (slots_of fed) ps f.start f.entries
  sound_as fed f here ps is = subst (λ (l : List (List ℕ)). AreSound k f.version (slots_of fed) l f.start f.entries) is (sound_of fed f here)

  no_fault : (fed : List ℕ) (f : Following S E) (T : S) (es : List E) (x : FollowFault) → IsFine k fed f → IsFault k f.version fed T es x → IsSeen x → ⊥
  no_fault fed f T es (fault.BadStream at) here (inl bad) seen = here.good (bad_told fed here.payloads bad.before f.standing at here.after bad.bad).0
  no_fault fed f T es (fault.BadStream at) here (inr (inl unfit)) seen =
      let found = next_begins fed unfit.before here.payloads unfit.payload unfit.next (taken-after fed here.payloads f.standing here.after here.good) in
      let on = goes f.version (slots_of fed) unfit.before found.0 unfit.payload T f.start es unfit.end f.entries unfit.no_part unfit.read (sound_as fed f here (unfit.before ++ unfit.payload ∷ found.0) found.1) in
      none_unfit k lawful T (records k unfit.read.from) es f.entries unfit.payload (records k found.0) unfit.read.taken.recorded on.recorded on.legal unfit.unfit
  no_fault fed f T es (fault.BadStream at) here (inr (inr lack)) seen =
      let found = begins fed lack.payloads here.payloads lack.tail lack.splits (taken-after fed here.payloads f.standing here.after here.good) in
      no_lack f.version (slots_of fed) lack.payloads found.0 at f.start f.entries lack.lack (sound_as fed f here (lack.payloads ++ found.0) found.1)
  no_fault fed f T es (fault.JournalFull need room) here full seen =
      let found = next_begins fed full.before here.payloads full.payload full.next (taken-after fed here.payloads f.standing here.after here.good) in
      let on = goes f.version (slots_of fed) full.before found.0 full.payload T f.start es full.end f.entries (lawful.records_apart full.payload full.entry full.is_record) full.read (sound_as fed f here (full.before ++ full.payload ∷ found.0) found.1) in
      let many : length (records k full.read.from) ≡ length es = counted k lawful full.read.from es full.read.taken.recorded in
      full_not (records k full.read.from) (records k found.0) full.payload need room on.room
      (subst (λ (n : ℕ). IsFull (end_of (records k full.read.from)) n (length full.payload) need room) (sym many) (subst (λ (n : ℕ). IsFull n (length es) (length full.payload) need room) full.read.end_is full.full))
  no_fault fed f T es fault.NoMemory here wanting seen = seen

  told_by : (o : Option FollowFault) (fed : List ℕ) (f : Following S E) (T : S) (es : List E) (x : FollowFault) → f.fault ≡ o → StandsBy k o fed f → IsFault k f.version fed T es x → IsSeen x → (y : FollowFault) × (f.fault ≡ Some y)
  told_by None fed f T es x is here first seen = absurd (no_fault fed f T es x here first seen)
  told_by (Some y) fed f T es x is here first seen = (y, is)

  pub fault_told : (fed : List ℕ) (f : Following S E) (T : S) (es : List E) (x : FollowFault) → IsFollowed k fed f → IsFault k f.version fed T es x → IsSeen x → (y : FollowFault) × (f.fault ≡ Some y)
  fault_told fed f T es x is first seen = told_by f.fault fed f T es x refl is.stands first seen

  pub first_fault : (fed : List ℕ) (f : Following S E) (x : FollowFault) → IsFollowed k fed f → f.fault ≡ Some x → IsFault k f.version fed f.start f.entries x
  first_fault fed f x is is_fault = let stuck : IsStuck k fed f x = subst (λ (o : Option FollowFault). StandsBy k o fed f) is_fault is.stands in stuck.first

  -- the end
  pub end_taken : (fed : List ℕ) (f : Following S E) → IsFollowed k fed f → f.fault ≡ None → f.standing.place ≡ place.Ended → (ps : List (List ℕ)) × (at : ℕ) × IsEnd fed ps at
  end_taken fed f is none ended =
      let here = fine fed f is none in (here.payloads, f.standing.gate, subst (λ (p : Place). StandsAt p fed here.payloads f.standing.gate f.standing.tail) ended here.after.stands)

  pub end_found : (fed : List ℕ) (f : Following S E) (ps : List (List ℕ)) (at : ℕ) → IsFollowed k fed f → f.fault ≡ None → IsEnd fed ps at → f.standing.place ≡ place.Ended
  end_found fed f ps at is none end = let here = fine fed f is none in (end_told fed here.payloads ps f.standing at here.after end).0

  -- the header
  header_by : (o : Option FollowFault) (fed : List ℕ) (f : Following S E) (n : ℕ) → StandsBy k o fed f → header_length_of f.standing ≡ Some n → (n ≡ length fed) × (length fed < 16)
  header_by None fed f n here told = header_told-at f.standing.place fed here.payloads f.standing.gate f.standing.tail n here.after.stands told
  header_by (Some x) fed f n here told = absurd (no_header f.standing.place f.standing.tail n here.headed told)

  pub header_told : (fed : List ℕ) (f : Following S E) (n : ℕ) → IsFollowed k fed f → header_length_of f.standing ≡ Some n → (n ≡ length fed) × (length fed < 16)
  header_told fed f n is told = header_by f.fault fed f n is.stands told

  fault_long : (v : ℕ) (fed : List ℕ) (T : S) (es : List E) (x : FollowFault) → IsFault k v fed T es x → length fed < 16 → (at : ℕ) × (x ≡ fault.BadStream at) × (at < 16)
  fault_long v fed T es (fault.BadStream at) (inl bad) short =
      ⊎_elim (λ front. let b = front.0 in (at, refl, omega (arith, b.early))) (λ gate. absurd (no_splits-short fed short bad.before gate.tail gate.splits)) bad.bad
  fault_long v fed T es (fault.BadStream at) (inr (inl unfit)) short = absurd (next_long fed unfit.before unfit.payload unfit.next short)
  fault_long v fed T es (fault.BadStream at) (inr (inr lack)) short = absurd (no_splits-short fed short lack.payloads lack.tail lack.splits)
  fault_long v fed T es (fault.JournalFull need room) full short = absurd (next_long fed full.before full.payload full.next short)
  fault_long v fed T es fault.NoMemory wanting short = absurd (next_long fed wanting.before wanting.payload wanting.next short)

  short_by : (o : Option FollowFault) (fed : List ℕ) (f : Following S E) → f.fault ≡ o → StandsBy k o fed f → ((at : ℕ) → f.fault ≡ Some (fault.BadStream at) → 16 ≤ at) → length fed < 16 → header_length_of f.standing ≡ Some (length fed)
  short_by None fed f is here late short = header_short-at f.standing.place fed here.payloads f.standing.gate f.standing.tail here.after.stands short here.good
  short_by (Some x) fed f is here late short =
      let bad = fault_long f.version fed f.start f.entries x here.first short in
      absurd (omega (arith, late bad.0 (is ∙ ap Some bad.1), bad.2))

  pub short_told : (fed : List ℕ) (f : Following S E) → IsFollowed k fed f → ((at : ℕ) → f.fault ≡ Some (fault.BadStream at) → 16 ≤ at) → length fed < 16 → header_length_of f.standing ≡ Some (length fed)
  short_told fed f is late short = short_by f.fault fed f refl is.stands late short
