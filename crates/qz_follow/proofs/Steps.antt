-- What a follower is after one payload more, or after bytes without one.
use Rattle.std.proofs.Common.{◌≡◌, ◌≢◌, ◌⊎◌, ⊎_elim, inl, inr, ℕ, ◌≤◌, Bool, true, false, List, [], ◌∷◌, ◌++◌, length, get_or, ◌<◌, if◌then◌else◌, refl, sym, ◌∙◌, ap, subst, arith, append-nil, length-append}
use Rattle.std.specs.Prelude.{Option, Some, None}
use Rattle.qz_journal.proofs.Stands.{end_of-push}
use Rattle.qz_journal.specs.Commits.{IsFull, need_of}
use Rattle.qz_journal.specs.Layout.{end_of}
use Rattle.qz_journal.specs.Slots.{slots_of, slot_in_use}
use Rattle.qz_journal.specs.Tails.{start_of}
use Rattle.qz_journal.specs.declared.slots.Slots.{Slots}
use Rattle.qz_stores.specs.Kinds.{StoreKind, IsLawful, IsAccepted}
use Rattle.qz_stores.specs.Opening.{IsUnfit}
use Rattle.qz_stream.proofs.Fronts.{get_or-append, slots_more}
use Rattle.qz_stream.proofs.Once.{taken-after}
use Rattle.qz_stream.proofs.Parts.{splits-long, drop-block}
use Rattle.qz_stream.specs.Blocks.{Splits, IsBadPlace}
use Rattle.qz_journal.specs.Layout.{blocks}
use Rattle.qz_stream.specs.Front.{MayBegin, IsFrontByte, IsVersionOf}
use Rattle.qz_stream.specs.Standing.{Standing, StandsAt, IsAfter, IsAfterBlock, Feeds, handed, handed_at, payload_of}
use Rattle.qz_stream.specs.declared.place.Place.{Place}
use Rattle.qz_stream.specs.declared.place.Place.TheVariants as place
use Rattle.qz_follow.proofs.Bases.{none_some, IsBefore, read_new, come_renewed, come_slots, come_sound, come_taken, come_awaited, lacks}
use Rattle.qz_follow.proofs.Froms.{base_more, base_some}
use Rattle.qz_follow.proofs.Gathering.{AreGathered}
use Rattle.qz_follow.proofs.Versions.{version_new, version_later}
use Rattle.qz_follow.specs.Payloads.{base_slot, AreRead, AwaitBase, LackBase, AreSound, HasNext, IsFault, Held, Following, held_of, HasCome, IsFine, IsStuck, StandsBy, IsFollowed, version_or_two}
use Rattle.qz_follow.specs.Taking.{IsBegun, IsRenewed, awaited_slot, TakesAt, IsUntakenAt, IsRefused, IsUnbased, StaysTaken, AddsBy, Adds}
use Rattle.qz_follow.specs.declared.faults.FollowFault.{FollowFault}
use Rattle.qz_follow.specs.declared.faults.FollowFault.TheVariants as fault
use Rattle.qz_follow.specs.declared.stages.Stage.{Stage}
use Rattle.qz_follow.specs.declared.stages.Stage.TheVariants as stage

-- no payload is handed out at such a place
none_handed : (s : Standing) (p : Place) → s.place ≡ p → ((tail : List ℕ) → handed_at p tail ≡ []) → handed s ≡ []
none_handed s p is none = ap (λ (q : Place). handed_at q s.tail) is ∙ none s.tail

-- the payload that was read last
last_is : (ps before : List (List ℕ)) (p payload : List ℕ) (gate : ℕ) → ps ++ p ∷ [] ≡ before ++ payload ∷ [] → p ≡ payload → gate ≡ end_of before → gate ≡ end_of ps
last_is ps before p payload gate same is gate_is =
    omega (arith, gate_is, ap end_of same, end_of-push ps p, end_of-push before payload, ap length is)

-- bytes with a header begin as a store does
pub splits_begin : (bytes : List ℕ) (ps : List (List ℕ)) (tail : List ℕ) → Splits bytes ps tail → MayBegin bytes
splits_begin bytes ps tail s at lt there =
    let here : at < length s.head = omega (arith, lt, s.long) in
    subst (IsFrontByte at) (sym (get_or-append s.head (blocks ps ++ tail) at here) ∙ ap (λ (l : List ℕ). get_or l at 0) (sym s.whole)) (s.front at lt here)

module _ {H S E R : Type 0} (k : StoreKind H S E R) (lawful : IsLawful k) where
  -- the header is whole where a payload was taken
  pub long_fed : (fed : List ℕ) (ps : List (List ℕ)) (s : Standing) → IsAfter fed ps s → s.place ≢ place.Bad → (ps ≡ [] → ⊥) → 16 ≤ length fed
  long_fed fed ps s after good some =
      ⊎_elim (λ there. splits-long fed ps there.0 there.1) (λ none. absurd (some none.0)) (taken-after fed ps s after good)

  -- there is none before the first
  pub come_some : (at : Stage) (slots : Slots) (ps : List (List ℕ)) (h : Held S E) → (at ≡ stage.First → ⊥) → HasCome k slots ps at h → ps ≡ [] → ⊥
  come_some stage.First slots ps h other come none = other refl
  come_some (stage.Awaited slot) slots ps h other come none = base_some k slots ps slot come.0.in_use none
  come_some stage.Settled slots ps h other come none = come.0 none

  next_version : (fed more : List ℕ) (ps : List (List ℕ)) (s : Standing) (told said : Option ℕ) (at : Stage) (slots : Slots) (h : Held S E) (old new : ℕ) → IsAfter fed ps s → s.place ≢ place.Bad → HasCome k slots ps at h → IsVersionOf fed told
      → old ≡ version_or_two told → IsVersionOf (fed ++ more) said → IsBegun said at old new → new ≡ version_or_two said
  next_version fed more ps s told said stage.First slots h old new after good come is was now begun = version_new (fed ++ more) said stage.First old new refl now begun
  next_version fed more ps s told said (stage.Awaited slot) slots h old new after good come is was now begun =
      let other : stage.Awaited slot ≢ stage.First = λ (first : stage.Awaited slot ≡ stage.First). cc in
      version_later fed more told said (stage.Awaited slot) old new other (long_fed fed ps s after good (come_some (stage.Awaited slot) slots ps h other come)) is now was begun
  next_version fed more ps s told said stage.Settled slots h old new after good come is was now begun =
      let other : stage.Settled ≢ stage.First = λ (first : stage.Settled ≡ stage.First). cc in
      version_later fed more told said stage.Settled old new other (long_fed fed ps s after good (come_some stage.Settled slots ps h other come)) is now was begun

  -- nothing was wrong so far
  fine_of : (fed : List ℕ) (f : Following S E) → IsFollowed k fed f → f.fault ≡ None → IsFine k fed f
  fine_of fed f is none = subst (λ (x : Option FollowFault). StandsBy k x fed f) none is.stands

  -- The reader went on, and the version was taken over. Nothing else has changed.
  module _ (gathered : AreGathered k) (fed more : List ℕ) (f g : Following S E) (is : IsFollowed k fed f) (none : f.fault ≡ None) (feeds : Feeds more f.standing g.standing) (begun : IsBegun g.standing.version f.stage f.version g.version)
      (renewed : IsRenewed k (held_of f) (held_of g)) where
    fine : IsFine k fed f
    fine = fine_of fed f is none

    abbrev ps : List (List ℕ)
    ps = fine.payloads

    abbrev slots : Slots
    slots = slots_of (fed ++ more)

    after : IsAfter (fed ++ more) (ps ++ handed g.standing) g.standing
    after = feeds fed ps fine.after

    version_is : g.version ≡ version_or_two g.standing.version
    version_is = next_version fed more ps f.standing is.told g.standing.version f.stage (slots_of fed) (held_of f) f.version g.version fine.after fine.good fine.come is.version is.version_is after.version begun

    come_at : HasCome k slots ps f.stage (held_of g)
    come_at =
        come_slots k lawful f.stage (slots_of fed) slots ps (held_of g) (λ some. slots_more fed more (long_fed fed ps f.standing fine.after fine.good some))
        (come_renewed k lawful f.stage (slots_of fed) ps (held_of f) (held_of g) refl begun.later renewed fine.come)

    come : HasCome k slots ps g.stage (held_of g)
    come = subst (λ (x : Stage). HasCome k slots ps x (held_of g)) (sym renewed.stage_is) come_at

    sound : AreSound k g.version slots ps g.start g.entries
    sound = come_sound k lawful g.stage slots ps (held_of g) come

    followed : StandsBy k g.fault (fed ++ more) g → IsFollowed k (fed ++ more) g
    followed stands = record { told = g.standing.version; version = after.version; version_is = version_is; stands = stands }

    -- no payload was whole
    pub more_next : handed g.standing ≡ [] → g.standing.place ≢ place.Bad → g.fault ≡ None → IsFollowed k (fed ++ more) g
    more_next no_payload good no_fault =
        let stands : IsFine k (fed ++ more) g = record {
          payloads = ps;
          after = subst (λ (l : List (List ℕ)). IsAfter (fed ++ more) l g.standing) (ap (λ (l : List (List ℕ)). ps ++ l) no_payload ∙ append-nil ps) after;
          good = good;
          come = come;
        } in
        followed (subst (λ (x : Option FollowFault). StandsBy k x (fed ++ more) g) (sym no_fault) stands)

    -- a bad place was found
    pub bad_next : (at : ℕ) → g.standing.place ≡ place.Bad → at ≡ g.standing.gate → g.fault ≡ Some (fault.BadStream at) → IsFollowed k (fed ++ more) g
    bad_next at bad at_is is_fault =
        let s = g.standing in
        let no_payload = none_handed s place.Bad bad (λ tail. refl) in
        let found : IsBadPlace (fed ++ more) (ps ++ handed s) s.gate = subst (λ (p : Place). StandsAt p (fed ++ more) (ps ++ handed s) s.gate s.tail) bad after.stands in
        let here : IsBadPlace (fed ++ more) ps at = subst (λ (n : ℕ). IsBadPlace (fed ++ more) ps n) (sym at_is)
        (subst (λ (l : List (List ℕ)). IsBadPlace (fed ++ more) l s.gate) (ap (λ (l : List (List ℕ)). ps ++ l) no_payload ∙ append-nil ps) found) in
        let stands : IsStuck k (fed ++ more) g (fault.BadStream at) =
        record { first = inl (record { before = ps; bad = here; sound = sound }); headed = λ (header : s.place ≡ place.Header). let no : place.Bad ≡ place.Header = sym bad ∙ header in cc } in
        followed (subst (λ (x : Option FollowFault). StandsBy k x (fed ++ more) g) (sym is_fault) stands)

    -- a payload was read
    module _ (whole : g.standing.place ≡ place.Whole) where
      abbrev p : List ℕ
      p = payload_of g.standing.tail

      abbrev all : List (List ℕ)
      all = ps ++ p ∷ []

      after_one : IsAfter (fed ++ more) all g.standing
      after_one = subst (λ (l : List (List ℕ)). IsAfter (fed ++ more) (ps ++ l) g.standing) (ap (λ (q : Place). handed_at q g.standing.tail) whole) after

      block : IsAfterBlock (fed ++ more) all g.standing.gate g.standing.tail
      block = subst (λ (q : Place). StandsAt q (fed ++ more) all g.standing.gate g.standing.tail) whole after_one.stands

      next : HasNext (fed ++ more) ps p
      next = record { tail = []; splits = block.splits; within = block.within }

      gate_is : g.standing.gate ≡ end_of ps
      gate_is = last_is ps block.before p block.payload g.standing.gate block.payloads_are (ap payload_of block.tail_is ∙ drop-block block.payload) block.gate_is

      slots_are : g.standing.slots ≡ slots
      slots_are = after.slots (splits_begin (fed ++ more) all [] block.splits) (splits-long (fed ++ more) all [] block.splits)

      not_bad : g.standing.place ≢ place.Bad
      not_bad bad = let no : place.Whole ≡ place.Bad = sym whole ∙ bad in cc

      not_header : g.standing.place ≢ place.Header
      not_header header = let no : place.Whole ≡ place.Header = sym whole ∙ header in cc

      -- what is known before it, at each stage
      first_slot : (qs : List (List ℕ)) → qs ≡ [] → base_slot k slots (qs ++ p ∷ []) ≡ awaited_slot k slots stage.First p
      first_slot qs is = ap (λ (l : List (List ℕ)). base_slot k slots (l ++ p ∷ [])) is

      no_slot : (qs : List (List ℕ)) → qs ≡ [] → base_slot k slots qs ≡ None
      no_slot qs is = ap (base_slot k slots) is

      -- it was taken
      module _ (T : S) (h : Following S E) (state : T ≡ k.replay_from g.start g.entries) (version : h.version ≡ g.version) where
        awaits : (slot : ℕ) → base_slot k slots all ≡ Some slot → IsBefore k slots ps g.parts → g.start ≡ k.empty g.version → g.entries ≡ [] → g.end ≡ 16 → TakesAt k (Some slot) (start_of slots) T p g.standing.gate (held_of g) (held_of h)
            → HasCome k slots all h.stage (held_of h)
        awaits slot in_use before new no_entries end takes =
            come_awaited k lawful gathered g.version slots ps p (held_of g) (held_of h) slot g.standing.gate in_use gate_is before new no_entries end version takes

        takes_first : (o : Option ℕ) → base_slot k slots all ≡ o → HasCome k slots ps stage.First (held_of g) → TakesAt k o (start_of slots) T p g.standing.gate (held_of g) (held_of h) → HasCome k slots all h.stage (held_of h)
        takes_first None is begin takes =
            come_taken k lawful g.version slots ps p (held_of g) (held_of h) T state (read_new k lawful g.version slots ps g.start g.entries g.end begin.0 begin.2 begin.3 begin.4) (is ∙ sym (no_slot ps begin.0)) version takes
        takes_first (Some slot) is begin takes = awaits slot is (inl (begin.1, inr begin.0)) begin.2 begin.3 begin.4 takes

        takes_at : (at : Stage) → HasCome k slots ps at (held_of g) → TakesAt k (awaited_slot k slots at p) (start_of slots) T p g.standing.gate (held_of g) (held_of h) → HasCome k slots all h.stage (held_of h)
        takes_at stage.First begin takes = takes_first (awaited_slot k slots stage.First p) (first_slot ps begin.0) begin takes
        takes_at (stage.Awaited slot) begin takes =
            awaits slot (base_more k slots ps (p ∷ []) (base_some k slots ps slot begin.0.in_use) ∙ begin.0.in_use) (⊎_elim (λ early. inl (early.0, inl early.1)) (λ there. inr there) begin.0.short) begin.1 begin.2 begin.3 takes
        takes_at stage.Settled begin takes = come_taken k lawful g.version slots ps p (held_of g) (held_of h) T state begin.1 (base_more k slots ps (p ∷ []) begin.0) version takes

      -- it wasn't
      module _ (T : S) (state : T ≡ k.replay_from g.start g.entries) where
        refused : (end : ℕ) → AreRead k g.version slots ps g.start g.entries end → end ≡ g.end → (x : FollowFault) → IsRefused k T p g.standing.gate (held_of g) x → IsFault k g.version (fed ++ more) g.start g.entries x
        refused end read same (fault.BadStream at) why = inr (inl (record {
          before = ps;
          payload = p;
          next = next;
          end = end;
          read = read;
          at_is = why.0 ∙ gate_is;
          no_part = why.1;
          unfit = subst (λ (U : S). IsUnfit k U p) state why.2;
        }))
        refused end read same (fault.JournalFull need room) why = record {
          before = ps;
          payload = p;
          next = next;
          end = end;
          read = read;
          entry = why.0;
          is_record = why.1;
          accepted = subst (λ (U : S). IsAccepted k U why.0) state why.2;
          full = subst (λ (n : ℕ). IsFull n (length g.entries) (length p) need room) (sym same) why.3;
        }
        refused end read same fault.NoMemory why = record { before = ps; payload = p; next = next; sound = inl (end, read) }

        unbased : (slot : ℕ) → base_slot k slots all ≡ Some slot → IsBefore k slots ps g.parts → g.start ≡ k.empty g.version → g.entries ≡ [] → (x : FollowFault) → IsUnbased k slot (start_of slots) p g.standing.gate (held_of g) x
            → IsFault k g.version (fed ++ more) g.start g.entries x
        unbased slot in_use before new no_entries (fault.BadStream at) why = inr (inr (record {
          payloads = all;
          tail = [];
          splits = block.splits;
          within = block.within;
          lack = subst (LackBase k slots all) (sym why.0) (lacks k lawful gathered g.version slots ps p (held_of g) (held_of g) slot g.standing.gate in_use gate_is before why.1);
          start_is = new;
          none = no_entries;
        }))
        unbased slot in_use before new no_entries (fault.JournalFull need room) why = absurd why
        unbased slot in_use before new no_entries fault.NoMemory why = record { before = ps; payload = p; next = next; sound = sound }

        untaken_first : (o : Option ℕ) → base_slot k slots all ≡ o → HasCome k slots ps stage.First (held_of g) → (x : FollowFault) → IsUntakenAt k o (start_of slots) T p g.standing.gate (held_of g) x → IsFault k g.version (fed ++ more) g.start g.entries x
        untaken_first None is begin x why = refused g.end (read_new k lawful g.version slots ps g.start g.entries g.end begin.0 begin.2 begin.3 begin.4) refl x why
        untaken_first (Some slot) is begin x why = unbased slot is (inl (begin.1, inr begin.0)) begin.2 begin.3 x why

        untaken_at : (at : Stage) → HasCome k slots ps at (held_of g) → (x : FollowFault) → IsUntakenAt k (awaited_slot k slots at p) (start_of slots) T p g.standing.gate (held_of g) x → IsFault k g.version (fed ++ more) g.start g.entries x
        untaken_at stage.First begin x why = untaken_first (awaited_slot k slots stage.First p) (first_slot ps begin.0) begin x why
        untaken_at (stage.Awaited slot) begin x why =
            unbased slot (base_more k slots ps (p ∷ []) (base_some k slots ps slot begin.0.in_use) ∙ begin.0.in_use) (⊎_elim (λ early. inl (early.0, inl early.1)) (λ there. inr there) begin.0.short) begin.1 begin.2 x why
        untaken_at stage.Settled begin x why = refused g.end begin.1 refl x why

      fault_as : (h : Following S E) (x : FollowFault) → StaysTaken (held_of g) (held_of h) → IsFault k g.version (fed ++ more) g.start g.entries x → IsFault k h.version (fed ++ more) h.start h.entries x
      fault_as h x stays first =
          subst (λ (l : List E). IsFault k h.version (fed ++ more) h.start l x) (sym stays.entries)
          (subst (λ (U : S). IsFault k h.version (fed ++ more) U g.entries x) (sym stays.start)
          (subst (λ (n : ℕ). IsFault k n (fed ++ more) g.start g.entries x) (sym stays.version) first))

      by_fault : (x : Option FollowFault) (T : S) (h : Following S E) → T ≡ k.replay_from g.start g.entries → h.version ≡ g.version → h.standing ≡ g.standing → AddsBy k T g.standing (held_of g) (held_of h) x → StandsBy k x (fed ++ more) h
      by_fault None T h state version same takes = record {
        payloads = all;
        after = subst (IsAfter (fed ++ more) all) (sym same) after_one;
        good = subst (λ (s : Standing). s.place ≢ place.Bad) (sym same) not_bad;
        come = takes_at T h state version g.stage come (subst (λ (s : Slots). TakesAt k (awaited_slot k s g.stage p) (start_of s) T p g.standing.gate (held_of g) (held_of h)) slots_are takes);
      }
      by_fault (Some x) T h state version same why = record {
        first = fault_as h x why.1 (untaken_at T state g.stage come x (subst (λ (s : Slots). IsUntakenAt k (awaited_slot k s g.stage p) (start_of s) T p g.standing.gate (held_of g) x) slots_are why.0));
        headed = subst (λ (s : Standing). s.place ≢ place.Header) (sym same) not_header;
      }

      pub payload_next : (T : S) (h : Following S E) → T ≡ k.replay_from g.start g.entries → Adds k T g h → IsFollowed k (fed ++ more) h
      payload_next T h state adds = record {
        told = g.standing.version;
        version = after.version;
        version_is = adds.version ∙ version_is;
        stands = by_fault h.fault T h state adds.version adds.standing adds.by;
      }
