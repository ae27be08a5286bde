-- What one payload makes of what was taken, with the base.
use Rattle.std.proofs.Common.{◌≡◌, ◌≢◌, ◌⊎◌, ⊎_elim, inl, inr, ℕ, ◌+◌, ◌-◌, ◌<◌, ◌≤◌, Bool, true, false, List, [], ◌∷◌, ◌++◌, length, get_or, if◌then◌else◌, refl, sym, ◌∙◌, ap, subst, arith, append-nil, length-append}
use Rattle.std.specs.Prelude.{Option, Some, None}
use Rattle.std.specs.List.{AllZip}
use Rattle.std.proofs.Math.Seq.{take-append_seam, get_or-append_right}
use Rattle.std.proofs.lemmas.List.{take_all}
use Rattle.qz_journal.proofs.Stands.{end_of-push}
use Rattle.qz_journal.specs.Commits.{IsFull, HaveRoom, need_of}
use Rattle.qz_journal.specs.Layout.{blocks, end_of}
use Rattle.qz_journal.specs.Slots.{slot_in_use}
use Rattle.qz_journal.specs.Tails.{start_at, start_of}
use Rattle.qz_journal.specs.declared.slots.Slots.{Slots}
use Rattle.qz_stores.proofs.Replays.{taken_more}
use Rattle.qz_stores.proofs.Whole.{records_append, one_record, no_record}
use Rattle.qz_stores.specs.Bases.{records, RecordEntries}
use Rattle.qz_stores.specs.Facts.{Encode-length}
use Rattle.qz_stores.specs.Kinds.{StoreKind, IsLawful, IsAccepted}
use Rattle.qz_stores.specs.Opening.{AreTaken as AreReplayed, BeginWell, IsBase}
use Rattle.qz_stores.specs.Replaying.{IsPassed, IsTaken}
use Rattle.qz_follow.proofs.Froms.{end_append, from_once, from_more, from_all, from_here, passes, base_more, base_some, base_start}
use Rattle.qz_follow.proofs.Gathering.{AreGathered}
use Rattle.qz_follow.proofs.Rooms.{room_next}
use Rattle.qz_follow.specs.Payloads.{base_slot, AreFrom, BeginFrom, AreRead, AwaitBase, LackBase, AreSound, Held, HasCome}
use Rattle.qz_follow.specs.Taking.{IsRenewed, awaited_slot, TakesRecord, TakesPayload, Awaits, PassesOver, Gathers, ReadsBase, IsBaseless, TakesAt}
use Rattle.qz_follow.specs.declared.stages.Stage.{Stage}
use Rattle.qz_follow.specs.declared.stages.Stage.TheVariants as stage

pub none_some : {A : Type 0} (x : A) → ◌≡◌ {A = Option A} None (Some x) → ⊥
none_some x is = cc

-- what is there of a base before a payload
abbrev pub IsBefore : {H S E R : Type 0} → StoreKind H S E R → Slots → List (List ℕ) → List (List ℕ) → Type 0
IsBefore k slots ps parts = ((parts ≡ []) × ((end_of ps ≤ start_of slots) ⊎ (ps ≡ []))) ⊎ (AreFrom (start_of slots) ps parts × k.AreCutShort parts)

module _ {H S E R : Type 0} (k : StoreKind H S E R) (lawful : IsLawful k) where
  -- there are as many records as entries
  pub counted : (ps : List (List ℕ)) (es : List E) → RecordEntries k ps es → length (records k ps) ≡ length es
  counted ps es recorded = Encode-length k (records k ps) es recorded

  -- no payload was taken
  pub read_none : (v : ℕ) (slots : Slots) → AreRead k v slots [] (k.empty v) [] 16
  read_none v slots = record {
    from = [];
    begin = record { are_from = from_all []; count = 0; base = (refl, refl) };
    taken = record { recorded = ∣ tt ∣₁; valid = tt; legal = lawful.legal_none (k.empty v) };
    room = (omega arith, omega arith);
    end_is = refl;
  }

  pub read_new : (v : ℕ) (slots : Slots) (ps : List (List ℕ)) (start : S) (es : List E) (end : ℕ) → ps ≡ [] → start ≡ k.empty v → es ≡ [] → end ≡ 16 → AreRead k v slots ps start es end
  read_new v slots ps start es end none new no_entries new_end =
      subst (λ (l : List (List ℕ)). AreRead k v slots l start es end) (sym none)
      (subst (λ (n : ℕ). AreRead k v slots [] start es n) (sym new_end)
      (subst (λ (l : List E). AreRead k v slots [] start l 16) (sym no_entries)
      (subst (λ (T : S). AreRead k v slots [] T [] 16) (sym new) (read_none v slots))))

  -- the version was taken over before the first payload
  pub come_renewed : (at : Stage) (slots : Slots) (ps : List (List ℕ)) (old new : Held S E) → old.stage ≡ at → (at ≢ stage.First → new.version ≡ old.version) → IsRenewed k old new → HasCome k slots ps at old → HasCome k slots ps at new
  come_renewed stage.First slots ps old new is version renewed come =
      (come.0, renewed.parts ∙ come.1, renewed.start is, renewed.entries ∙ come.3, renewed.end ∙ come.4)
  come_renewed (stage.Awaited slot) slots ps old new is version renewed come =
      let other : old.stage ≢ stage.First = λ first. let no : stage.Awaited slot ≡ stage.First = sym is ∙ first in cc in
      let there : stage.Awaited slot ≢ stage.First = λ (first : stage.Awaited slot ≡ stage.First). cc in
      (subst (λ (l : List (List ℕ)). AwaitBase k slots ps l slot) (sym renewed.parts) come.0, renewed.start_stays other ∙ come.1 ∙ ap k.empty (sym (version there)), renewed.entries ∙ come.2, renewed.end ∙ come.3)
  come_renewed stage.Settled slots ps old new is version renewed come =
      let other : old.stage ≢ stage.First = λ first. let no : stage.Settled ≡ stage.First = sym is ∙ first in cc in
      let there : stage.Settled ≢ stage.First = λ (first : stage.Settled ≡ stage.First). cc in (
        come.0,
        subst (λ (n : ℕ). AreRead k n slots ps new.start new.entries new.end) (sym (version there))
            (subst (λ (T : S). AreRead k old.version slots ps T new.entries new.end) (sym (renewed.start_stays other))
            (subst (λ (l : List E). AreRead k old.version slots ps old.start l new.end) (sym renewed.entries)
            (subst (λ (n : ℕ). AreRead k old.version slots ps old.start old.entries n) (sym renewed.end) come.1))),
      )

  -- the slots are looked at once there is a payload
  pub come_slots : (at : Stage) (s t : Slots) (ps : List (List ℕ)) (h : Held S E) → ((ps ≡ [] → ⊥) → t ≡ s) → HasCome k s ps at h → HasCome k t ps at h
  come_slots stage.First s t ps h same come = come
  come_slots (stage.Awaited slot) s t ps h same come =
      (subst (λ (x : Slots). AwaitBase k x ps h.parts slot) (sym (same (base_some k s ps slot come.0.in_use))) come.0, come.1, come.2, come.3)
  come_slots stage.Settled s t ps h same come = (come.0, subst (λ (x : Slots). AreRead k h.version x ps h.start h.entries h.end) (sym (same come.0)) come.1)

  -- what has come is without a fault
  pub come_sound : (at : Stage) (slots : Slots) (ps : List (List ℕ)) (h : Held S E) → HasCome k slots ps at h → AreSound k h.version slots ps h.start h.entries
  come_sound stage.First slots ps h come = inl (h.end, read_new h.version slots ps h.start h.entries h.end come.0 come.2 come.3 come.4)
  come_sound (stage.Awaited slot) slots ps h come = inr (record { slot = slot; parts = h.parts; base = come.0; start_is = come.1; none = come.2 })
  come_sound stage.Settled slots ps h come = inl (h.end, come.1)

  -- one payload more is replayed
  replayed_next : (T U : S) (ps : List (List ℕ)) (p : List ℕ) (es fs : List E) → U ≡ k.replay_from T es → IsPassed k p es fs ⊎ IsTaken k U p es fs → AreReplayed k T ps es → AreReplayed k T (ps ++ p ∷ []) fs
  replayed_next T U ps p es fs state next so_far =
      let all = ps ++ p ∷ [] in
      let long : length all ≡ length ps + 1 = length-append ps (p ∷ []) in
      let zero : length ps - length ps ≡ 0 = omega arith in
      let here : get_or all (length ps) p ≡ p = get_or-append_right ps (p ∷ []) (length ps) p (omega arith) ∙ ap (λ (n : ℕ). get_or (p ∷ []) n p) zero in
      subst (λ (l : List (List ℕ)). AreReplayed k T l fs) (take_all (length ps + 1) all (omega (arith, long)))
      (taken_more k lawful T U all (length ps) p es fs (omega (arith, long)) (sym here) state next (subst (λ (l : List (List ℕ)). AreReplayed k T l es) (sym (take-append_seam ps (p ∷ []))) so_far))

  -- a part of a snapshot is no record, and a record is one
  records_passed : (ps : List (List ℕ)) (p : List ℕ) → k.is_part p ≡ true → records k (ps ++ p ∷ []) ≡ records k ps
  records_passed ps p is = records_append k ps (p ∷ []) ∙ ap (λ (l : List (List ℕ)). records k ps ++ l) (no_record k p is) ∙ append-nil (records k ps)

  records_more : (ps : List (List ℕ)) (p : List ℕ) (e : E) → k.IsRecordOf p e → records k (ps ++ p ∷ []) ≡ records k ps ++ p ∷ []
  records_more ps p e is = records_append k ps (p ∷ []) ∙ ap (λ (l : List (List ℕ)). records k ps ++ l) (one_record k p (lawful.records_apart p e is))

  -- what the entries begin with stays as more payloads come
  pub base_still : (o : Option ℕ) (v n : ℕ) (from more : List (List ℕ)) (T : S) → IsBase k o v from T n → IsBase k o v (from ++ more) T n
  base_still None v n from more T base = base
  base_still (Some slot) v n from more T base = record { before = base.before; snapshot = lawful.snapshot_more from more T base.before n base.snapshot; counted = base.counted; valid = base.valid }

  -- one payload more where no base is awaited
  module _ (v : ℕ) (slots : Slots) (ps : List (List ℕ)) (p : List ℕ) (h t : Held S E) (T : S) (state : T ≡ k.replay_from h.start h.entries) (read : AreRead k v slots ps h.start h.entries h.end)
      (base : base_slot k slots (ps ++ p ∷ []) ≡ base_slot k slots ps) where
    abbrev from : List (List ℕ)
    from = read.from ++ p ∷ []

    are_from : AreFrom (start_at (base_slot k slots (ps ++ p ∷ [])) slots) (ps ++ p ∷ []) from
    are_from = subst (λ (o : Option ℕ). AreFrom (start_at o slots) (ps ++ p ∷ []) from) (sym base) (from_more (start_at (base_slot k slots ps) slots) ps read.from (p ∷ []) read.begin.are_from)

    begin : BeginFrom k v slots (ps ++ p ∷ []) from h.start
    begin = record {
      are_from = are_from;
      count = read.begin.count;
      base = subst (λ (o : Option ℕ). IsBase k o v from h.start read.begin.count) (sym base) (base_still (base_slot k slots ps) v read.begin.count read.from (p ∷ []) h.start read.begin.base);
    }

    replayed_on : (es : List E) → IsPassed k p h.entries es ⊎ IsTaken k T p h.entries es → AreReplayed k h.start from es
    replayed_on es next = replayed_next h.start T read.from p h.entries es state next read.taken

    read_next : (es : List E) (end : ℕ) → (IsPassed k p h.entries es × (end ≡ h.end)) ⊎ TakesRecord k T p h.entries es h.end end → AreRead k v slots (ps ++ p ∷ []) h.start es end
    read_next es end (inl passed) =
        let same = records_passed read.from p passed.0.0 in
        record {
          from = from;
          begin = begin;
          taken = replayed_on es (inl passed.0);
          room = subst (λ (l : List (List ℕ)). HaveRoom l 16 0) (sym same) read.room;
          end_is = passed.1 ∙ read.end_is ∙ ap end_of (sym same);
        }
    read_next es end (inr taken) =
        let longer = records_more read.from p taken.taken.0 taken.taken.2 in
        record {
          from = from;
          begin = begin;
          taken = replayed_on es (inr taken.taken);
          room = subst (λ (l : List (List ℕ)). HaveRoom l 16 0) (sym longer)
              (room_next (records k read.from) p h.end (length h.entries) read.end_is (sym (counted read.from h.entries read.taken.recorded)) taken.room);
          end_is = omega (arith, taken.end_is, read.end_is, ap end_of longer, end_of-push (records k read.from) p);
        }

    some : ps ++ p ∷ [] ≡ [] → ⊥
    some is = omega (arith, ap length is, length-append ps (p ∷ []))

    settled_as : (at : Stage) → at ≡ stage.Settled → t.version ≡ v → AreRead k v slots (ps ++ p ∷ []) t.start t.entries t.end → HasCome k slots (ps ++ p ∷ []) at t
    settled_as at is version has =
        subst (λ (x : Stage). HasCome k slots (ps ++ p ∷ []) x t) (sym is) (some, subst (λ (n : ℕ). AreRead k n slots (ps ++ p ∷ []) t.start t.entries t.end) (sym version) has)

    pub come_taken : t.version ≡ v → TakesPayload k T p h t → HasCome k slots (ps ++ p ∷ []) t.stage t
    come_taken version takes =
        settled_as t.stage takes.settled version (subst (λ (U : S). AreRead k v slots (ps ++ p ∷ []) U t.entries t.end) (sym takes.start) (read_next t.entries t.end takes.by))

  -- one where a base is awaited
  module _ (gathered : AreGathered k) (v : ℕ) (slots : Slots) (ps : List (List ℕ)) (p : List ℕ) (h t : Held S E) (slot gate : ℕ) (in_use : base_slot k slots (ps ++ p ∷ []) ≡ Some slot) (gate_is : gate ≡ end_of ps)
      (before : IsBefore k slots ps h.parts) where
    abbrev pub all : List (List ℕ)
    all = ps ++ p ∷ []

    end_is : end_of all ≡ gate + need_of (length p)
    end_is = omega (arith, end_of-push ps p, gate_is)

    -- the parts with this one
    parts_from : (h.parts ≡ [] → gate ≡ start_of slots) → AreFrom (start_of slots) all (h.parts ++ p ∷ [])
    parts_from here = ⊎_elim
        (λ none.
        subst (λ (l : List (List ℕ)). AreFrom (start_of slots) all (l ++ p ∷ [])) (sym none.0) (from_here (start_of slots) ps p (sym (here none.0) ∙ gate_is)))
        (λ some. from_more (start_of slots) ps h.parts (p ∷ []) some.0)
        before

    cut_before : (h.parts ≡ []) ⊎ k.AreCutShort h.parts
    cut_before = ⊎_elim (λ none. inl none.0) (λ some. inr some.1) before

    no_more : (h.start ≡ k.empty v) → h.entries ≡ [] → h.end ≡ 16 → t.version ≡ v → (t.start ≡ h.start) × (t.entries ≡ h.entries) × (t.end ≡ h.end) → (t.start ≡ k.empty t.version) × (t.entries ≡ []) × (t.end ≡ 16)
    no_more new none end version same = (same.0 ∙ new ∙ ap k.empty (sym version), same.1 ∙ none, same.2 ∙ end)

    base_read : (h.parts ≡ [] → gate ≡ start_of slots) → h.entries ≡ [] → h.end ≡ 16 → ReadsBase k p h t → AreRead k v slots all t.start t.entries t.end
    base_read here none end reads =
        let from = h.parts ++ p ∷ [] in
        let no_records : records k from ≡ [] = gathered.no_records h.parts p t.start reads.count cut_before reads.begins in
        record {
          from = from;
          begin = record {
            are_from = subst (λ (n : ℕ). AreFrom n all from) (sym (base_start k slots all slot in_use)) (parts_from here);
            count = reads.count;
            base = subst (λ (o : Option ℕ). IsBase k o v from t.start reads.count) (sym in_use) reads.begins;
          };
          taken = subst (AreReplayed k t.start from) (sym (reads.same.0 ∙ none))
              (record { recorded = ∣ subst (λ (l : List (List ℕ)). AllZip k.IsRecordOf l []) (sym no_records) tt ∣₁; valid = tt; legal = lawful.legal_none t.start });
          room = subst (λ (l : List (List ℕ)). HaveRoom l 16 0) (sym no_records) (omega arith, omega arith);
          end_is = reads.same.1 ∙ end ∙ ap end_of (sym no_records);
        }

    all_some : all ≡ [] → ⊥
    all_some is = omega (arith, ap length is, length-append ps (p ∷ []))

    as_stage : (at : Stage) → t.stage ≡ at → HasCome k slots all at t → HasCome k slots all t.stage t
    as_stage at is come = subst (λ (x : Stage). HasCome k slots all x t) (sym is) come

    pub come_awaited : h.start ≡ k.empty v → h.entries ≡ [] → h.end ≡ 16 → t.version ≡ v → Awaits k slot (start_of slots) gate p h t → HasCome k slots all t.stage t
    come_awaited new none end version (inl over) =
        let same = no_more new none end version over.same in
        as_stage (stage.Awaited slot) over.awaited (record { in_use = in_use; short = inl (over.parts ∙ over.none, omega (arith, end_is, over.before)) }, same.0, same.1, same.2)
    come_awaited new none end version (inr (here, inl gathers)) =
        let same = no_more new none end version gathers.same in
        as_stage (stage.Awaited slot) gathers.awaited (
          record {
            in_use = in_use;
            short = inr (subst (AreFrom (start_of slots) all) (sym gathers.parts) (parts_from here), subst k.AreCutShort (sym gathers.parts) gathers.cut);
          },
          same.0,
          same.1,
          same.2,
        )
    come_awaited new none end version (inr (here, inr reads)) =
        as_stage stage.Settled reads.settled (all_some, subst (λ (n : ℕ). AreRead k n slots all t.start t.entries t.end) (sym version) (base_read here none end reads))

    -- there is no base
    pub lacks : IsBaseless k (start_of slots) gate p h.parts → LackBase k slots all slot
    lacks (inl missed) =
        let early : (end_of ps ≤ start_of slots) ⊎ (ps ≡ []) = ⊎_elim (λ none. none.1) (λ some. absurd (gathered.none_cut (subst k.AreCutShort missed.0 some.1))) before in
        let behind : start_of slots < end_of all = omega (arith, end_is, missed.2) in
        record { in_use = in_use; behind = behind; none = λ from f. absurd (passes (start_of slots) ps p from early (λ at. missed.1 (gate_is ∙ at)) behind f) }
    lacks (inr (here, no_part)) =
        let f = parts_from here in
        let long : end_of all ≡ end_of f.before + length (blocks (h.parts ++ p ∷ [])) = ap end_of f.parts ∙ end_append f.before (h.parts ++ p ∷ []) in
        let some : 0 < length (blocks (h.parts ++ p ∷ [])) = omega (arith, end_of-push h.parts p) in
        record {
          in_use = in_use;
          behind = omega (arith, long, some, f.offset_is);
          none = λ from g.
              let same : h.parts ++ p ∷ [] ≡ from = from_once (start_of slots) all (h.parts ++ p ∷ []) from f g in
              subst (λ (l : List (List ℕ)). (k.AreCutShort l → ⊥) × ((T : S) (count : ℕ) → BeginWell k l T count → ⊥)) same no_part;
        }
