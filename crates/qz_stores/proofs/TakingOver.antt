-- Entries that a store takes over, and what its disk holds of them.
use Rattle.std.proofs.Common.{◌≡◌, inl, ℕ, zero, suc, ◌+◌, ◌≤◌, not, List, [], ◌∷◌, ◌++◌, length, take, drop, take-append-drop, refl, sym, ◌∙◌, ap, subst, arith, append_assoc, append-nil, length-append, if◌then◌else◌}
use Rattle.std.proofs.Math.Logic.{∥∥₁_map, ∥∥₁_elim}
use Rattle.std.specs.List.{AllByRecursion, AllZip}
use Rattle.qz_disk.specs.Disk.{DiskState, Only, IsLawful as DiskIsLawful, LeavesOnly}
use Rattle.qz_disk.proofs.Moments.{started, weaker}
use Rattle.qz_journal.specs.Layout.{Holds, HoldFirst, blocks, end_of}
use Rattle.qz_journal.proofs.Once.{holds_once}
use Rattle.qz_journal.proofs.SlotBytes.{take-shorter, slot_before}
use Rattle.qz_journal.proofs.Stands.{end_of-both}
use Rattle.qz_stores.specs.Kinds.{StoreKind, HasRecord, IsLawful, IsAccepted}
use Rattle.qz_stores.specs.Bases.{records, RecordEntries, HoldAll, IsEndOf, WholeList}
use Rattle.qz_stores.specs.Extending.{with_entries, HoldsFirst, Has}
use Rattle.qz_stores.specs.Facts.{Encode-length}
use Rattle.qz_stores.proofs.Appending.{IsGate, both_leave, whole_leaves, as_held, as_journal}
use Rattle.qz_stores.proofs.Whole.{have_records, legal_front, replay_both}
use Rattle.qz_stores.proofs.WholeBytes.{same_slots, slot_early, whole_more}

-- In memory.

pub joined : {E : Type 0} (found old more new : List E) → new ≡ old ++ more → found ++ new ≡ (found ++ old) ++ more
joined {E} found old more new is = ap (λ (l : List E). found ++ l) is ∙ sym (append_assoc found old more)

zip_take : {A B : Type 0} (P : A → B → Type 0) (m : ℕ) (xs : List A) (ys : List B) → AllZip P xs ys → AllZip P (take m xs) (take m ys)
zip_take P zero xs ys all = tt
zip_take P (suc m) [] [] all = tt
zip_take P (suc m) [] (y ∷ ys) all = absurd all
zip_take P (suc m) (x ∷ xs) [] all = absurd all
zip_take P (suc m) (x ∷ xs) (y ∷ ys) all = (all.0, zip_take P m xs ys all.1)

all_both : {A : Type 0} (P : A → Type 0) (xs ys : List A) → AllByRecursion P xs → AllByRecursion P ys → AllByRecursion P (xs ++ ys)
all_both P [] ys one two = two
all_both P (x ∷ xs) ys one two = (one.0, all_both P xs ys one.1 two)

module _ {H S E R : Type 0} (k : StoreKind H S E R) where
  pub counted_all : (found old more new : List E) (ps : List (List ℕ)) (base n m : ℕ) → new ≡ old ++ more → ∥ AllZip k.IsRecordOf ps more ∥₁ → n ≡ base + length (found ++ old) → m ≡ n + length ps → m ≡ base + length (found ++ new)
  counted_all found old more new ps base n m is all n_is m_is =
      omega (arith, Encode-length k ps more all, ap (λ (l : List E). length l) (joined found old more new is), length-append (found ++ old) more, n_is, m_is)

  pub recorded_all : (found old more new : List E) (ps : List (List ℕ)) → new ≡ old ++ more → ∥ AllZip k.IsRecordOf ps more ∥₁ → ∥ AllByRecursion (HasRecord k) (found ++ old) ∥₁ → ∥ AllByRecursion (HasRecord k) (found ++ new) ∥₁
  recorded_all found old more new ps is all so_far =
      ∥∥₁_elim all squash₁ (λ a. ∥∥₁_map so_far (λ b. subst (AllByRecursion (HasRecord k)) (sym (joined found old more new is)) (all_both (HasRecord k) (found ++ old) more b (have_records k ps more a))))

module _ {H S E R : Type 0} (k : StoreKind H S E R) (lawful : IsLawful k) where
  -- entries that are accepted after others are accepted with them
  legal_both : (T : S) (es gs fs : List E) → k.IsLegalFrom T (es ++ gs) → k.IsLegalFrom (k.replay_from T es) (gs ++ fs) → k.IsLegalFrom T (es ++ (gs ++ fs))
  legal_both T es gs [] so_far more = subst (λ (l : List E). k.IsLegalFrom T (es ++ l)) (sym (append-nil gs)) so_far
  legal_both T es gs (f ∷ fs) so_far more =
      let passes = subst (λ (U : S). IsAccepted k U f) (sym (replay_both k lawful T es gs)) (lawful.legal_at (k.replay_from T es) gs f fs more) in
      let next : k.IsLegalFrom T (es ++ (gs ++ f ∷ [])) = subst (k.IsLegalFrom T) (append_assoc es gs (f ∷ [])) (lawful.legal_more T (es ++ gs) f so_far passes) in
      subst (λ (l : List E). k.IsLegalFrom T (es ++ l)) (append_assoc gs (f ∷ []) fs)
      (legal_both T es (gs ++ f ∷ []) fs next (subst (k.IsLegalFrom (k.replay_from T es)) (sym (append_assoc gs (f ∷ []) fs)) more))

  legal_join : (T : S) (es fs : List E) → k.IsLegalFrom T es → k.IsLegalFrom (k.replay_from T es) fs → k.IsLegalFrom T (es ++ fs)
  legal_join T es fs one two = legal_both T es [] fs (subst (k.IsLegalFrom T) (sym (append-nil es)) one) two

  pub legal_all : (B T : S) (found old more new : List E) → new ≡ old ++ more → T ≡ k.replay_from B (found ++ old) → ∥ k.IsLegalFrom B (found ++ old) ∥₁ → ∥ k.IsLegalFrom T more ∥₁ → ∥ k.IsLegalFrom B (found ++ new) ∥₁
  legal_all B T found old more new is state so_far next =
      ∥∥₁_elim so_far squash₁ (λ a. ∥∥₁_map next (λ b. subst (k.IsLegalFrom B) (sym (joined found old more new is)) (legal_join B (found ++ old) more a (subst (λ (U : S). k.IsLegalFrom U more) state b))))

  pub replayed_all : (B T U : S) (found old more new : List E) → new ≡ old ++ more → T ≡ k.replay_from B (found ++ old) → U ≡ k.replay_from T more → U ≡ k.replay_from B (found ++ new)
  replayed_all B T U found old more new is state next =
      next ∙ ap (λ (V : S). k.replay_from V more) state ∙ sym (replay_both k lawful B (found ++ old) more) ∙ ap (k.replay_from B) (sym (joined found old more new is))

  pub history_all : (n : ℕ) (B : S) (found old more new : List E) → new ≡ old ++ more → k.history n B (found ++ new) ≡ k.history (k.base_count (k.history n B (found ++ old))) (k.base (k.history n B (found ++ old))) (k.entries (k.history n B (found ++ old)) ++ more)
  history_all n B found old more new is =
      let es = found ++ old in
      let list : found ++ new ≡ k.entries (k.history n B es) ++ more = joined found old more new is ∙ ap (λ (l : List E). l ++ more) (sym (lawful.entries_are n B es)) in
      λ i. k.history (sym (lawful.base_count_is n B es) i) (sym (lawful.base_is n B es) i) (list i)

  -- records are no parts of snapshots
  all_records : (ps : List (List ℕ)) (es : List E) → AllZip k.IsRecordOf ps es → records k ps ≡ ps
  all_records [] [] all = refl
  all_records [] (e ∷ es) all = absurd all
  all_records (p ∷ ps) [] all = absurd all
  all_records (p ∷ ps) (e ∷ es) all =
      ap (λ b. if not b then p ∷ records k ps else records k ps) (lawful.records_apart p e all.0) ∙ ap (λ (l : List (List ℕ)). p ∷ l) (all_records ps es all.1)

  are_recorded : (ps : List (List ℕ)) (es : List E) → ∥ AllZip k.IsRecordOf ps es ∥₁ → RecordEntries k ps es
  are_recorded ps es all = ∥∥₁_map all (λ a. subst (λ (l : List (List ℕ)). AllZip k.IsRecordOf l es) (sym (all_records ps es a)) a)

  -- On the disk.

  module _ (v : ℕ) where
    -- what is accepted after the history is accepted after the whole list
    pub legal_from : (O : S) (n : ℕ) (B T : S) (found added more whole : List E) (b : List ℕ) → T ≡ k.replay_from B (found ++ added) → IsEndOf k O (k.history n B found) whole → HoldAll k v O b (whole ++ added)
        → ∥ k.IsLegalFrom T more ∥₁ → ∥ k.IsLegalFrom O ((whole ++ added) ++ more) ∥₁
    legal_from O n B T found added more whole b state is held legal =
        let same : T ≡ k.replay_from O (whole ++ added) = whole_leaves k lawful v O n B T found added whole state is in
        ∥∥₁_elim held.legal squash₁ (λ here. ∥∥₁_map legal (λ l. legal_join O (whole ++ added) more here (subst (λ (U : S). k.IsLegalFrom U more) same l)))

    -- A journal in this version and of this kind has some records more, of entries that are accepted one by one.
    module _ (w number gate count : ℕ) (qs : List (List ℕ)) (fs : List E) (O : S) (es : List E) (b : List ℕ) (w_is : w ≡ v) (number_is : number ≡ k.number) (all : ∥ AllZip k.IsRecordOf qs fs ∥₁) (held : HoldAll k v O b es)
        (gated : IsGate k lawful v gate count b) (legal : ∥ k.IsLegalFrom O (es ++ fs) ∥₁) (late : 16 ≤ gate) where
      grown : (m : ℕ) (ps : List (List ℕ)) (c : List ℕ) → Holds b v k.number ps → Holds c w number (ps ++ take m qs) → take gate c ≡ take gate b → HoldAll k v O c (es ++ take m fs)
      grown m ps c holds after front =
          let same = take-shorter 16 gate c b late front in
          let cut : es ++ fs ≡ (es ++ take m fs) ++ drop m fs = ap (λ (l : List E). es ++ l) (sym (take-append-drop m fs)) ∙ sym (append_assoc es (take m fs) (drop m fs)) in
          whole_more k lawful v O b c ps (take m qs) es (take m fs) holds held (as_held k lawful v w number c (ps ++ take m qs) w_is number_is after) (are_recorded (take m qs) (take m fs) (∥∥₁_map all (zip_take k.IsRecordOf m qs fs)))
          (∥∥₁_map legal (λ l. legal_front k lawful O (es ++ take m fs) (drop m fs) (subst (k.IsLegalFrom O) cut l)))
          (λ slot offset is_slot opened. inl (sym (slot_before slot 16 b c (slot_early slot is_slot) same) ∙ opened)) (same_slots k lawful b c same)

      pub all_held : (c : List ℕ) → ((ps : List (List ℕ)) → Holds b w number ps → gate ≡ end_of ps → Holds c w number (ps ++ qs)) → take gate c ≡ take gate b → HoldAll k v O c (es ++ fs)
      all_held c grows front =
          let ps = held.store.0 in
          let same = take-shorter 16 gate c b late front in
          whole_more k lawful v O b c ps qs es fs held.store.1 held (as_held k lawful v w number c (ps ++ qs) w_is number_is (grows ps (as_journal k lawful v w number b ps w_is number_is held.store.1) (gated ps held.store.1).0)) (are_recorded qs fs all) legal
          (λ slot offset is_slot opened. inl (sym (slot_before slot 16 b c (slot_early slot is_slot) same) ∙ opened)) (same_slots k lawful b c same)

      pub all_there : (c : List ℕ) → ((ps : List (List ℕ)) → Holds b w number ps → gate ≡ end_of ps → Holds c w number (ps ++ qs)) → Holds c v k.number (held.store.0 ++ qs)
      all_there c grows =
          let ps = held.store.0 in
          as_held k lawful v w number c (ps ++ qs) w_is number_is (grows ps (as_journal k lawful v w number b ps w_is number_is held.store.1) (gated ps held.store.1).0)

      pub gate_after : (after more : ℕ) (c : List ℕ) → after ≡ gate + length (blocks qs) → more ≡ count + length qs → ((ps : List (List ℕ)) → Holds b w number ps → gate ≡ end_of ps → Holds c w number (ps ++ qs)) → IsGate k lawful v after more c
      gate_after after more c after_is more_is grows rs holds =
          let ps = held.store.0 in
          let here = gated ps held.store.1 in
          let same : ps ++ qs ≡ rs = holds_once c v v k.number (ps ++ qs) rs (all_there c grows) holds in
          (omega (arith, after_is, here.0, end_of-both ps qs, ap end_of same), omega (arith, more_is, here.1, length-append ps qs, ap (λ (l : List (List ℕ)). length l) same))

      -- A crash at any moment leaves the whole list and the first of the entries.
      pub leave_first : (s t : DiskState) → ((ps : List (List ℕ)) → Holds b w number ps → gate ≡ end_of ps → LeavesOnly s t (HoldFirst w number ps qs)) → LeavesOnly s t (λ c. take gate c ≡ take gate b)
          → LeavesOnly s t (λ c. (first : List E) × (rest : List E) × (fs ≡ first ++ rest) × HoldAll k v O c (es ++ first))
      leave_first s t leaves front =
          let ps = held.store.0 in
          weaker s t _ _ (both_leave s t _ _ (leaves ps (as_journal k lawful v w number b ps w_is number_is held.store.1) (gated ps held.store.1).0) front)
          (λ c both. (take both.0.many fs, drop both.0.many fs, sym (take-append-drop both.0.many fs), grown both.0.many ps c held.store.1 both.0.holds both.1))

  -- As it is told of a whole list.

  pub first_of : (v : ℕ) (w : WholeList S E) (added more : List E) (s t : DiskState) → w.version ≡ v → LeavesOnly s t (λ c. (first : List E) × (rest : List E) × (more ≡ first ++ rest) × HoldAll k v w.start c ((w.entries ++ added) ++ first))
      → LeavesOnly s t (HoldsFirst k (with_entries w added) more)
  first_of v w added more s t same leaves = weaker s t _ _ leaves (λ c one. (one.0, one.1, one.2, subst (λ x. HoldAll k x w.start c ((w.entries ++ added) ++ one.0)) (sym same) one.3))

  pub has_all : (v : ℕ) (w : WholeList S E) (added more new : List E) (s : DiskState) → w.version ≡ v → new ≡ added ++ more → Only s.content s → HoldAll k v w.start s.content (w.entries ++ new) → Has k (with_entries w (added ++ more)) s
  has_all v w added more new s same is only held =
      let here : HoldAll k w.version w.start s.content (w.entries ++ (added ++ more)) = subst (λ (l : List E). HoldAll k w.version w.start s.content (w.entries ++ l)) is (subst (λ x. HoldAll k x w.start s.content (w.entries ++ new)) (sym same) held) in
      record { content = here; images = λ b image. subst (λ (l : List ℕ). HoldAll k w.version w.start l (w.entries ++ (added ++ more))) (sym (only b image)) here }

  pub has_those : (v : ℕ) (w : WholeList S E) (added : List E) (s : DiskState) → w.version ≡ v → Only s.content s → HoldAll k v w.start s.content (w.entries ++ added) → Has k (with_entries w added) s
  has_those v w added s same only held =
      let here : HoldAll k w.version w.start s.content (w.entries ++ added) = subst (λ x. HoldAll k x w.start s.content (w.entries ++ added)) (sym same) held in
      record { content = here; images = λ b image. subst (λ (l : List ℕ). HoldAll k w.version w.start l (w.entries ++ added)) (sym (only b image)) here }

  pub opened_as : (v : ℕ) (w : WholeList S E) (b : List ℕ) → w.version ≡ v → HoldAll k w.version w.start b w.entries → HoldAll k v w.start b w.entries
  opened_as v w b same held = subst (λ x. HoldAll k x w.start b w.entries) same held

  -- no call was made
  pub none_of : (v : ℕ) (w : WholeList S E) (added more : List E) (s : DiskState) → w.version ≡ v → DiskIsLawful s → Only s.content s → HoldAll k v w.start s.content (w.entries ++ added) → LeavesOnly s s (HoldsFirst k (with_entries w added) more)
  none_of v w added more s same disk only held =
      started s _ disk (λ b image. ([], more, refl, subst (HoldAll k w.version w.start b) (sym (append-nil (w.entries ++ added))) ((has_those v w added s same only held).images b image)))
