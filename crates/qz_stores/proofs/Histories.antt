-- Histories that are ends of one whole list, and what a crash leaves of them.
use Rattle.std.proofs.Common.{◌≡◌, ◌⊎◌, inl, inr, ⊎_elim, ℕ, ◌+◌, List, [], ◌∷◌, ◌++◌, length, take, refl, sym, ◌∙◌, ap, subst, arith, append_assoc, length-append}
use Rattle.std.proofs.lemmas.List.{length-take-le}
use Rattle.std.specs.Prelude.{Option, Some, None}
use Rattle.qz_disk.specs.Disk.{DiskState, LeavesOnly}
use Rattle.qz_disk.proofs.Moments.{weaker}
use Rattle.qz_stores.specs.Kinds.{StoreKind, IsLawful, replay, with_entry}
use Rattle.qz_stores.specs.Bases.{HoldAll, MayHoldAll, IsEndOf, IsDecidedFrom, WholeList, BeginsAs, IsWhole, Stands, AreEnds, IsDecided}
use Rattle.qz_stores.specs.Bytes.{MayBe}
use Rattle.qz_stores.proofs.WholeBytes.{end_parts, end_leaves, end_more}

module _ {H S E R : Type 0} (k : StoreKind H S E R) (lawful : IsLawful k) where
  -- Ends of one whole list.

  pub ends_same : (O : S) (h : H) (es : List E) → IsEndOf k O h es → AreEnds k O h h
  ends_same O h es is = record { entries = es; first = is; second = is }

  pub same_state : (O : S) (h g : H) → AreEnds k O h g → replay k h ≡ replay k g
  same_state O h g both = end_leaves k lawful O h both.entries both.first ∙ sym (end_leaves k lawful O g both.entries both.second)

  end_counted : (O : S) (h : H) (es : List E) → IsEndOf k O h es → k.base_count h + length (k.entries h) ≡ length es
  end_counted O h es is =
      omega (arith, ap (λ (l : List E). length l) (end_parts k lawful O h es is), length-append (take (k.base_count h) es) (k.entries h), length-take-le (k.base_count h) es is.there)

  pub same_count : (O : S) (h g : H) → AreEnds k O h g → k.base_count h + length (k.entries h) ≡ k.base_count g + length (k.entries g)
  same_count O h g both = end_counted O h both.entries both.first ∙ sym (end_counted O g both.entries both.second)

  -- an end with one entry more
  pub end_with : (O : S) (h : H) (es : List E) (e : E) → IsEndOf k O h es → IsEndOf k O (with_entry k e h) (es ++ e ∷ [])
  end_with O h es e is = end_more k lawful O (k.base_count h) (k.base h) (k.entries h) (e ∷ []) es (subst (λ (g : H). IsEndOf k O g es) (sym (lawful.whole h)) is)

  pub ends_with : (O : S) (h g : H) (e : E) → AreEnds k O h g → AreEnds k O (with_entry k e h) (with_entry k e g)
  ends_with O h g e both = record {
    entries = both.entries ++ e ∷ [];
    first = end_with O h both.entries e both.first;
    second = end_with O g both.entries e both.second;
  }

  -- What is decided of the whole list is decided of its end.
  pub decided_ends : (O : S) (es : List E) (h found : H) (u : Option E) → IsEndOf k O h es → IsDecidedFrom k O es u found → IsDecided k O h u found
  decided_ends O es h found None is decided = record { entries = es; first = is; second = decided }
  decided_ends O es h found (Some e) is (inl old) = inl (record { entries = es; first = is; second = old })
  decided_ends O es h found (Some e) is (inr new) = inr (record { entries = es ++ e ∷ []; first = end_with O h es e is; second = new })

  -- What a crash leaves can be opened again.

  pub stands_holds : (w : WholeList S E) (h : H) (b : List ℕ) → Stands k w b h → (v : WholeList S E) × BeginsAs w v × IsWhole k v b
  stands_holds w h b stands = (record { version = w.version; start = w.start; entries = w.entries ++ stands.more }, (refl, refl), stands.held)

  pub may_hold : (w : WholeList S E) (h : H) (u : Option E) (b : List ℕ) → MayBe k w h u b → (v : WholeList S E) × BeginsAs w v × IsWhole k v b
  may_hold w h None b may = stands_holds w h b may
  may_hold w h (Some e) b (inl may) = stands_holds w h b may
  may_hold w h (Some e) b (inr may) = stands_holds w (with_entry k e h) b may

  -- They hold a whole list that begins as before.
  pub goes_on_in : (w : WholeList S E) (h : H) (u : Option E) (b : List ℕ) → MayBe k w h u b → (more : List E) × HoldAll k w.version w.start b (w.entries ++ more)
  goes_on_in w h None b may = (may.more, may.held)
  goes_on_in w h (Some e) b (inl may) = (may.more, may.held)
  goes_on_in w h (Some e) b (inr may) = (may.more, may.held)

  -- Bytes that hold the list, or it with the undecided entry, are those of its end.
  may_of : (w : WholeList S E) (more : List E) (h : H) (u : Option E) (b : List ℕ) → IsEndOf k w.start h (w.entries ++ more) → MayHoldAll k w.version w.start (w.entries ++ more) u b → MayBe k w h u b
  may_of w more h None b is held = record { more = more; held = held; end_of_them = is }
  may_of w more h (Some e) b is (inl held) = inl (record { more = more; held = held; end_of_them = is })
  may_of w more h (Some e) b is (inr held) =
      let same = append_assoc w.entries more (e ∷ []) in
      inr (record {
        more = more ++ e ∷ [];
        held = subst (λ (l : List E). HoldAll k w.version w.start b l) same held;
        end_of_them = subst (λ (l : List E). IsEndOf k w.start (with_entry k e h) l) same (end_with w.start h (w.entries ++ more) e is);
      })

  -- with what was added since the opening
  pub added_may : (w : WholeList S E) (more : List E) (n : ℕ) (B : S) (found added : List E) (u : Option E) (b : List ℕ) → IsEndOf k w.start (k.history n B found) (w.entries ++ more)
      → MayHoldAll k w.version w.start ((w.entries ++ more) ++ added) u b → MayBe k w (k.history n B (found ++ added)) u b
  added_may w more n B found added u b is may =
      let h = k.history n B (found ++ added) in
      let same = append_assoc w.entries more added in
      may_of w (more ++ added) h u b (subst (λ (l : List E). IsEndOf k w.start h l) same (end_more k lawful w.start n B found added (w.entries ++ more) is))
      (subst (λ (l : List E). MayHoldAll k w.version w.start l u b) same may)

  -- the bytes of the opening, in this version, hold a whole list that begins with this one
  abbrev pub GoesOn : ℕ → List ℕ → WholeList S E → Type 0
  GoesOn v o w = (more : List E) × (v ≡ w.version) × HoldAll k w.version w.start o (w.entries ++ more)

  -- A store was opened on these bytes, with this base and these entries.
  module _ (v n : ℕ) (B : S) (o : List ℕ) (found : List E) (ended : (O : S) (whole : List E) → HoldAll k v O o whole → IsEndOf k O (k.history n B found) whole) where
    pub held_from : (w : WholeList S E) → (from : GoesOn v o w) → HoldAll k v w.start o (w.entries ++ from.0)
    held_from w from = subst (λ (x : ℕ). HoldAll k x w.start o (w.entries ++ from.0)) (sym from.1) from.2

    pub now_may : (added : List E) (u : Option E) (b : List ℕ) (w : WholeList S E) → (from : GoesOn v o w) → MayHoldAll k v w.start ((w.entries ++ from.0) ++ added) u b → MayBe k w (k.history n B (found ++ added)) u b
    now_may added u b w from may =
        let whole = w.entries ++ from.0 in
        added_may w from.0 n B found added u b (ended w.start whole (held_from w from)) (subst (λ (x : ℕ). MayHoldAll k x w.start (whole ++ added) u b) from.1 may)

    pub now_decided : (added : List E) (u : Option E) (h : H) (w : WholeList S E) → (from : GoesOn v o w) → IsDecidedFrom k w.start ((w.entries ++ from.0) ++ added) u h → IsDecided k w.start (k.history n B (found ++ added)) u h
    now_decided added u h w from decided =
        let whole = w.entries ++ from.0 in
        decided_ends w.start (whole ++ added) (k.history n B (found ++ added)) h u (end_more k lawful w.start n B found added whole (ended w.start whole (held_from w from))) decided

    -- A call leaves the whole list of before or that of after.
    pub either_left : (added next : List E) (u x : Option E) (s t : DiskState) → ((O : S) (whole : List E) → HoldAll k v O o whole → LeavesOnly s t (λ b. MayHoldAll k v O (whole ++ added) u b ⊎ MayHoldAll k v O (whole ++ next) x b))
        → (w : WholeList S E) → GoesOn v o w → GoesOn v o w × LeavesOnly s t (λ b. MayBe k w (k.history n B (found ++ added)) u b ⊎ MayBe k w (k.history n B (found ++ next)) x b)
    either_left added next u x s t leaves w from =
        (from, weaker s t _ _ (leaves w.start (w.entries ++ from.0) (held_from w from)) (λ b either. ⊎_elim (λ before. inl (now_may added u b w from before)) (λ after. inr (now_may next x b w from after)) either))

    -- It leaves that of before, and its history is what the state after it has, too.
    pub same_left : (added next : List E) (u x : Option E) (s t : DiskState) → ((O : S) (whole : List E) → HoldAll k v O o whole → LeavesOnly s t (MayHoldAll k v O (whole ++ added) u))
        → (w : WholeList S E) → GoesOn v o w → GoesOn v o w × LeavesOnly s t (λ b. MayBe k w (k.history n B (found ++ added)) u b ⊎ MayBe k w (k.history n B (found ++ next)) x b)
    same_left added next u x s t leaves w from =
        (from, weaker s t _ _ (leaves w.start (w.entries ++ from.0) (held_from w from)) (λ b before. inl (now_may added u b w from before)))
