-- A bad place and an end are told.
use Rattle.std.proofs.Common.{◌≡◌, ◌≢◌, ◌⊎◌, ⊎_elim, inl, inr, ℕ, ◌<◌, List, [], ◌∷◌, ◌++◌, length, get_or, drop, refl, sym, ◌∙◌, ap, subst, arith, append_assoc, length-append}
use Rattle.std.proofs.lemmas.Bool.{cases_lt}
use Rattle.qz_journal.proofs.Stands.{length-body}
use Rattle.qz_journal.specs.Layout.{body_of, blocks, end_of}
use Rattle.qz_stream.proofs.Once.{IsLess, announced-body, splits-compared, no_block-unfinished, no_block-shut, no_block-nil, no_block-less, no_splits-bad, no_splits-short, taken-after, taken_once}
use Rattle.qz_stream.specs.Blocks.{Splits, HasNoBlock, announced, MayFollow, IsUnfinished, IsShut, IsBadBlock, AreWithin, IsEnd, IsBadGate, IsBadPlace}
use Rattle.qz_stream.specs.Front.{MayBegin, IsBadFront}
use Rattle.qz_stream.specs.declared.place.Place.{Place}
use Rattle.qz_stream.specs.declared.place.Place.TheVariants as place
use Rattle.qz_stream.specs.Standing.{Standing, StandsAt, IsAfter}

blocks-append : (ps qs : List (List ℕ)) → blocks (ps ++ qs) ≡ blocks ps ++ blocks qs
blocks-append [] qs = refl
blocks-append (p ∷ ps) qs = ap (λ (l : List ℕ). 165 ∷ l) (ap (λ (l : List ℕ). body_of p ++ l) (blocks-append ps qs) ∙ sym (append_assoc (body_of p) (blocks ps) (blocks qs)))

-- the next of the payloads may follow
less_within : (ps qs : List (List ℕ)) (x : List ℕ) → (less : IsLess ps qs x) → AreWithin qs → MayFollow (end_of ps) (length less.next)
less_within ps qs x less within =
    let size = less.size in
    record {
      some = size.0;
      short = size.1;
      within = omega (arith, within, ap end_of less.are, ap (λ (l : List ℕ). length l) (blocks-append ps (less.next ∷ less.more)), length-append (blocks ps) (blocks (less.next ∷ less.more)), length-append (body_of less.next) (blocks less.more), length-body less.next);
    }

-- no further payload stands at a bad gate
bad_less : (ps qs : List (List ℕ)) (x : List ℕ) → IsLess ps qs x → AreWithin qs → IsBadBlock (end_of ps) x → ⊥
bad_less ps qs x less within bad =
    let inner : bad.behind ≡ body_of less.next ++ less.rest = ap (λ (l : List ℕ). drop 1 l) (sym bad.is ∙ less.is) in
    bad.bad (subst (MayFollow (end_of ps)) (sym (ap announced inner ∙ announced-body less.next less.rest less.size)) (less_within ps qs x less within))

bad-unfinished : (gate : ℕ) (tail : List ℕ) → IsUnfinished gate tail → IsBadBlock gate tail → ⊥
bad-unfinished gate [] is bad = let e : [] ≡ 165 ∷ bad.behind = bad.is in cc
bad-unfinished gate (first ∷ behind) is bad =
    let inner : behind ≡ bad.behind = ap (λ (l : List ℕ). drop 1 l) bad.is in
    ⊎_elim (λ few. omega (arith, few, bad.long, ap (λ (l : List ℕ). length l) inner)) (λ part. bad.bad (subst (λ (l : List ℕ). MayFollow gate (announced l)) inner part.0)) is.1

bad-shut : (gate : ℕ) (tail : List ℕ) → IsShut tail → IsBadBlock gate tail → ⊥
bad-shut gate tail is bad = is.shut (ap (λ (l : List ℕ). get_or l 0 0) (sym is.is ∙ bad.is))

bad-nil : (gate : ℕ) → IsBadBlock gate [] → ⊥
bad-nil gate bad = let e : [] ≡ 165 ∷ bad.behind = bad.is in cc

shut-unfinished : (gate : ℕ) (tail : List ℕ) → IsUnfinished gate tail → IsShut tail → ⊥
shut-unfinished gate [] is shut = let e : [] ≡ shut.gate ∷ shut.rest = shut.is in cc
shut-unfinished gate (first ∷ behind) is shut = shut.shut (ap (λ (l : List ℕ). get_or l 0 0) (sym shut.is) ∙ is.0)

shut-nil : IsShut [] → ⊥
shut-nil shut = let e : [] ≡ shut.gate ∷ shut.rest = shut.is in cc

-- there is no bad place where these payloads are followed by no block, whole or bad
not_bad : (fed : List ℕ) (ps qs : List (List ℕ)) (tail : List ℕ) (at : ℕ) → Splits fed ps tail → AreWithin ps → HasNoBlock tail → (IsBadBlock (end_of ps) tail → ⊥) → IsBadPlace fed qs at → ⊥
not_bad fed ps qs tail at splits within none no_bad (inl front) = no_splits-bad fed at front.0 ps tail splits
not_bad fed ps qs tail at splits within none no_bad (inr gate) =
    let bad : IsBadBlock (end_of qs) gate.tail = subst (λ (n : ℕ). IsBadBlock n gate.tail) gate.gate_is gate.bad in
    ⊎_elim (λ same. no_bad (subst (λ (l : List ℕ). IsBadBlock (end_of ps) l) (sym same.1) (subst (λ (l : List (List ℕ)). IsBadBlock (end_of l) gate.tail) (sym same.0) bad)))
    (λ less. ⊎_elim (λ l. no_block-less ps qs tail none l) (λ l. bad_less qs ps gate.tail l within bad) less)
    (splits-compared fed ps qs tail gate.tail splits gate.splits)

-- there is one bad place
bad_front_once : (fed : List ℕ) (a b : ℕ) → IsBadFront fed a → IsBadFront fed b → a ≡ b
bad_front_once fed a b p q =
    ⊎_elim (λ lt. absurd (p.bad (q.before a lt p.there))) (λ ge. ⊎_elim (λ lt. absurd (q.bad (p.before b lt q.there))) (λ le. omega (arith, ge, le)) (cases_lt b a)) (cases_lt a b)

bad_gate_once : (fed : List ℕ) (ps qs : List (List ℕ)) (a b : ℕ) → IsBadGate fed ps a → IsBadGate fed qs b → (ps ≡ qs) × (a ≡ b)
bad_gate_once fed ps qs a b p q =
    let p_bad : IsBadBlock (end_of ps) p.tail = subst (λ (n : ℕ). IsBadBlock n p.tail) p.gate_is p.bad in
    let q_bad : IsBadBlock (end_of qs) q.tail = subst (λ (n : ℕ). IsBadBlock n q.tail) q.gate_is q.bad in
    ⊎_elim (λ same. (same.0, p.gate_is ∙ ap end_of same.0 ∙ sym q.gate_is))
    (λ less. absurd (⊎_elim (λ l. bad_less ps qs p.tail l q.within p_bad) (λ l. bad_less qs ps q.tail l p.within q_bad) less))
    (splits-compared fed ps qs p.tail q.tail p.splits q.splits)

pub bad_once : (fed : List ℕ) (ps qs : List (List ℕ)) (a b : ℕ) → IsBadPlace fed ps a → IsBadPlace fed qs b → (ps ≡ qs) × (a ≡ b)
bad_once fed ps qs a b (inl p) (inl q) = (p.1 ∙ sym q.1, bad_front_once fed a b p.0 q.0)
bad_once fed ps qs a b (inl p) (inr q) = absurd (no_splits-bad fed a p.0 qs q.tail q.splits)
bad_once fed ps qs a b (inr p) (inl q) = absurd (no_splits-bad fed b q.0 ps p.tail p.splits)
bad_once fed ps qs a b (inr p) (inr q) = bad_gate_once fed ps qs a b p q

-- the header has none
bad-short : (fed : List ℕ) (qs : List (List ℕ)) (at : ℕ) → length fed < 16 → MayBegin fed → IsBadPlace fed qs at → ⊥
bad-short fed qs at short front (inl bad) = let b = bad.0 in b.bad (front at b.early b.there)
bad-short fed qs at short front (inr gate) = no_splits-short fed short qs gate.tail gate.splits

bad_told-at : (p : Place) (fed : List ℕ) (ps qs : List (List ℕ)) (gate at : ℕ) (tail : List ℕ) → StandsAt p fed ps gate tail → IsBadPlace fed qs at → (p ≡ place.Bad) × (gate ≡ at)
bad_told-at place.Header fed ps qs gate at tail is bad = absurd (bad-short fed qs at is.short is.front bad)
bad_told-at place.Block fed ps qs gate at tail is bad = absurd (not_bad fed ps qs tail at is.splits is.within (no_block-unfinished gate tail is.unfinished) (λ b. bad-unfinished gate tail is.unfinished (subst (λ (n : ℕ). IsBadBlock n tail) (sym is.gate_is) b)) bad)
bad_told-at place.Whole fed ps qs gate at tail is bad = absurd (not_bad fed ps qs [] at is.splits is.within no_block-nil (bad-nil (end_of ps)) bad)
bad_told-at place.Ended fed ps qs gate at tail is bad = absurd (not_bad fed ps qs is.tail at is.splits is.within (no_block-shut is.tail is.shut) (bad-shut (end_of ps) is.tail is.shut) bad)
bad_told-at place.Bad fed ps qs gate at tail is bad = (refl, (bad_once fed ps qs gate at is bad).1)

pub bad_told : (fed : List ℕ) (ps qs : List (List ℕ)) (s : Standing) (at : ℕ) → IsAfter fed ps s → IsBadPlace fed qs at → (s.place ≡ place.Bad) × (s.gate ≡ at)
bad_told fed ps qs s at is bad = bad_told-at s.place fed ps qs s.gate at s.tail is.stands bad

-- an end is told
same_end : (fed : List ℕ) (ps qs : List (List ℕ)) (tail : List ℕ) (gate : ℕ) → Splits fed ps tail → HasNoBlock tail → IsEnd fed qs gate → (ps ≡ qs) × IsShut tail
same_end fed ps qs tail gate splits none end =
    ⊎_elim (λ same. (same.0, subst IsShut (sym same.1) end.shut))
    (λ less. absurd (⊎_elim (λ l. no_block-less ps qs tail none l) (λ l. no_block-less qs ps end.tail (no_block-shut end.tail end.shut) l) less))
    (splits-compared fed ps qs tail end.tail splits end.splits)

end_told-at : (p : Place) (fed : List ℕ) (ps qs : List (List ℕ)) (gate at : ℕ) (tail : List ℕ) → StandsAt p fed ps gate tail → IsEnd fed qs at → (p ≡ place.Ended) × (gate ≡ at)
end_told-at place.Header fed ps qs gate at tail is end = absurd (no_splits-short fed is.short qs end.tail end.splits)
end_told-at place.Block fed ps qs gate at tail is end = absurd (shut-unfinished gate tail is.unfinished (same_end fed ps qs tail at is.splits (no_block-unfinished gate tail is.unfinished) end).1)
end_told-at place.Whole fed ps qs gate at tail is end = absurd (shut-nil (same_end fed ps qs [] at is.splits no_block-nil end).1)
end_told-at place.Ended fed ps qs gate at tail is end = (refl, is.gate_is ∙ ap end_of (same_end fed ps qs is.tail at is.splits (no_block-shut is.tail is.shut) end).0 ∙ sym end.gate_is)
end_told-at place.Bad fed ps qs gate at tail is end = absurd (not_bad fed qs ps end.tail gate end.splits end.within (no_block-shut end.tail end.shut) (bad-shut (end_of qs) end.tail end.shut) is)

pub end_told : (fed : List ℕ) (ps qs : List (List ℕ)) (s : Standing) (at : ℕ) → IsAfter fed ps s → IsEnd fed qs at → (s.place ≡ place.Ended) × (s.gate ≡ at)
end_told fed ps qs s at is end = end_told-at s.place fed ps qs s.gate at s.tail is.stands end

-- the payloads don't depend on the pieces
bad_or : (p : Place) → (p ≡ place.Bad) ⊎ (p ≢ place.Bad)
bad_or place.Header = inr (λ (e : place.Header ≡ place.Bad). cc)
bad_or place.Block = inr (λ (e : place.Block ≡ place.Bad). cc)
bad_or place.Whole = inr (λ (e : place.Whole ≡ place.Bad). cc)
bad_or place.Ended = inr (λ (e : place.Ended ≡ place.Bad). cc)
bad_or place.Bad = inl refl

bad_place : (fed : List ℕ) (ps : List (List ℕ)) (s : Standing) → IsAfter fed ps s → s.place ≡ place.Bad → IsBadPlace fed ps s.gate
bad_place fed ps s is bad = subst (λ (p : Place). StandsAt p fed ps s.gate s.tail) bad is.stands

pub payloads_once : (fed : List ℕ) (ps qs : List (List ℕ)) (s t : Standing) → IsAfter fed ps s → IsAfter fed qs t → ps ≡ qs
payloads_once fed ps qs s t p q =
    ⊎_elim (λ bad. let found = bad_place fed ps s p bad in
    (bad_once fed ps qs s.gate t.gate found (bad_place fed qs t q (bad_told fed qs ps t s.gate q found).0)).0)
    (λ good. ⊎_elim (λ bad. absurd (good (bad_told fed ps qs s t.gate p (bad_place fed qs t q bad)).0))
    (λ other. taken_once fed ps qs (taken-after fed ps s p good) (taken-after fed qs t q other)) (bad_or t.place)) (bad_or s.place)
