-- What a stream is after more bytes.
use Rattle.std.proofs.Common.{◌≡◌, ◌≢◌, ◌⊎◌, ⊎_elim, inl, inr, ℕ, ◌+◌, ◌<◌, List, [], ◌∷◌, ◌++◌, length, drop, refl, sym, ◌∙◌, ap, subst, arith, append_assoc, append-nil, length-append}
use Rattle.std.specs.Prelude.{Option}
use Rattle.std.specs.Int.{w32, from_be_bytes}
use Rattle.std.proofs.lemmas.List.{take-append-le}
use Rattle.qz_journal.proofs.Stands.{length-body, end_of-push}
use Rattle.qz_journal.specs.Layout.{IsPayload, end_of}
use Rattle.qz_journal.specs.Slots.{slots_of}
use Rattle.qz_journal.specs.declared.slots.Slots.{Slots}
use Rattle.qz_stream.specs.declared.place.Place.{Place}
use Rattle.qz_stream.specs.declared.place.Place.TheVariants as place
use Rattle.qz_stream.proofs.Fronts.{version-more, version-bad, bad-more, slots-more, slots-bad}
use Rattle.qz_stream.proofs.Parts.{splits-append, splits-push, splits-long, drop-block}
use Rattle.qz_stream.specs.Blocks.{Splits, MayFollow, IsEnd, IsBadGate, IsBadPlace}
use Rattle.qz_stream.specs.Front.{MayBegin, IsBadFront, IsVersionOf}
use Rattle.qz_stream.specs.Standing.{Standing, handed, handed_at, IsInHeader, IsInBlock, IsAfterBlock, HasSlots, IsAfter, Feeds, IsFound, StandsAt, payload_of}

abbrev pub standing : Slots → Option ℕ → Place → ℕ → List ℕ → Standing
standing slots version at gate tail = record { version = version; slots = slots; place = at; gate = gate; tail = tail }

-- no bytes and no payload more
feeds-at : (fed : List ℕ) (payloads : List (List ℕ)) (s : Standing) → handed s ≡ [] → IsAfter fed payloads s → IsAfter (fed ++ []) (payloads ++ handed s) s
feeds-at fed payloads s none after =
    subst (λ (l : List ℕ). IsAfter l (payloads ++ handed s) s) (sym (append-nil fed))
    (subst (λ (ps : List (List ℕ)). IsAfter fed ps s) (sym (ap (λ (ps : List (List ℕ)). payloads ++ ps) none ∙ append-nil payloads)) after)

-- no bytes are no change, but where a payload was just handed out
pub feeds-none : (s : Standing) → handed s ≡ [] → Feeds [] s s
feeds-none s none fed payloads after = feeds-at fed payloads s none after

-- some bytes and then others
pub feeds-both : (a b bytes : List ℕ) (s t u : Standing) → handed t ≡ [] → bytes ≡ a ++ b → Feeds a s t → Feeds b t u → Feeds bytes s u
feeds-both a b bytes s t u none is first second fed payloads after =
    let same : payloads ++ handed t ≡ payloads = ap (λ (ps : List (List ℕ)). payloads ++ ps) none ∙ append-nil payloads in
    subst (λ (l : List ℕ). IsAfter l (payloads ++ handed u) u) (append_assoc fed a b ∙ ap (λ (l : List ℕ). fed ++ l) (sym is))
    (second (fed ++ a) payloads (subst (λ (ps : List (List ℕ)). IsAfter (fed ++ a) ps t) same (first fed payloads after)))

-- Bytes are passed over.
bad-gate-more : (fed more : List ℕ) (payloads : List (List ℕ)) (gate : ℕ) → IsBadGate fed payloads gate → IsBadGate (fed ++ more) payloads gate
bad-gate-more fed more payloads gate is = record {
  tail = is.tail ++ more;
  splits = splits-append fed more payloads is.tail is.splits;
  within = is.within;
  gate_is = is.gate_is;
  bad = record {
    behind = is.bad.behind ++ more;
    is = ap (λ (l : List ℕ). l ++ more) is.bad.is;
    long = omega (arith, is.bad.long, length-append is.bad.behind more);
    bad = λ may. is.bad.bad (subst (MayFollow gate) (ap (from_be_bytes w32) (take-append-le 4 is.bad.behind more is.bad.long)) may);
  };
}

end-more : (fed more : List ℕ) (payloads : List (List ℕ)) (gate : ℕ) → IsEnd fed payloads gate → IsEnd (fed ++ more) payloads gate
end-more fed more payloads gate is = record {
  tail = is.tail ++ more;
  splits = splits-append fed more payloads is.tail is.splits;
  within = is.within;
  gate_is = is.gate_is;
  shut = record { gate = is.shut.gate; rest = is.shut.rest ++ more; is = ap (λ (l : List ℕ). l ++ more) is.shut.is; shut = is.shut.shut };
}

passed-over : (slots : Slots) (at : Place) (version : Option ℕ) (gate : ℕ) (tail more : List ℕ) → (at ≡ place.Ended) ⊎ (at ≡ place.Bad) → (fed : List ℕ) (payloads : List (List ℕ))
    → IsAfter fed payloads (standing slots version at gate tail) → IsAfter (fed ++ more) (payloads ++ []) (standing slots version at gate tail)
passed-over slots place.Header version gate tail more over = absurd (⊎_elim (λ (e : place.Header ≡ place.Ended). cc) (λ (e : place.Header ≡ place.Bad). cc) over)
passed-over slots place.Block version gate tail more over = absurd (⊎_elim (λ (e : place.Block ≡ place.Ended). cc) (λ (e : place.Block ≡ place.Bad). cc) over)
passed-over slots place.Whole version gate tail more over = absurd (⊎_elim (λ (e : place.Whole ≡ place.Ended). cc) (λ (e : place.Whole ≡ place.Bad). cc) over)
passed-over slots place.Ended version gate tail more over = λ fed payloads after.
    let ended : IsEnd fed payloads gate = after.stands in
    let same : payloads ≡ payloads ++ [] = sym (append-nil payloads) in record {
      version = version-more fed more version (omega (arith, splits-long fed payloads ended.tail ended.splits)) after.version;
      slots = slots-more fed more slots (splits-long fed payloads ended.tail ended.splits) after.slots;
      stands = subst (λ (ps : List (List ℕ)). IsEnd (fed ++ more) ps gate) same (end-more fed more payloads gate ended);
    }
passed-over slots place.Bad version gate tail more over = λ fed payloads after.
    let bad : IsBadPlace fed payloads gate = after.stands in
    subst (λ (ps : List (List ℕ)). IsAfter (fed ++ more) ps (standing slots version place.Bad gate tail)) (sym (append-nil payloads)) (
    ⊎_elim
    (λ front.
    let still = bad-more fed more gate front.0 in
    record { version = version-bad fed more gate version front.0 after.version; slots = slots-bad (fed ++ more) gate slots still; stands = inl (still, front.1) })
    (λ at.
    let long = splits-long fed payloads at.tail at.splits in
    record { version = version-more fed more version (omega (arith, long)) after.version; slots = slots-more fed more slots long after.slots; stands = inr (bad-gate-more fed more payloads gate at) })
    bad)

-- A payload that was handed out is let go of.
pub feeds-passed : (slots : Slots) (version : Option ℕ) (gate size : ℕ) (at : Place) (tail none : List ℕ) → at ≡ place.Whole → size ≡ length tail → none ≡ [] → Feeds [] (standing slots version at gate tail) (standing slots version place.Block (gate + size) none)
feeds-passed slots version gate size place.Header tail none is size_is none_is = absurd (cc)
feeds-passed slots version gate size place.Block tail none is size_is none_is = absurd (cc)
feeds-passed slots version gate size place.Whole tail none is size_is none_is = λ fed payloads after.
    let last : IsAfterBlock fed payloads gate tail = after.stands in
    let at_is : gate + size ≡ end_of payloads = omega (arith, last.gate_is, size_is, ap length last.tail_is, length-body last.payload, ap end_of last.payloads_are, end_of-push last.before last.payload) in
    let here : IsAfter fed payloads (standing slots version place.Block (gate + size) []) = record {
      version = after.version;
      slots = after.slots;
      stands = record { splits = last.splits; within = last.within; gate_is = at_is; unfinished = tt };
    } in
    feeds-at fed payloads (standing slots version place.Block (gate + size) none) refl (subst (λ (l : List ℕ). IsAfter fed payloads (standing slots version place.Block (gate + size) l)) (sym none_is) here)
feeds-passed slots version gate size place.Ended tail none is size_is none_is = absurd (cc)
feeds-passed slots version gate size place.Bad tail none is size_is none_is = absurd (cc)

-- More of the header is there: a byte is bad, or it is whole, or it isn't.
module _ (slots : Slots) (version new : Option ℕ) (gate : ℕ) (at : Place) (is : at ≡ place.Header) (tail more all : List ℕ) (all_is : all ≡ tail ++ more) (version_is : IsVersionOf all new) where
  -- the bytes that were fed
  fed_is : (fed : List ℕ) (payloads : List (List ℕ)) → IsAfter fed payloads (standing slots version at gate tail) → (fed ++ more ≡ all) × (payloads ++ [] ≡ []) × (gate ≡ 0)
  fed_is fed payloads after =
      let here : IsInHeader fed payloads gate tail = subst (λ (p : Place). StandsAt p fed payloads gate tail) is after.stands in
      (ap (λ (l : List ℕ). l ++ more) (sym here.tail_is) ∙ sym all_is, append-nil payloads ∙ here.none, here.gate_is)

  pub header-bad : (bad : ℕ) → IsBadFront all bad → Feeds more (standing slots version at gate tail) (standing slots new place.Bad bad all)
  header-bad bad front fed payloads after =
      let e = fed_is fed payloads after in record {
        version = subst (λ (l : List ℕ). IsVersionOf l new) (sym e.0) version_is;
        slots = subst (λ (l : List ℕ). HasSlots l slots) (sym e.0) (slots-bad all bad slots front);
        stands = inl (subst (λ (l : List ℕ). IsBadFront l bad) (sym e.0) front, e.1);
      }

  pub header-whole : (now : Slots) → now ≡ slots_of all → (none : List ℕ) → none ≡ [] → MayBegin all → length all ≡ 16 → Feeds more (standing slots version at gate tail) (standing now new place.Block 16 none)
  header-whole now now_is none none_is front long fed payloads after =
      let e = fed_is fed payloads after in
      let whole : Splits all [] [] = record { head = all; long = long; front = front; sizes = λ k d lt. absurd (omega arith); whole = sym (append-nil all) } in
      let here : IsAfter all [] (standing now new place.Block 16 []) = record { version = version_is; slots = λ _ _. now_is; stands = record { splits = whole; within = omega arith; gate_is = refl; unfinished = tt } } in
      subst (λ (l : List ℕ). IsAfter l (payloads ++ []) (standing now new place.Block 16 none)) (sym e.0)
      (subst (λ (ps : List (List ℕ)). IsAfter all ps (standing now new place.Block 16 none)) (sym e.1)
      (subst (λ (l : List ℕ). IsAfter all [] (standing now new place.Block 16 l)) (sym none_is) here))

  pub header-more : MayBegin all → length all < 16 → Feeds more (standing slots version at gate tail) (standing slots new place.Header gate all)
  header-more front short fed payloads after =
      let e = fed_is fed payloads after in
      let here : IsAfter all [] (standing slots new place.Header gate all) = record { version = version_is; slots = λ _ long. absurd (omega (arith, long, short)); stands = record { short = short; front = front; none = refl; gate_is = e.2; tail_is = refl } } in
      subst (λ (l : List ℕ). IsAfter l (payloads ++ []) (standing slots new place.Header gate all)) (sym e.0)
      (subst (λ (ps : List (List ℕ)). IsAfter all ps (standing slots new place.Header gate all)) (sym e.1) here)

-- the same parts with more of the tail
splits-now : (fed : List ℕ) (payloads : List (List ℕ)) (gate : ℕ) (tail more all : List ℕ) → all ≡ tail ++ more → IsInBlock fed payloads gate tail → Splits (fed ++ more) payloads all
splits-now fed payloads gate tail more all all_is here = subst (λ (l : List ℕ). Splits (fed ++ more) payloads l) (sym all_is) (splits-append fed more payloads tail here.splits)

-- where no payload is whole
feeds-block : (slots : Slots) (version : Option ℕ) (found : Place) (gate : ℕ) (tail more all : List ℕ) → all ≡ tail ++ more → (fed : List ℕ) (payloads : List (List ℕ)) → IsVersionOf fed version → HasSlots fed slots → IsInBlock fed payloads gate tail
    → handed (standing slots version found gate all) ≡ [] → (Splits (fed ++ more) payloads all → StandsAt found (fed ++ more) payloads gate all) → IsAfter (fed ++ more) (payloads ++ handed (standing slots version found gate all)) (standing slots version found gate all)
feeds-block slots version found gate tail more all all_is fed payloads version_is has here none stands =
    subst (λ (ps : List (List ℕ)). IsAfter (fed ++ more) ps (standing slots version found gate all)) (sym (ap (λ (ps : List (List ℕ)). payloads ++ ps) none ∙ append-nil payloads))
    (record {
      version = version-more fed more version (omega (arith, splits-long fed payloads tail here.splits)) version_is;
      slots = slots-more fed more slots (splits-long fed payloads tail here.splits) has;
      stands = stands (splits-now fed payloads gate tail more all all_is here);
    })

-- More of a block is there.
block-found : (slots : Slots) (version : Option ℕ) (gate : ℕ) (found : Place) (tail more all : List ℕ) → all ≡ tail ++ more → IsFound found gate all
    → (fed : List ℕ) (payloads : List (List ℕ)) → IsVersionOf fed version → HasSlots fed slots → IsInBlock fed payloads gate tail → IsAfter (fed ++ more) (payloads ++ handed (standing slots version found gate all)) (standing slots version found gate all)
block-found slots version gate place.Header tail more all all_is is fed payloads version_is has here = absurd is
block-found slots version gate place.Block tail more all all_is is fed payloads version_is has here =
    feeds-block slots version place.Block gate tail more all all_is fed payloads version_is has here refl (λ splits. record { splits = splits; within = here.within; gate_is = here.gate_is; unfinished = is })
block-found slots version gate place.Whole tail more all all_is is fed payloads version_is has here =
    let splits = splits-now fed payloads gate tail more all all_is here in
    let size : IsPayload is.payload = (is.may_follow.some, is.may_follow.short) in
    let same : payloads ++ payload_of all ∷ [] ≡ payloads ++ is.payload ∷ [] = ap (λ (p : List ℕ). payloads ++ p ∷ []) (ap (λ (l : List ℕ). drop 5 l) is.is ∙ drop-block is.payload) in record {
      version = version-more fed more version (omega (arith, splits-long fed payloads tail here.splits)) version_is;
      slots = slots-more fed more slots (splits-long fed payloads tail here.splits) has;
      stands = record {
        before = payloads;
        payload = is.payload;
        payloads_are = same;
        tail_is = is.is;
        gate_is = here.gate_is;
        splits = subst (λ (ps : List (List ℕ)). Splits (fed ++ more) ps []) (sym same) (splits-push (fed ++ more) payloads is.payload all splits size is.is);
        within = omega (arith, is.may_follow.within, here.gate_is, ap end_of same, end_of-push payloads is.payload);
      };
    }
block-found slots version gate place.Ended tail more all all_is is fed payloads version_is has here =
    feeds-block slots version place.Ended gate tail more all all_is fed payloads version_is has here refl (λ splits. record { tail = all; splits = splits; within = here.within; gate_is = here.gate_is; shut = is })
block-found slots version gate place.Bad tail more all all_is is fed payloads version_is has here =
    feeds-block slots version place.Bad gate tail more all all_is fed payloads version_is has here refl (λ splits. inr (record { tail = all; splits = splits; within = here.within; gate_is = here.gate_is; bad = is }))

pub feeds-found : (slots : Slots) (version : Option ℕ) (gate : ℕ) (at found : Place) (tail more all : List ℕ) → at ≡ place.Block → all ≡ tail ++ more → IsFound found gate all → Feeds more (standing slots version at gate tail) (standing slots version found gate all)
feeds-found slots version gate at found tail more all at_is all_is is fed payloads after = block-found slots version gate found tail more all all_is is fed payloads after.version after.slots (subst (λ (p : Place). StandsAt p fed payloads gate tail) at_is after.stands)

-- where no payload was just handed out
pub handed-none : (s : Standing) → s.place ≢ place.Whole → handed s ≡ []
handed-none s not_whole = none s.place s.tail not_whole
  where
    none : (at : Place) (tail : List ℕ) → at ≢ place.Whole → handed_at at tail ≡ []
    none place.Header tail not_whole = refl
    none place.Block tail not_whole = refl
    none place.Whole tail not_whole = absurd (not_whole refl)
    none place.Ended tail not_whole = refl
    none place.Bad tail not_whole = refl

-- the places at which bytes are passed over
pub over_of : (at : Place) → at ≢ place.Header → at ≢ place.Block → at ≢ place.Whole → (at ≡ place.Ended) ⊎ (at ≡ place.Bad)
over_of place.Header not_header not_block not_whole = absurd (not_header refl)
over_of place.Block not_header not_block not_whole = absurd (not_block refl)
over_of place.Whole not_header not_block not_whole = absurd (not_whole refl)
over_of place.Ended not_header not_block not_whole = inl refl
over_of place.Bad not_header not_block not_whole = inr refl

pub handed-over : (at : Place) (tail : List ℕ) → (at ≡ place.Ended) ⊎ (at ≡ place.Bad) → handed_at at tail ≡ []
handed-over at tail over = ⊎_elim (λ is. ap (λ (p : Place). handed_at p tail) is) (λ is. ap (λ (p : Place). handed_at p tail) is) over

-- the place under another name
pub feeds-placed : (old : Standing) (slots : Slots) (version : Option ℕ) (gate : ℕ) (tail more : List ℕ) (at named : Place) → at ≡ named → Feeds more old (standing slots version named gate tail) → Feeds more old (standing slots version at gate tail)
feeds-placed old slots version gate tail more at named is feeds = subst (λ (p : Place). Feeds more old (standing slots version p gate tail)) (sym is) feeds

pub feeds-over : (s : Standing) (more : List ℕ) → (s.place ≡ place.Ended) ⊎ (s.place ≡ place.Bad) → Feeds more s s
feeds-over s more over fed payloads after =
    subst (λ (ps : List (List ℕ)). IsAfter (fed ++ more) (payloads ++ ps) s) (sym (handed-over s.place s.tail over)) (passed-over s.slots s.place s.version s.gate s.tail more over fed payloads after)
