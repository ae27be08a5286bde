-- The bytes of a store, as a stream.
use Rattle.std.proofs.Common.{ap, ◌≡◌, inl, ℕ, true, List, ◌∷◌, ◌++◌, refl, sym, ◌∙◌, arith, append_assoc, length-append, length-drop, take, drop, take-append-drop}
use Rattle.qz_journal.proofs.Parts.{head_of, parts}
use Rattle.qz_journal.specs.Layout.{Holds, front_of, is_version, blocks, end_of}
use Rattle.qz_stream.proofs.Fronts.{get_or-append}
use Rattle.qz_stream.proofs.Once.{no_block-shut}
use Rattle.qz_stream.specs.Blocks.{Splits, IsShut, AreTaken, AreWithin, IsEnd, IsStoreBytes}
use Rattle.qz_stream.specs.Front.{MayBegin}

-- the first bytes of a store are those of a front
front-begins : (version : ℕ) (slots : List ℕ) → is_version version ≡ true → MayBegin (front_of version 84 ++ slots)
front-begins version slots known at lt there = (version, known, sym (get_or-append (front_of version 84) slots at lt))

pub store-splits : (bytes : List ℕ) (version : ℕ) (ps : List (List ℕ)) → (store : IsStoreBytes bytes version ps) → Splits bytes ps (store.gate ∷ store.rest)
store-splits bytes version ps store = record {
  head = front_of version 84 ++ store.slots;
  long = omega (arith, length-append (front_of version 84) store.slots, store.ten);
  front = front-begins version store.slots store.known;
  sizes = store.sizes;
  whole = store.whole ∙ append_assoc (front_of version 84 ++ store.slots) (blocks ps) (store.gate ∷ store.rest);
}

store-shut : (bytes : List ℕ) (version : ℕ) (ps : List (List ℕ)) → (store : IsStoreBytes bytes version ps) → IsShut (store.gate ∷ store.rest)
store-shut bytes version ps store = record { gate = store.gate; rest = store.rest; is = refl; shut = store.shut }

pub store-taken : (bytes : List ℕ) (version : ℕ) (ps : List (List ℕ)) → IsStoreBytes bytes version ps → AreTaken bytes ps
store-taken bytes version ps store = inl (store.gate ∷ store.rest, store-splits bytes version ps store, no_block-shut (store.gate ∷ store.rest) (store-shut bytes version ps store))

pub store-end : (bytes : List ℕ) (version : ℕ) (ps : List (List ℕ)) → IsStoreBytes bytes version ps → AreWithin ps → IsEnd bytes ps (end_of ps)
store-end bytes version ps store within = record { tail = store.gate ∷ store.rest; splits = store-splits bytes version ps store; within = within; gate_is = refl; shut = store-shut bytes version ps store }

-- what a journal holds are the bytes of a store
pub holds-store : (bytes : List ℕ) (version : ℕ) (ps : List (List ℕ)) → Holds bytes version 84 ps → IsStoreBytes bytes version ps
holds-store bytes version ps holds =
    let h = head_of bytes version 84 ps holds in
    let p = parts bytes version 84 ps holds in
    let head = take 16 bytes in
    record {
      known = h.is.known;
      slots = drop 6 head;
      ten = omega (arith, length-drop 6 head, h.long);
      sizes = p.sizes;
      gate = p.gate;
      shut = p.shut;
      rest = p.rest;
      whole = p.whole ∙ ap (λ (l : List ℕ). l ++ blocks ps ++ p.gate ∷ p.rest) (sym (take-append-drop 6 head) ∙ ap (λ (l : List ℕ). l ++ drop 6 head) h.is.front);
    }
