-- A crash while a journal is made.
use Rattle.std.proofs.Common.{◌≡◌, ℕ, true, List, [], ◌∷◌, ◌++◌, length, take, drop, refl, sym, ◌∙◌, ap, subst, arith, length-append, Result}
use Rattle.std.specs.Prelude.{Option, Some, None}
use Rattle.qz_disk.specs.Disk.{DiskState, Torn, Only, Stays, LeavesOnly, written}
use Rattle.qz_disk.proofs.Moments.{then_leaves, torn_same, weaker}
use Rattle.std.proofs.lemmas.List.Elements.{All-nil}
use Rattle.qz_journal.specs.Layout.{is_version, IsHeader, IsPayload, HasStore, Holds, new_header}
use Rattle.qz_journal.specs.Making.{HasFront, IsFoundNew, IsMadeOr, Makes}
use Rattle.qz_journal.specs.Slots.{slot}
use Rattle.qz_journal.specs.Through.{PutsThrough}
use Rattle.qz_journal.specs.declared.errors.NewStoreError.{NewStoreError}
use Rattle.qz_journal.specs.declared.errors.NewStoreError.TheVariants as new_store
use Rattle.qz_journal.specs.declared.fronts.Front.{Front}
use Rattle.qz_journal.specs.declared.fronts.Front.TheVariants as front
use Rattle.qz_journal.proofs.Headers.{header_length}
use Rattle.qz_journal.proofs.SlotBytes.{slot_before}

-- a new store is its header and a closed gate
pub new_gate : (version kind : ℕ) (front : List ℕ) → front ≡ new_header version kind ++ 0 ∷ [] → front ≡ take 16 front ++ 0 ∷ []
new_gate version kind front is = is ∙ ap (λ (l : List ℕ). take 16 l ++ 0 ∷ []) (sym is)

-- and so begins what it was written over
pub new_front : (version kind : ℕ) (front old b : List ℕ) → front ≡ new_header version kind ++ 0 ∷ [] → b ≡ written 0 front old → take 16 b ≡ new_header version kind
new_front version kind front old b bytes is = ap (take 16) is ∙ ap (λ (l : List ℕ). take 16 (written 0 l old)) bytes

-- the front was read, and then the first 17 bytes were written
pub created : {T E : Type 0} (version kind : ℕ) (r : Result T E) (bytes front : List ℕ) (old mid new : DiskState) → IsHeader version kind (take 16 front) → front ≡ take 16 front ++ 0 ∷ [] → Stays old mid → LeavesOnly old mid old.IsImage → Only bytes old → PutsThrough 0 front r mid new → LeavesOnly old new (Torn 0 17 bytes)
created version kind r bytes front old mid new header gate stays looked only puts =
    let long : length front ≡ 17 = omega (arith, ap length gate, length-append (take 16 front) (0 ∷ []), header_length version kind (take 16 front) header) in
    then_leaves old mid new old.IsImage (Torn 0 (length front) bytes) (Torn 0 17 bytes) looked
    (puts.any_moment bytes (λ b is. only b ((stays.images b).0 is)))
    (λ b is. subst (Torn 0 17 bytes) (sym (only b is)) (torn_same 0 17 bytes))
    (λ b torn. subst (λ n. Torn 0 n bytes b) long torn)

-- a look found no store
pub none_there : (f : Front) (bytes : List ℕ) (kind : ℕ) → f ≡ front.Neither → HasFront bytes kind f → HasStore kind bytes → ⊥
none_there f bytes kind is found = subst (HasFront bytes kind) is found

-- The bytes of a new store, over others.
abbrev new_bytes : ℕ → ℕ → List ℕ → List ℕ
new_bytes version kind old = written 0 (new_header version kind ++ 0 ∷ []) old

new_holds : (version kind : ℕ) (old : List ℕ) → is_version version ≡ true → Holds (new_bytes version kind old) version kind []
new_holds version kind old known = record {
  sizes = All-nil IsPayload;
  header = record { known = known; front = refl; long = refl };
  blocks_stand = refl;
  gate = omega arith;
  shut = λ e. absurd (omega (arith, e));
}

closed_six : (version kind : ℕ) → slot 6 (new_header version kind) ≡ None
unfolding slot
closed_six version kind = refl

closed_eleven : (version kind : ℕ) → slot 11 (new_header version kind) ≡ None
unfolding slot
closed_eleven version kind = refl

-- no slot of a new header is open
pub new_slots : (version kind : ℕ) (b : List ℕ) → take 16 b ≡ new_header version kind → (slot 6 b ≡ None) × (slot 11 b ≡ None)
new_slots version kind b header =
    let same : take 16 b ≡ take 16 (new_header version kind) = header in
    (slot_before 6 16 (new_header version kind) b (omega arith) same ∙ closed_six version kind, slot_before 11 16 (new_header version kind) b (omega arith) same ∙ closed_eleven version kind)

module _ (version kind : ℕ) (old mid : DiskState) (stays : Stays old mid) (looked : LeavesOnly old mid old.IsImage) where
  -- the front was read, and nothing was written
  pub not_made : (e : Option NewStoreError) → IsFoundNew old.content kind e → IsMadeOr version kind e old mid → Makes version kind e old mid
  not_made e found made = record {
    found = found;
    made = made;
    kept = λ has. stays;
    kept_at_any_moment = λ has. looked;
    any_moment = λ bytes only. weaker old mid old.IsImage (Torn 0 17 bytes) looked (λ b is. subst (Torn 0 17 bytes) (sym (only b is)) (torn_same 0 17 bytes));
  }

  -- the front was read and is that of no store, and then a new store was written, or the disk failed
  module _ {T E : Type 0} (r : Result T E) (front : List ℕ) (new : DiskState) (header : IsHeader version kind (take 16 front)) (front_is : front ≡ new_header version kind ++ 0 ∷ [])
      (puts : PutsThrough 0 front r mid new) (none : HasStore kind old.content → ⊥) where
    written_by : (e : Option NewStoreError) → IsFoundNew old.content kind e → IsMadeOr version kind e old new → Makes version kind e old new
    written_by e found made = record {
      found = found;
      made = made;
      kept = λ has. absurd (none has);
      kept_at_any_moment = λ has. absurd (none has);
      any_moment = λ bytes only. created version kind r bytes front old mid new header (new_gate version kind front front_is) stays looked only puts;
    }

    pub made_not : Makes version kind (Some new_store.Fault) old new
    made_not = written_by (Some new_store.Fault) tt tt

    pub made_new : new.content ≡ written 0 front mid.content → Only new.content new → Makes version kind None old new
    made_new content_is durable =
        let is : new.content ≡ new_bytes version kind old.content = content_is ∙ ap (λ (l : List ℕ). written 0 l mid.content) front_is ∙ ap (new_bytes version kind) stays.content in
        written_by None none (record {
          empty = subst (λ (b : List ℕ). Holds b version kind []) (sym is) (new_holds version kind old.content header.known);
          header = ap (take 16) is;
          keeps = ap (drop 17) is;
          durable = durable;
        })
