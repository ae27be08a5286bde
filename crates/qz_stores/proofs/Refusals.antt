-- Why an opening is refused, and what one that isn't leaves.
use Rattle.std.proofs.Common.{◌≡◌, ◌≢◌, inl, inr, ℕ, ◌+◌, ◌<◌, ◌≤◌, true, false, List, [], ◌∷◌, length, take, refl, sym, ◌∙◌, ap, subst, arith}
use Rattle.std.proofs.Props.{props}
use Rattle.std.proofs.Math.Logic.{∥∥₁_elim}
use Rattle.std.specs.Prelude.{Option, Some, None}
use Rattle.std.specs.List.{AllByRecursion}
use Rattle.qz_journal.specs.declared.errors.MountError.{MountError}
use Rattle.qz_journal.specs.declared.errors.MountError.TheVariants as mount
use Rattle.qz_journal.specs.declared.slots.Slots.{Slots}
use Rattle.qz_journal.specs.Layout.{is_version, IsHeader, HasHeader}
use Rattle.qz_journal.specs.Slots.{slots_of, slot_in_use}
use Rattle.qz_journal.specs.Tails.{start_at, start_of, IsTail, IsCounted, IsDamagedTail, IsTailRefused}
use Rattle.qz_journal.proofs.TrueTails.{in_use_early, tail_not_refused}
use Rattle.qz_stores.specs.Stores.{StoreState}
use Rattle.qz_stores.specs.Kinds.{StoreKind, HasRecord, IsLawful, IsLegal, replay}
use Rattle.qz_stores.specs.Bytes.{BeginsNew}
use Rattle.qz_stores.specs.Opening.{IsOpened, IsBase, IsRead, IsStop, IsFirst, IsFirstBad, IsRefused}
use Rattle.qz_stores.proofs.Whole.{recorded_few}

module _ {H S E R : Type 0} (k : StoreKind H S E R) where
  -- a slot's gate comes before all payloads
  early_damaged : (b : List ℕ) (at : ℕ) (tail : List (List ℕ)) (o : Option ℕ) → slot_in_use (slots_of b) ≡ o → at < 16 → IsDamagedTail b tail at → ⊥
  early_damaged b at tail None in_use early damaged = absurd (omega (arith, early, damaged.at_is, ap (λ o. start_at o (slots_of b)) in_use))
  early_damaged b at tail (Some gate) in_use early damaged = damaged.led gate (record { in_use = in_use; astray = inl (inl (omega (arith, early, damaged.at_is))) })

  pub early_refused : (b : List ℕ) (at number : ℕ) (tail : List (List ℕ)) → number ≡ k.number → at < 16 → IsTailRefused b number tail (mount.Damaged at) → IsRefused k b (mount.Damaged at)
  early_refused b at number tail number_is early (header, inl misled) = (subst (λ n. HasHeader n b) number_is header, inl misled)
  early_refused b at number tail number_is early (header, inr damaged) = absurd (early_damaged b at tail (slot_in_use (slots_of b)) refl early damaged)

  first_refused : (b : List ℕ) (at version : ℕ) (tail : List (List ℕ)) (e : MountError) → HasHeader k.number b → IsDamagedTail b tail at → IsHeader version k.number (take 16 b) → IsFirst k (slot_in_use (slots_of b)) version (start_of (slots_of b)) tail at e → IsRefused k b e
  first_refused b at version tail mount.NoMemory header damaged own first = tt
  first_refused b at version tail mount.NotAStore header damaged own first = absurd first
  first_refused b at version tail mount.Fault header damaged own first = absurd first
  first_refused b at version tail (mount.Damaged place) header damaged own first = (
    header,
    inr (record {
      version = version;
      payloads = tail;
      is_whole = false;
      header = own;
      sizes = damaged.sizes;
      ends = damaged.ends;
      led = damaged.led;
      cause = subst (λ n. IsFirstBad k (slot_in_use (slots_of b)) version (start_of (slots_of b)) tail n place) damaged.at_is first;
    }),
  )

  -- a bad gate comes after the payloads
  pub late_refused : (b : List ℕ) (at number version start : ℕ) (s : Slots) (tail : List (List ℕ)) (e : MountError) → number ≡ k.number → 16 ≤ at → IsTailRefused b number tail (mount.Damaged at) → IsHeader version number (take 16 b) → s ≡ slots_of b → start ≡ start_of (slots_of b)
      → IsFirst k (slot_in_use s) version start tail at e → IsRefused k b e
  late_refused b at number version start s tail e number_is late (header, inl misled) own slots_are start_is first = absurd (omega (arith, late, in_use_early (slots_of b) at misled.in_use))
  late_refused b at number version start s tail e number_is late (header, inr damaged) own slots_are start_is first =
      first_refused b at version tail e (subst (λ n. HasHeader n b) number_is header) damaged (subst (λ n. IsHeader version n (take 16 b)) number_is own)
      (subst (λ (x : Slots). IsFirst k (slot_in_use x) version (start_of (slots_of b)) tail at e) slots_are (subst (λ n. IsFirst k (slot_in_use s) version n tail at e) start_is first))

  pub stopped_in : (b : List ℕ) (version count : ℕ) (tail : List (List ℕ)) (e : MountError) → IsTail b version k.number (start_of (slots_of b)) tail → IsCounted (slot_in_use (slots_of b)) count tail → IsStop k (slot_in_use (slots_of b)) version (start_of (slots_of b)) tail e → IsRefused k b e
  stopped_in b version count tail mount.NoMemory is counted stop = tt
  stopped_in b version count tail mount.NotAStore is counted stop = absurd stop
  stopped_in b version count tail mount.Fault is counted stop = absurd stop
  stopped_in b version count tail (mount.Damaged at) is counted stop =
      let header : HasHeader k.number b = (version, is.header) in (
        header,
        inr (record {
          version = version;
          payloads = tail;
          is_whole = true;
          header = is.header;
          sizes = is.sizes;
          ends = is.ends;
          led = λ gate misled. tail_not_refused b version k.number count gate tail tail is counted (header, inl misled);
          cause = stop;
        }),
      )

  -- A store that was opened.

  -- no payload at all stands at no slot in use
  pub led_to : (o : Option ℕ) (count gate : ℕ) (tail : List (List ℕ)) → IsCounted o count tail → o ≡ Some gate → tail ≢ []
  led_to None count gate tail counted is none = let both : None ≡ Some gate = is in absurd (cc)
  led_to (Some used) count gate tail counted is none = subst (IsCounted (Some used) count) none counted

  module _ (lawful : IsLawful k) where
    -- a kind without snapshots begins with a new store
    pub new_base : (o : Option ℕ) (v n : ℕ) (tail : List (List ℕ)) (T : S) → IsBase k o v tail T n → k.has_snapshots ≡ false → (n ≡ 0) × (T ≡ k.empty v)
    new_base None v n tail T base none = (base.1, base.0)
    new_base (Some gate) v n tail T base none = absurd (lawful.none_made none tail T base.before n base.snapshot)

    -- and no slot of it is in use
    pub none_in_use : (o : Option ℕ) (v n : ℕ) (tail : List (List ℕ)) (T : S) → IsBase k o v tail T n → k.has_snapshots ≡ false → o ≡ None
    none_in_use None v n tail T base none = refl
    none_in_use (Some gate) v n tail T base none = absurd (lawful.none_made none tail T base.before n base.snapshot)

    le-prop : (a c : ℕ) → IsProp (a ≤ c)
    le-prop a c = hlevel props

    base_counted : (o : Option ℕ) (v count n : ℕ) (tail : List (List ℕ)) (T : S) → IsCounted o count tail → IsBase k o v tail T n → n + length tail ≤ count
    base_counted None v count n tail T counted base = omega (arith, counted, base.1)
    base_counted (Some gate) v count n tail T counted base =
        let h = lawful.headed tail T base.before n base.snapshot in
        let there : IsCounted (Some gate) count (h.0 ∷ h.1) = subst (IsCounted (Some gate) count) h.2 counted in
        omega (arith, there.1, h.4, base.counted, ap (λ (l : List (List ℕ)). length l) h.2)

    -- there are no more entries than payloads
    pub counted_in : (o : Option ℕ) (v count n : ℕ) (tail : List (List ℕ)) (T : S) (es : List E) → IsCounted o count tail → IsRead k o v tail n T es → n + length es ≤ count
    counted_in o v count n tail T es counted read =
        ∥∥₁_elim read.taken.recorded (le-prop (n + length es) count) (λ zip. omega (arith, base_counted o v count n tail T counted read.base, recorded_few k tail es zip))

    pub begins_new : (o : Option ℕ) (v n : ℕ) (tail : List (List ℕ)) (T : S) (h : H) (es : List E) → is_version v ≡ true → h ≡ k.history n T es → IsBase k o v tail T n → o ≡ None → BeginsNew k v h
    begins_new None v n tail T h es known is base none = record {
      known = known;
      count = ap k.base_count is ∙ lawful.base_count_is n T es ∙ base.1;
      base = ap k.base is ∙ lawful.base_is n T es ∙ base.0;
    }
    begins_new (Some gate) v n tail T h es known is base none = let both : Some gate ≡ None = none in absurd (cc)

    pub opened_on : (o : Option ℕ) (v count n : ℕ) (s : StoreState H E) (tail : List (List ℕ)) (B T : S) (es : List E) → is_version v ≡ true → s.history ≡ k.history n B es → s.payloads ≡ count → s.is_open ≡ true → s.undecided ≡ None
        → IsCounted o count tail → IsRead k o v tail n B es → ∥ k.IsValid B ∥₁ → T ≡ k.replay_from B es → ∥ k.IsValid T ∥₁ → IsOpened k s
    opened_on o v count n s tail B T es known history payloads is_open settled counted read based state valid =
        let h = k.history n B es in
        let base : k.base h ≡ B = lawful.base_is n B es in
        let list : k.entries h ≡ es = lawful.entries_are n B es in
        record {
          is_open = is_open;
          settled = settled;
          sound = record {
            version = v;
            begins = λ none.
                let new = new_base o v n tail B read.base none in
                record { known = known; count = ap k.base_count history ∙ lawful.base_count_is n B es ∙ new.0; base = ap k.base history ∙ base ∙ new.1 };
            base = subst (λ (x : H). ∥ k.IsValid (k.base x) ∥₁) (sym history) (subst (λ (U : S). ∥ k.IsValid U ∥₁) (sym base) based);
            legal = subst (IsLegal k) (sym history) (subst (λ (U : S). k.IsLegalFrom U (k.entries h)) (sym base) (subst (k.IsLegalFrom B) (sym list) read.taken.legal));
            state = subst (λ (x : H). ∥ k.IsValid (replay k x) ∥₁) (sym history) (subst (λ (U : S). ∥ k.IsValid U ∥₁) (state ∙ sym (λ i. k.replay_from (base i) (list i))) valid);
            counted = λ _. omega (arith, payloads, ap k.base_count history, lawful.base_count_is n B es, ap (λ (x : H). length (k.entries x)) history, ap (λ (l : List E). length l) list, counted_in o v count n tail B es counted read);
          };
          valid = subst (λ (x : H). AllByRecursion (HasRecord k) (k.entries x)) (sym history) (subst (AllByRecursion (HasRecord k)) (sym list) read.taken.valid);
        }

    -- the history of a store that is what was read
    pub read_as : (o : Option ℕ) (v n : ℕ) (tail : List (List ℕ)) (B : S) (es : List E) (h : H) → h ≡ k.history n B es → IsRead k o v tail n B es → IsRead k o v tail (k.base_count h) (k.base h) (k.entries h)
    read_as o v n tail B es h is read =
        let count : n ≡ k.base_count h = sym (ap k.base_count is ∙ lawful.base_count_is n B es) in
        let base : B ≡ k.base h = sym (ap k.base is ∙ lawful.base_is n B es) in
        let list : es ≡ k.entries h = sym (ap k.entries is ∙ lawful.entries_are n B es) in
        subst (λ m. IsRead k o v tail m (k.base h) (k.entries h)) count (subst (λ (U : S). IsRead k o v tail n U (k.entries h)) base (subst (λ (l : List E). IsRead k o v tail n B l) list read))

-- what was refused, under the name of the error
pub refused_as : (b : List ℕ) (number : ℕ) (tail : List (List ℕ)) (e f : MountError) → e ≡ f → IsTailRefused b number tail e → IsTailRefused b number tail f
refused_as b number tail e f same refused = subst (IsTailRefused b number tail) same refused
