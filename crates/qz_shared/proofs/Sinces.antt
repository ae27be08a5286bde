-- What one call makes of a store under its row.
use Rattle.std.proofs.Common.{◌≡◌, ℕ, ◌+◌, ◌^◌, ◌≤◌, ◌<◌, List, [], ◌∷◌, ◌++◌, length, drop, true, false, refl, sym, ap, ◌∙◌, subst, arith, append_assoc, append-nil, length-append}
use Rattle.std.specs.Prelude.{nat_lt, Ok, Err, Bool}
use Rattle.std.specs.declared.result.Result.{Result}
use Rattle.std.proofs.Math.Seq.{drop-length}
use Rattle.std.proofs.lemmas.List.{drop-append-le}
use Rattle.std.proofs.lemmas.List.Sums.{sum_by-append}
use Rattle.std.proofs.lemmas.Bool.Decides.{nat_tests}
use Rattle.qz_civil.specs.Causes.{Rose}
use Rattle.qz_journal.specs.Commits.{need_of, room_of}
use Rattle.qz_types.specs.declared.errors.SubmitError.{SubmitError}
use Rattle.qz_types.specs.declared.errors.SubmitError.TheVariants as submit
use Rattle.qz_stores.specs.Stores.{EntryKind, StoreState, Same, Appends, Fails, Submits}
use Rattle.qz_shared.specs.Since.{with_entries, needs, further, history_at, gate_at, payloads_at, IsSince}

rose_on : (a b c : ℕ) → Rose a b → b ≤ c → Rose a c
rose_on a b c r l = omega arith

rose_from : (a b c : ℕ) → a ≤ b → Rose b c → Rose a c
rose_from a b c l r = omega arith

true_not_false : true ≡ false → ⊥
true_not_false p = cc p

-- where there is room, the journal takes a further payload
few_by : (b : Bool) (gate payloads size : ℕ) → nat_lt payloads 8388608 ≡ b → need_of size ≤ room_of gate payloads → payloads < 8388608
few_by true gate payloads size t h = grind (arith, nat_tests)
few_by false gate payloads size t h = absurd (grind (arith, nat_tests))

takes_more : (gate payloads size : ℕ) → need_of size ≤ room_of gate payloads → payloads < 8388608
takes_more gate payloads size h = few_by (nat_lt payloads 8388608) gate payloads size refl h

module _ {H E R : Type 0} (kind : EntryKind H E R) where
  needs_more : (xs : List E) (e : E) → needs kind.size (xs ++ e ∷ []) ≡ needs kind.size xs + need_of (kind.size e)
  needs_more xs e = let s = sum_by-append (λ (x : E). need_of (kind.size x)) xs (e ∷ []) in omega arith

  one_more : (h : H) (xs : List E) (e : E) → with_entries kind h (xs ++ e ∷ []) ≡ kind.with_entry e (with_entries kind h xs)
  one_more h [] e = refl
  one_more h (x ∷ xs) e = one_more (kind.with_entry x h) xs e

  module _ (listed : H → List E) (lists : (e : E) (h : H) → listed (kind.with_entry e h) ≡ listed h ++ e ∷ []) where
    listed_with : (h : H) (xs : List E) → listed (with_entries kind h xs) ≡ listed h ++ xs
    listed_with h [] = sym (append-nil (listed h))
    listed_with h (x ∷ xs) = listed_with (kind.with_entry x h) xs ∙ ap (λ l. l ++ xs) (lists x h) ∙ append_assoc (listed h) (x ∷ []) xs

    -- the entries are those of the first state, and the further ones
    pub goes_on : (f s : StoreState H E) → IsSince kind listed f s → listed s.history ≡ listed f.history ++ further listed f (listed s.history)
    goes_on f s i = ap listed i.history ∙ listed_with f.history (further listed f (listed s.history))

    long : (f s : StoreState H E) → IsSince kind listed f s → length (listed s.history) ≡ length (listed f.history) + length (further listed f (listed s.history))
    long f s i = ap length (goes_on f s i) ∙ length-append (listed f.history) (further listed f (listed s.history))

    pub stays_short : (f s : StoreState H E) → IsSince kind listed f s → length (listed f.history) < 2 ^ 62 → length (listed s.history) < 2 ^ 63
    stays_short f s i l = let same = long f s i in let few = i.few in omega arith

    pub closed_short : (f s : StoreState H E) → IsSince kind listed f s → length (listed f.history) < 2 ^ 61 → length (listed s.history) < 2 ^ 62
    closed_short f s i l = let same = long f s i in let few = i.few in omega arith

    -- the history is as it was, and so are the gate and the payloads
    stays_on : (f s t : StoreState H E) → t.history ≡ s.history → t.gate ≡ s.gate → t.payloads ≡ s.payloads → s.faults ≤ t.faults
        → (f.is_open ≡ true → t.is_open ≡ false → Rose f.faults t.faults) → IsSince kind listed f s → IsSince kind listed f t
    stays_on f s t h g p l shut i =
        let same : listed s.history ≡ listed t.history = ap listed (sym h) in
        record {
          history = h ∙ i.history ∙ ap (history_at kind listed f) same;
          gate = g ∙ i.gate ∙ ap (gate_at kind listed f) same;
          payloads = p ∙ i.payloads ∙ ap (payloads_at listed f) same;
          few = subst (λ x. length (further listed f x) ≤ 2 ^ 23) same i.few;
          later = (let a = i.later in omega arith);
          fault = shut;
        }

    same_on : (f s t : StoreState H E) → Same s t → IsSince kind listed f s → IsSince kind listed f t
    same_on f s t a i = stays_on f s t a.history a.gate a.payloads a.later (λ o c. rose_on _ _ _ (i.fault o (sym a.is_open ∙ c)) a.later) i

    appends_on : (f s t : StoreState H E) (e : E) (r : R) → Appends kind e r s t → IsSince kind listed f s → IsSince kind listed f t
    appends_on f s t e r a i =
        let xs : List E = listed f.history in
        let ys : List E = listed s.history in
        let zs : List E = listed t.history in
        let more : zs ≡ ys ++ e ∷ [] = ap listed a.history ∙ lists e s.history in
        let before : length xs ≤ length ys = (let same = long f s i in omega arith) in
        let b : further listed f zs ≡ further listed f ys ++ e ∷ [] = ap (drop (length xs)) more ∙ drop-append-le (length xs) ys (e ∷ []) before in
        let takes = takes_more s.gate s.payloads (kind.size e) a.room in
        let one : length (further listed f zs) ≡ length (further listed f ys) + 1 = ap length b ∙ length-append (further listed f ys) (e ∷ []) in
        let need : needs kind.size (further listed f zs) ≡ needs kind.size (further listed f ys) + need_of (kind.size e) = ap (needs kind.size) b ∙ needs_more (further listed f ys) e in
        let whole : with_entries kind f.history (further listed f zs) ≡ kind.with_entry e (with_entries kind f.history (further listed f ys)) = ap (with_entries kind f.history) b ∙ one_more f.history (further listed f ys) e in
        let gate = i.gate in
        let payloads = i.payloads in
        let later = i.later in
        let g = a.gate in
        let p = a.payloads in
        let l = a.later in
        record {
          history = a.history ∙ ap (kind.with_entry e) i.history ∙ sym whole;
          gate = omega arith;
          payloads = omega arith;
          few = omega arith;
          later = omega arith;
          fault = λ o c. absurd (true_not_false (sym a.is_open ∙ c));
        }

    fails_on : (f s t : StoreState H E) (e : E) → Fails kind e s t → IsSince kind listed f s → IsSince kind listed f t
    fails_on f s t e a i = stays_on f s t a.history a.gate a.payloads a.later (λ o c. rose_from _ _ _ i.later a.rose) i

    -- one call of the store
    pub submits_on : (f s t : StoreState H E) (e : E) (r : Result R SubmitError) → Submits kind e r s t → IsSince kind listed f s → IsSince kind listed f t
    submits_on f s t e (Ok reply) a i = appends_on f s t e reply a i
    submits_on f s t e (Err (submit.Closed at)) a i = same_on f s t a.0.same i
    submits_on f s t e (Err (submit.Refused refusal)) a i = same_on f s t a.same i
    submits_on f s t e (Err (submit.JournalFull need room)) a i = same_on f s t a.same i
    submits_on f s t e (Err submit.NoMemory) a i = same_on f s t a.same i
    submits_on f s t e (Err submit.Fault) a i = fails_on f s t e a i

  -- when it is put there
  pub since_now : (listed : H → List E) (f : StoreState H E) → IsSince kind listed f f
  since_now listed f =
      let none : further listed f (listed f.history) ≡ [] = drop-length (listed f.history) in
      record {
        history = sym (ap (with_entries kind f.history) none);
        gate = omega (arith, ap (needs kind.size) none);
        payloads = omega (arith, ap length none);
        few = omega (arith, ap length none);
        later = omega arith;
        fault = λ o c. absurd (true_not_false (sym o ∙ c));
      }
