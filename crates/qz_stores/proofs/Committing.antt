-- What a commit makes of a store.
use Rattle.std.proofs.Common.{◌≡◌, ◌≤◌, ℕ, ◌+◌, List, [], ◌∷◌, ◌++◌, length, true, false, sym, ◌∙◌, ap, subst, arith}
use Rattle.std.proofs.Math.Logic.{◌↔◌}
use Rattle.std.specs.Prelude.{Option, Some, None, Ok, Err, IsOk}
use Rattle.std.specs.declared.result.Result.{Result}
use Rattle.qz_civil.specs.Causes.{Rose}
use Rattle.qz_journal.specs.Commits.{IsFull, need_of, room_of}
use Rattle.qz_journal.specs.declared.errors.AppendError.{AppendError}
use Rattle.qz_journal.specs.declared.errors.AppendError.TheVariants as journal
use Rattle.qz_types.specs.declared.errors.SubmitError.{SubmitError}
use Rattle.qz_types.specs.declared.errors.SubmitError.TheVariants as submit
use Rattle.qz_stores.specs.Adopting.{adopted}
use Rattle.qz_stores.specs.Stores.{StoreState, HasRoom, Appends, Fails, Submits}
use Rattle.qz_types.specs.declared.replies.Refusal.{Refusal}
use Rattle.qz_stores.specs.Kinds.{StoreKind, IsLawful, IsAccepted, unless_refused, submitted, replay, with_entry}

module _ {H S E R : Type 0} (k : StoreKind H S E R) where
  -- what a history leaves
  pub replay_is : IsLawful k → (n : ℕ) (B : S) (es : List E) → replay k (k.history n B es) ≡ k.replay_from B es
  replay_is lawful n B es = λ i. k.replay_from (lawful.base_is n B es i) (lawful.entries_are n B es i)

  pub state_is : IsLawful k → (n : ℕ) (B T : S) (es : List E) → T ≡ k.replay_from B es → T ≡ replay k (k.history n B es)
  state_is lawful n B T es is = is ∙ sym (replay_is lawful n B es)

  -- a history, with one entry more
  pub entry_more : IsLawful k → (n : ℕ) (B : S) (es : List E) (e : E) → with_entry k e (k.history n B es) ≡ k.history n B (es ++ e ∷ [])
  entry_more lawful n B es e = λ i. k.history (lawful.base_count_is n B es i) (lawful.base_is n B es i) (lawful.entries_are n B es i ++ e ∷ [])

  -- an entry that the version of the store lets through is answered as its transaction
  pub current : (x : Option Refusal) (a : Result R Refusal) → x ≡ None → unless_refused x a ≡ a
  current x a none = ap (λ (y : Option Refusal). unless_refused y a) none

  pub current_answer : (T U : S) (e : E) (a : Result R Refusal) → T ≡ U → k.version_refusal T e ≡ None → k.answer T e ≡ a → submitted k U e ≡ a
  current_answer T U e a state none is = subst (λ (V : S). submitted k V e ≡ a) state (current _ _ none ∙ is)

  pub current_passes : (T U : S) (e : E) → T ≡ U → k.version_refusal T e ≡ None → IsAccepted k T e → IsOk (submitted k U e)
  current_passes T U e state none is = subst (λ (V : S). IsOk (submitted k V e)) state (subst IsOk (sym (current _ _ none)) is)

  -- what is accepted when it is submitted is accepted by its transaction
  let_through : (x : Option Refusal) (a : Result R Refusal) (r : R) → unless_refused x a ≡ Ok r → a ≡ Ok r
  let_through None a r is = is
  let_through (Some y) a r is = let no : ◌≡◌ {A = Result R Refusal} (Err y) (Ok r) = is in absurd cc

  pub accepted_anyway : (T : S) (e : E) (r : R) → submitted k T e ≡ Ok r → k.answer T e ≡ Ok r
  accepted_anyway T e r is = let_through (k.version_refusal T e) (k.answer T e) r is

  -- the record is on the disk
  pub appends : (T : S) (s t : StoreState H E) (e : E) (r : R) (b written : List ℕ) → T ≡ replay k s.history → k.answer T e ≡ Ok r → k.IsRecordOf b e → written ≡ b → s.is_open ≡ true
      → HasRoom (length b) s → t.history ≡ with_entry k e s.history → t.gate ≡ s.gate + need_of (length written) → t.payloads ≡ s.payloads + 1 → t.is_open ≡ true → t.undecided ≡ None → s.faults ≤ t.faults
      → Appends (adopted k b) e r s t
  appends T s t e r b written state is recorded same is_open room history gate payloads stays settled later = record {
    was_open = is_open;
    accepted_as = subst (λ (U : S). k.answer U e ≡ Ok r) state is;
    written = recorded;
    room = room;
    history = history;
    gate = subst (λ (x : List ℕ). t.gate ≡ s.gate + need_of (length x)) same gate;
    payloads = payloads;
    is_open = stays;
    undecided = settled;
    later = later;
  }

  -- the disk failed
  pub fails : (T : S) (s t : StoreState H E) (e : E) (b : List ℕ) (y : SubmitError) → T ≡ replay k s.history → IsAccepted k T e → s.is_open ≡ true
      → HasRoom (length b) s → t.history ≡ s.history → t.gate ≡ s.gate → t.payloads ≡ s.payloads → t.is_open ≡ false → t.undecided ≡ Some e → Rose s.faults t.faults → s.faults ≤ t.faults → y ≡ submit.Fault
      → Submits (adopted k b) e (Err y) s t
  fails T s t e b y state is is_open room history gate payloads shut undecided rose later error =
      let failed : Fails (adopted k b) e s t = record {
        was_open = is_open;
        passes = subst (λ (U : S). IsAccepted k U e) state is;
        room = room;
        history = history;
        gate = gate;
        payloads = payloads;
        is_open = shut;
        undecided = undecided;
        rose = rose;
        later = later;
      } in
      subst (λ (z : SubmitError). Submits (adopted k b) e (Err z) s t) (sym error) failed

-- An open journal that has room for the payload fails by the disk alone.
pub fault_only : {T : Type 0} (x : AppendError) (result : Result T AppendError) (closed : Option ℕ) (gate count size : ℕ) → result ≡ Err x → closed ≡ None → need_of size ≤ room_of gate count
    → ((at : ℕ) → (result ≡ Err (journal.Closed at)) ↔ (closed ≡ Some at)) → ((need room : ℕ) → (result ≡ Err (journal.JournalFull need room)) ↔ ((closed ≡ None) × IsFull gate count size need room))
    → result ≡ Err journal.Fault
fault_only (journal.Closed at) result closed gate count size is is_open fits shut full = let there : closed ≡ Some at = (shut at).0 is in absurd (cc)
fault_only (journal.JournalFull need room) result closed gate count size is is_open fits shut full = let there = (full need room).0 is in absurd (omega (arith, there.1.0, there.1.1, there.1.2, fits))
fault_only journal.Fault result closed gate count size is is_open fits shut full = is
