-- How a store grows, and what it declines on the way.
use Rattle.std.proofs.Common.{◌≡◌, ℕ, ◌+◌, ◌≤◌, List, [], ◌∷◌, ◌++◌, length, drop, true, refl, sym, ap, ◌∙◌, subst, arith, append_assoc, append-nil, length-append}
use Rattle.std.specs.Prelude.{⊤, Some, None, Err, IsOk}
use Rattle.std.proofs.Math.Seq.{drop-length, drop-append_seam}
use Rattle.std.proofs.lemmas.List.{drop-append-le}
use Rattle.std.proofs.lemmas.List.Sums.{sum_by-append}
use mathlib.Core.List.{IsPrefix}
use Rattle.qz_types.specs.declared.errors.SubmitError.{SubmitError}
use Rattle.qz_types.specs.declared.errors.SubmitError.TheVariants as submit
use Rattle.qz_types.specs.declared.replies.Refusal.{Refusal}
use Rattle.qz_types.specs.declared.replies.Refusal.TheVariants as refusal
use Rattle.qz_journal.specs.Commits.{need_of}
use Rattle.qz_stores.specs.Stores.{EntryKind, StoreState, LacksRoom}
use Rattle.qz_run.specs.declared.commands.Declined.{Declined}
use Rattle.qz_run.specs.declared.commands.Declined.TheVariants as why
use Rattle.qz_rounds.specs.Declining.{declined_of, IsCause, IsStopped}
use Rattle.qz_shared.specs.Calls.{Known}
use Rattle.qz_shared.specs.Since.{with_entries, needs, further, history_at, gate_at, payloads_at, IsSince}
use Rattle.qz_shared.proofs.Sinces.{goes_on}
use Rattle.qz_serve.specs.Declining.{AtLimit, Declines, HasGrown, DeclinedOnTheWay}

-- What is so of each limit is so of this one.
pub limit_map : (P Q : Declined → Type 0) → ((w : Declined) → P w → Q w) → (w : Declined) → AtLimit P w → AtLimit Q w
limit_map P Q f (why.TooMany count) p = f (why.TooMany count) p
limit_map P Q f (why.JournalFull need room) p = f (why.JournalFull need room) p
limit_map P Q f why.Fault p = tt
limit_map P Q f why.NoMemory p = tt
limit_map P Q f why.Fenced p = f why.Fenced p

-- a refusal tells no full journal
refused_full : (x : Refusal) (need room : ℕ) → declined_of (submit.Refused x) ≡ Some (why.JournalFull need room) → ⊥
refused_full (refusal.TooMany count) need room is = cc
refused_full refusal.RowsFull need room is = cc
refused_full other need room is = cc

module _ {H E R : Type 0} (kind : EntryKind H E R) where
  -- why an error was answered to an entry, by a store that stands so
  abbrev Answered : StoreState H E → E → SubmitError → Type 0
  Answered s e (submit.Refused x) = kind.answer s.history e ≡ Err x
  Answered s e (submit.JournalFull need room) = IsOk (kind.answer s.history e) × LacksRoom (kind.size e) need room s
  Answered s e other = ⊤

  pub declines : (s : StoreState H E) (e : E) (error : SubmitError) (w : Declined) → Answered s e error → declined_of error ≡ Some w → AtLimit (Declines kind s e) w
  declines s e error why.Fault answered is = tt
  declines s e error why.NoMemory answered is = tt
  declines s e (submit.Refused x) (why.TooMany count) answered is = record { refusal = x; refused_as = answered; limit = is }
  declines s e (submit.Refused x) why.Fenced answered is = record { refusal = x; refused_as = answered; limit = is }
  declines s e (submit.Refused x) (why.JournalFull need room) answered is = absurd (refused_full x need room is)
  declines s e (submit.JournalFull n r) (why.TooMany count) answered is = absurd (cc)
  declines s e (submit.JournalFull n r) why.Fenced answered is = absurd (cc)
  declines s e (submit.JournalFull n r) (why.JournalFull need room) answered is =
      let needed : n ≡ need = cc in
      let left : r ≡ room = cc in
      subst (λ x. IsOk (kind.answer s.history e) × LacksRoom (kind.size e) x room s) needed (subst (λ x. IsOk (kind.answer s.history e) × LacksRoom (kind.size e) n x s) left answered)
  declines s e submit.NoMemory (why.TooMany count) answered is = absurd (cc)
  declines s e submit.NoMemory why.Fenced answered is = absurd (cc)
  declines s e submit.NoMemory (why.JournalFull need room) answered is = absurd (cc)
  declines s e submit.Fault (why.TooMany count) answered is = absurd (cc)
  declines s e submit.Fault why.Fenced answered is = absurd (cc)
  declines s e submit.Fault (why.JournalFull need room) answered is = absurd (cc)
  declines s e (submit.Closed at) (why.TooMany count) answered is = absurd (cc)
  declines s e (submit.Closed at) why.Fenced answered is = absurd (cc)
  declines s e (submit.Closed at) (why.JournalFull need room) answered is = absurd (cc)

  with_more : (h : H) (xs ys : List E) → with_entries kind h (xs ++ ys) ≡ with_entries kind (with_entries kind h xs) ys
  with_more h [] ys = refl
  with_more h (x ∷ xs) ys = with_more (kind.with_entry x h) xs ys

  module _ (listed : H → List E) where
    -- nothing was done
    pub grown_none : (s : StoreState H E) → HasGrown kind listed s s
    grown_none s =
        let none : further listed s (listed s.history) ≡ [] = drop-length (listed s.history) in
        record {
          entries = sym (ap (λ xs. listed s.history ++ xs) none ∙ append-nil (listed s.history));
          history = sym (ap (with_entries kind s.history) none);
          gate = omega (arith, ap (needs kind.size) none);
          payloads = omega (arith, ap length none);
        }

    pub grown_same : (s t : StoreState H E) → t.history ≡ s.history → t.gate ≡ s.gate → t.payloads ≡ s.payloads → HasGrown kind listed s t
    grown_same s t h g p =
        let n : HasGrown kind listed s s = grown_none s in
        let same : listed t.history ≡ listed s.history = ap listed h in
        record {
          entries = same ∙ n.entries ∙ ap (λ xs. listed s.history ++ further listed s xs) (sym same);
          history = h ∙ n.history ∙ ap (history_at kind listed s) (sym same);
          gate = g ∙ n.gate ∙ ap (gate_at kind listed s) (sym same);
          payloads = p ∙ n.payloads ∙ ap (payloads_at listed s) (sym same);
        }

    -- the entries that were there come before the others
    longer : (a b : StoreState H E) → HasGrown kind listed a b → length (listed a.history) ≤ length (listed b.history)
    longer a b one = let is = ap length one.entries ∙ length-append (listed a.history) (further listed a (listed b.history)) in omega (arith, is)

    pub grown_prefix : (a b : StoreState H E) → HasGrown kind listed a b → IsPrefix (listed a.history) (listed b.history)
    grown_prefix a b one = (further listed a (listed b.history), sym one.entries)

    -- one part after another
    pub grown_then : (a b c : StoreState H E) → HasGrown kind listed a b → HasGrown kind listed b c → HasGrown kind listed a c
    grown_then a b c one two =
        let xs : List E = further listed a (listed b.history) in
        let ys : List E = further listed b (listed c.history) in
        let split : further listed a (listed c.history) ≡ xs ++ ys = ap (drop (length (listed a.history))) two.entries ∙ drop-append-le (length (listed a.history)) (listed b.history) ys (longer a b one) in
        let needed : needs kind.size (further listed a (listed c.history)) ≡ needs kind.size xs + needs kind.size ys = ap (needs kind.size) split ∙ sum_by-append (λ (x : E). need_of (kind.size x)) xs ys in
        let counted : length (further listed a (listed c.history)) ≡ length xs + length ys = ap length split ∙ length-append xs ys in
        let first_gate = one.gate in
        let second_gate = two.gate in
        let first_payloads = one.payloads in
        let second_payloads = two.payloads in
        record {
          entries = two.entries ∙ ap (λ l. l ++ ys) one.entries ∙ append_assoc (listed a.history) xs ys ∙ ap (λ l. listed a.history ++ l) (sym split);
          history = two.history ∙ ap (λ h. with_entries kind h ys) one.history ∙ sym (with_more a.history xs ys) ∙ ap (with_entries kind a.history) (sym split);
          gate = omega (arith, needed, first_gate, second_gate);
          payloads = omega (arith, counted, first_payloads, second_payloads);
        }

    -- the history after further entries, by the first state and by a later one
    pub later_history : (a b : StoreState H E) (es : List E) → HasGrown kind listed a b → IsPrefix (listed b.history) es → history_at kind listed b es ≡ history_at kind listed a es
    later_history a b es one begins =
        let xs : List E = further listed a (listed b.history) in
        let mine : further listed b es ≡ begins.0 = ap (drop (length (listed b.history))) (sym begins.1) ∙ drop-append_seam (listed b.history) begins.0 in
        let all : further listed a es ≡ xs ++ begins.0 = ap (drop (length (listed a.history))) (sym begins.1) ∙ drop-append-le (length (listed a.history)) (listed b.history) begins.0 (longer a b one) in
        ap (with_entries kind b.history) mine ∙ ap (λ h. with_entries kind h begins.0) one.history ∙ sym (with_more a.history xs begins.0) ∙ ap (with_entries kind a.history) (sym all)

    -- what was declined on the way of the second part of two
    pub declined_then : (P Q : E → Type 0) → ((e : E) → P e → Q e) → (a b c : StoreState H E) (w : Declined) → HasGrown kind listed a b → DeclinedOnTheWay kind listed P b c w → DeclinedOnTheWay kind listed Q a c w
    declined_then P Q f a b c w one d = record { stood = d.stood; grown = grown_then a b d.stood one d.grown; goes_on = d.goes_on; entry = d.entry; is_one = f d.entry d.is_one; declines = d.declines }

    pub declined_map : (P Q : E → Type 0) → ((e : E) → P e → Q e) → (a c : StoreState H E) (w : Declined) → DeclinedOnTheWay kind listed P a c w → DeclinedOnTheWay kind listed Q a c w
    declined_map P Q f a c w d = record { stood = d.stood; grown = d.grown; goes_on = d.goes_on; entry = d.entry; is_one = f d.entry d.is_one; declines = d.declines }

    -- what was declined at once
    pub declined_now : (P : E → Type 0) (s t : StoreState H E) (e : E) (w : Declined) → P e → HasGrown kind listed s t → Declines kind s e w → DeclinedOnTheWay kind listed P s t w
    declined_now P s t e w is one d = record { stood = s; grown = grown_none s; goes_on = grown_prefix s t one; entry = e; is_one = is; declines = d }

    module _ (lists : (e : E) (h : H) → listed (kind.with_entry e h) ≡ listed h ++ e ∷ []) where
      listed_with : (h : H) (xs : List E) → listed (with_entries kind h xs) ≡ listed h ++ xs
      listed_with h [] = sym (append-nil (listed h))
      listed_with h (x ∷ xs) = listed_with (kind.with_entry x h) xs ∙ ap (λ l. l ++ xs) (lists x h) ∙ append_assoc (listed h) (x ∷ []) xs

      -- one entry more
      pub grown_more : (s t : StoreState H E) (e : E) → t.history ≡ kind.with_entry e s.history → t.gate ≡ s.gate + need_of (kind.size e) → t.payloads ≡ s.payloads + 1 → HasGrown kind listed s t
      grown_more s t e h g p =
          let more : listed t.history ≡ listed s.history ++ e ∷ [] = ap listed h ∙ lists e s.history in
          let new : further listed s (listed t.history) ≡ e ∷ [] = ap (drop (length (listed s.history))) more ∙ drop-append_seam (listed s.history) (e ∷ []) in
          let needed = ap (needs kind.size) new in
          let counted : length (further listed s (listed t.history)) ≡ 1 = ap length new in
          record {
            entries = more ∙ ap (λ xs. listed s.history ++ xs) (sym new);
            history = h ∙ ap (with_entries kind s.history) (sym new);
            gate = omega (arith, needed, g);
            payloads = omega (arith, counted, p);
          }

      pub grown_since : (s t : StoreState H E) → IsSince kind listed s t → HasGrown kind listed s t
      grown_since s t since = record { entries = goes_on kind listed lists s t since; history = since.history; gate = since.gate; payloads = since.payloads }

      -- The store as it stood after these entries.

      abbrev stood_at : StoreState H E → List E → StoreState H E
      stood_at s es = record { history = history_at kind listed s es; gate = gate_at kind listed s es; payloads = payloads_at listed s es; is_open = true; undecided = None; faults = s.faults }

      listed_at : (s : StoreState H E) (es : List E) → IsPrefix (listed s.history) es → listed (history_at kind listed s es) ≡ es
      listed_at s es begins =
          listed_with s.history (further listed s es)
          ∙ ap (λ xs. listed s.history ++ xs) (ap (drop (length (listed s.history))) (sym begins.1) ∙ drop-append_seam (listed s.history) begins.0) ∙ begins.1

      grown_at : (s : StoreState H E) (es : List E) → IsPrefix (listed s.history) es → HasGrown kind listed s (stood_at s es)
      grown_at s es begins =
          let same : listed (history_at kind listed s es) ≡ es = listed_at s es begins in
          let new : further listed s es ≡ begins.0 = ap (drop (length (listed s.history))) (sym begins.1) ∙ drop-append_seam (listed s.history) begins.0 in
          record {
            entries = same ∙ sym begins.1 ∙ ap (λ xs. listed s.history ++ xs) (sym new) ∙ ap (λ xs. listed s.history ++ further listed s xs) (sym same);
            history = ap (history_at kind listed s) (sym same);
            gate = ap (gate_at kind listed s) (sym same);
            payloads = ap (payloads_at listed s) (sym same);
          }

      caused : (s : StoreState H E) (e : E) (k : Known E) (error : SubmitError) → IsCause kind listed s e k error → Answered (stood_at s k.seen) e error
      caused s e k (submit.Refused x) is = is
      caused s e k (submit.JournalFull need room) is = is
      caused s e k submit.NoMemory is = tt
      caused s e k submit.Fault is = tt
      caused s e k (submit.Closed at) is = tt

      -- what a thread was declined, in words of the store
      pub declined_seen : (P : E → Type 0) (s t : StoreState H E) (k : Known E) (w : Declined) → IsStopped kind listed s P k w → IsPrefix (listed s.history) k.seen → IsPrefix k.seen (listed t.history)
          → AtLimit (DeclinedOnTheWay kind listed P s t) w
      declined_seen P s t k w stopped begins within =
          limit_map (Declines kind (stood_at s k.seen) stopped.entry) (DeclinedOnTheWay kind listed P s t)
          (λ v d. record {
            stood = stood_at s k.seen;
            grown = grown_at s k.seen begins;
            goes_on = subst (λ es. IsPrefix es (listed t.history)) (sym (listed_at s k.seen begins)) within;
            entry = stopped.entry;
            is_one = stopped.is_one;
            declines = d;
          }) w
          (declines (stood_at s k.seen) stopped.entry stopped.error w (caused s stopped.entry k stopped.error stopped.cause) stopped.reason)
