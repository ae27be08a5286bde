-- A call by a seat is one deed more where it was accepted, and none where it wasn't.
use Rattle.std.proofs.Common.{◌≡◌, ℕ, List, [], ◌∷◌, ◌++◌, length, drop, filter, Bool, true, false, rules, refl, sym, ap, ◌∙◌, arith, append_assoc, append-nil, length-append}
use Rattle.std.specs.Prelude.{Ok, Err, MatchResult}
use Rattle.std.specs.declared.result.Result.{Result}
use Rattle.std.proofs.Math.Seq.{drop-append_seam, drop-length}
use Rattle.std.proofs.lemmas.List.Elements.{filter-append}
use mathlib.Core.List.{IsPrefix}
use Rattle.qz_types.specs.Entries.{EntryData}
use Rattle.qz_types.specs.declared.replies.Refusal.{Refusal}
use Rattle.qz_types.specs.declared.replies.Reply.{Reply}
use Rattle.qz_types.specs.declared.errors.SubmitError.{SubmitError}
use Rattle.qz_types.specs.declared.errors.SubmitError.TheVariants as submit
use Rattle.qz_row_lock.specs.Views.{has, entries_of}
use Rattle.qz_stores.specs.Stores.{EntryKind, StoreState}
use Rattle.qz_shared.specs.Calls.{Known, Called}
use Rattle.qz_serve.specs.Heard.{Deed, with_deed, deeds_from, answer_after, heard}

module _ (answer : List EntryData → EntryData → Result Reply Refusal) (is_own : EntryData → Bool) where
  -- one entry more
  snoc : (past : List Deed) (done xs : List EntryData) (e : EntryData) → deeds_from answer is_own past done (xs ++ e ∷ []) ≡ with_deed (is_own e) e (answer (done ++ xs) e) (deeds_from answer is_own past done xs)
  snoc past done [] e = ap (λ l. with_deed (is_own e) e (answer l e) past) (sym (append-nil done))
  snoc past done (x ∷ xs) e =
      snoc (with_deed (is_own x) x (answer done x) past) (done ++ x ∷ []) xs e
      ∙ ap (λ l. with_deed (is_own e) e (answer l e) (deeds_from answer is_own (with_deed (is_own x) x (answer done x) past) (done ++ x ∷ []) xs)) (append_assoc done (x ∷ []) xs)

  cons_not_nil : (x : EntryData) (xs : List EntryData) → x ∷ xs ≡ [] → ⊥
  cons_not_nil x xs p = search rules

  -- the entries of others are no deeds
  others_by : (b : Bool) (past : List Deed) (done : List EntryData) (x : EntryData) (xs : List EntryData) → is_own x ≡ b → filter is_own (x ∷ xs) ≡ []
      → ((past : List Deed) (done : List EntryData) → filter is_own xs ≡ [] → deeds_from answer is_own past done xs ≡ past) → deeds_from answer is_own past done (x ∷ xs) ≡ past
  others_by true past done x xs t none rest = absurd (cons_not_nil x (filter is_own xs) (rw t at none))
  others_by false past done x xs t none rest = rw t (rest past (done ++ x ∷ []) (rw t at none))

  pub others : (past : List Deed) (done xs : List EntryData) → filter is_own xs ≡ [] → deeds_from answer is_own past done xs ≡ past
  others past done [] none = refl
  others past done (x ∷ xs) none = others_by (is_own x) past done x xs refl none (λ p d n. others p d xs n)

  more_others : (past : List Deed) (done xs later : List EntryData) → filter is_own later ≡ [] → deeds_from answer is_own past done (xs ++ later) ≡ deeds_from answer is_own past done xs
  more_others past done [] later none = others past done later none
  more_others past done (x ∷ xs) later none = more_others (with_deed (is_own x) x (answer done x) past) (done ++ x ∷ []) xs later none

nil_of : {A : Type 0} (xs : List A) → length xs ≡ 0 → xs ≡ []
nil_of [] z = refl
nil_of (x ∷ xs) z = absurd (omega arith)

-- what was added after a list
pub after_is : {A : Type 0} (a b c : List A) → c ≡ a ++ b → drop (length a) c ≡ b
after_is a b c is = ap (drop (length a)) is ∙ drop-append_seam a b

none_added : {A : Type 0} (xs ys : List A) → xs ++ ys ≡ xs → ys ≡ []
none_added xs ys h = sym (drop-append_seam xs ys) ∙ ap (drop (length xs)) h ∙ drop-length xs

only_last : {A : Type 0} (xs ys : List A) (e : A) → xs ++ (ys ++ e ∷ []) ≡ xs ++ e ∷ [] → ys ≡ []
only_last xs ys e h =
    let same : ys ++ e ∷ [] ≡ e ∷ [] = sym (drop-append_seam xs (ys ++ e ∷ [])) ∙ ap (drop (length xs)) h ∙ drop-append_seam xs (e ∷ []) in
    let long = ap length same in
    nil_of ys (omega (arith, length-append ys (e ∷ [])))

last_own : {E : Type 0} (own : E → Bool) (e : E) → own e ≡ true → filter own (e ∷ []) ≡ e ∷ []
last_own own e o = rw o refl

module _ {H : Type 0} (kind : EntryKind H EntryData Reply) (listed : H → List EntryData) (seat_of : EntryData → ℕ) (opened : StoreState H EntryData) (ids : List ℕ) (base : List EntryData) where
  abbrev is_own : EntryData → Bool
  is_own e = has ids (seat_of e)

  abbrev answer : List EntryData → EntryData → Result Reply Refusal
  answer done e = answer_after kind listed seat_of opened done e

  -- the seat has seen more, and none of it is its own
  pub stays : (past past_now later seen seen_now mine : List EntryData) → seen ≡ base ++ past → mine ≡ entries_of seat_of ids past → seen_now ≡ seen ++ later → seen_now ≡ base ++ past_now → mine ≡ entries_of seat_of ids past_now
      → heard kind listed seat_of opened ids base seen_now ≡ heard kind listed seat_of opened ids base seen
  stays past past_now later seen seen_now mine is own more is_now own_now =
      let tail : drop (length base) seen ≡ past = after_is base past seen is in
      let tail_now : drop (length base) seen_now ≡ past ++ later = after_is base (past ++ later) seen_now (more ∙ ap (λ l. l ++ later) is ∙ append_assoc base past later) in
      let past_is : past_now ≡ past ++ later = sym (after_is base past_now seen_now is_now) ∙ tail_now in
      let none : entries_of seat_of ids later ≡ [] = none_added (entries_of seat_of ids past) (entries_of seat_of ids later) (sym (filter-append is_own past later) ∙ ap (entries_of seat_of ids) (sym past_is) ∙ sym own_now ∙ own) in
      ap (deeds_from answer is_own [] base) tail_now ∙ more_others answer is_own [] base past later none ∙ ap (deeds_from answer is_own [] base) (sym tail)

  -- one of its own comes last
  adds : (past past_now later seen seen_now mine mine_now before : List EntryData) (e : EntryData) (reply : Reply) → has ids (seat_of e) ≡ true → seen ≡ base ++ past → mine ≡ entries_of seat_of ids past
      → before ≡ seen ++ later → seen_now ≡ before ++ e ∷ [] → seen_now ≡ base ++ past_now → mine_now ≡ entries_of seat_of ids past_now → mine_now ≡ mine ++ e ∷ [] → answer before e ≡ Ok reply
      → heard kind listed seat_of opened ids base seen_now ≡ record { entry = e; reply = reply } ∷ heard kind listed seat_of opened ids base seen
  adds past past_now later seen seen_now mine mine_now before e reply o is own more last is_now own_now mine_is answered =
      let tail : drop (length base) seen ≡ past = after_is base past seen is in
      let before_is : before ≡ base ++ (past ++ later) = more ∙ ap (λ l. l ++ later) is ∙ append_assoc base past later in
      let tail_now : drop (length base) seen_now ≡ (past ++ later) ++ e ∷ [] = after_is base ((past ++ later) ++ e ∷ []) seen_now (last ∙ ap (λ l. l ++ e ∷ []) before_is ∙ append_assoc base (past ++ later) (e ∷ [])) in
      let past_is : past_now ≡ past ++ (later ++ e ∷ []) = sym (after_is base past_now seen_now is_now) ∙ tail_now ∙ append_assoc past later (e ∷ []) in
      let split : entries_of seat_of ids (past ++ (later ++ e ∷ [])) ≡ entries_of seat_of ids past ++ (entries_of seat_of ids later ++ e ∷ []) =
      filter-append is_own past (later ++ e ∷ []) ∙ ap (λ l. entries_of seat_of ids past ++ l) (filter-append is_own later (e ∷ []) ∙ ap (λ l. entries_of seat_of ids later ++ l) (last_own is_own e o)) in
      let none : entries_of seat_of ids later ≡ [] = only_last (entries_of seat_of ids past) (entries_of seat_of ids later) e (sym split ∙ ap (entries_of seat_of ids) (sym past_is) ∙ sym own_now ∙ mine_is ∙ ap (λ l. l ++ e ∷ []) own) in
      let answer_is : answer (base ++ (past ++ later)) e ≡ Ok reply = ap (λ l. answer l e) (sym before_is) ∙ answered in
      ap (deeds_from answer is_own [] base) tail_now
      ∙ snoc answer is_own [] base (past ++ later) e
      ∙ ap (λ b. with_deed b e (answer (base ++ (past ++ later)) e) (deeds_from answer is_own [] base (past ++ later))) o
      ∙ ap (λ a. with_deed true e a (deeds_from answer is_own [] base (past ++ later))) answer_is
      ∙ ap (λ l. record { entry = e; reply = reply } ∷ l) (more_others answer is_own [] base past later none ∙ ap (deeds_from answer is_own [] base) (sym tail))

  -- a call was no deed
  none_done : (past past_now : List EntryData) (before after : H) (s t : Known EntryData) → s.seen ≡ base ++ past → s.mine ≡ entries_of seat_of ids past → t.seen ≡ base ++ past_now → t.mine ≡ entries_of seat_of ids past_now
      → IsPrefix s.seen (listed before) → after ≡ before → t.seen ≡ listed after → t.mine ≡ s.mine → heard kind listed seat_of opened ids base t.seen ≡ heard kind listed seat_of opened ids base s.seen
  none_done past past_now before after s t is own is_now own_now begins same seen mine =
      stays past past_now begins.0 s.seen t.seen s.mine is own (seen ∙ ap listed same ∙ sym begins.1) is_now (sym mine ∙ own_now)

  -- what a call is to the seat's deeds
  pub deeds_after : ((e : EntryData) (h : H) → listed (kind.with_entry e h) ≡ listed h ++ e ∷ []) → (past past_now : List EntryData) (e : EntryData) (r : Result Reply SubmitError) (s t : Known EntryData) → has ids (seat_of e) ≡ true
      → s.seen ≡ base ++ past → s.mine ≡ entries_of seat_of ids past → t.seen ≡ base ++ past_now → t.mine ≡ entries_of seat_of ids past_now → Called kind listed opened e r s t
      → MatchResult r (λ reply. heard kind listed seat_of opened ids base t.seen ≡ record { entry = e; reply = reply } ∷ heard kind listed seat_of opened ids base s.seen) (λ _. heard kind listed seat_of opened ids base t.seen ≡ heard kind listed seat_of opened ids base s.seen)
  deeds_after lists past past_now e (Ok reply) s t o is own is_now own_now c =
      adds past past_now c.begins.0 s.seen t.seen s.mine t.mine (listed c.before.history) e reply o is own (sym c.begins.1) (c.seen_is ∙ ap listed c.submits.history ∙ lists e c.before.history) is_now own_now c.mine_is (ap (λ h. kind.answer h e) (sym c.since.history) ∙ c.submits.accepted_as)
  deeds_after lists past past_now e (Err (submit.Closed at)) s t o is own is_now own_now c = none_done past past_now c.before.history c.after.history s t is own is_now own_now c.begins c.submits.0.same.history c.seen_is c.mine_is
  deeds_after lists past past_now e (Err (submit.Refused refusal)) s t o is own is_now own_now c = none_done past past_now c.before.history c.after.history s t is own is_now own_now c.begins c.submits.same.history c.seen_is c.mine_is
  deeds_after lists past past_now e (Err (submit.JournalFull need room)) s t o is own is_now own_now c = none_done past past_now c.before.history c.after.history s t is own is_now own_now c.begins c.submits.same.history c.seen_is c.mine_is
  deeds_after lists past past_now e (Err submit.NoMemory) s t o is own is_now own_now c = none_done past past_now c.before.history c.after.history s t is own is_now own_now c.begins c.submits.same.history c.seen_is c.mine_is
  deeds_after lists past past_now e (Err submit.Fault) s t o is own is_now own_now c = none_done past past_now c.before.history c.after.history s t is own is_now own_now c.begins c.submits.history c.seen_is c.mine_is
