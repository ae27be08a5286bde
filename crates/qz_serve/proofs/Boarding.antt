-- The board of a call, as the store goes on, and the lines of it.
use Rattle.std.proofs.Common.{◌≡◌, ℕ, zero, suc, ◌+◌, List, [], ◌∷◌, ◌++◌, length, map, refl, sym, ap, ◌∙◌, subst, arith}
use Rattle.std.specs.List.{flat_map}
use Rattle.std.specs.Prelude.{Option, Some, None}
use mathlib.Core.List.{IsPrefix}
use Rattle.qz_board.specs.declared.glance.Glance.{Glance}
use Rattle.qz_board_lines.specs.Lines.{board_text}
use Rattle.qz_board_looks.specs.Looks.{EndWithAll, Rise, first_or}
use Rattle.qz_board_stores.specs.Glances.{at_a_glance, base_of, history_on}
use Rattle.qz_board_stores.specs.StatusBoards.{ShowsUpTo, looks_of, opened_with}
use Rattle.qz_board_stores.specs.declared.status_boards.StatusBoard.{StatusBoard}
use Rattle.qz_io.specs.Outside.{Outside}
use Rattle.qz_model.specs.History.{History}
use Rattle.qz_rounds.proofs.Lists.{prefix_refl, prefix_trans}
use Rattle.qz_shared.specs.Since.{IsSince, further}
use Rattle.qz_trigger_store.specs.Entries.{TriggerState, trigger_entry}
use Rattle.qz_types.specs.Entries.{EntryData}
use Rattle.qz_top.specs.NodeRuns.{WritesRun}
use Rattle.qz_top.specs.declared.statuses.Status.{Status}
use Rattle.qz_top.specs.declared.statuses.Status.TheVariants as status
use Rattle.qz_top.proofs.TellingLaws.{wrote_none}
use Rattle.qz_serve.specs.Boards.{AreBoardLines, LookPlan, ShowsBoard, ShowsSoFar, WritesAfterBoard, plan, plan_of}
use Rattle.qz_serve.specs.Declining.{HasGrown}
use Rattle.qz_serve.proofs.Leaving.{base_count_since, base_since, base_stays, bases_stay}

-- As a store goes on, it keeps its base, and a board that showed a beginning of it still does.

pub base_on : (s t : TriggerState) → HasGrown trigger_entry (λ h. h.entries) s t → base_of t.history ≡ base_of s.history
base_on s t grown =
    let more : List EntryData = further (λ (h : History). h.entries) s t.history.entries in
    let count : t.history.base_count ≡ s.history.base_count = ap (λ (h : History). h.base_count) grown.history ∙ bases_stay s.history more in
    let tables : t.history.base ≡ s.history.base = ap (λ (h : History). h.base) grown.history ∙ base_stays s.history more in
    λ i. record { count = count i; tables = tables i }

pub base_since_then : (s t : TriggerState) → IsSince trigger_entry (λ h. h.entries) s t → base_of t.history ≡ base_of s.history
base_since_then s t since =
    let count : t.history.base_count ≡ s.history.base_count = base_count_since s t since in
    let tables : t.history.base ≡ s.history.base = base_since s t since in
    λ i. record { count = count i; tables = tables i }

pub begins_on : (s t : TriggerState) → HasGrown trigger_entry (λ h. h.entries) s t → IsPrefix s.history.entries t.history.entries
begins_on s t grown = (further (λ (h : History). h.entries) s t.history.entries, sym grown.entries)

module _ {R : Type 0} where
  pub shows_on : (o : Option (StatusBoard R)) (s t : TriggerState) → HasGrown trigger_entry (λ h. h.entries) s t → ShowsSoFar o s.history → ShowsSoFar o t.history
  shows_on None s t grown shows = tt
  shows_on (Some b) s t grown shows = record { goes_on = prefix_trans _ _ _ shows.goes_on (begins_on s t grown); basis = shows.basis ∙ ap Some (sym (base_on s t grown)) }

  pub shows_as : (b : StatusBoard R) (h k : History) → h ≡ k → ShowsUpTo b h → ShowsUpTo b k
  shows_as b h k same shows = subst (ShowsUpTo b) same shows

  -- A plan stays where as many looks are planned, and the entries that were shown at first are the same.
  pub plan_stays : (o : Option (StatusBoard R)) (b c : StatusBoard R) → o ≡ Some b → looks_of c ≡ looks_of b → opened_with c ≡ opened_with b → plan_of (Some c) ≡ plan_of o
  plan_stays o b c is looks opened =
      let same : plan_of (Some c) ≡ plan_of (Some b) = λ i. Some (record { looks = looks i; opened = opened i }) in
      same ∙ ap plan_of (sym is)

-- The lines of looks that all show the whole history.

abbrev same_looks : ℕ → Glance → List Glance
same_looks zero glance = []
same_looks (suc n) glance = glance ∷ same_looks n glance

as_many : (n : ℕ) (glance : Glance) → length (same_looks n glance ++ glance ∷ []) ≡ n + 1
as_many zero glance = refl
as_many (suc n) glance = let rest = as_many n glance in omega (arith, rest)

module _ (glance_of : List EntryData → Glance) (opened whole : List EntryData) (begins : IsPrefix opened whole) where
  abbrev histories : ℕ → List (List EntryData)
  histories zero = []
  histories (suc n) = whole ∷ histories n

  shown_by : (n : ℕ) → same_looks n (glance_of whole) ≡ map glance_of (histories n)
  shown_by zero = refl
  shown_by (suc n) = ap (λ gs. glance_of whole ∷ gs) (shown_by n)

  first_is : (n : ℕ) → first_or (histories n) whole ≡ whole
  first_is zero = refl
  first_is (suc n) = refl

  up_to : (h : List EntryData) (n : ℕ) → IsPrefix h whole → IsPrefix h (first_or (histories n) whole)
  up_to h n p = subst (IsPrefix h) (sym (first_is n)) p

  rise : (n : ℕ) → Rise (histories n) whole
  rise zero = tt
  rise (suc n) = (up_to whole n (prefix_refl whole), rise n)

  all_whole : (n : ℕ) → EndWithAll glance_of opened (same_looks n (glance_of whole) ++ glance_of whole ∷ []) whole
  all_whole n = record {
    before = same_looks n (glance_of whole);
    looks = record { histories = histories n; glances_are = shown_by n; rise = (up_to opened n begins, rise n) };
    glances_are = refl;
  }

any_board : (n : ℕ) (opened : List EntryData) (end : History) → IsPrefix opened end.entries → (lines : List ℕ) × ShowsBoard n opened end lines
any_board n opened end begins =
    let glance : Glance = at_a_glance (history_on (base_of end) end.entries) in (
      flat_map board_text (same_looks n glance ++ glance ∷ []),
      record {
        glances = same_looks n glance ++ glance ∷ [];
        count = as_many n glance;
        are_looks = ∣ all_whole (λ entries. at_a_glance (history_on (base_of end) entries)) opened end.entries begins n ∣₁;
        lines_are = refl;
      },
    )

any_lines : (looks : Option ℕ) (opened : List EntryData) (end : History) → IsPrefix opened end.entries → (lines : List ℕ) × AreBoardLines looks opened end lines
any_lines None opened end begins = ([], refl)
any_lines (Some n) opened end begins = any_board n opened end begins

-- Nothing was written, since memory ran out.
pub wrote_no_board : (looks : Option ℕ) (opened : List EntryData) (end : History) (text : List ℕ) (o : Outside) → IsPrefix opened end.entries → WritesAfterBoard looks opened end status.NoMemory text o o
wrote_no_board looks opened end text o begins =
    let lines = any_lines looks opened end begins in
    record { lines = lines.0; are_lines = lines.1; written = wrote_none (lines.0 ++ text) o }

module _ {R : Type 0} where
  pub opened_as : (opened : List EntryData) (looks : Option ℕ) (b : StatusBoard R) → plan_of (Some b) ≡ plan looks opened → opened_with b ≡ opened
  opened_as opened None b planned = absurd (cc)
  opened_as opened (Some n) b planned =
      let same : record { looks = looks_of b; opened = opened_with b } ≡ record { looks = n; opened = opened } = cc in
      ap (λ (p : LookPlan). p.opened) same

-- What was written is as the words ask for it.
module _ {R : Type 0} (opened : List EntryData) (end : History) (told_as : Status) (text : List ℕ) (old new : Outside) where
  pub wrote_with : (looks : Option ℕ) (b : StatusBoard R) → plan_of (Some b) ≡ plan looks opened → WritesAfterBoard (Some (looks_of b)) (opened_with b) end told_as text old new → WritesAfterBoard looks opened end told_as text old new
  wrote_with None b planned wrote = absurd (cc)
  wrote_with (Some n) b planned wrote =
      let same : record { looks = looks_of b; opened = opened_with b } ≡ record { looks = n; opened = opened } = cc in
      let as_planned : LookPlan → Type 0 = λ (p : LookPlan). WritesAfterBoard (Some p.looks) p.opened end told_as text old new in
      subst as_planned same wrote

-- The same without a board.
pub wrote_without : (opened : List EntryData) (end : History) (told_as : Status) (text : List ℕ) (old new : Outside) (looks : Option ℕ) → None ≡ plan looks opened → WritesRun told_as text old new → WritesAfterBoard looks opened end told_as text old new
wrote_without opened end told_as text old new None planned wrote = record { lines = []; are_lines = refl; written = wrote }
wrote_without opened end told_as text old new (Some n) planned wrote = absurd (cc)

-- The text by another name.
pub wrote_as : (looks : Option ℕ) (opened : List EntryData) (end : History) (told_as : Status) (text other : List ℕ) (old new : Outside) → text ≡ other → WritesAfterBoard looks opened end told_as text old new → WritesAfterBoard looks opened end told_as other old new
wrote_as looks opened end told_as text other old new same wrote = subst (λ (t : List ℕ). WritesAfterBoard looks opened end told_as t old new) same wrote
