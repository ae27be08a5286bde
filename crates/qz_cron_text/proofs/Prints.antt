-- Values joined by commas, one more at a time.
use Rattle.std.proofs.Common.{◌≡◌, ◌∙◌, ap, sym, refl, ℕ, ◌+◌, ◌<◌, Bool, true, false, arith, zero, suc, cond, List, [], ◌∷◌, ◌++◌, map, add-one}
use Rattle.std.specs.Prelude.{◌&&◌, not}
use Rattle.std.specs.Fmt.{decimal as printed}
use Rattle.std.specs.List.{join_with_byte}
use Rattle.std.proofs.lemmas.List.{append_assoc, append-nil}
use Rattle.qz_civil.specs.declared.fields.Field.{Field}
use Rattle.qz_civil.specs.Fields.{least, has_word}
use Rattle.qz_cron_text.specs.Printing.{members, has_all, values_text, member_text}

abbrev pub is_nil : {X : Type 0} → List X → Bool
is_nil [] = true
is_nil (x ∷ xs) = false

-- the set has no number below n
unfoldable pub none_below : List ℕ → ℕ → Bool
none_below set n = is_nil (members set n)

join-push : (xs : List (List ℕ)) (x : List ℕ) → join_with_byte 44 (xs ++ x ∷ []) ≡ join_with_byte 44 xs ++ cond (is_nil xs) x (44 ∷ x)
join-push [] x = refl
join-push (y ∷ []) x = refl
join-push (y ∷ z ∷ xs) x = ap (λ (t : List ℕ). y ++ 44 ∷ t) (join-push (z ∷ xs) x) ∙ sym (append_assoc y (44 ∷ join_with_byte 44 (z ∷ xs)) (44 ∷ x))

map-push : (f : ℕ → List ℕ) (vs : List ℕ) (n : ℕ) → map f (vs ++ n ∷ []) ≡ map f vs ++ f n ∷ []
map-push f [] n = refl
map-push f (v ∷ vs) n = ap (λ (ts : List (List ℕ)). f v ∷ ts) (map-push f vs n)

nil-map : (f : ℕ → List ℕ) (vs : List ℕ) → is_nil (map f vs) ≡ is_nil vs
nil-map f [] = refl
nil-map f (v ∷ vs) = refl

nil-push : (vs : List ℕ) (n : ℕ) → is_nil (vs ++ n ∷ []) ≡ false
nil-push [] n = refl
nil-push (v ∷ vs) n = refl

-- the values with one more number
pub text_step : (field : Field) (set : List ℕ) (n : ℕ) (old : List ℕ)
    → old ++ values_text field set (n + 1) ≡ (old ++ values_text field set n) ++ member_text (has_word set n) (none_below set n) (least field + n)
unfolding values_text members member_text none_below
text_step field set n old = rw add-one (step (has_word set n) refl)
  where
    f : ℕ → List ℕ
    f = λ i. printed (least field + i)

    step : (b : Bool) → has_word set n ≡ b
        → old ++ join_with_byte 44 (map (λ i. printed (least field + i)) (cond b (members set n ++ n ∷ []) (members set n)))
        ≡ (old ++ join_with_byte 44 (map (λ i. printed (least field + i)) (members set n)))
        ++ cond b (cond (is_nil (members set n)) (printed (least field + n)) (44 ∷ printed (least field + n))) []
    step true is =
        rw (
          map-push (λ i. printed (least field + i)) (members set n) n,
          join-push (map (λ i. printed (least field + i)) (members set n)) (printed (least field + n)),
          nil-map (λ i. printed (least field + i)) (members set n),
        )
        (sym (append_assoc old (join_with_byte 44 (map (λ i. printed (least field + i)) (members set n))) _))
    step false is = rw append-nil refl

pub none_step : (set : List ℕ) (n : ℕ) → none_below set (n + 1) ≡ (none_below set n && not (has_word set n))
unfolding none_below members
none_step set n = rw add-one (step (has_word set n))
  where
    step : (b : Bool) → is_nil (cond b (members set n ++ n ∷ []) (members set n)) ≡ (is_nil (members set n) && not b)
    step true = nil-push (members set n) n ∙ none (is_nil (members set n))
      where
        none : (c : Bool) → false ≡ (c && false)
        none true = refl
        none false = refl
    step false = same (is_nil (members set n))
      where
        same : (c : Bool) → c ≡ (c && true)
        same true = refl
        same false = refl

pub text_zero : (field : Field) (set text : List ℕ) → text ++ values_text field set 0 ≡ text
unfolding values_text members
text_zero field set text = append-nil text

pub none_zero : (set : List ℕ) → none_below set 0 ≡ true
unfolding none_below members
none_zero set = refl

pub ruleset member_steps = (text_step, none_step, text_zero, none_zero)

pub all_step : (set : List ℕ) (n : ℕ) → has_all set (n + 1) ≡ (has_all set n && has_word set n)
unfolding has_all
all_step set n = rw add-one refl

pub all_zero : (set : List ℕ) → has_all set 0 ≡ true
unfolding has_all
all_zero set = refl

-- a set that lacks a number below n lacks one
pub not_all : (set : List ℕ) (i n : ℕ) → has_word set i ≡ false → i < n → has_all set n ≡ false
unfolding has_all
not_all set i zero out below = absurd (omega arith)
not_all set i (suc n) out below = grind (arith, not_all set i n out)

pub ruleset all_steps = (all_step, all_zero, not_all)
