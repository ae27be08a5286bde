-- Histories that grow from look to look.
use Rattle.std.proofs.Common.{◌≡◌, ℕ, ◌+◌, ◌≤◌, List, [], ◌∷◌, ◌++◌, length, Option, Some, None, refl, ap, sym, ◌∙◌, subst, arith, append_assoc, append-nil, length-append}
use Rattle.std.proofs.Math.Logic.{∥∥₁_map}
use Rattle.std.specs.Prelude.{IfSome}
use Rattle.std.proofs.lemmas.List.{map-append}
use mathlib.Core.List.{IsPrefix}
use Rattle.qz_board.specs.declared.glance.Glance.{Glance}
use Rattle.qz_board_looks.specs.Looks.{first_or, Rise, AreLooks, EndWithAll}

module _ {E : Type 0} where
  pub prefix_trans : (xs ys zs : List E) → IsPrefix xs ys → IsPrefix ys zs → IsPrefix xs zs
  prefix_trans xs ys zs p q = (p.0 ++ q.0, sym (append_assoc xs p.0 q.0) ∙ (ap (λ w. w ++ q.0) p.1 ∙ q.1))

  first_later : (h : List E) (hs : List (List E)) (old new : List E) → IsPrefix h (first_or hs old) → IsPrefix old new → IsPrefix h (first_or hs new)
  first_later h [] old new p q = prefix_trans h old new p q
  first_later h (k ∷ ks) old new p q = p

  -- they rise to whatever goes on from there
  pub rise_on : (hs : List (List E)) (old new : List E) → Rise hs old → IsPrefix old new → Rise hs new
  rise_on [] old new r q = tt
  rise_on (h ∷ hs) old new r q = (first_later h hs old new r.0 q, rise_on hs old new r.1 q)

  first_snoc : (h : List E) (hs : List (List E)) (last : List E) → IsPrefix h (first_or hs last) → IsPrefix h (first_or (hs ++ last ∷ []) last)
  first_snoc h [] last p = p
  first_snoc h (k ∷ ks) last p = p

  pub itself : (h : List E) → IsPrefix h h
  itself h = ([], append-nil h)

  -- and to that one itself
  pub rise_to : (hs : List (List E)) (last : List E) → Rise hs last → Rise (hs ++ last ∷ []) last
  rise_to [] last r = (itself last, tt)
  rise_to (h ∷ hs) last r = (first_snoc h hs last r.0, rise_to hs last r.1)

  module _ (glance_of : List E → Glance) (first : List E) where
    pub looks_on : (glances : List Glance) (old new : List E) → AreLooks glance_of first glances old → IsPrefix old new → AreLooks glance_of first glances new
    looks_on glances old new looks q = record { histories = looks.histories; glances_are = looks.glances_are; rise = rise_on (first ∷ looks.histories) old new looks.rise q }

    -- one look more
    pub one_more : (glances : List Glance) (glance : Glance) (old new : List E) → AreLooks glance_of first glances old → IsPrefix old new → glance ≡ glance_of new → AreLooks glance_of first (glances ++ glance ∷ []) new
    one_more glances glance old new looks q is = record {
      histories = looks.histories ++ new ∷ [];
      glances_are = ap (λ g. glances ++ g ∷ []) is ∙ ap (λ gs. gs ++ glance_of new ∷ []) looks.glances_are ∙ sym (map-append glance_of looks.histories (new ∷ []));
      rise = rise_to (first ∷ looks.histories) new (rise_on (first ∷ looks.histories) old new looks.rise q);
    }

    pub all_seen : (glances : List Glance) (glance : Glance) (old whole : List E) → AreLooks glance_of first glances old → IsPrefix old whole → glance ≡ glance_of whole → EndWithAll glance_of first (glances ++ glance ∷ []) whole
    all_seen glances glance old whole looks q is = record { before = glances; looks = looks_on glances old whole looks q; glances_are = ap (λ g. glances ++ g ∷ []) is }

-- Entries that begin with a whole history, and are shown as as many as that has, are that history.
none_more : {E : Type 0} (xs ys zs : List E) → xs ++ zs ≡ ys → length ys ≤ length xs → ys ≡ xs
none_more xs ys [] is few = sym is ∙ append-nil xs
none_more xs ys (z ∷ zs) is few = absurd (omega (arith, ap length is, length-append xs (z ∷ zs)))

pub whole_by_count : {E G : Type 0} (before : G → ℕ) (glance_of : G → List E → Glance) → ((b : G) (es : List E) → (glance_of b es).entries ≡ before b + length es)
    → (b : G) (whole seen : List E) (glance : Glance) → IsPrefix whole seen → glance ≡ glance_of b seen → glance.entries ≡ (glance_of b whole).entries → seen ≡ whole
whole_by_count before glance_of counted b whole seen glance begins shows same =
    none_more whole seen begins.0 begins.1 (omega (arith, ap (λ (g : Glance). g.entries) shows, same, counted b seen, counted b whole))

-- What is kept of looks, of whatever basis the reader is.
module _ {E G : Type 0} (glance_of : G → List E → Glance) (first : List E) where
  pub none_yet : (o : Option G) (seen : List E) → IsPrefix first seen → IfSome o (λ b. ∥ AreLooks (glance_of b) first [] seen ∥₁)
  none_yet None seen begins = tt
  none_yet (Some b) seen begins = ∣ record { histories = []; glances_are = refl; rise = (begins, tt) } ∣₁

  more : (o : Option G) (glances : List Glance) (glance : Glance) (old new : List E) → IfSome o (λ b. ∥ AreLooks (glance_of b) first glances old ∥₁) → IsPrefix old new → IfSome o (λ b. glance ≡ glance_of b new)
      → IfSome o (λ b. ∥ AreLooks (glance_of b) first (glances ++ glance ∷ []) new ∥₁)
  more None glances glance old new looks q shows = tt
  more (Some b) glances glance old new looks q shows = ∥∥₁_map looks (λ are. one_more (glance_of b) first glances glance old new are q shows)

  pub kept_more : (o p : Option G) (glances : List Glance) (glance : Glance) (old new : List E) → p ≡ o → IfSome o (λ b. ∥ AreLooks (glance_of b) first glances old ∥₁) → IsPrefix old new → IfSome p (λ b. glance ≡ glance_of b new)
      → IfSome p (λ b. ∥ AreLooks (glance_of b) first (glances ++ glance ∷ []) new ∥₁)
  kept_more o p glances glance old new same looks q shows = more p glances glance old new (subst (λ r. IfSome r (λ b. ∥ AreLooks (glance_of b) first glances old ∥₁)) (sym same) looks) q shows

  pub kept_all : (o : Option G) (b : G) (glances : List Glance) (glance : Glance) (old new whole : List E) → o ≡ Some b → IfSome o (λ b. ∥ AreLooks (glance_of b) first glances old ∥₁) → IsPrefix old new → new ≡ whole → glance ≡ glance_of b whole
      → ∥ EndWithAll (glance_of b) first (glances ++ glance ∷ []) whole ∥₁
  kept_all o b glances glance old new whole based looks q all shows =
      let these : ∥ AreLooks (glance_of b) first glances old ∥₁ = subst (λ r. IfSome r (λ b. ∥ AreLooks (glance_of b) first glances old ∥₁)) based looks in
      ∥∥₁_map these (λ are. all_seen (glance_of b) first glances glance old whole are (subst (IsPrefix old) all q) shows)
