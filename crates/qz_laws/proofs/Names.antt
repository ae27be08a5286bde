-- The names of recoveries: each ends in the entry number of the execution that it recovers, and in no other.
use Rattle.std.proofs.Common.{◌≡◌, ℕ, nat_eq, ◌-◌, ◌<◌, ◌^◌, ◌==◌, true, false, ◌&&◌, List, ◌∷◌, ◌++◌, codes, length, take, drop, refl, sym, ap, ◌∙◌, subst, arith}
use Rattle.std.specs.Fmt.{decimal}
use Rattle.std.specs.List.{ends_with}
use Rattle.std.proofs.Math.Seq.{drop-append_seam}
use Rattle.std.proofs.lemmas.Bool.{eq-eqb, eqb-true, false_from_ne_true}
use Rattle.std.proofs.lemmas.Cmp.{nat_list_eq_equiv}
use Rattle.std.proofs.lemmas.List.{take-append-drop, length-append}
use Rattle.std.specs.Cmp.Lexicographic.{pointwise, same_text as same_list}
use Rattle.qz_types.specs.Rows.{FiredData}
use Rattle.qz_types.specs.Words.{same_text}
use Rattle.qz_model.specs.Invariant.{EndsIn}
use Rattle.qz_model.specs.Recovery.{recovery_trigger}
use Rattle.qz_model.proofs.Numbers.{one_number}
use Rattle.qz_model.proofs.RecoveryTriggers.{recovery_named}
use Rattle.qz_laws.specs.Losses.{is_recovery}

-- a test of the end of a name tells what it ends in
ends_in : (name : List ℕ) (number : ℕ) → ends_with nat_eq name (95 ∷ decimal number) ≡ true → EndsIn name number
ends_in name number is =
    let back : 95 ∷ decimal number ≡ drop (length name - length (95 ∷ decimal number)) name = same_list (95 ∷ decimal number) (drop (length name - length (95 ∷ decimal number)) name) (sym is) in (
      take (length name - length (95 ∷ decimal number)) name,
      sym (take-append-drop (length name - length (95 ∷ decimal number)) name) ∙ ap (λ (xs : List ℕ). take (length name - length (95 ∷ decimal number)) name ++ xs) (sym back),
    )

ends_with_end : (front back : List ℕ) → ends_with nat_eq (front ++ back) back ≡ true
ends_with_end front back =
    let long : length (front ++ back) - length back ≡ length front = omega (arith, length-append front back) in
    subst (λ n. pointwise nat_eq back (drop n (front ++ back)) ≡ true) (sym long)
    (subst (λ (xs : List ℕ). pointwise nat_eq back xs ≡ true) (sym (drop-append_seam front back)) (nat_list_eq_equiv.refl back))

of_its_number : (name : List ℕ) (number : ℕ) → EndsIn name number → ends_with nat_eq name (95 ∷ decimal number) ≡ true
of_its_number name number named = subst (λ (xs : List ℕ). ends_with nat_eq xs (95 ∷ decimal number) ≡ true) (sym named.1) (ends_with_end named.0 (95 ∷ decimal number))

-- the name ends in this number alone
ends_by_number : (name : List ℕ) (own number : ℕ) → own < 2 ^ 64 → number < 2 ^ 64 → EndsIn name own → ends_with nat_eq name (95 ∷ decimal number) ≡ (number == own)
ends_by_number name own number small also named = elim (number == own) as (λ b. (number == own) ≡ b → ends_with nat_eq name (95 ∷ decimal number) ≡ b) [
  | true ↦ λ same. of_its_number name number (subst (EndsIn name) (sym (eqb-true number own same)) named)
  | false ↦ λ differ. false_from_ne_true (ends_with nat_eq name (95 ∷ decimal number)) (λ is. let one : (number == own) ≡ true = eq-eqb number own (one_number name number own also small (ends_in name number is) named) in absurd (cc))
] refl

in_group : (groups job_groups : List (List ℕ)) (f : FiredData) → same_text (recovery_trigger groups job_groups f).spec.key.group (codes "RECOVERING_JOBS") ≡ true
unfolding recovery_trigger same_text
in_group groups job_groups f = refl

-- the model's trigger for an execution is a recovery of its entry number alone
pub recovery_of_its_number : (groups job_groups : List (List ℕ)) (f : FiredData) (number : ℕ) → f.entry < 2 ^ 64 → number < 2 ^ 64 → is_recovery number (recovery_trigger groups job_groups f) ≡ (number == f.entry)
unfolding is_recovery
recovery_of_its_number groups job_groups f number small also =
    ap (λ b. b && ends_with nat_eq (recovery_trigger groups job_groups f).spec.key.name (95 ∷ decimal number)) (in_group groups job_groups f)
    ∙ ends_by_number (recovery_trigger groups job_groups f).spec.key.name f.entry number small also (recovery_named groups job_groups f)
