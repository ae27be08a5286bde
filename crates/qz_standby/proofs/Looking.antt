-- What two looks find.
use Rattle.std.proofs.Common.{◌≡◌, inl, inr, ⊎_elim, ℕ, List, sym, ap, ◌∙◌, arith}
use Rattle.std.specs.Prelude.{slice_index, Err}
use Rattle.qz_journal.specs.Layout.{IsStore, front_of}
use Rattle.qz_journal.specs.Making.{HasFront}
use Rattle.qz_journal.specs.declared.fronts.Front.{Front}
use Rattle.qz_journal.specs.declared.fronts.Front.TheVariants as front
use Rattle.qz_journal.specs.declared.layout.TheConstants.{TRIGGERS, STATES}
use Rattle.qz_disk.specs.Disk.{DiskState}
use Rattle.qz_follow.specs.Following.{Following}
use Rattle.qz_standby.specs.Fronts.{HasOwn, Looks}
use Rattle.qz_standby.specs.Making.{Makes}
use Rattle.qz_standby.specs.Parts.{AreFound, of_fronts}
use Rattle.qz_standby.specs.declared.errors.Unmade.{Unmade}
use Rattle.qz_standby.specs.declared.errors.Unmade.TheVariants as unmade
use Rattle.qz_standby.specs.declared.forms.Form.{Form}

-- bytes begin as a store of one kind at most
not_both : (v w : ℕ) → front_of v TRIGGERS ≡ front_of w STATES → ⊥
not_both v w is = let kinds : 84 ≡ 83 = ap (λ (bytes : List ℕ). slice_index bytes 5) is in omega (arith, kinds)

one_kind : (b : List ℕ) → IsStore TRIGGERS b → IsStore STATES b → ⊥
one_kind b p q = not_both p.0 q.0 (sym p.1 ∙ q.1)

not_own : (t s : List ℕ) → (IsStore TRIGGERS t → ⊥) → (IsStore STATES s → ⊥) → HasOwn t s → ⊥
not_own t s first second own = ⊎_elim first second own

pub found_by : (a b : Front) (t s : List ℕ) → HasFront t TRIGGERS a → HasFront s STATES b → AreFound (of_fronts a b) t s
found_by front.This front.This t s p q = inl p
found_by front.This front.Other t s p q = inl p
found_by front.This front.Neither t s p q = inl p
found_by front.Other front.This t s p q = inr q
found_by front.Neither front.This t s p q = inr q
found_by front.Other front.Other t s p q = (not_own t s (λ own. one_kind t own p) (λ own. one_kind s q own), p)
found_by front.Other front.Neither t s p q = (not_own t s (λ own. one_kind t own p) (λ own. q (inl own)), p)
found_by front.Neither front.Other t s p q = (not_own t s (λ own. p (inl own)) (λ own. one_kind s q own), ((λ other. p (inr other)), q))
found_by front.Neither front.Neither t s p q = (p, q)

-- Then no stores are made.
pub refused_makes : (form : Form) (x : Unmade) (f : Following) (t t' u u' : DiskState) → AreFound (Err x) t.content u.content → Looks t t' → Looks u u' → Makes form (Err x) f t t' u u'
refused_makes form unmade.Exists f t t' u u' found first second = record { found = found; triggers = first; states = second }
refused_makes form (unmade.NotAStore st) f t t' u u' found first second = record { found = found; triggers = first; states = second }
refused_makes form (unmade.Short at) f t t' u u' found first second = absurd found
refused_makes form (unmade.NoRoom need room) f t t' u u' found first second = absurd found
refused_makes form unmade.NoMemory f t t' u u' found first second = absurd found
refused_makes form unmade.Fault f t t' u u' found first second = inl (record { found = tt; triggers = first; states = second })
