-- Disks that were looked at, and disks on which stores are made.
use Rattle.std.proofs.Common.{◌⊎◌, inl, inr, ℕ, List, sym, subst}
use Rattle.std.specs.Prelude.{⊤, Result, Ok, Err}
use Rattle.qz_disk.specs.Disk.{DiskState, IsLawful, Only, Stays, Torn}
use Rattle.qz_disk.proofs.Moments.{started, then_leaves, weaker, stays_same, torn_same}
use Rattle.qz_disk.proofs.Handles.{stays_then}
use Rattle.qz_follow.specs.Following.{Following}
use Rattle.qz_stores.specs.Bases.{WholeList}
use Rattle.qz_stores.specs.Kinds.{StoreKind}
use Rattle.qz_standby.specs.Fronts.{HasOwn, HasNone, IsFirstOfOther, Looks}
use Rattle.qz_standby.specs.Making.{LeavesFirst, MakesPart, LooksAtBoth, Makes}
use Rattle.qz_standby.specs.declared.errors.Unmade.{Unmade}
use Rattle.qz_standby.specs.declared.errors.Unmade.TheVariants as unmade
use Rattle.qz_standby.specs.declared.forms.Form.{Form}

-- One look after another.

pub looks_not : (s : DiskState) → IsLawful s → Looks s s
looks_not s lawful = record { stays = stays_same s; any_moment = started s _ lawful (λ b is. is) }

pub looks_then : (a m n : DiskState) → Looks a m → Looks m n → Looks a n
looks_then a m n first second = record {
  stays = stays_then a m n first.stays second.stays;
  any_moment = then_leaves a m n a.IsImage m.IsImage a.IsImage first.any_moment second.any_moment (λ b is. is) (λ b is. (first.stays.images b).0 is);
}

only_then : (from : List ℕ) (a m : DiskState) → Stays a m → Only from a → Only from m
only_then from a m stays only b is = only b ((stays.images b).0 is)

module _ {H S E R : Type 0} (k : StoreKind H S E R) (w : WholeList S E) where
  -- a disk that was looked at is as it may be before a store is made
  pub looks_first : (a n : DiskState) → Looks a n → LeavesFirst k w a n
  looks_first a n looks from only = weaker a n a.IsImage _ looks.any_moment (λ b is. inl (subst (Torn 0 17 from) (sym (only b is)) (torn_same 0 17 from)))

  pub first_then : (a m n : DiskState) → Looks a m → LeavesFirst k w m n → LeavesFirst k w a n
  first_then a m n looks leaves from only = then_leaves a m n _ _ _ (looks_first a m looks from only) (leaves from (only_then from a m looks.stays only)) (λ b is. is) (λ b is. is)

-- What was found stands in the bytes as they were.
none_then : (a m c d : DiskState) → Looks a m → Looks c d → HasNone m.content d.content → HasNone a.content c.content
none_then a m c d looks also none = subst (λ (t : List ℕ). HasNone t c.content) looks.stays.content (subst (λ (s : List ℕ). HasNone m.content s) also.stays.content none)

part_then : (form : Form) (f : Following) (t m n s u v : DiskState) → Looks t m → Looks s u → MakesPart form f m n u v → MakesPart form f t n s v
part_then form f t m n s u v first second part = record {
  none = none_then t m s u first second part.none;
  triggers = first_then _ _ t m n first part.triggers;
  states = first_then _ _ s u v second part.states;
}

looked_then : (P : List ℕ → List ℕ → Type 0) (t m n s u v : DiskState) → Looks t m → Looks s u → LooksAtBoth P m n u v → LooksAtBoth P t n s v
looked_then P t m n s u v first second looked = record {
  found = subst (λ (x : List ℕ). P x s.content) first.stays.content (subst (λ (x : List ℕ). P m.content x) second.stays.content looked.found);
  triggers = looks_then t m n first looked.triggers;
  states = looks_then s u v second looked.states;
}

some_then : (form : Form) (f : Following) (t m n s u v : DiskState) → Looks t m → Looks s u → LooksAtBoth (λ x y. ⊤) m n u v ⊎ MakesPart form f m n u v → LooksAtBoth (λ x y. ⊤) t n s v ⊎ MakesPart form f t n s v
some_then form f t m n s u v first second (inl looked) = inl (looked_then _ t m n s u v first second looked)
some_then form f t m n s u v first second (inr part) = inr (part_then form f t m n s u v first second part)

-- The disks were looked at before.
pub makes_then : (form : Form) (r : Result ℕ Unmade) (f : Following) (t m n s u v : DiskState) → Looks t m → Looks s u → Makes form r f m n u v → Makes form r f t n s v
makes_then form (Ok count) f t m n s u v first second made = record { part = part_then form f t m n s u v first second made.part; list = made.list; rows = made.rows }
makes_then form (Err unmade.Exists) f t m n s u v first second looked = looked_then HasOwn t m n s u v first second looked
makes_then form (Err (unmade.NotAStore store)) f t m n s u v first second looked =
    looked_then (λ triggers states. (HasOwn triggers states → ⊥) × IsFirstOfOther store triggers states) t m n s u v first second looked
makes_then form (Err (unmade.Short at)) f t m n s u v first second looked = looked_then HasNone t m n s u v first second looked
makes_then form (Err (unmade.NoRoom need room)) f t m n s u v first second part = (part.0, part_then form f t m n s u v first second part.1)
makes_then form (Err unmade.NoMemory) f t m n s u v first second some = some_then form f t m n s u v first second some
makes_then form (Err unmade.Fault) f t m n s u v first second some = some_then form f t m n s u v first second some
