-- What making the trigger store, and then the state store beside it, makes of both disks.
use Rattle.std.proofs.Common.{◌≡◌, inr, ℕ, length, refl}
use Rattle.std.specs.Prelude.{Some, None, Result, Ok, Err, IfErr}
use Rattle.qz_disk.specs.Disk.{DiskState, IsLawful}
use Rattle.qz_stores.specs.declared.compacting.CompactError.{CompactError}
use Rattle.qz_stores.specs.declared.compacting.CompactError.TheVariants as compact
use Rattle.qz_trigger_store.specs.Kinds.{trigger_kind}
use Rattle.qz_checkin.specs.Kinds.{state_kind}
use Rattle.qz_follow.specs.Following.{Following, short_at}
use Rattle.qz_follow.specs.declared.promoting.PromoteFault.{PromoteFault}
use Rattle.qz_follow.specs.declared.promoting.PromoteFault.TheVariants as promote
use Rattle.qz_standby.specs.Fronts.{HasNone}
use Rattle.qz_standby.specs.Making.{LeavesFirst, list_of, rows_of, MakesPart, Makes, TellsHeader}
use Rattle.qz_standby.specs.Parts.{IsOfStores, MakesRows, MakesTriggers, unpromoted, uncompacted, counted}
use Rattle.qz_standby.specs.declared.errors.Unmade.{Unmade}
use Rattle.qz_standby.specs.declared.errors.Unmade.TheVariants as unmade
use Rattle.qz_standby.specs.declared.forms.Form.{Form}
use Rattle.qz_standby.proofs.Leaving.{looks_not, looks_first}

-- The trigger store wasn't made, and the disk of states wasn't touched.
module _ (form : Form) (f : Following) (t t' s : DiskState) (beside : IsLawful s) (none : HasNone t.content s.content) where
  part : LeavesFirst trigger_kind (list_of form f) t t' → MakesPart form f t t' s s
  part leaves = record { none = none; triggers = leaves; states = looks_first state_kind (rows_of f) s s (looks_not s beside) }

  pub unmade_makes : (x : Unmade) → MakesTriggers form (Some x) f t t' → Makes form (Err x) f t t' s s
  unmade_makes unmade.Exists made = absurd made
  unmade_makes (unmade.NotAStore st) made = absurd made
  unmade_makes (unmade.Short at) made = record { found = none; triggers = made; states = looks_not s beside }
  unmade_makes (unmade.NoRoom need room) made = (made.0, part made.1)
  unmade_makes unmade.NoMemory made = inr (part made)
  unmade_makes unmade.Fault made = inr (part made)

-- It was made, and then the state store was, or wasn't.
module _ (form : Form) (f : Following) (t t' s s' : DiskState) (none : HasNone t.content s.content) (made : MakesTriggers form None f t t') (count : ℕ) where
  part_of : LeavesFirst state_kind (rows_of f) s s' → MakesPart form f t t' s s'
  part_of states = record { none = none; triggers = made.0; states = states }

  pub made_makes : (r : Result (Unit {0}) Unmade) → MakesRows r (rows_of f) s s' → Makes form (counted r count) f t t' s s'
  made_makes (Ok x) rows = record { part = part_of rows.0; list = made.1; rows = rows.1 }
  made_makes (Err unmade.Exists) rows = absurd rows.0
  made_makes (Err (unmade.NotAStore st)) rows = absurd rows.0
  made_makes (Err (unmade.Short at)) rows = absurd rows.0
  made_makes (Err (unmade.NoRoom need room)) rows = absurd rows.0
  made_makes (Err unmade.NoMemory) rows = inr (part_of rows.1)
  made_makes (Err unmade.Fault) rows = inr (part_of rows.1)

-- What is told of the header.

pub other_header : (x : Unmade) (f : Following) → IsOfStores x → TellsHeader (Err x) f
other_header unmade.Exists f is = tt
other_header (unmade.NotAStore st) f is = tt
other_header (unmade.Short at) f is = absurd is
other_header (unmade.NoRoom need room) f is = tt
other_header unmade.NoMemory f is = tt
other_header unmade.Fault f is = tt

pub unpromoted_header : (x : PromoteFault) (f : Following) → ((at : ℕ) → x ≡ promote.Short at → short_at f ≡ Some at) → TellsHeader (Err (unpromoted x)) f
unpromoted_header (promote.Short at) f told = told at refl
unpromoted_header promote.Exists f told = tt
unpromoted_header promote.OtherKind f told = tt
unpromoted_header promote.NoMemory f told = tt
unpromoted_header (promote.NoRoom need room) f told = tt
unpromoted_header promote.Fault f told = tt

pub uncompacted_header : (x : CompactError) (f : Following) → TellsHeader (Err (uncompacted x)) f
uncompacted_header compact.Exists f = tt
uncompacted_header compact.OtherKind f = tt
uncompacted_header compact.NoMemory f = tt
uncompacted_header (compact.NoRoom need room) f = tt
uncompacted_header compact.Fault f = tt

pub counted_header : (r : Result (Unit {0}) Unmade) (count : ℕ) (f : Following) → IfErr r IsOfStores → short_at f ≡ None → count ≡ length f.entries → TellsHeader (counted r count) f
counted_header (Ok x) count f error long all = (long, all)
counted_header (Err x) count f error long all = other_header x f error
