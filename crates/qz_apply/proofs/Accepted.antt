-- What a transaction that isn't refused comes to.
use Rattle.std.proofs.Common.{◌≡◌, Bool, true, false, Option, Some, None, refl, if◌then◌else◌}
use Rattle.qz_types.specs.declared.replies.Reply.{Reply}
use Rattle.qz_types.specs.declared.replies.Refusal.{Refusal}
use Rattle.qz_types.specs.Tables.{SchedulerTables}
use Rattle.qz_types.specs.Outcomes.{Outcome, accepted, refused, unless, IsAccepted}

-- a refusal that comes before it isn't there
pub no_refusal : (x : Option Refusal) (o : Outcome) → IsAccepted (unless x o) → unless x o ≡ o
no_refusal None o is = refl
no_refusal (Some r) o is = absurd is

pub accepted_within : (x : Option Refusal) (o : Outcome) → IsAccepted (unless x o) → IsAccepted o
accepted_within None o is = is
accepted_within (Some r) o is = absurd is

-- and a test that it has to pass, it passes
pub when_accepted : (b : Bool) (x : Refusal) (o : Outcome) → IsAccepted (if b then o else refused x) → (b ≡ true) × IsAccepted o × ((if b then o else refused x) ≡ o)
when_accepted true x o is = (refl, is, refl)
when_accepted false x o is = absurd is

pub same_outcome : (T U : SchedulerTables) (r s : Reply) → T ≡ U → r ≡ s → accepted U s ≡ accepted T r
same_outcome T U r s tables reply = rw (tables, reply) refl
