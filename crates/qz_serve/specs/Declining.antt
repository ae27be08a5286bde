-- Why a store declined what a node asked, and where that was on the store's way.
use Rattle.std.specs.Prelude.{⊤, ◌≡◌, List, ◌++◌, Some, Err, IsOk}
use mathlib.Core.List.{IsPrefix}
use Rattle.qz_types.specs.declared.errors.SubmitError.TheVariants as submit
use Rattle.qz_types.specs.declared.replies.Refusal.{Refusal}
use Rattle.qz_stores.specs.Stores.{EntryKind, StoreState, LacksRoom}
use Rattle.qz_run.specs.declared.commands.Declined.{Declined}
use Rattle.qz_run.specs.declared.commands.Declined.TheVariants as why
use Rattle.qz_rounds.specs.Declining.{declined_of}
use Rattle.qz_shared.specs.Since.{further, history_at, gate_at, payloads_at}

-- This holds of a limit that was passed, of a full journal and of a node that is fenced.
abbrev pub AtLimit : (Declined → Type 0) → Declined → Type 0
AtLimit P (why.TooMany count) = P (why.TooMany count)
AtLimit P (why.JournalFull need room) = P (why.JournalFull need room)
AtLimit P why.Fenced = P why.Fenced
AtLimit P other = ⊤

-- That a store, as it stands, refuses an entry, and this is the limit that it tells, or that it tells of a fence.
pub record RefusesAtLimit {H E R : Type 0} (kind : EntryKind H E R) (s : StoreState H E) (e : E) (w : Declined) : Type 0 where
  pub refusal : Refusal
  pub refused_as : kind.answer s.history e ≡ Err refusal
  pub limit : declined_of (submit.Refused refusal) ≡ Some w

module _ {H E R : Type 0} (kind : EntryKind H E R) where
  -- A store, as it stands, declines an entry: the transaction is refused at a limit, or since its node is fenced; or it would be
  -- accepted, and its record finds no room. Of other reasons nothing is said.
  abbrev pub Declines : StoreState H E → E → Declined → Type 0
  Declines s e (why.TooMany count) = RefusesAtLimit kind s e (why.TooMany count)
  Declines s e why.Fenced = RefusesAtLimit kind s e why.Fenced
  Declines s e (why.JournalFull need room) = IsOk (kind.answer s.history e) × LacksRoom (kind.size e) need room s
  Declines s e other = ⊤

  module _ (listed : H → List E) where
    -- A store went on by further entries alone: its history, the gate of its journal and the number of payloads before that are what
    -- these make of the first ones.
    pub record HasGrown (first now : StoreState H E) : Type 0 where
      pub entries : listed now.history ≡ listed first.history ++ further listed first (listed now.history)
      pub history : now.history ≡ history_at kind listed first (listed now.history)
      pub gate : now.gate ≡ gate_at kind listed first (listed now.history)
      pub payloads : now.payloads ≡ payloads_at listed first (listed now.history)

    -- Between two moments of a store it declined an entry that is such for this reason, as it stood then: after some of the entries
    -- that were added.
    pub record DeclinedOnTheWay (IsOne : E → Type 0) (begun end : StoreState H E) (w : Declined) : Type 0 where
      pub stood : StoreState H E
      pub grown : HasGrown begun stood
      pub goes_on : IsPrefix (listed stood.history) (listed end.history)
      pub entry : E
      pub is_one : IsOne entry
      pub declines : Declines stood entry w
