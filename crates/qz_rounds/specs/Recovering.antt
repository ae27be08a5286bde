-- What one look for a late node comes to.
use Rattle.std.specs.Prelude.{⊤, ◌≡◌, ◌⊎◌, ℕ, ℤ, List, Bool, true, false, Option, Some, None, Ok, Err, MatchBool, MatchOption}
use Rattle.std.specs.declared.result.Result.{Result}
use mathlib.Core.List.{IsPrefix}
use Rattle.qz_types.specs.Rows.{MemberData}
use Rattle.qz_types.specs.Entries.{EntryData, StateEntryData}
use Rattle.qz_types.specs.declared.commands.Actor.TheVariants.{Node}
use Rattle.qz_types.specs.declared.commands.Command.TheVariants.{Recover}
use Rattle.qz_types.specs.declared.errors.SubmitError.{SubmitError}
use Rattle.qz_types.specs.declared.errors.SubmitError.TheVariants as submit
use Rattle.qz_types.specs.declared.replies.Refusal.TheVariants.{NotMember}
use Rattle.qz_types.specs.declared.replies.Reply.{Reply}
use Rattle.qz_types.specs.declared.states.StateCommand.TheVariants.{Forget}
use Rattle.qz_stores.specs.Stores.{EntryKind, StoreState}
use Rattle.qz_checkin.specs.Rows.{StateTables}
use Rattle.qz_shared.specs.Calls.{Known, Called}
use Rattle.qz_rounds.specs.Looking.{found_in}

-- the entry by which a member recovers a failed node, and the one by which that node's row is forgotten
abbrev pub recover_by : ℤ → ℕ → MemberData → List ℕ → EntryData
recover_by at seat me node = record { at = at; actor = Node me; seat = seat; command = Recover node }

abbrev pub forget_by : ℤ → ℕ → List ℕ → ℤ → StateEntryData
forget_by at seat node last = record { at = at; seat = seat; command = Forget node last }

-- A seat that knew s looked at its store, and knows t: all that was added by then, and nothing more of its own.
pub record Looks {E : Type 0} (s t : Known E) : Type 0 where
  pub begins : IsPrefix s.seen t.seen
  pub mine : t.mine ≡ s.mine
  pub was_shut : s.shut ≡ true → t.shut ≡ true

-- whether a node is a member no more, by the answer to its Recover
abbrev pub is_gone : Result Reply SubmitError → Bool
is_gone (Ok reply) = true
is_gone (Err (submit.Refused NotMember)) = true
is_gone (Err error) = false

-- what is told of that answer
abbrev pub told : Result Reply SubmitError → Result (Option Reply) SubmitError
told (Ok reply) = Ok (Some reply)
told (Err error) = Err error

-- a refusal to forget a row is passed over, and any other error is told in place of the answer
abbrev pub unless_broken : Result ⊤ SubmitError → Result (Option Reply) SubmitError → Result (Option Reply) SubmitError
unless_broken (Ok _) answer = answer
unless_broken (Err (submit.Refused refusal)) answer = answer
unless_broken (Err error) answer = Err error

-- Nothing is submitted: for want of memory, or since no node is late.
pub record SubmitsNone (answer result : Result (Option Reply) SubmitError) (s t : Known EntryData) (u v : Known StateEntryData) : Type 0 where
  pub result_is : result ≡ answer
  pub trigger : t ≡ s
  pub state : v ≡ u

module _ {H : Type 0} (kind : EntryKind H StateEntryData ⊤) (listed : H → List StateEntryData) (opened : StoreState H StateEntryData) where
  -- A state seat that knew s forgets a row by this entry, and knows t.
  pub record Forgets (e : StateEntryData) (answer result : Result (Option Reply) SubmitError) (s t : Known StateEntryData) : Type 0 where
    pub forgot : Result ⊤ SubmitError
    pub called : Called kind listed opened e forgot s t
    pub result_is : result ≡ unless_broken forgot answer

  module _ {G : Type 0} (trigger_kind : EntryKind G EntryData Reply) (trigger_listed : G → List EntryData) (trigger_opened : StoreState G EntryData) where
    -- The trigger seat submits a Recover. Where the node is gone after that, the state seat forgets its row.
    pub record Recovers (e : EntryData) (forget : StateEntryData) (result : Result (Option Reply) SubmitError) (s t : Known EntryData) (u v : Known StateEntryData) : Type 0 where
      pub answer : Result Reply SubmitError
      pub called : Called trigger_kind trigger_listed trigger_opened e answer s t
      pub follows : MatchBool (is_gone answer) (Forgets forget (told answer) result u v) ((result ≡ told answer) × (v ≡ u))

    -- A member that has looked does what the rows tell: it recovers the first node that is late to it. Where the look belongs to a
    -- round, `before` is the reading of the round before.
    pub record Decides (leaves : List StateEntryData → StateTables → Type 0) (before : Option ℤ) (at : ℤ) (me : MemberData) (trigger_seat state_seat : ℕ) (result : Result (Option Reply) SubmitError) (s t : Known EntryData) (u v : Known StateEntryData) : Type 0 where
      pub tables : StateTables
      pub rows : leaves u.seen tables
      pub does : MatchOption (found_in before tables at me.node)
          (SubmitsNone (Ok None) result s t u v)
          (λ found. Recovers (recover_by at trigger_seat me found.node) (forget_by at state_seat found.node found.last) result s t u v)

    -- A member looks once, at this reading, with a trigger seat and a state seat of these numbers. Then it does what the rows
    -- tell that the state seat has seen, unless memory is wanting. `leaves` says which rows a list of state entries leaves.
    pub record LooksAndRecovers (leaves : List StateEntryData → StateTables → Type 0) (before : Option ℤ) (at : ℤ) (me : MemberData) (trigger_seat state_seat : ℕ) (result : Result (Option Reply) SubmitError) (s t : Known EntryData) (u v : Known StateEntryData) : Type 0 where
      pub looked : Known StateEntryData
      pub looks : Looks u looked
      pub does : SubmitsNone (Err submit.NoMemory) result s t looked v ⊎ Decides leaves before at me trigger_seat state_seat result s t looked v
