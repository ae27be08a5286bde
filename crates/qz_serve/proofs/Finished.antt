-- What a thread knows of its end, as it steps, and as more is seen.
use Rattle.std.proofs.Common.{◌≡◌, ◌⊎◌, inl, inr, arith, ◌≤ℤ◌, ◌||◌, ℕ, ℤ, Bool, true, false, List, [], ◌∷◌, ◌++◌, length, ◌<◌, if◌then◌else◌, refl, sym, ap, ◌∙◌, subst}
use Rattle.std.specs.Prelude.{⊤, Option, Some, None, Ok, Err, IfErr, IfOk, IfSome, OnOk, int_le, nat_lt}
use Rattle.std.specs.declared.result.Result.{Result}
use Rattle.std.specs.List.{AllByRecursion}
use Rattle.std.proofs.lemmas.Int.{ints}
use mathlib.Core.List.{IsPrefix}
use Rattle.qz_types.specs.Entries.{EntryData, StateEntryData}
use Rattle.qz_types.specs.Rows.{MemberData}
use Rattle.qz_types.specs.declared.commands.Code.{Code}
use Rattle.qz_types.specs.declared.commands.Command.{Command}
use Rattle.qz_types.specs.declared.commands.Command.TheVariants as asks
use Rattle.qz_types.specs.declared.errors.SubmitError.{SubmitError}
use Rattle.qz_types.specs.declared.errors.SubmitError.TheVariants as submit
use Rattle.qz_types.specs.declared.replies.MovedRow.{MovedRow}
use Rattle.qz_types.specs.declared.replies.Refusal.{Refusal}
use Rattle.qz_types.specs.declared.replies.Refusal.TheVariants as refusal
use Rattle.qz_types.specs.declared.replies.Reply.{Reply}
use Rattle.qz_types.specs.declared.replies.Reply.TheVariants as reply
use Rattle.qz_types.specs.declared.replies.Taken.{Taken}
use Rattle.qz_node.specs.declared.turns.Held.{Held}
use Rattle.qz_node.specs.declared.turns.Idle.{Idle}
use Rattle.qz_node.specs.declared.turns.Idle.TheVariants as idle
use Rattle.qz_node.specs.declared.turns.Want.TheVariants as want
use Rattle.qz_node.specs.Turns.{TurnData, wanted, wanted_idle, wanted_of, wanted_with, learnt_moved, learnt_taken, learnt_reply, refused_with, ends_at_refusal, ended, is_fenced, new_turn}
use Rattle.qz_node.specs.declared.turns.LastHeard.{LastHeard}
use Rattle.qz_node.specs.declared.turns.LastHeard.TheVariants as last
use Rattle.qz_node.specs.Hubs.{IsReplyTo, learnt_answer}
use Rattle.qz_node.specs.Jobs.{JobMeaning}
use Rattle.qz_node.specs.declared.contexts.JobContext.{JobContext}
use Rattle.qz_run.specs.declared.commands.Declined.{Declined}
use Rattle.qz_run.specs.declared.commands.Declined.TheVariants as why
use Rattle.qz_rounds.specs.Declining.{IsCause, IsStopped, declined_of, stopped_by}
use Rattle.qz_rounds.specs.Looking.{HasCheckedIn}
use Rattle.qz_rounds.proofs.Lasting.{checked_on}
use Rattle.qz_rounds.proofs.Lists.{all_map, prefix_refl, prefix_trans}
use Rattle.qz_shared.specs.Calls.{Called, Known}
use Rattle.qz_shared.specs.Since.{history_at}
use Rattle.qz_stores.specs.Stores.{EntryKind, StoreState}
use Rattle.qz_serve.specs.Causes.{least_cause, rank}
use Rattle.qz_serve.specs.Entries.{IsPlain, IsScheduled, IsWork, entry_by}
use Rattle.qz_serve.specs.Heard.{Deed}
use Rattle.qz_serve.specs.Ran.{MayFollow, Ran, RunsBy, context_in}
use Rattle.qz_serve.specs.Finished.{CameToEnd, EndsThread, FoundNothing, KnowsEnd, NodeCameToEnd, WasAccepted, WasRefused}

module _ {H : Type 0} (kind : EntryKind H EntryData Reply) (listed : H → List EntryData) (opened : StoreState H EntryData) where
  -- More was seen.

  accepted_on : (e : EntryData) (r : Reply) (seen more : List EntryData) → IsPrefix seen more → WasAccepted kind listed opened e r seen → WasAccepted kind listed opened e r more
  accepted_on e r seen more p a = record { before = a.before; accepted_as = a.accepted_as; begins = prefix_trans _ seen more a.begins p }

  module _ (P : EntryData → Type 0) where
    found_on : (seen more : List EntryData) → IsPrefix seen more → FoundNothing kind listed opened P seen → FoundNothing kind listed opened P more
    found_on seen more p f = record { entry = f.entry; is_one = f.is_one; accepted = accepted_on f.entry (reply.Acquired []) seen more p f.accepted }

    refused_on : (seen more : List EntryData) → IsPrefix seen more → WasRefused kind listed opened P seen → WasRefused kind listed opened P more
    refused_on seen more p r = record { entry = r.entry; is_one = r.is_one; refusal = r.refusal; before = r.before; refused_as = r.refused_as; ends = r.ends; begins = prefix_trans r.before seen more r.begins p }

  module _ (shows : ℤ → Type 0) (until : ℤ) where
    pub came_on : (me : MemberData) (number : ℕ) (seen more : List EntryData) → IsPrefix seen more → CameToEnd kind listed opened shows until me number seen → CameToEnd kind listed opened shows until me number more
    came_on me number seen more p (inl r) = inl (record { reading = r.reading; shown = r.shown; late = r.late; rests = found_on (IsScheduled shows until me number) seen more p r.rests })
    came_on me number seen more p (inr r) = inr (refused_on (IsScheduled shows until me number) seen more p r)

    node_on : (first : List StateEntryData) (seen more : List EntryData) (rows more_rows : List StateEntryData) → IsPrefix seen more → IsPrefix rows more_rows → (me : MemberData)
        → NodeCameToEnd kind listed opened shows until first seen rows me → NodeCameToEnd kind listed opened shows until first more more_rows me
    node_on first seen more rows more_rows p q me n = record {
      number = n.number;
      scheduler = came_on me n.number seen more p n.scheduler;
      reading = n.reading;
      shown = n.shown;
      late = n.late;
      checked_in = checked_on first me.node n.reading rows more_rows q n.checked_in;
    }

    pub nodes_on : (first : List StateEntryData) (seen more : List EntryData) (rows more_rows : List StateEntryData) (members : List MemberData) → IsPrefix seen more → IsPrefix rows more_rows
        → AllByRecursion (NodeCameToEnd kind listed opened shows until first seen rows) members → AllByRecursion (NodeCameToEnd kind listed opened shows until first more more_rows) members
    nodes_on first seen more rows more_rows members p q all =
        all_map (NodeCameToEnd kind listed opened shows until first seen rows) (NodeCameToEnd kind listed opened shows until first more more_rows) (node_on first seen more rows more_rows p q) members all

  -- A call that was accepted has been seen.
  pub was_accepted : (lists : (e : EntryData) (h : H) → listed (kind.with_entry e h) ≡ listed h ++ e ∷ []) (e : EntryData) (r : Reply) (s t : Known EntryData) → Called kind listed opened e (Ok r) s t → WasAccepted kind listed opened e r t.seen
  was_accepted lists e r s t c = record {
    before = listed c.before.history;
    accepted_as = ap (λ h. kind.answer h e) (sym c.since.history) ∙ c.submits.accepted_as;
    begins = subst (IsPrefix (listed c.before.history ++ e ∷ [])) (sym (c.seen_is ∙ ap listed c.submits.history ∙ lists e c.before.history)) (prefix_refl _);
  }

  pub accepted_if : (lists : (e : EntryData) (h : H) → listed (kind.with_entry e h) ≡ listed h ++ e ∷ []) (e is : EntryData) (result : Result Reply SubmitError) (s t : Known EntryData) → e ≡ is → Called kind listed opened e result s t → IfOk result (λ r. WasAccepted kind listed opened is r t.seen)
  accepted_if lists e is result s t same c = subst (λ (x : EntryData). IfOk result (λ r. WasAccepted kind listed opened x r t.seen)) same (by result c) where
    by : (r : Result Reply SubmitError) → Called kind listed opened e r s t → IfOk r (λ x. WasAccepted kind listed opened e x t.seen)
    by (Ok reply) called = was_accepted lists e reply s t called
    by (Err error) called = tt

-- What a turn that ends has learnt.

none_else : (b : Bool) (u : ℤ) → (if b then want.End else want.Rest u) ≡ want.End → b ≡ true
none_else true u is = refl
none_else false u is = absurd (let bad = is in cc)

idle_ends : (until at : ℤ) (i : Idle) → wanted_idle until i at ≡ want.End → (i ≡ idle.Rest) × (int_le until at ≡ true)
idle_ends until at idle.Misfires is = absurd (let bad = is in cc)
idle_ends until at idle.Acquire is = absurd (let bad = is in cc)
idle_ends until at idle.Rest is = (refl, none_else (int_le until at) _ is)

held_ends : (entry : ℕ) (l : LastHeard) → wanted_of entry l ≡ want.End → ⊥
held_ends entry last.Acquired is = let bad = is in cc
held_ends entry last.Fired is = let bad = is in cc
held_ends entry last.Again is = let bad = is in cc
held_ends entry (last.Executed code) is = let bad = is in cc

with_ends : (t : TurnData) (at : ℤ) (o : Option Held) → wanted_with o t at ≡ want.End → (t.idle ≡ idle.Rest) × (int_le t.until at ≡ true)
with_ends t at None is = idle_ends t.until at t.idle is
with_ends t at (Some held) is = absurd (held_ends held.entry held.last is)

pub ends_why : (t : TurnData) (at : ℤ) → wanted t at ≡ want.End → (t.fenced ≡ true) ⊎ ((t.idle ≡ idle.Rest) × (int_le t.until at ≡ true))
ends_why t at is = by t.fenced refl is where
  by : (b : Bool) → t.fenced ≡ b → (if b then want.End else wanted_with t.held t at) ≡ want.End → (t.fenced ≡ true) ⊎ ((t.idle ≡ idle.Rest) × (int_le t.until at ≡ true))
  by true fenced same = inl fenced
  by false fenced same = inr (with_ends t at t.held same)

pub rests_free : (t : TurnData) (at until : ℤ) → wanted t at ≡ want.Rest until → t.fenced ≡ false
rests_free t at until is = by t.fenced refl is where
  by : (b : Bool) → t.fenced ≡ b → (if b then want.End else wanted_with t.held t at) ≡ want.Rest until → t.fenced ≡ false
  by true fenced same = absurd (let bad = same in cc)
  by false fenced same = fenced

by_now : (until at : ℤ) → int_le until at ≡ true → until ≤ℤ at
by_now until at h = grind (arith, ints)

-- What a thread knows as it steps.

not_resting : (i : Idle) → i ≡ idle.Misfires → i ≡ idle.Rest → ⊥
not_resting i is rests = let bad : idle.Misfires ≡ idle.Rest = sym is ∙ rests in cc

not_acquiring : (i : Idle) → i ≡ idle.Acquire → i ≡ idle.Rest → ⊥
not_acquiring i is rests = let bad : idle.Acquire ≡ idle.Rest = sym is ∙ rests in cc

-- a refusal that stops no thread isn't that of a node that is fenced
free_refusal : (x : Refusal) → declined_of (submit.Refused x) ≡ None → is_fenced x ≡ false
free_refusal (refusal.Fenced live) none = absurd (let bad = none in cc)
free_refusal other none = refl

free_or : (a b : Bool) → a ≡ false → b ≡ false → (a || b) ≡ false
free_or true b is other = is
free_or false b is other = other

module _ {H : Type 0} (kind : EntryKind H EntryData Reply) (listed : H → List EntryData) (opened : StoreState H EntryData) (shows : ℤ → Type 0) (until : ℤ) (me : MemberData) (number : ℕ) where
  abbrev KnowsIt : TurnData → List EntryData → Type 0
  KnowsIt = KnowsEnd kind listed opened shows until me number

  abbrev IsOne : EntryData → Type 0
  IsOne = IsScheduled shows until me number

  -- nothing was learnt
  pub knows_new : (up_to : ℤ) (t : TurnData) (seen : List EntryData) → t ≡ new_turn up_to → KnowsIt t seen
  knows_new up_to t seen is = record {
    rests = λ q. absurd (not_resting t.idle (ap (λ (u : TurnData). u.idle) is) q);
    free = ap (λ (u : TurnData). u.fenced) is;
  }

  -- what it does next is as before
  pub knows_on : (t u : TurnData) (seen more : List EntryData) → IsPrefix seen more → u.idle ≡ t.idle → u.fenced ≡ t.fenced → KnowsIt t seen → KnowsIt u more
  knows_on t u seen more p idles fences k = record {
    rests = λ q. found_on kind listed opened IsOne seen more p (k.rests (sym idles ∙ q));
    free = fences ∙ k.free;
  }

  -- it doesn't rest next
  knows_busy : (t u : TurnData) (seen more : List EntryData) → IsPrefix seen more → (u.idle ≡ idle.Rest → ⊥) → u.fenced ≡ t.fenced → KnowsIt t seen → KnowsIt u more
  knows_busy t u seen more p busy fences k = record {
    rests = λ q. absurd (busy q);
    free = fences ∙ k.free;
  }

  -- it has rested
  pub knows_rested : (t u : TurnData) (at rest : ℤ) (seen : List EntryData) → wanted t at ≡ want.Rest rest → u ≡ record t { idle = idle.Misfires } → KnowsIt u seen
  knows_rested t u at rest seen is same = record {
    rests = λ q. absurd (not_resting u.idle (ap (λ (x : TurnData). x.idle) same) q);
    free = ap (λ (x : TurnData). x.fenced) same ∙ rests_free t at rest is;
  }

  module _ (t : TurnData) (e : EntryData) (seen more : List EntryData) (p : IsPrefix seen more) (is_one : IsOne e) (k : KnowsIt t seen) where
    knows_moved : (moved : List MovedRow) → KnowsIt (learnt_moved t moved) more
    knows_moved [] = knows_busy t (learnt_moved t []) seen more p (λ q. not_acquiring idle.Acquire refl q) refl k
    knows_moved (m ∷ others) = knows_on t t seen more p refl refl k

    knows_taken : (taken : List Taken) → WasAccepted kind listed opened e (reply.Acquired taken) more → KnowsIt (learnt_taken t taken) more
    knows_taken [] accepted = record {
      rests = λ q. record { entry = e; is_one = is_one; accepted = accepted };
      free = k.free;
    }
    knows_taken (one ∷ others) accepted = knows_on t (learnt_taken t (one ∷ others)) seen more p refl refl k

    -- after a reply
    pub knows_reply : (r : Reply) → WasAccepted kind listed opened e r more → KnowsIt (learnt_reply t r) more
    knows_reply (reply.Misfired moved) accepted = knows_moved moved
    knows_reply (reply.Acquired taken) accepted = knows_taken taken accepted
    knows_reply (reply.Fired entry scheduled fired next trigger job) accepted = knows_on t (learnt_reply t (reply.Fired entry scheduled fired next trigger job)) seen more p refl refl k
    knows_reply (reply.Again entry) accepted = knows_on t (learnt_reply t (reply.Again entry)) seen more p refl refl k
    knows_reply (reply.Completed entry) accepted = knows_busy t (ended t) seen more p (λ q. not_resting idle.Misfires refl q) refl k
    knows_reply other accepted = knows_on t t seen more p refl refl k

    knows_refused_with : (x : Refusal) → declined_of (submit.Refused x) ≡ None → (o : Option Held) → KnowsIt (refused_with o (record t { fenced = is_fenced x || t.fenced })) more
    knows_refused_with x none o = by o where
      now : TurnData
      now = record t { fenced = is_fenced x || t.fenced }

      stays : KnowsIt now more
      stays = record {
        rests = λ q. found_on kind listed opened IsOne seen more p (k.rests q);
        free = free_or (is_fenced x) t.fenced (free_refusal x none) k.free;
      }

      ends : KnowsIt (ended now) more
      ends = record {
        rests = λ q. absurd (not_resting idle.Misfires refl q);
        free = free_or (is_fenced x) t.fenced (free_refusal x none) k.free;
      }

      chosen : (b : Bool) → KnowsIt (if b then ended now else now) more
      chosen true = ends
      chosen false = stays

      by : (o : Option Held) → KnowsIt (refused_with o now) more
      by None = stays
      by (Some held) = chosen (ends_at_refusal held.last)

    -- after an error at which it goes on
    pub knows_error : (error : SubmitError) → declined_of error ≡ None → KnowsIt (learnt_answer t (Err error)) more
    knows_error (submit.Refused x) none = knows_refused_with x none t.held
    knows_error other none = knows_on t t seen more p refl refl k

  -- A Complete was refused, and that is no limit and no fence.
  pub complete_refused : (e : EntryData) (entry : ℕ) (code : Code) (error : SubmitError) (known : Known EntryData) → e.command ≡ asks.Complete entry code → IsOne e → IsCause kind listed opened e known error → declined_of error ≡ None
      → CameToEnd kind listed opened shows until me number known.seen
  complete_refused e entry code (submit.Refused x) known is is_one cause none =
      inr (record { entry = e; is_one = is_one; refusal = x; before = known.seen; refused_as = cause; ends = subst (λ (c : Command). EndsThread c x) (sym is) none; begins = prefix_refl known.seen })
  complete_refused e entry code (submit.JournalFull need room) known is is_one cause none = absurd (let bad = none in cc)
  complete_refused e entry code submit.NoMemory known is is_one cause none = absurd (let bad = none in cc)
  complete_refused e entry code submit.Fault known is is_one cause none = absurd (let bad = none in cc)
  complete_refused e entry code (submit.Closed at) known is is_one cause none = absurd (let bad = none in cc)

  -- A turn wants to end.
  pub came_to_end : (t : TurnData) (at : ℤ) (seen : List EntryData) → KnowsIt t seen → shows at → t.until ≡ until → wanted t at ≡ want.End → CameToEnd kind listed opened shows until me number seen
  came_to_end t at seen k shown up_to is = by (ends_why t at is) where
    by : (t.fenced ≡ true) ⊎ ((t.idle ≡ idle.Rest) × (int_le t.until at ≡ true)) → CameToEnd kind listed opened shows until me number seen
    by (inl fenced) = absurd (let bad : false ≡ true = sym k.free ∙ fenced in cc)
    by (inr rests) = inl (record { reading = at; shown = shown; late = subst (λ (u : ℤ). u ≤ℤ at) up_to (by_now t.until at rests.1); rests = k.rests rests.0 })

-- what an answer leaves of what a thread knows, where its number stays
module _ {H : Type 0} (kind : EntryKind H EntryData Reply) (listed : H → List EntryData) (opened : StoreState H EntryData) (shows : ℤ → Type 0) (until : ℤ) (me : MemberData) (number now : ℕ) (t u : TurnData) (at same : ℤ) (command : Command) (seen more : List EntryData) where
  one_of : same ≡ at → IsWork until command → shows at → IsScheduled shows until me number (entry_by same me number command)
  one_of at_is work shown = record { by = refl; under = refl; asks = work; shown = subst shows (sym at_is) shown }

  pub knows_after : (r : Reply) → now ≡ number → same ≡ at → IsPrefix seen more → IsWork until command → shows at → KnowsEnd kind listed opened shows until me number t seen → WasAccepted kind listed opened (entry_by same me number command) r more → u ≡ learnt_reply t r
      → KnowsEnd kind listed opened shows until me now u more
  knows_after r number_is at_is p work shown k accepted is =
      subst (λ n. KnowsEnd kind listed opened shows until me n u more) (sym number_is) (subst (λ (x : TurnData). KnowsEnd kind listed opened shows until me number x more) (sym is)
      (knows_reply kind listed opened shows until me number t (entry_by same me number command) seen more p (one_of at_is work shown) k r accepted))

  pub knows_after_error : (error : SubmitError) → now ≡ number → same ≡ at → IsPrefix seen more → IsWork until command → shows at → KnowsEnd kind listed opened shows until me number t seen → declined_of error ≡ None
      → u ≡ learnt_answer t (Err error) → KnowsEnd kind listed opened shows until me now u more
  knows_after_error error number_is at_is p work shown k none is =
      subst (λ n. KnowsEnd kind listed opened shows until me n u more) (sym number_is) (subst (λ (x : TurnData). KnowsEnd kind listed opened shows until me number x more) (sym is)
      (knows_error kind listed opened shows until me number t (entry_by same me number command) seen more p (one_of at_is work shown) k error none))

  pub stops_after : (error : SubmitError) (known : Known EntryData) (w : Declined) → same ≡ at → IsWork until command → shows at → IsCause kind listed opened (entry_by same me number command) known error → declined_of error ≡ Some w
      → IsStopped kind listed opened (IsScheduled shows until me number) known w
  stops_after error known w at_is work shown cause reason = record { entry = entry_by same me number command; error = error; is_one = one_of at_is work shown; cause = cause; reason = reason }

  pub ends_after : (entry : ℕ) (code : Code) (error : SubmitError) (known : Known EntryData) → same ≡ at → command ≡ asks.Complete entry code → shows at → IsCause kind listed opened (entry_by same me number command) known error → declined_of error ≡ None
      → CameToEnd kind listed opened shows until me number known.seen
  ends_after entry code error known at_is is shown cause none =
      complete_refused kind listed opened shows until me number (entry_by same me number command) entry code error known is (one_of at_is (subst (IsWork until) (sym is) tt) shown) cause none

pub came_now : {H : Type 0} (kind : EntryKind H EntryData Reply) (listed : H → List EntryData) (opened : StoreState H EntryData) (shows : ℤ → Type 0) (until : ℤ) (me : MemberData) (number : ℕ) (t : TurnData) (at same : ℤ) (seen : List EntryData)
    → KnowsEnd kind listed opened shows until me number t seen → shows at → same ≡ at → t.until ≡ until → wanted t same ≡ want.End → CameToEnd kind listed opened shows until me number seen
came_now kind listed opened shows until me number t at same seen k shown at_is up_to is = came_to_end kind listed opened shows until me number t same seen k (subst shows (sym at_is) shown) up_to is

-- the same up to a moment that is the same
pub late_until : (shows H : ℤ → Type 0) (t u : ℤ) → t ≡ u → ((at : ℤ) × shows at × (t ≤ℤ at) × H at) → ((at : ℤ) × shows at × (u ≤ℤ at) × H at)
late_until shows H t u same x = (x.0, x.1, subst (λ (v : ℤ). v ≤ℤ x.0) same x.2, x.3)

-- the same under a number and up to a moment that are the same
pub came_under : {H : Type 0} (kind : EntryKind H EntryData Reply) (listed : H → List EntryData) (opened : StoreState H EntryData) (shows : ℤ → Type 0) (up_to until : ℤ) (me : MemberData) (now number : ℕ) (seen : List EntryData) → up_to ≡ until → now ≡ number
    → CameToEnd kind listed opened shows up_to me now seen → CameToEnd kind listed opened shows until me number seen
came_under kind listed opened shows up_to until me now number seen until_is same c =
    subst (λ n. CameToEnd kind listed opened shows until me n seen) same (subst (λ u. CameToEnd kind listed opened shows u me now seen) until_is c)

pub came_of : {H : Type 0} (kind : EntryKind H EntryData Reply) (listed : H → List EntryData) (opened same : StoreState H EntryData) (shows : ℤ → Type 0) (until : ℤ) (me : MemberData) (number : ℕ) (seen : List EntryData) → opened ≡ same
    → CameToEnd kind listed opened shows until me number seen → CameToEnd kind listed same shows until me number seen
came_of kind listed opened same shows until me number seen is c = subst (λ (s : StoreState _ EntryData). CameToEnd kind listed s shows until me number seen) is c

-- What ends no execution tells jobs nothing.

follows : (c : Option JobContext) (command : Command) (r : Reply) → IsPlain command → IsReplyTo command r → MayFollow c r
follows None command r plain fits = tt
follows (Some c) asks.Misfires (reply.Misfired moved) plain fits = tt
follows (Some c) asks.Misfires other plain fits = absurd fits
follows (Some c) (asks.Acquire no_later window max) (reply.Acquired taken) plain fits = tt
follows (Some c) (asks.Acquire no_later window max) other plain fits = absurd fits
follows (Some c) (asks.Fire entry) (reply.Fired of scheduled fired next trigger job) plain fits = tt
follows (Some c) (asks.Fire entry) other plain fits = absurd fits
follows (Some c) other r plain fits = absurd plain

pub may_follow : (command : Command) (c : Option JobContext) (r : Reply) → IsPlain command → IsReplyTo command r → MayFollow c r
may_follow command c r plain fits = follows c command r plain fits

runs_plain : (context : Option JobContext) (command : Command) (jobs : List JobMeaning) → IsPlain command → RunsBy context command jobs jobs
runs_plain context asks.Misfires jobs plain = refl
runs_plain context (asks.Acquire no_later window max) jobs plain = refl
runs_plain context (asks.Fire entry) jobs plain = refl
runs_plain context other jobs plain = absurd plain

pub ran_plain : (past now : List Deed) (e : EntryData) (r : Reply) → IsPlain e.command → now ≡ record { entry = e; reply = r } ∷ past → (before after : List JobMeaning) → Ran past before after → Ran now before after
ran_plain past now e r plain is before after ran = subst (λ (d : List Deed). Ran d before after) (sym is) (after, ran, runs_plain (context_in past) e.command after plain)

-- Of the causes of threads.

pub none_ok : (r : Result ⊤ Declined) (o : Option Declined) (Q : Type 0) → r ≡ stopped_by o → OnOk r Q → o ≡ None → Q
none_ok r None Q is on none = subst (λ (x : Result ⊤ Declined). OnOk x Q) is on
none_ok r (Some w) Q is on none = absurd (let bad = none in cc)

pub some_err : (r : Result ⊤ Declined) (o : Option Declined) (P : Declined → Type 0) → r ≡ stopped_by o → IfErr r P → IfSome o P
some_err r None P is on = tt
some_err r (Some w) P is on = subst (λ (x : Result ⊤ Declined). IfErr x P) is on

-- there is none only where neither thread has one
pub least_none : (a b : Option Declined) → least_cause a b ≡ None → (a ≡ None) × (b ≡ None)
least_none None b is = (refl, is)
least_none (Some a) None is = absurd (let bad = is in cc)
least_none (Some a) (Some b) is = absurd (by (nat_lt (rank b) (rank a)) is) where
  by : (x : Bool) → (if x then Some b else Some a) ≡ None → ⊥
  by true same = let bad = same in cc
  by false same = let bad = same in cc

-- it is that of one of them
pub least_one : (a b : Option Declined) (w : Declined) → least_cause a b ≡ Some w → (a ≡ Some w) ⊎ (b ≡ Some w)
least_one None b w is = inr is
least_one (Some a) None w is = inl is
least_one (Some a) (Some b) w is = by (nat_lt (rank b) (rank a)) is where
  by : (x : Bool) → (if x then Some b else Some a) ≡ Some w → (Some a ≡ Some w) ⊎ (Some b ≡ Some w)
  by true same = inr same
  by false same = inl same

no_fault : (x : Refusal) → declined_of (submit.Refused x) ≡ Some why.Fault → ⊥
no_fault (refusal.TooMany count) is = let bad = is in cc
no_fault refusal.RowsFull is = let bad = is in cc
no_fault other is = let bad = is in cc

module _ {H E R : Type 0} (kind : EntryKind H E R) (listed : H → List E) (opened : StoreState H E) where
  fault_cause : (e : E) (k : Known E) (error : SubmitError) → IsCause kind listed opened e k error → declined_of error ≡ Some why.Fault → k.shut ≡ true
  fault_cause e k (submit.Refused x) cause reason = absurd (no_fault x reason)
  fault_cause e k (submit.JournalFull need room) cause reason = absurd (let bad = reason in cc)
  fault_cause e k submit.NoMemory cause reason = absurd (let bad = reason in cc)
  fault_cause e k submit.Fault cause reason = cause
  fault_cause e k (submit.Closed at) cause reason = cause

  -- a thread that stopped at a fault saw the store closed
  pub fault_shut : (P : E → Type 0) (k : Known E) → IsStopped kind listed opened P k why.Fault → k.shut ≡ true
  fault_shut P k s = fault_cause s.entry k s.error s.cause s.reason

  pub fault_shows : (P : E → Type 0) (k : Known E) (o : Option Declined) → IfSome o (IsStopped kind listed opened P k) → o ≡ Some why.Fault → k.shut ≡ true
  fault_shows P k o stopped is = fault_shut P k (subst (λ (p : Option Declined). IfSome p (IsStopped kind listed opened P k)) is stopped)

nil_of : {A : Type 0} (xs : List A) → length xs < 1 → xs ≡ []
nil_of [] z = refl
nil_of (x ∷ xs) z = absurd (omega arith)

-- Of nodes whose threads have ended.
module _ {H : Type 0} (kind : EntryKind H EntryData Reply) (listed : H → List EntryData) (opened : StoreState H EntryData) (shows : ℤ → Type 0) (until : ℤ) (first : List StateEntryData) where
  -- A node's two threads have ended, and the seats of its trigger threads were joined.
  pub pair_ended : (up_to : ℤ) (me : MemberData) (number : ℕ) (one_seen seen : List EntryData) (rows : List StateEntryData) (a b cause : Option Declined) → cause ≡ least_cause a b → IsPrefix one_seen seen
      → (a ≡ None → CameToEnd kind listed opened shows up_to me number one_seen) → (b ≡ None → (at : ℤ) × shows at × (up_to ≤ℤ at) × HasCheckedIn first me.node at rows) → up_to ≡ until
      → cause ≡ None → AllByRecursion (NodeCameToEnd kind listed opened shows until first seen rows) (me ∷ [])
  pair_ended up_to me number one_seen seen rows a b cause is p scheduler rounds same none =
      let both = least_none a b (sym is ∙ none) in
      let round = rounds both.1 in (
        record {
          number = number;
          scheduler = came_on kind listed opened shows until me number one_seen seen p (subst (λ u. CameToEnd kind listed opened shows u me number one_seen) same (scheduler both.0));
          reading = round.0;
          shown = round.1;
          late = subst (λ (u : ℤ). u ≤ℤ round.0) same round.2;
          checked_in = round.3;
        },
        tt,
      )

  -- The seats of a node and of those after it were joined.
  pub joined_ended : (up_to : ℤ) (me : MemberData) (others members : List MemberData) (one two seen : List EntryData) (one_rows two_rows rows : List StateEntryData) (a b cause : Option Declined) → cause ≡ least_cause a b
      → IsPrefix one seen → IsPrefix two seen → IsPrefix one_rows rows → IsPrefix two_rows rows → me ∷ others ≡ members
      → (a ≡ None → AllByRecursion (NodeCameToEnd kind listed opened shows up_to first one one_rows) (me ∷ [])) → (b ≡ None → AllByRecursion (NodeCameToEnd kind listed opened shows up_to first two two_rows) others) → up_to ≡ until
      → cause ≡ None → AllByRecursion (NodeCameToEnd kind listed opened shows until first seen rows) members
  joined_ended up_to me others members one two seen one_rows two_rows rows a b cause is p q p' q' whole own rest same none =
      let both = least_none a b (sym is ∙ none) in
      let P : MemberData → Type 0 = NodeCameToEnd kind listed opened shows up_to first seen rows in
      let mine = nodes_on kind listed opened shows up_to first one seen one_rows rows (me ∷ []) p p' (own both.0) in
      let theirs = nodes_on kind listed opened shows up_to first two seen two_rows rows others q q' (rest both.1) in
      subst (λ u. AllByRecursion (NodeCameToEnd kind listed opened shows u first seen rows) members) same (subst (AllByRecursion P) whole (mine.0, theirs))

  -- where there are no members
  pub none_ended : (members : List MemberData) (seen : List EntryData) (rows : List StateEntryData) → length members < 1 → AllByRecursion (NodeCameToEnd kind listed opened shows until first seen rows) members
  none_ended members seen rows few = subst (AllByRecursion (NodeCameToEnd kind listed opened shows until first seen rows)) (sym (nil_of members few)) tt

  -- the same of stores that are the same
  pub ended_as : (opened' : StoreState H EntryData) (until' : ℤ) (first' : List StateEntryData) (seen : List EntryData) (rows : List StateEntryData) (members : List MemberData) → opened ≡ opened' → until ≡ until' → first ≡ first'
      → AllByRecursion (NodeCameToEnd kind listed opened shows until first seen rows) members → AllByRecursion (NodeCameToEnd kind listed opened' shows until' first' seen rows) members
  ended_as opened' until' first' seen rows members a b c all =
      subst (λ (s : StoreState H EntryData). AllByRecursion (NodeCameToEnd kind listed s shows until' first' seen rows) members) a
      (subst (λ u. AllByRecursion (NodeCameToEnd kind listed opened shows u first' seen rows) members) b
      (subst (λ (f : List StateEntryData). AllByRecursion (NodeCameToEnd kind listed opened shows until f seen rows) members) c all))

-- Of faults: the seats into which others were joined show one.
pub pair_fault : {H I : Type 0} (kind : EntryKind H EntryData Reply) (listed : H → List EntryData) (opened : StoreState H EntryData) (row_kind : EntryKind I StateEntryData ⊤) (row_listed : I → List StateEntryData) (row_opened : StoreState I StateEntryData)
    (P Q : EntryData → Type 0) (R : StateEntryData → Type 0) (k l : Known EntryData) (r : Known StateEntryData) (shut : Bool) (a b cause : Option Declined) → cause ≡ least_cause a b
    → IfSome a (IsStopped kind listed opened P k) → IfSome b (λ w. IsStopped kind listed opened Q l w ⊎ IsStopped row_kind row_listed row_opened R r w) → (k.shut ≡ true → shut ≡ true) → (l.shut ≡ true → shut ≡ true)
    → cause ≡ Some why.Fault → (shut ≡ true) ⊎ (r.shut ≡ true)
pair_fault kind listed opened row_kind row_listed row_opened P Q R k l r shut a b cause is x y own other fault = by (least_one a b why.Fault (sym is ∙ fault)) where
  rounds : IsStopped kind listed opened Q l why.Fault ⊎ IsStopped row_kind row_listed row_opened R r why.Fault → (shut ≡ true) ⊎ (r.shut ≡ true)
  rounds (inl s) = inl (other (fault_shut kind listed opened Q l s))
  rounds (inr s) = inr (fault_shut row_kind row_listed row_opened R r s)

  by : (a ≡ Some why.Fault) ⊎ (b ≡ Some why.Fault) → (shut ≡ true) ⊎ (r.shut ≡ true)
  by (inl one) = inl (own (fault_shows kind listed opened P k a x one))
  by (inr two) = rounds (subst (λ (o : Option Declined). IfSome o (λ w. IsStopped kind listed opened Q l w ⊎ IsStopped row_kind row_listed row_opened R r w)) two y)

pub joined_fault : (one two whole one_rows two_rows rows : Bool) (a b cause : Option Declined) → cause ≡ least_cause a b → (a ≡ Some why.Fault → (one ≡ true) ⊎ (one_rows ≡ true)) → (b ≡ Some why.Fault → (two ≡ true) ⊎ (two_rows ≡ true))
    → (one ≡ true → whole ≡ true) → (two ≡ true → whole ≡ true) → (one_rows ≡ true → rows ≡ true) → (two_rows ≡ true → rows ≡ true) → cause ≡ Some why.Fault → (whole ≡ true) ⊎ (rows ≡ true)
joined_fault one two whole one_rows two_rows rows a b cause is x y p q p' q' fault = by (least_one a b why.Fault (sym is ∙ fault)) where
  own : (one ≡ true) ⊎ (one_rows ≡ true) → (whole ≡ true) ⊎ (rows ≡ true)
  own (inl s) = inl (p s)
  own (inr s) = inr (p' s)

  other : (two ≡ true) ⊎ (two_rows ≡ true) → (whole ≡ true) ⊎ (rows ≡ true)
  other (inl s) = inl (q s)
  other (inr s) = inr (q' s)

  by : (a ≡ Some why.Fault) ⊎ (b ≡ Some why.Fault) → (whole ≡ true) ⊎ (rows ≡ true)
  by (inl f) = own (x f)
  by (inr f) = other (y f)

pub either_closed : (one two : Bool) (P Q : Type 0) → ((one ≡ true) → P) → ((two ≡ true) → Q) → (one ≡ true) ⊎ (two ≡ true) → P ⊎ Q
either_closed one two P Q f g (inl s) = inl (f s)
either_closed one two P Q f g (inr s) = inr (g s)
