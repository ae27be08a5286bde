-- What an accepted entry of a run's node leaves, as the run sees it.
use Rattle.std.proofs.Common.{◌≡◌, ◌≢◌, ◌⊎◌, inl, inr, ◌^◌, ◌<◌, ℤ, pos, ◌≤ℤ◌, ℕ, List, [], ◌∷◌, map, true, false, Option, Some, None, IsSomeAnd, is_some, option_map, unwrap_or, refl, sym, ap, ◌∙◌, subst, arith}
use Rattle.std.specs.List.{list_any}
use Rattle.std.proofs.lemmas.Int.{ints}
use Rattle.qz_types.specs.Rows.{MemberData}
use Rattle.qz_types.specs.Tables.{SchedulerTables, IsMoment, recorded_moment}
use Rattle.qz_types.specs.Outcomes.{Outcome, accepted, refused}
use Rattle.qz_types.specs.Words.{same_text, member_of, without_member}
use Rattle.qz_types.specs.declared.commands.Code.{Code}
use Rattle.qz_types.specs.declared.replies.Refusal.{Refusal}
use Rattle.qz_types.specs.declared.replies.MovedRow.{MovedRow}
use Rattle.qz_types.specs.declared.replies.Reply.{Reply}
use Rattle.qz_types.specs.declared.replies.Reply.TheVariants as reply
use Rattle.qz_model.specs.Acquiring.{acquire}
use Rattle.qz_model.specs.Completing.{complete}
use Rattle.qz_model.specs.Due.{is_misfired}
use Rattle.qz_model.specs.Firing.{fire}
use Rattle.qz_model.specs.Invariant.{TablesValid}
use Rattle.qz_model.specs.Membership.{live_epoch}
use Rattle.qz_model.specs.Misfires.{misfired_triggers, moved_row, misfires}
use Rattle.qz_model.specs.Recovery.{freed_by, rows_of_others, join, leave}
use Rattle.qz_model.specs.Transaction.{by_command, transaction}
use Rattle.qz_model.proofs.RowLaws.{member_of-without_member, member_of-without_own}
use Rattle.qz_run.specs.declared.commands.NodeCommand.{NodeCommand}
use Rattle.qz_run.specs.declared.commands.NodeCommand.TheVariants as asks
use Rattle.qz_run.specs.Stores.{KeepsAll, Effect, CanAsk}
use Rattle.qz_seen.specs.Asking.{epoch_of, actor_of, command_of, entry_of}
use Rattle.qz_seen.specs.Effects.{LeavesOthers, Does, IsTooMany}
use Rattle.qz_seen.specs.Seen.{node_name, rows_of, some_due, some_misfired, is_due_by, seen}
use Rattle.qz_seen.proofs.Acquiring.{TookNone, Took, acquires}
use Rattle.qz_seen.proofs.Clear.{IsLive, refused_join, refused_acquire, no_refused_leave, no_refused_misfires, no_refused_fire, no_refused_complete}
use Rattle.qz_seen.proofs.Completing.{GoesOn, Ended, completes}
use Rattle.qz_seen.proofs.Firing.{Began, fires}
use Rattle.qz_seen.proofs.Joining.{HasJoined, has_joined}
use Rattle.qz_seen.proofs.Leaving.{Left, left, left-free, left-triggers}
use Rattle.qz_seen.proofs.Misfiring.{misfires-keeps, misfires-none, misfires-reply}
use Rattle.qz_seen.proofs.Names.{other_name}
use Rattle.qz_seen.proofs.Still.{IsStill, KeepsHands}

-- the actor of node n's entry
abbrev pub me_of : SchedulerTables → ℕ → MemberData
me_of T n = record { node = node_name n; epoch = epoch_of T (node_name n) }

-- a node that is a member asks under its epoch
live_with : (o : Option MemberData) → is_some o ≡ true → IsSomeAnd o (λ m. m.epoch ≡ unwrap_or (option_map (λ member. member.epoch) o) 0)
live_with None is = absurd (cc)
live_with (Some m) is = refl

pub is_live : (T : SchedulerTables) (n : ℕ) → (seen T).member n ≡ true → IsLive T (me_of T n)
unfolding epoch_of live_epoch
is_live T n is = live_with (member_of (node_name n) T.members) is

-- the same triggers are due
due-same : (T T' : SchedulerTables) → T'.triggers ≡ T.triggers → some_due T' ≡ some_due T
unfolding some_due
due-same T T' same = λ i. λ t. ap (λ ts. list_any (is_due_by t) ts) same i

still-others : (T T' : SchedulerTables) (n : ℕ) (m : ℤ) → IsStill T T' m → LeavesOthers n m (seen T) (seen T')
still-others T T' n m still = subst (λ X. LeavesOthers n m (seen T) (seen X)) (sym still) (record { last = refl; others_free = λ k differ none. none; others_members = λ k differ. refl })

still-all : (T T' : SchedulerTables) (n : ℕ) (m : ℤ) → IsStill T T' m → KeepsAll n (seen T) (seen T')
unfolding some_due some_misfired is_misfired
still-all T T' n m still = subst (λ X. KeepsAll n (seen T) (seen X)) (sym still) (record { rows = refl; member = refl; due = refl; misfired = refl })

-- where the members are as they were, and no row comes from nothing
kept-others : (T T' : SchedulerTables) (n : ℕ) (m : ℤ) → T'.last_moment ≡ m → T'.members ≡ T.members → ((k : ℕ) → k ≢ n → rows_of (node_name k) T.fired ≡ [] → rows_of (node_name k) T'.fired ≡ [])
    → LeavesOthers n m (seen T) (seen T')
kept-others T T' n m last members free = record { last = last; others_free = free; others_members = λ k differ. ap (λ ms. is_some (member_of (node_name k) ms)) members }

module _ (T T' : SchedulerTables) (n : ℕ) (m : ℤ) (r : Reply) (small : n < 2 ^ 32) (valid : TablesValid T) where
  does-join : join T m (node_name n) ≡ accepted T' r → Does n m asks.Join r (seen T) (seen T')
  does-join e =
      let has : HasJoined (node_name n) T T' m r = has_joined T T' m (node_name n) r valid e in
      record {
        effect = subst (λ x. Effect n m asks.Join x (seen T) (seen T')) (sym has.answer.reply) (record { free = has.free; member = has.member });
        others = record {
          last = has.last;
          others_free = λ k differ none. has.others_free (node_name k) (other_name n k small differ) none;
          others_members = λ k differ. ap is_some (has.others_members (node_name k) (other_name n k small differ));
        };
      }

  module _ (me : MemberData) (named : me.node ≡ node_name n) where
    abbrev left_tables : SchedulerTables
    left_tables = record T { triggers = freed_by me T.fired T.triggers; fired = rows_of_others me T.fired; members = without_member me.node T.members; last_moment = m }

    does-leave : rows_of me.node T.fired ≡ [] → leave T m me ≡ accepted T' r → Does n m asks.Leave r (seen T) (seen T')
    does-leave free e =
        let has : Left T T' m me r = left T T' m me r e in
        subst (λ x. Does n m asks.Leave x (seen T) (seen T')) (sym has.reply)
        (subst (λ X. Does n m asks.Leave reply.Done (seen T) (seen X)) (sym has.tables)
        (record {
          effect = record {
            free = left-free (node_name n) me T.fired (subst (λ name. rows_of name T.fired ≡ []) named free);
            member = ap is_some (subst (λ name. member_of name (without_member me.node T.members) ≡ None) named (member_of-without_own me.node T.members));
            due = due-same T left_tables (left-triggers me T.fired T.triggers free);
          };
          others = record {
            last = refl;
            others_free = λ k differ none. left-free (node_name k) me T.fired none;
            others_members = λ k differ. ap is_some (member_of-without_member me.node (node_name k) T.members (subst (λ name. same_text name (node_name k) ≡ false) (sym named) (other_name n k small differ)));
          };
        }))

    moved-effect : (rows : List MovedRow) → misfires T m me ≡ accepted T' (reply.Misfired rows) → Effect n m asks.Misfires (reply.Misfired rows) (seen T) (seen T')
    moved-effect [] e = let none = misfires-none T T' m me e in record { same = still-all T T' n m none.0; none = none.1 }
    moved-effect (row ∷ rows) e =
        let keeps : KeepsHands T T' m = misfires-keeps T T' m me (reply.Misfired (row ∷ rows)) e in
        record { rows = ap (rows_of (node_name n)) keeps.fired; member = ap (λ ms. is_some (member_of (node_name n) ms)) keeps.members }

    does-misfires : misfires T m me ≡ accepted T' r → Does n m asks.Misfires r (seen T) (seen T')
    does-misfires e =
        let keeps : KeepsHands T T' m = misfires-keeps T T' m me r e in
        let rows : List MovedRow = map (moved_row T m) (misfired_triggers T m) in
        let is : r ≡ reply.Misfired rows = misfires-reply T T' m me r e in
        record {
          effect = subst (λ x. Effect n m asks.Misfires x (seen T) (seen T')) (sym is) (moved-effect rows (subst (λ x. misfires T m me ≡ accepted T' x) is e));
          others = kept-others T T' n m keeps.last keeps.members (λ k differ none. ap (rows_of (node_name k)) keeps.fired ∙ none);
        }

    by_taken : (no_later : ℤ) → rows_of (node_name n) T.fired ≡ [] → some_misfired T m ≡ false → TookNone T T' m no_later r ⊎ Took me T T' m no_later r
        → Does n m (asks.Acquire no_later) r (seen T) (seen T')
    by_taken no_later free settled (inl none) = record {
      effect = subst (λ x. Effect n m (asks.Acquire no_later) x (seen T) (seen T')) (sym none.reply) (record { same = still-all T T' n m none.still; none = none.none settled });
      others = still-others T T' n m none.still;
    }
    by_taken no_later free settled (inr took) = record {
      effect = subst (λ x. Effect n m (asks.Acquire no_later) x (seen T) (seen T')) (sym took.reply) (record {
        due = took.due;
        row = subst (λ name. rows_of name T'.fired ≡ record { entry = took.taken.entry; executing = false; scheduled = took.taken.next } ∷ []) named
            (took.row (subst (λ name. rows_of name T.fired ≡ []) (sym named) free));
        member = ap (λ ms. is_some (member_of (node_name n) ms)) took.members;
      });
      others = kept-others T T' n m took.last took.members (λ k differ none. took.others_free (node_name k) (subst (λ name. same_text name (node_name k) ≡ false) (sym named) (other_name n k small differ)) none);
    }

    does-acquire : (no_later : ℤ) → rows_of (node_name n) T.fired ≡ [] → some_misfired T m ≡ false → acquire T m me no_later (pos 0) 1 ≡ accepted T' r → Does n m (asks.Acquire no_later) r (seen T) (seen T')
    does-acquire no_later free settled e = by_taken no_later free settled (acquires T T' m no_later me r e)

    does-fire : (entry : ℕ) (next : ℤ) → rows_of (node_name n) T.fired ≡ record { entry = entry; executing = false; scheduled = next } ∷ [] → fire T m me entry ≡ accepted T' r
        → Does n m (asks.Fire entry) r (seen T) (seen T')
    does-fire entry next one e =
        let has : Began me entry T T' m r = fires T T' m me entry r e in
        record {
          effect = subst (λ x. Effect n m (asks.Fire entry) x (seen T) (seen T')) (sym has.reply) (record {
            entry_is = refl;
            moment = refl;
            row = subst (λ name. rows_of name T'.fired ≡ record { entry = entry; executing = true; scheduled = has.scheduled } ∷ []) named
                (has.row next (subst (λ name. rows_of name T.fired ≡ record { entry = entry; executing = false; scheduled = next } ∷ []) (sym named) one));
            member = ap (λ ms. is_some (member_of (node_name n) ms)) has.members;
          });
          others = kept-others T T' n m has.last has.members (λ k differ none. has.others_free (node_name k) none);
        }

    by_end : (entry : ℕ) (code : Code) (next : ℤ) → rows_of (node_name n) T.fired ≡ record { entry = entry; executing = true; scheduled = next } ∷ [] → GoesOn entry code T T' m r ⊎ Ended me entry code T T' m r
        → Does n m (asks.Complete entry code) r (seen T) (seen T')
    by_end entry code next one (inl on) = record {
      effect = subst (λ x. Effect n m (asks.Complete entry code) x (seen T) (seen T')) (sym on.reply) (record {
        entry_is = refl;
        asked = on.asked;
        same = let all : KeepsAll n (seen T) (seen T') = still-all T T' n m on.still in record { rows = all.rows; member = all.member };
      });
      others = still-others T T' n m on.still;
    }
    by_end entry code next one (inr has) = record {
      effect = subst (λ x. Effect n m (asks.Complete entry code) x (seen T) (seen T')) (sym has.reply) (record {
        entry_is = refl;
        final = has.final;
        free = subst (λ name. rows_of name T'.fired ≡ []) named (has.free next (subst (λ name. rows_of name T.fired ≡ record { entry = entry; executing = true; scheduled = next } ∷ []) (sym named) one));
        member = ap (λ ms. is_some (member_of (node_name n) ms)) has.members;
      });
      others = kept-others T T' n m has.last has.members (λ k differ none. has.others_free (node_name k) none);
    }

    does-complete : (entry : ℕ) (code : Code) (next : ℤ) → rows_of (node_name n) T.fired ≡ record { entry = entry; executing = true; scheduled = next } ∷ [] → complete T m me entry code ≡ accepted T' r
        → Does n m (asks.Complete entry code) r (seen T) (seen T')
    does-complete entry code next one e = by_end entry code next one (completes T T' m me entry r code e)

-- the moment of an entry that doesn't lie before the last one, nor after the horizon
pub moment_is : (T : SchedulerTables) (at : ℤ) → IsMoment T.horizon at → T.last_moment ≤ℤ at → recorded_moment T at ≡ at
moment_is T at time later =
    let low = time.low in
    let high = time.high in
    grind (arith, ints)

-- what node n asks, at the recorded moment m
abbrev asked_at : SchedulerTables → ℤ → ℕ → NodeCommand → Outcome
asked_at T m n command = by_command T m (actor_of T (node_name n) command) (command_of (node_name n) command)

does_at : (T T' : SchedulerTables) (n : ℕ) (m : ℤ) (command : NodeCommand) (r : Reply) → n < 2 ^ 32 → TablesValid T → CanAsk n m command (seen T) → asked_at T m n command ≡ accepted T' r
    → Does n m command r (seen T) (seen T')
does_at T T' n m asks.Join r small valid can e = does-join T T' n m r small valid e
does_at T T' n m asks.Leave r small valid can e = does-leave T T' n m r small valid (me_of T n) refl can.free e
does_at T T' n m asks.Misfires r small valid can e = does-misfires T T' n m r small valid (me_of T n) refl e
does_at T T' n m (asks.Acquire no_later) r small valid can e = does-acquire T T' n m r small valid (me_of T n) refl no_later can.free can.settled e
does_at T T' n m (asks.Fire entry) r small valid can e = does-fire T T' n m r small valid (me_of T n) refl entry can.next can.row e
does_at T T' n m (asks.Complete entry code) r small valid can e = does-complete T T' n m r small valid (me_of T n) refl entry code can.next can.row e

-- An accepted entry does to the node's part of the tables what its reply says, and leaves the others.
pub does : (T T' : SchedulerTables) (n : ℕ) (at : ℤ) (command : NodeCommand) (r : Reply) → n < 2 ^ 32 → TablesValid T → IsMoment T.horizon at → T.last_moment ≤ℤ at → CanAsk n at command (seen T)
    → transaction T (entry_of T at n command) ≡ accepted T' r → Does n at command r (seen T) (seen T')
does T T' n at command r small valid time later can e =
    does_at T T' n at command r small valid can (subst (λ (m : ℤ). asked_at T m n command ≡ accepted T' r) (moment_is T at time later) e)

-- Of what a node may ask, only a Join or an Acquire is refused, and only where a limit is in the way.
refused_at : (T : SchedulerTables) (n : ℕ) (m : ℤ) (command : NodeCommand) (x : Refusal) → TablesValid T → CanAsk n m command (seen T) → asked_at T m n command ≡ refused x → IsTooMany x
refused_at T n m asks.Join x valid can e = refused_join T m (node_name n) x e
refused_at T n m asks.Leave x valid can e = absurd (no_refused_leave T m (me_of T n) x (is_live T n can.member) can.free e)
refused_at T n m asks.Misfires x valid can e = absurd (no_refused_misfires T m (me_of T n) x (is_live T n can) e)
refused_at T n m (asks.Acquire no_later) x valid can e = refused_acquire T m (me_of T n) no_later (pos 0) 1 x (is_live T n can.member) e
refused_at T n m (asks.Fire entry) x valid can e = absurd (no_refused_fire T m can.next (me_of T n) entry x valid (is_live T n can.member) can.row can.due e)
refused_at T n m (asks.Complete entry code) x valid can e = absurd (no_refused_complete T m can.next (me_of T n) entry code x valid (is_live T n can.member) can.row e)

pub refuses : (T : SchedulerTables) (n : ℕ) (at : ℤ) (command : NodeCommand) (x : Refusal) → TablesValid T → IsMoment T.horizon at → T.last_moment ≤ℤ at → CanAsk n at command (seen T)
    → transaction T (entry_of T at n command) ≡ refused x → IsTooMany x
refuses T n at command x valid time later can e =
    refused_at T n at command x valid can (subst (λ (m : ℤ). asked_at T m n command ≡ refused x) (moment_is T at time later) e)
