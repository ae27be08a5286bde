-- The nodes check in and join.
use Rattle.std.proofs.Common.{◌≡◌, ◌≢◌, ◌⊎◌, inl, inr, ℕ, ◌+◌, ◌<◌, ◌≤◌, ◌==◌, ℤ, ◌≤ℤ◌, List, [], Bool, true, false, ◌&&◌, ◌||◌, refl, sym, ◌∙◌, subst, arith}
use Rattle.std.specs.Int.{int_max}
use Rattle.std.proofs.lemmas.Bool.{ne_eqb}
use Rattle.std.proofs.lemmas.Int.{ints, int_max_is}
use Rattle.qz_types.specs.declared.replies.Reply.{Reply}
use Rattle.qz_types.specs.declared.replies.Reply.TheVariants as reply
use Rattle.qz_run.specs.declared.commands.NodeCommand.TheVariants as asks
use Rattle.qz_run.specs.declared.commands.Plan.{Plan}
use Rattle.qz_run.specs.Stores.{IsTime, View, Event, RowEvent, RowState, RunState, Accepts, ChecksIn}
use Rattle.qz_run.specs.Laws.{IsOurs, joined, Ran}
use Rattle.qz_run.specs.StateLaws.{LawfulRows, checked_in, forgotten}
use Rattle.qz_run.specs.Working.{IsFresh, CallsNone}
use Rattle.qz_run.specs.Moments.{Working}
use Rattle.qz_run.specs.RunRules.{KnownTo, Joining}
use Rattle.qz_run.proofs.Moves.{ready_on, reading_on, fresh_telling, decide}

-- what holds of n and of all below it holds of all below n + 1
pub here_or : (k n : ℕ) (has : ℕ → Type 0) → ((k ≡ n) ⊎ (k ≢ n)) → has n → ((k ≢ n) → has k) → has k
here_or k n has (inl is) here other = subst has (sym is) here
here_or k n has (inr ne) here other = other ne

pub up_to_next : (n : ℕ) (has : ℕ → Type 0) → has n → ((k : ℕ) → k ≢ n → k < n → has k) → (k : ℕ) → k < n + 1 → has k
up_to_next n has here below k lt = here_or k n has (decide k n) here (λ ne. below k ne (omega (arith, lt, ne)))

pub apart_from : (k n : ℕ) → n + 1 ≤ k → k ≢ n
apart_from k n le is = absurd (omega (arith, le, is))

-- an entry of node n says nothing of the others
pub not_here : (k n : ℕ) (b rest : Bool) → k ≢ n → rest ≡ false → (((k == n) && b) || rest) ≡ false
not_here k n b rest ne is = rw (ne_eqb k n ne, is) refl

-- an entry of another kind says nothing
pub not_so : (b rest : Bool) → rest ≡ false → ((b && false) || rest) ≡ false
not_so true rest is = is
not_so false rest is = is

checks_in_rows : (n : ℕ) (at : ℤ) (s t : RunState) → ChecksIn at n s t → KnownTo n s.states → KnownTo (n + 1) t.states
checks_in_rows n at s t a known = record {
  has = up_to_next n (λ k. t.states.has k ≡ true) a.has (λ k ne lt. a.others k ne ∙ known.has k lt);
  none_checked_in = λ k le. rw a.states_log (not_here k n true (checked_in k s.states.log) (apart_from k n le) (known.none_checked_in k (omega (arith, le))));
  none_forgotten = λ k. rw a.states_log (not_so (k == n) (forgotten k s.states.log) (known.none_forgotten k));
}

-- A node checked in.
checked : (p : Plan) (n : ℕ) (at : ℤ) (s t : RunState) → Joining p at n n s → IsOurs p n → ChecksIn at n s t → Joining p at n (n + 1) (record { view = s.view; log = s.log; states = t.states })
checked p n at s t j ours a = record {
  ready = record {
    lawful = record {
      entries = j.ready.lawful.entries;
      states = subst (λ (rows : List RowEvent). LawfulRows p rows s.view s.log) (sym a.states_log)
          (record { ours = ours; allowed = (refl, j.known.none_checked_in n (omega arith)); reading = j.reading }, j.ready.lawful.states);
    };
    moment = j.ready.moment;
    clock = j.ready.clock;
    time = j.ready.time;
    up_to_now = j.ready.up_to_now;
  };
  free = j.free;
  members = j.members;
  may_ask = λ k. record { misfires = (j.may_ask k).misfires; acquire = (j.may_ask k).acquire };
  not_joined = j.not_joined;
  none_fired = j.none_fired;
  longer = j.longer;
  known = checks_in_rows n at s t a j.known;
  reading = j.reading;
}

pub checks : (p : Plan) (n : ℕ) (at : ℤ) (s t : RunState) → Joining p at n n s → IsOurs p n → ChecksIn at n s t → Joining p at n (n + 1) t
checks p n at s t j ours a = subst (λ (x : RunState). Joining p at n (n + 1) x) (sym a.rest) (checked p n at s t j ours a)

pub checks_call_none : (n : ℕ) (at : ℤ) (s t : RunState) → ChecksIn at n s t → CallsNone s t
checks_call_none n at s t a before after ran = subst (λ (x : RunState). Ran x.log before after) (sym a.rest) ran

-- A node joined.
joins : (p : Plan) (n : ℕ) (at : ℤ) (e x y : ℕ) (s t : RunState) → Joining p at n (n + 1) s → IsOurs p n → Accepts at n asks.Join (reply.Joined e x y) s t → Joining p at (n + 1) (n + 1) t
joins p n at e x y s t j ours a = record {
  ready = ready_on p n at asks.Join (reply.Joined e x y) s t j.ready a (record { ours = ours; allowed = j.not_joined n (omega arith); no_repeat = tt; refires = tt });
  free = up_to_next n (λ k. t.view.rows k ≡ []) a.effect.free (λ k ne lt. a.others_free k ne (j.free k lt));
  members = up_to_next n (λ k. t.view.member k ≡ true) a.effect.member (λ k ne lt. a.others_members k ne ∙ j.members k lt);
  may_ask = λ k. fresh_telling k n at asks.Join (reply.Joined e x y) s t refl a;
  not_joined = λ k le. rw a.log (not_here k n true (joined k s.log) (apart_from k n le) (j.not_joined k (omega (arith, le))));
  none_fired = rw a.log j.none_fired;
  longer = rw a.log (omega (arith, j.longer));
  known = subst (λ (r : RowState). KnownTo (n + 1) r) (sym a.states) j.known;
  reading = reading_on p at n at asks.Join (reply.Joined e x y) s t a j.reading;
}

pub joins_by : (p : Plan) (n : ℕ) (at : ℤ) (r : Reply) (s t : RunState) → Joining p at n (n + 1) s → IsOurs p n → Accepts at n asks.Join r s t → Joining p at (n + 1) (n + 1) t
joins_by p n at (reply.Joined e x y) s t j ours a = joins p n at e x y s t j ours a
joins_by p n at reply.Done s t j ours a = absurd a.effect
joins_by p n at (reply.Added next) s t j ours a = absurd a.effect
joins_by p n at (reply.Deleted triggers) s t j ours a = absurd a.effect
joins_by p n at (reply.Triggered trigger next) s t j ours a = absurd a.effect
joins_by p n at (reply.Acquired taken) s t j ours a = absurd a.effect
joins_by p n at (reply.Fired e scheduled fired next trigger job) s t j ours a = absurd a.effect
joins_by p n at (reply.Completed e) s t j ours a = absurd a.effect
joins_by p n at (reply.Again e) s t j ours a = absurd a.effect
joins_by p n at (reply.Misfired moved) s t j ours a = absurd a.effect
joins_by p n at (reply.Recovered executions triggers) s t j ours a = absurd a.effect

pub joins_call_none : (n : ℕ) (at : ℤ) (r : Reply) (s t : RunState) → Accepts at n asks.Join r s t → CallsNone s t
joins_call_none n at r s t a before after ran = subst (λ l. Ran l before after) (sym a.log) ran

-- Nobody has joined yet.
max_high : (last from : ℤ) → last ≤ℤ int_max last from
max_high last from = omega (arith, ints, int_max_is last from)

none_yet : (p : Plan) (at : ℤ) (v : View) (has : ℕ → Bool) → IsTime at → at ≡ int_max v.last p.from → Joining p at 0 0 (record { view = v; log = []; states = record { has = has; log = [] } })
none_yet p at v has time is = record {
  ready = record {
    lawful = record { entries = tt; states = tt };
    moment = is;
    clock = subst (λ (m : ℤ). v.last ≤ℤ m) (sym is) (max_high v.last p.from);
    time = time;
    up_to_now = tt;
  };
  free = λ n lt. absurd (omega (arith, lt));
  members = λ n lt. absurd (omega (arith, lt));
  may_ask = λ n. record { misfires = refl; acquire = refl };
  not_joined = λ n le. refl;
  none_fired = refl;
  longer = omega arith;
  known = record { has = λ n lt. absurd (omega (arith, lt)); none_checked_in = λ n le. refl; none_forgotten = λ n. refl };
  reading = record { last = v.last; was = inl refl; reading = is };
}

pub begins : (p : Plan) (at : ℤ) (s : RunState) → IsFresh s → IsTime at → at ≡ int_max s.view.last p.from → Joining p at 0 0 s
begins p at s fresh time is =
    subst (λ (l : List Event). Joining p at 0 0 (record { view = s.view; log = l; states = s.states })) (sym fresh.log)
    (subst (λ (l : List RowEvent). Joining p at 0 0 (record { view = s.view; log = []; states = record { has = s.states.has; log = l } })) (sym fresh.states)
    (none_yet p at s.view s.states.has time is))

-- All have joined.
pub at_work : (p : Plan) (at : ℤ) (s : RunState) → Joining p at p.nodes p.nodes s → Working p at s
at_work p at s j = record {
  ready = j.ready;
  free = λ n ours. j.free n ours.below;
  members = λ n ours. j.members n ours.below;
  known = record { has = λ n ours. j.known.has n ours.below; none_forgotten = j.known.none_forgotten };
}
