-- One entry more, in a run that is at work.
use Rattle.std.proofs.Common.{◌≡◌, ◌≢◌, ◌⊎◌, inl, inr, ℕ, ℤ, List, [], ◌∷◌, Bool, true, false, refl, sym, subst, arith}
use Rattle.std.specs.Prelude.{Option, Some, None, IfSome}
use Rattle.std.proofs.lemmas.Bool.{ne_eqb}
use Rattle.std.proofs.lemmas.Bool.Decides.{eqb_tells}
use Rattle.std.proofs.lemmas.Int.{ints}
use Rattle.qz_types.specs.declared.replies.Reply.{Reply}
use Rattle.qz_run.specs.declared.commands.NodeCommand.{NodeCommand}
use Rattle.qz_run.specs.declared.commands.Plan.{Plan}
use Rattle.qz_run.specs.Stores.{View, Event, RowEvent, RunState, Accepts}
use Rattle.qz_run.specs.Laws.{IsOurs, IsAllowed, IsMoment, idle_kind, fresh_at, fresh, IsWithin, Lawful}
use Rattle.qz_run.specs.StateLaws.{IsReading, LawfulRows, LawfulStates}
use Rattle.qz_run.specs.Working.{AreUpTo, Ready, MayAsk, Moves}

-- Another node may ask what it might.
fresh_kind : (k n : ℕ) (now : ℤ) (kind : Bool) (v : View) (c : NodeCommand) (r : Reply) (o : Option Bool) (further : Bool) → k ≢ n → further ≡ true
    → fresh_at k now kind (record { before = v; node = n; command = c; reply = r; moment = now }) o further ≡ true
fresh_kind k n now kind v c r None further ne is = refl
fresh_kind k n now kind v c r (Some j) further ne is = rw (ne_eqb k n ne, is) refl

fresh_other : (k n : ℕ) (now : ℤ) (command : NodeCommand) (r : Reply) (s t : RunState) → k ≢ n → Accepts now n command r s t → MayAsk k now s → MayAsk k now t
fresh_other k n now command r s t ne a may = record {
  misfires = subst (λ l. fresh k now true l ≡ true) (sym a.log) (fresh_kind k n now true s.view command r (idle_kind r) (fresh k now true s.log) ne may.misfires);
  acquire = subst (λ l. fresh k now false l ≡ true) (sym a.log) (fresh_kind k n now false s.view command r (idle_kind r) (fresh k now false s.log) ne may.acquire);
}

-- Behind a reply that isn't empty each node may ask.
pub fresh_telling : (k n : ℕ) (now : ℤ) (command : NodeCommand) (r : Reply) (s t : RunState) → idle_kind r ≡ None → Accepts now n command r s t → MayAsk k now t
fresh_telling k n now command r s t telling a = record {
  misfires = rw (a.log, telling) refl;
  acquire = rw (a.log, telling) refl;
}

-- What the clock showed it still did.
shows_on : (p : Plan) (at : ℤ) (e : Event) (w : View) (log : List Event) → IsReading p at e.before log → IsReading p at w (e ∷ log)
shows_on p at e w log is = record { last = is.last; was = inr is.was; reading = is.reading }

rows_on : (p : Plan) (rows : List RowEvent) (e : Event) (w : View) (log : List Event) → LawfulRows p rows e.before log → LawfulRows p rows w (e ∷ log)
rows_on p [] e w log are = tt
rows_on p (r ∷ rows) e w log are = (record { ours = are.0.ours; allowed = are.0.allowed; reading = shows_on p r.at e w log are.0.reading }, rows_on p rows e w log are.1)

pub reading_on : (p : Plan) (at : ℤ) (n : ℕ) (now : ℤ) (command : NodeCommand) (r : Reply) (s t : RunState) → Accepts now n command r s t → IsReading p at s.view s.log → IsReading p at t.view t.log
reading_on p at n now command r s t a is =
    subst (λ l. IsReading p at t.view l) (sym a.log) (shows_on p at (record { before = s.view; node = n; command = command; reply = r; moment = now }) t.view s.log is)

pub states_on : (p : Plan) (n : ℕ) (now : ℤ) (command : NodeCommand) (r : Reply) (s t : RunState) → Accepts now n command r s t → LawfulStates p s → LawfulStates p t
states_on p n now command r s t a are =
    subst (λ l. LawfulRows p t.states.log t.view l) (sym a.log)
    (subst (λ rows. LawfulRows p rows.log t.view (record { before = s.view; node = n; command = command; reply = r; moment = now } ∷ s.log)) (sym a.states)
    (rows_on p s.states.log (record { before = s.view; node = n; command = command; reply = r; moment = now }) t.view s.log are))

up_to : (now : ℤ) (e : Event) (log : List Event) → e.moment ≡ now → AreUpTo now log → AreUpTo now (e ∷ log)
up_to now e log is up = (omega (arith, ints, is), up)

-- what this entry does that each command has in its own way
pub record Own (p : Plan) (n : ℕ) (now : ℤ) (command : NodeCommand) (r : Reply) (s : RunState) : Type 0 where
  pub ours : IsOurs p n
  pub allowed : IsAllowed p n now command s.view s.log
  pub no_repeat : IfSome (idle_kind r) (λ kind. fresh n now kind s.log ≡ true)
  pub refires : IsWithin r s.log

-- After an entry that may be added one more may be.
pub ready_on : (p : Plan) (n : ℕ) (now : ℤ) (command : NodeCommand) (r : Reply) (s t : RunState) → Ready p now s → Accepts now n command r s t → Own p n now command r s → Ready p now t
ready_on p n now command r s t ready a own =
    let e : Event = record { before = s.view; node = n; command = command; reply = r; moment = now } in
    record {
      lawful = record {
        entries = subst (λ l. Lawful p l) (sym a.log) (record { ours = own.ours; allowed = own.allowed; moment = ready.moment; no_repeat = own.no_repeat; refires = own.refires }, ready.lawful.entries);
        states = states_on p n now command r s t a ready.lawful.states;
      };
      moment = subst (λ l. IsMoment p t.view now l) (sym a.log) (inl (sym a.last));
      clock = omega (arith, ints, a.last);
      time = ready.time;
      up_to_now = subst (λ l. AreUpTo now l) (sym a.log) (up_to now e s.log refl ready.up_to_now);
    }

same_or : (k n : ℕ) (v w : View) → ((k ≡ n) ⊎ (k ≢ n)) → w.member n ≡ v.member n → (k ≢ n → w.member k ≡ v.member k) → w.member k ≡ v.member k
same_or k n v w (inl is) own other = rw is own
same_or k n v w (inr ne) own other = other ne

pub decide : (k n : ℕ) → (k ≡ n) ⊎ (k ≢ n)
decide k n = grind (arith, eqb_tells k n)

pub moves : (p : Plan) (n : ℕ) (now : ℤ) (command : NodeCommand) (r : Reply) (s t : RunState) → Ready p now s → Accepts now n command r s t → Own p n now command r s → t.view.member n ≡ s.view.member n → Moves p n now s t
moves p n now command r s t ready a own member = record {
  ready = ready_on p n now command r s t ready a own;
  last = a.last;
  free = a.others_free;
  members = λ k. same_or k n s.view t.view (decide k n) member (a.others_members k);
  may_ask = λ k ne may. fresh_other k n now command r s t ne a may;
  states = a.states;
  longer = rw a.log (omega arith);
  room = a.room;
}
