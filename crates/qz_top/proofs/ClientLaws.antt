-- Commands of a client that go on.
use Rattle.std.proofs.Common.{◌≡◌, ℤ, List, [], ◌∷◌, ◌++◌, length, Option, Some, None, true, refl, sym, ap, ◌∙◌, subst, arith, length-append, append_assoc}
use Rattle.std.specs.Prelude.{Ok, Err}
use Rattle.std.proofs.lemmas.List.{append-nil}
use Rattle.std.proofs.lemmas.Grind.{flat_map-append}
use Rattle.std.specs.Io.KnownBytes.{Appends}
use Rattle.std.specs.List.{AllByRecursion}
use Rattle.std.proofs.lemmas.Bool.{and_parts}
use Rattle.qz_document.specs.Items.{are_valid}
use Rattle.qz_steps.specs.Steps.{is_step}
use Rattle.std.proofs.KnownBytes.{Appends-nil, Appends-trans}
use Rattle.qz_io.specs.Clocks.{Tells}
use Rattle.qz_io.specs.Outside.{Outside}
use Rattle.qz_io.proofs.Readings.{Tells-nil, Tells-trans}
use Rattle.qz_io.proofs.TakenLaws.{AllByRecursion-append}
use Rattle.qz_types.specs.declared.commands.Command.{Command}
use Rattle.qz_steps.specs.declared.steps.Step.TheVariants.{Client}
use Rattle.qz_steps.specs.declared.steps.StepReply.{StepReply}
use Rattle.qz_report.specs.Replies.{reply_text}
use Rattle.qz_top.specs.Clients.{IsOfClient, client_steps, taken_readings, given_command, DidCommands, DidSome}
use Rattle.qz_top.specs.LineOutcomes.{IsOwn, taken_reading, StepDone}
use Rattle.qz_top.specs.Trails.{texts, RunState, RanSteps}
use Rattle.qz_top.specs.declared.line_handler.LineEnd.{LineEnd}
use Rattle.qz_top.proofs.TrailLaws.{RanSteps-none, RanSteps-more}

told_none : (at : Option ℤ) (readings : Option (List ℤ)) → Tells readings readings (taken_readings at [])
told_none None readings = Tells-nil readings
told_none (Some at) readings = Tells-nil readings

pub DidCommands-none : (honest : Type 0) (at : Option ℤ) (R : RunState) (o : Outside) → DidCommands honest at [] R R o o
DidCommands-none honest at R o =
    record { moments = []; count = refl; own = tt; told = told_none at o.readings; replies = []; steps = RanSteps-none R; written = Appends-nil o.held }

-- one reading more
taken_one : (at : Option ℤ) (moments : List ℤ) (t : ℤ) → taken_readings at (moments ++ t ∷ []) ≡ taken_readings at moments ++ taken_reading at t
taken_one None moments t = refl
taken_one (Some at) moments t = refl

-- one step more
pub steps_one : (done : List Command) (c : Command) (moments : List ℤ) (t : ℤ) → length moments ≡ length done
    → client_steps (done ++ c ∷ []) (moments ++ t ∷ []) ≡ client_steps done moments ++ record { step = Client c; at = t } ∷ []
steps_one [] c [] t same = refl
steps_one [] c (m ∷ moments) t same = absurd (omega (arith, same))
steps_one (d ∷ done) c [] t same = absurd (omega (arith, same))
steps_one (d ∷ done) c (m ∷ moments) t same = let less : length moments ≡ length done = omega (arith, same) in ap (λ ts. record { step = Client d; at = m } ∷ ts) (steps_one done c moments t less)

texts_one : (replies : List StepReply) (r : StepReply) → texts (replies ++ r ∷ []) ≡ texts replies ++ reply_text r
texts_one replies r = flat_map-append reply_text replies (r ∷ []) ∙ ap (λ x. texts replies ++ x) (append-nil (reply_text r))

-- a command is done after others
pub DidCommands-more : (honest : Type 0) (at : Option ℤ) (done : List Command) (c : Command) (R S T : RunState) (a b e : Outside)
    → DidCommands honest at done R S a b → StepDone honest (Ok tt) (given_command at c) S T b e → DidCommands honest at (done ++ c ∷ []) R T a e
DidCommands-more honest at done c R S T a b e p (t, did, written) = record {
  moments = p.moments ++ t ∷ [];
  count = simp length-append (omega (arith, p.count));
  own = AllByRecursion-append (IsOwn at) p.moments (t ∷ []) p.own (did.own, tt);
  told = subst (Tells a.readings e.readings) (sym (taken_one at p.moments t)) (Tells-trans a.readings b.readings e.readings _ _ p.told did.told);
  replies = p.replies ++ did.reply ∷ [];
  steps = subst (λ ts. RanSteps honest ts (p.replies ++ did.reply ∷ []) R T) (sym (steps_one done c p.moments t p.count))
      (RanSteps-more honest (client_steps done p.moments) _ p.replies (did.reply ∷ []) R S T p.steps did.steps);
  written = subst (Appends a.held e.held) (sym (texts_one p.replies did.reply)) (Appends-trans a.held b.held e.held _ _ p.written written);
}

-- the first of these commands were done, and these are left
pub record DidFront (honest : Type 0) (at : Option ℤ) (commands left : List Command) (R S : RunState) (a b : Outside) : Type 0 where
  pub done : List Command
  pub all : commands ≡ done ++ left
  pub did : DidCommands honest at done R S a b

pub DidFront-none : (honest : Type 0) (at : Option ℤ) (commands left : List Command) (R : RunState) (o : Outside) → commands ≡ left → DidFront honest at commands left R R o o
DidFront-none honest at commands left R o same = record { done = []; all = same; did = DidCommands-none honest at R o }

-- the next one is done
pub DidFront-more : (honest : Type 0) (at : Option ℤ) (commands left rest : List Command) (c : Command) (R S T : RunState) (a b e : Outside) → left ≡ c ∷ rest
    → DidFront honest at commands left R S a b → StepDone honest (Ok tt) (given_command at c) S T b e → DidFront honest at commands rest R T a e
DidFront-more honest at commands left rest c R S T a b e next p step = record {
  done = p.done ++ c ∷ [];
  all = p.all ∙ ap (λ l. p.done ++ l) next ∙ sym (append_assoc p.done (c ∷ []) rest);
  did = DidCommands-more honest at p.done c R S T a b e p.did step;
}

-- the next one ends it
pub DidFront-end : (honest since : Type 0) (at : Option ℤ) (commands left rest : List Command) (c : Command) (end : LineEnd) (R S T : RunState) (a b e : Outside) → since ≡ honest → left ≡ c ∷ rest
    → DidFront honest at commands left R S a b → StepDone since (Err end) (given_command at c) S T b e → DidSome honest end at commands R T a e
DidFront-end honest since at commands left rest c end R S T a b e same next p step = record {
  done = p.done;
  next = c;
  left = rest;
  all = p.all ∙ ap (λ l. p.done ++ l) next;
  between = S;
  then = b;
  did = p.did;
  ended = subst (λ (P : Type 0). StepDone P (Err end) (given_command at c) S T b e) same step;
}

-- none is left
pub DidFront-all : (honest : Type 0) (at : Option ℤ) (commands left : List Command) (R S : RunState) (a b : Outside) → left ≡ [] → DidFront honest at commands left R S a b → DidCommands honest at commands R S a b
DidFront-all honest at commands left R S a b none p =
    subst (λ l. DidCommands honest at l R S a b) (sym (p.all ∙ ap (λ l. p.done ++ l) none ∙ append-nil p.done)) p.did

-- valid commands of a document are those of a client
pub of_client : (commands : List Command) → are_valid commands ≡ true → AllByRecursion IsOfClient commands
of_client [] valid = tt
of_client (c ∷ commands) valid = let parts = and_parts (is_step (Client c)) (are_valid commands) valid in (parts.0, of_client commands parts.1)
