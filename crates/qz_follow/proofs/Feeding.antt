-- Pieces that are fed one after the other.
use Rattle.std.proofs.Common.{◌≡◌, ◌≢◌, ◌⊎◌, ⊎_elim, inl, inr, arith, List, [], ◌∷◌, ◌++◌, ℕ, refl, sym, ◌∙◌, ap, subst, append_assoc, append-nil}
use Rattle.std.specs.Prelude.{Option, Some, None}
use Rattle.qz_journal.specs.Slots.{slots_of}
use Rattle.qz_journal.specs.Tails.{start_of}
use Rattle.qz_journal.specs.declared.slots.Slots.{Slots}
use Rattle.qz_stream.specs.Standing.{Standing, fresh, IsAfter, payload_of}
use Rattle.qz_stream.specs.declared.place.Place.TheVariants as place
use Rattle.qz_types.specs.Tables.{SchedulerTables, empty}
use Rattle.qz_types.specs.Entries.{EntryData}
use Rattle.qz_trigger_store.specs.Kinds.{trigger_kind}
use Rattle.qz_follow.proofs.Over.{over}
use Rattle.qz_follow.specs.Following.{Following, IsFollowed, Follows, Keeps}
use Rattle.qz_follow.specs.Payloads.{Held, held_of, HasCome, IsFine, StandsBy}
use Rattle.qz_follow.specs.Taking.{awaited_slot, TakesAt, Takes, IsUntaken, StaysTaken, AddsBy, Adds}
use Rattle.qz_follow.specs.declared.stages.Stage.{Stage}
use Rattle.qz_follow.specs.declared.stages.Stage.TheVariants as stage
use Rattle.qz_follow.specs.declared.faults.FollowFault.{FollowFault}

pub follows_none : (f : Following) → Follows [] f f
follows_none f fed is = subst (λ (l : List ℕ). IsFollowed l f) (sym (append-nil fed)) is

pub follows_both : (a b bytes : List ℕ) (f g h : Following) → bytes ≡ a ++ b → Follows a f g → Follows b g h → Follows bytes f h
follows_both a b bytes f g h same first second fed is =
    subst (λ (l : List ℕ). IsFollowed l h) (append_assoc fed a b ∙ ap (λ (l : List ℕ). fed ++ l) (sym same)) (second (fed ++ a) (first fed is))

-- after a fault the rest is passed over
pub follows_over : (a b bytes : List ℕ) (f g : Following) (x : FollowFault) → bytes ≡ a ++ b → g.fault ≡ Some x → Follows a f g → Follows bytes f g
follows_over a b bytes f g x same is_fault first = follows_both a b bytes f g g same first (λ fed is. over trigger_kind fed b g x is_fault is)

pub keeps_none : (f : Following) → Keeps f f
keeps_none f = record { more = []; entries = sym (append-nil f.entries); start = λ is. (is, refl) }

pub keeps_both : (f g h : Following) → Keeps f g → Keeps g h → Keeps f h
keeps_both f g h first second = record {
  more = first.more ++ second.more;
  entries = second.entries ∙ ap (λ (l : List EntryData). l ++ second.more) first.entries ∙ append_assoc f.entries first.more second.more;
  start = λ is. let one = first.start is in let two = second.start one.0 in (two.0, two.1 ∙ one.1);
}

-- A follower to which no byte was fed.
pub fresh_followed : (f : Following) → f.standing ≡ fresh → IsAfter [] [] f.standing → f.version ≡ 2 → f.stage ≡ stage.First → f.parts ≡ [] → f.start ≡ empty 2 → f.entries ≡ [] → f.end ≡ 16 → f.fault ≡ None → IsFollowed [] f
fresh_followed f standing after version first parts start entries end none =
    let good : f.standing.place ≢ place.Bad = λ bad. let no : place.Header ≡ place.Bad = sym (ap (λ (s : Standing). s.place) standing) ∙ bad in cc in
    let come : HasCome trigger_kind (slots_of []) [] f.stage (held_of f) = subst (λ (x : Stage). HasCome trigger_kind (slots_of []) [] x (held_of f)) (sym first) (refl, parts, start ∙ ap empty (sym version), entries, end) in
    let fine : IsFine trigger_kind [] f = record { payloads = []; after = after; good = good; come = come } in
    record {
      told = None;
      version = λ long. absurd (omega (arith, long));
      version_is = version;
      stands = subst (λ (x : Option FollowFault). StandsBy trigger_kind x [] f) (sym none) fine;
    }

-- A payload was taken, or it wasn't.
module _ (f g : Following) (T : SchedulerTables) (slots : Slots) (payload : List ℕ) (gate : ℕ) (slots_are : slots ≡ f.standing.slots) (payload_is : payload ≡ payload_of f.standing.tail) (gate_is : gate ≡ f.standing.gate)
    (standing : g.standing ≡ f.standing) (version : g.version ≡ f.version) where
  pub adds_taken : g.fault ≡ None → Takes trigger_kind slots T payload gate (held_of f) (held_of g) → Adds trigger_kind T f g
  adds_taken none takes = record {
    standing = standing;
    version = version;
    by = subst (λ (x : Option FollowFault). AddsBy trigger_kind T f.standing (held_of f) (held_of g) x) (sym none)
        (subst (λ (s : Slots). Takes trigger_kind s T (payload_of f.standing.tail) f.standing.gate (held_of f) (held_of g)) slots_are
        (subst (λ (p : List ℕ). Takes trigger_kind slots T p f.standing.gate (held_of f) (held_of g)) payload_is
        (subst (λ (n : ℕ). Takes trigger_kind slots T payload n (held_of f) (held_of g)) gate_is takes)));
  }

  pub adds_fault : (x : FollowFault) → g.fault ≡ Some x → IsUntaken trigger_kind slots T payload gate (held_of f) x → StaysTaken (held_of f) (held_of g) → Adds trigger_kind T f g
  adds_fault x is_fault why stays = record {
    standing = standing;
    version = version;
    by = subst (λ (o : Option FollowFault). AddsBy trigger_kind T f.standing (held_of f) (held_of g) o) (sym is_fault) (
      subst (λ (s : Slots). IsUntaken trigger_kind s T (payload_of f.standing.tail) f.standing.gate (held_of f) x) slots_are
          (subst (λ (p : List ℕ). IsUntaken trigger_kind slots T p f.standing.gate (held_of f) x) payload_is
          (subst (λ (n : ℕ). IsUntaken trigger_kind slots T payload n (held_of f) x) gate_is why)),
      stays,
    );
  }

-- what was taken before stays
more_of : (o : Option ℕ) (start : ℕ) (T : SchedulerTables) (payload : List ℕ) (gate : ℕ) (old new : Held SchedulerTables EntryData) → TakesAt trigger_kind o start T payload gate old new → (more : List EntryData) × (new.entries ≡ old.entries ++ more)
more_of None start T payload gate old new takes =
    ⊎_elim (λ passed. ([], passed.0.1 ∙ sym (append-nil old.entries))) (λ taken. (taken.taken.0 ∷ [], taken.taken.1)) takes.by
more_of (Some slot) start T payload gate old new (inl over) = ([], over.same.1 ∙ sym (append-nil old.entries))
more_of (Some slot) start T payload gate old new (inr (here, inl gathers)) = ([], gathers.same.1 ∙ sym (append-nil old.entries))
more_of (Some slot) start T payload gate old new (inr (here, inr reads)) = ([], reads.same.0 ∙ sym (append-nil old.entries))

pub keeps_taken : (f g : Following) (T : SchedulerTables) (slots : Slots) (payload : List ℕ) (gate : ℕ) → Takes trigger_kind slots T payload gate (held_of f) (held_of g) → Keeps f g
keeps_taken f g T slots payload gate takes =
    let more = more_of (awaited_slot trigger_kind slots f.stage payload) (start_of slots) T payload gate (held_of f) (held_of g) takes in
    record {
      more = more.0;
      entries = more.1;
      start = λ is.
          let plain : TakesAt trigger_kind None (start_of slots) T payload gate (held_of f) (held_of g) =
          subst (λ (x : Stage). TakesAt trigger_kind (awaited_slot trigger_kind slots x payload) (start_of slots) T payload gate (held_of f) (held_of g)) is takes in
          (plain.settled, plain.start);
    }

pub keeps_stays : (f g : Following) → StaysTaken (held_of f) (held_of g) → Keeps f g
keeps_stays f g stays = record { more = []; entries = stays.entries ∙ sym (append-nil f.entries); start = λ is. (stays.settled is, stays.start) }
