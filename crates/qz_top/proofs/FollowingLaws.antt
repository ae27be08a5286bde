-- What `follow` and `compact` leave on the disks, and how they may end.
use Rattle.std.proofs.Common.{◌≡◌, ◌⊎◌, inl, inr, ⊎_elim, ℕ, ◌<◌, ◌≤◌, List, [], ◌++◌, length, refl, sym, ◌∙◌, ap, subst, arith, append-nil}
use Rattle.std.specs.Prelude.{⊤, Option, Some, None, Result, Ok, Err}
use Rattle.std.specs.Io.KnownBytes.{Consumes, IsAtEnd}
use Rattle.qz_disk.specs.declared.disk.Disk.{Ghosts}
use Rattle.qz_disk.specs.Disk.{IsLawful}
use Rattle.qz_io.specs.Outside.{Outside}
use Rattle.qz_types.specs.declared.stores.Store.{Store}
use Rattle.qz_types.specs.declared.stores.Store.TheVariants as store
use Rattle.qz_trigger_store.specs.Kinds.{trigger_kind}
use Rattle.qz_trigger_store.specs.Laws.{trigger_lawful}
use Rattle.qz_checkin.specs.Kinds.{state_kind}
use Rattle.qz_stream.specs.Standing.{length_at, header_length_of}
use Rattle.qz_stream.specs.declared.place.Place.{Place}
use Rattle.qz_stream.specs.declared.place.Place.TheVariants as place
use Rattle.qz_follow.specs.Following.{Following, IsEnded, length_or, short_at}
use Rattle.qz_follow.specs.Taking.{missing_slot}
use Rattle.qz_follow.specs.Payloads.{IsSeen}
use Rattle.qz_follow.specs.declared.faults.FollowFault.{FollowFault}
use Rattle.qz_follow.specs.declared.faults.FollowFault.TheVariants as fault
use Rattle.qz_follow.proofs.Gathering.{trigger_gathered}
use Rattle.qz_follow.proofs.Told.{all_taken, first_fault, header_told}
use Rattle.qz_standby.specs.Fronts.{HasNone, IsFirstOfOther, Looks}
use Rattle.qz_standby.specs.Making.{LeavesFirst, HoldsNow, LacksRoom, MakesPart, LooksAtBoth, Makes, TellsHeader, list_of, rows_of}
use Rattle.qz_standby.specs.Reading.{WasFed, HasRead, HasMet, IsUnread}
use Rattle.qz_standby.specs.declared.errors.Unmade.{Unmade}
use Rattle.qz_standby.specs.declared.errors.Unmade.TheVariants as unmade
use Rattle.qz_standby.specs.declared.errors.Unread.{Unread}
use Rattle.qz_standby.specs.declared.errors.Unread.TheVariants as unread
use Rattle.qz_standby.specs.declared.forms.Form.{Form}
use Rattle.qz_standby.specs.declared.forms.Form.TheVariants as form
use Rattle.qz_standby.proofs.Leaving.{looks_not, looks_first}
use Rattle.qz_words.specs.declared.wishes.WordFault.{WordFault}
use Rattle.qz_top.specs.Completing.{IsDone, IsDoneOrFull}
use Rattle.qz_top.specs.Following.{fault_status, unread_status, unmade_status, MadeBoth, SaysFollowed, StoodBy, FollowedPart, FollowedWhole, RanFollow, HeadlineOfStandby, IsRightStream, HasRoomAgain}
use Rattle.qz_top.specs.HeadlineByWords.{OnlyLooked, MakesStandby}
use Rattle.qz_top.specs.Making.{KeepsStores}
use Rattle.qz_top.specs.declared.ended.Ended.{Ended}
use Rattle.qz_top.specs.declared.statuses.Status.{Status}
use Rattle.qz_top.specs.declared.statuses.Status.TheVariants as status

-- The statuses of a call that made no stores.

unread_unmade : (x : Unread) (s : Status) → s ≡ unread_status x → MadeBoth s → ⊥
unread_unmade unread.Failed s is made = ⊎_elim (λ ok. cc) (λ bad. cc) made
unread_unmade (unread.Stream (fault.BadStream at)) s is made = ⊎_elim (λ ok. cc) (λ bad. cc) made
unread_unmade (unread.Stream (fault.JournalFull need room)) s is made = ⊎_elim (λ ok. cc) (λ bad. cc) made
unread_unmade (unread.Stream fault.NoMemory) s is made = ⊎_elim (λ ok. cc) (λ bad. cc) made

not_made : (x : Unmade) (s : Status) → s ≡ unmade_status x → MadeBoth s → ⊥
not_made unmade.Exists s is made = ⊎_elim (λ ok. cc) (λ bad. cc) made
not_made (unmade.NotAStore st) s is made = ⊎_elim (λ ok. cc) (λ bad. cc) made
not_made (unmade.Short at) s is made = ⊎_elim (λ ok. cc) (λ bad. cc) made
not_made (unmade.NoRoom need room) s is made = ⊎_elim (λ ok. cc) (λ bad. cc) made
not_made unmade.NoMemory s is made = ⊎_elim (λ ok. cc) (λ bad. cc) made
not_made unmade.Fault s is made = ⊎_elim (λ ok. cc) (λ bad. cc) made

-- No words are blamed.

unread_words : (x : Unread) (s : Status) (words : WordFault) → s ≡ unread_status x → s ≡ status.BadWords words → ⊥
unread_words unread.Failed s words is bad = cc
unread_words (unread.Stream (fault.BadStream at)) s words is bad = cc
unread_words (unread.Stream (fault.JournalFull need room)) s words is bad = cc
unread_words (unread.Stream fault.NoMemory) s words is bad = cc

unmade_words : (x : Unmade) (s : Status) (words : WordFault) → s ≡ unmade_status x → s ≡ status.BadWords words → ⊥
unmade_words unmade.Exists s words is bad = cc
unmade_words (unmade.NotAStore st) s words is bad = cc
unmade_words (unmade.Short at) s words is bad = cc
unmade_words (unmade.NoRoom need room) s words is bad = cc
unmade_words unmade.NoMemory s words is bad = cc
unmade_words unmade.Fault s words is bad = cc

said_words : (form : Form) (r : Result ℕ Unmade) (s : Status) (words : WordFault) (old new : Outside) → SaysFollowed form s r old new → s ≡ status.BadWords words → ⊥
said_words form (Ok count) s words old new said bad = ⊎_elim (λ ok. cc) (λ write. cc) said.0
said_words form (Err x) s words old new said bad = unmade_words x s words said.0 bad

pub follow_words : {D : Type 0} {g : Ghosts D} (form : Form) (triggers states : D) (e : Ended D g) (old new : Outside) (words : WordFault) → RanFollow form triggers states e old new → e.status ≡ status.BadWords words → ⊥
follow_words form triggers states e old new words ran bad =
    ⊎_elim (λ whole. said_words form whole.stood_by.made e.status words _ _ whole.stood_by.says bad) (λ part. unread_words part.error e.status words part.status_is bad) ran.ran

-- The headline, where the stream was read to its end.
module _ {D : Type 0} {g : Ghosts D} (form : Form) (triggers states : D) (e : Ended D g) (left now : Option (List ℕ)) (f : Following) (stream : HasRead left now f) where
  abbrev LeavesList : Type 0
  LeavesList = g.honest → LeavesFirst trigger_kind (list_of form f) (g.state triggers) (g.state e.triggers)

  abbrev CheckIns : Type 0
  CheckIns = g.honest → LeavesFirst state_kind (rows_of f) (g.state states) (g.state e.states)

  abbrev AtEnd : Type 0
  AtEnd = MadeBoth e.status → g.honest → HoldsNow trigger_kind (list_of form f) (g.state e.triggers) × HoldsNow state_kind (rows_of f) (g.state e.states)

  headline : KeepsStores g triggers e.triggers states e.states → LeavesList → CheckIns → AtEnd → HeadlineOfStandby form triggers states e left now
  headline keeps list check_ins at_end =
      let fed = stream.fed in
      record {
        bytes = fed.before ++ fed.piece;
        read = fed.taken;
        version = f.version;
        has_version = (fed.followed.told, fed.followed.version, fed.followed.version_is);
        start = f.start;
        entries = f.entries;
        taken = all_taken trigger_kind trigger_lawful trigger_gathered (fed.before ++ fed.piece) f fed.followed stream.fine;
        keeps = keeps;
        list = list;
        check_ins = check_ins;
        at_end = at_end;
      }

  looked_headline : (g.honest → Looks (g.state triggers) (g.state e.triggers) × Looks (g.state states) (g.state e.states)) → (MadeBoth e.status → ⊥) → HeadlineOfStandby form triggers states e left now
  looked_headline looked unmade_so = headline
      (record { triggers = λ honest has. (looked honest).0.any_moment; states = λ honest has. (looked honest).1.any_moment })
      (λ honest. looks_first trigger_kind (list_of form f) _ _ (looked honest).0)
      (λ honest. looks_first state_kind (rows_of f) _ _ (looked honest).1)
      (λ made. absurd (unmade_so made))

  some_headline : (g.honest → LooksAtBoth (λ x y. ⊤) (g.state triggers) (g.state e.triggers) (g.state states) (g.state e.states) ⊎ MakesPart form f (g.state triggers) (g.state e.triggers) (g.state states) (g.state e.states))
      → (MadeBoth e.status → ⊥) → HeadlineOfStandby form triggers states e left now
  some_headline some unmade_so = headline
      (record {
        triggers = λ honest has. ⊎_elim (λ looked. looked.triggers.any_moment) (λ part. absurd (part.none.0 has)) (some honest);
        states = λ honest has. ⊎_elim (λ looked. looked.states.any_moment) (λ part. absurd (part.none.1 has)) (some honest);
      })
      (λ honest. ⊎_elim (λ looked. looks_first trigger_kind (list_of form f) _ _ looked.triggers) (λ part. part.triggers) (some honest))
      (λ honest. ⊎_elim (λ looked. looks_first state_kind (rows_of f) _ _ looked.states) (λ part. part.states) (some honest))
      (λ made. absurd (unmade_so made))

  made_headline : (r : Result ℕ Unmade) (old new : Outside) → (g.honest → Makes form r f (g.state triggers) (g.state e.triggers) (g.state states) (g.state e.states)) → SaysFollowed form e.status r old new
      → HeadlineOfStandby form triggers states e left now
  made_headline (Ok count) old new makes said = headline
      (record { triggers = λ honest has. absurd ((makes honest).part.none.0 has); states = λ honest has. absurd ((makes honest).part.none.1 has) })
      (λ honest. (makes honest).part.triggers)
      (λ honest. (makes honest).part.states)
      (λ made honest. ((makes honest).list, (makes honest).rows))
  made_headline (Err unmade.Exists) old new makes said = looked_headline (λ honest. ((makes honest).triggers, (makes honest).states)) (not_made unmade.Exists e.status said.0)
  made_headline (Err (unmade.NotAStore st)) old new makes said = looked_headline (λ honest. ((makes honest).triggers, (makes honest).states)) (not_made (unmade.NotAStore st) e.status said.0)
  made_headline (Err (unmade.Short at)) old new makes said = looked_headline (λ honest. ((makes honest).triggers, (makes honest).states)) (not_made (unmade.Short at) e.status said.0)
  made_headline (Err (unmade.NoRoom need room)) old new makes said = some_headline (λ honest. inr (makes honest).1) (not_made (unmade.NoRoom need room) e.status said.0)
  made_headline (Err unmade.NoMemory) old new makes said = some_headline makes (not_made unmade.NoMemory e.status said.0)
  made_headline (Err unmade.Fault) old new makes said = some_headline makes (not_made unmade.Fault e.status said.0)

module _ {D : Type 0} {g : Ghosts D} (lawful : g.honest → (d : D) → IsLawful (g.state d)) (form : Form) (triggers states : D) (e : Ended D g) where
  same_looked : (d d' : D) → d' ≡ d → g.honest → Looks (g.state d) (g.state d')
  same_looked d d' same honest = subst (λ (x : D). Looks (g.state d) (g.state x)) (sym same) (looks_not (g.state d) (lawful honest d))

  -- There was no memory for the text, and nothing was done.
  pub starved : (f : Following) (o : Outside) → e.triggers ≡ triggers → e.states ≡ states → e.status ≡ status.NoMemory → StoodBy form f triggers states e o o
  starved f o first second is = record {
    made = Err unmade.NoMemory;
    header = tt;
    makes = λ honest. inl (record { found = tt; triggers = same_looked triggers e.triggers first honest; states = same_looked states e.states second honest });
    says = (is, refl);
  }

  pub follow_headline : (old new : Outside) → RanFollow form triggers states e old new → MakesStandby form triggers states e old.left new.left
  follow_headline old new ran =
      ⊎_elim (λ whole. inl (made_headline form triggers states e old.left new.left whole.follower whole.stream whole.stood_by.made _ _ whole.stood_by.makes whole.stood_by.says))
      (λ part. inr (
        record {
          triggers_stay = λ honest. (same_looked triggers e.triggers part.triggers_stay honest).any_moment;
          states_stay = λ honest. (same_looked states e.states part.states_stay honest).any_moment;
        },
        unread_unmade part.error e.status part.status_is,
      )) ran.ran

-- How it ends where nothing fails.

fed_some : (bytes fed : List ℕ) (left now : Option (List ℕ)) → left ≡ Some bytes → Consumes left now fed → (rest : List ℕ) × (bytes ≡ fed ++ rest) × (now ≡ Some rest)
fed_some bytes fed left now is taken = split now (subst (λ (x : Option (List ℕ)). Consumes x now fed) is taken) where
  split : (n : Option (List ℕ)) → Consumes (Some bytes) n fed → (rest : List ℕ) × (bytes ≡ fed ++ rest) × (n ≡ Some rest)
  split None took = absurd took
  split (Some rest) took = (rest, took, refl)

met_none : (x : FollowFault) (bytes : List ℕ) (left now : Option (List ℕ)) → left ≡ Some bytes → IsRightStream bytes → HasMet x left now → IsSeen x → ⊥
met_none x bytes left now is right met seen =
    let f = met.0 in
    let fed = met.1 in
    let whole = fed_some bytes (fed.before ++ fed.piece) left now is fed.taken in
    right.sound (fed.before ++ fed.piece) whole.0 f.version f.start f.entries x whole.1 (fed.followed.told, fed.followed.version, fed.followed.version_is) (first_fault trigger_kind trigger_lawful trigger_gathered (fed.before ++ fed.piece) f x fed.followed met.2) seen

ended_header : (p : Place) (tail : List ℕ) (at : ℕ) → p ≡ place.Ended → length_at p tail ≡ Some at → ⊥
ended_header place.Header tail at is told = cc
ended_header place.Block tail at is told = cc
ended_header place.Whole tail at is told = cc
ended_header place.Ended tail at is told = cc
ended_header place.Bad tail at is told = cc

-- all bytes were read, or the stream has ended
rest_none : (bytes : List ℕ) (left now : Option (List ℕ)) (f : Following) → left ≡ Some bytes → (read : HasRead left now f) → (rest : List ℕ) × (bytes ≡ (read.fed.before ++ read.fed.piece) ++ rest) × (IsEnded f ⊎ (rest ≡ []))
rest_none bytes left now f is read =
    let fed = read.fed in
    let whole = fed_some bytes (fed.before ++ fed.piece) left now is fed.taken in
    (whole.0, whole.1, ⊎_elim (λ ended. inl ended) (λ end. inr (subst IsAtEnd whole.2 end)) read.end)

short_by : (o slot : Option ℕ) (at : ℕ) → slot ≡ None → length_or o slot ≡ Some at → o ≡ Some at
short_by None slot at none is = let no : ◌≡◌ {A = Option ℕ} None (Some at) = sym none ∙ is in absurd (cc)
short_by (Some n) slot at none is = is

not_short : (bytes : List ℕ) (left now : Option (List ℕ)) (f : Following) (at : ℕ) → left ≡ Some bytes → IsRightStream bytes → HasRead left now f → short_at f ≡ Some at → ⊥
not_short bytes left now f at is right read told =
    let fed = read.fed in
    let rest = rest_none bytes left now f is read in
    let header : header_length_of f.standing ≡ Some at = short_by (header_length_of f.standing) (missing_slot trigger_kind f.stage f.standing.slots f.standing.tail) at (right.whole (fed.before ++ fed.piece) rest.0 f rest.1 fed.followed rest.2) told in
    let short = header_told trigger_kind trigger_lawful trigger_gathered (fed.before ++ fed.piece) f at fed.followed header in
    ⊎_elim (λ ended. ended_header f.standing.place f.standing.tail at ended.1 header)
    (λ none.
    let all : bytes ≡ fed.before ++ fed.piece = rest.1 ∙ ap (λ (l : List ℕ). (fed.before ++ fed.piece) ++ l) none ∙ append-nil (fed.before ++ fed.piece) in
    omega (arith, short.1, right.long, ap length all))
    rest.2

other_none : (st : Store) (t s : List ℕ) → HasNone t s → IsFirstOfOther st t s → ⊥
other_none store.Triggers t s none found = none.0 (inr found)
other_none store.States t s none found = none.1 (inr found.1)

-- it came to its end, or memory ran out, or a snapshot has no room
abbrev IsDoneIn : Form → Status → Type 0
IsDoneIn form.Entries s = IsDone s
IsDoneIn form.Snapshot s = IsDoneOrFull s

ended_well : (form : Form) → IsDoneIn form status.Ok
ended_well form.Entries = tt
ended_well form.Snapshot = tt

ran_out : (form : Form) → IsDoneIn form status.NoMemory
ran_out form.Entries = tt
ran_out form.Snapshot = tt

-- what is asked of the room, by the form
abbrev FitsIn : Form → List ℕ → Type 0
FitsIn form.Entries bytes = HasRoomAgain bytes
FitsIn form.Snapshot bytes = ⊤

lacked_room : (form : Form) (bytes : List ℕ) (left now : Option (List ℕ)) (f : Following) (need room : ℕ) → left ≡ Some bytes → FitsIn form bytes → HasRead left now f → LacksRoom form f need room → IsDoneIn form (status.JournalFull need room)
lacked_room form.Entries bytes left now f need room is fits read lacks =
    let fed = read.fed in
    let rest = rest_none bytes left now f is read in
    absurd (fits (fed.before ++ fed.piece) rest.0 f.version f.start f.entries rest.1 (fed.followed.told, fed.followed.version, fed.followed.version_is)
    (all_taken trigger_kind trigger_lawful trigger_gathered (fed.before ++ fed.piece) f fed.followed read.fine) lacks.0 need room lacks.1)
lacked_room form.Snapshot bytes left now f need room is fits read lacks = tt

module _ {D : Type 0} {g : Ghosts D} (form : Form) (triggers states : D) (e : Ended D g) (read : e.status ≡ status.ReadFault → ⊥) (write : e.status ≡ status.WriteFault → ⊥) (disk : e.status ≡ status.DiskFault → ⊥) (honest : g.honest)
    (none : HasNone (g.state triggers).content (g.state states).content) where
  done_as : (s : Status) → e.status ≡ s → IsDoneIn form s → IsDoneIn form e.status
  done_as s is done = subst (IsDoneIn form) (sym is) done

  part_done : (x : Unread) (bytes : List ℕ) (left now : Option (List ℕ)) → left ≡ Some bytes → IsRightStream bytes → e.status ≡ unread_status x → IsUnread x left now → IsDoneIn form e.status
  part_done unread.Failed bytes left now is right status_is why = absurd (read status_is)
  part_done (unread.Stream (fault.BadStream at)) bytes left now is right status_is why = absurd (met_none (fault.BadStream at) bytes left now is right why tt)
  part_done (unread.Stream (fault.JournalFull need room)) bytes left now is right status_is why = absurd (met_none (fault.JournalFull need room) bytes left now is right why tt)
  part_done (unread.Stream fault.NoMemory) bytes left now is right status_is why = done_as status.NoMemory status_is (ran_out form)

  made_done : (r : Result ℕ Unmade) (f : Following) (bytes : List ℕ) (left now : Option (List ℕ)) (old new : Outside) → left ≡ Some bytes → IsRightStream bytes → FitsIn form bytes → HasRead left now f → TellsHeader r f
      → Makes form r f (g.state triggers) (g.state e.triggers) (g.state states) (g.state e.states) → SaysFollowed form e.status r old new → IsDoneIn form e.status
  made_done (Ok count) f bytes left now old new is right fits has header makes said = ⊎_elim (λ ok. done_as status.Ok ok (ended_well form)) (λ bad. absurd (write bad)) said.0
  made_done (Err unmade.Exists) f bytes left now old new is right fits has header makes said = absurd (⊎_elim (λ own. none.0 (inl own)) (λ own. none.1 (inl own)) makes.found)
  made_done (Err (unmade.NotAStore st)) f bytes left now old new is right fits has header makes said = absurd (other_none st _ _ none makes.found.1)
  made_done (Err (unmade.Short at)) f bytes left now old new is right fits has header makes said = absurd (not_short bytes left now f at is right has header)
  made_done (Err (unmade.NoRoom need room)) f bytes left now old new is right fits has header makes said = done_as _ said.0 (lacked_room form bytes left now f need room is fits has makes.0)
  made_done (Err unmade.NoMemory) f bytes left now old new is right fits has header makes said = done_as status.NoMemory said.0 (ran_out form)
  made_done (Err unmade.Fault) f bytes left now old new is right fits has header makes said = absurd (disk said.0)

  pub follow_done : (old new : Outside) (bytes : List ℕ) → RanFollow form triggers states e old new → old.left ≡ Some bytes → IsRightStream bytes → FitsIn form bytes → IsDoneIn form e.status
  follow_done old new bytes ran is right fits =
      ⊎_elim (λ whole. made_done whole.stood_by.made whole.follower bytes old.left new.left _ _ is right fits whole.stream whole.stood_by.header (whole.stood_by.makes honest) whole.stood_by.says)
      (λ part. part_done part.error bytes old.left new.left is right part.status_is part.why) ran.ran

-- No status of stores that weren't made tells that the input failed.
unmade_not_read : (e : Unmade) → unmade_status e ≡ status.ReadFault → ⊥
unmade_not_read unmade.Exists is = absurd cc
unmade_not_read (unmade.NotAStore store) is = absurd cc
unmade_not_read (unmade.Short at) is = absurd cc
unmade_not_read (unmade.NoRoom need room) is = absurd cc
unmade_not_read unmade.NoMemory is = absurd cc
unmade_not_read unmade.Fault is = absurd cc

pub said_not_read : (form : Form) (s : Status) (r : Result ℕ Unmade) (old new : Outside) → SaysFollowed form s r old new → s ≡ status.ReadFault → ⊥
said_not_read form s (Ok count) old new says is = by says.0 where
  by : MadeBoth s → ⊥
  by (inl same) = let bad : status.Ok ≡ status.ReadFault = sym same ∙ is in absurd cc
  by (inr same) = let bad : status.WriteFault ≡ status.ReadFault = sym same ∙ is in absurd cc
said_not_read form s (Err e) old new says is = unmade_not_read e (sym says.0 ∙ is)
