-- What comes of a step, by a store's answer to its entry.
use Rattle.std.proofs.Common.{◌≡◌, true, refl, sym, subst, arith}
use Rattle.std.specs.Prelude.{⊤, ◌≢◌, Ok, Err, IsOk, IfOk, IfErr, OnErr}
use Rattle.std.specs.declared.result.Result.{Result}
use Rattle.qz_disk.specs.declared.disk.Disk.{Ghosts}
use Rattle.qz_types.specs.Entries.{EntryData, StateEntryData}
use Rattle.qz_types.specs.declared.errors.SubmitError.{SubmitError}
use Rattle.qz_types.specs.declared.errors.SubmitError.TheVariants as submit
use Rattle.qz_trigger_store.specs.Entries.{TriggerState, trigger_entry}
use Rattle.qz_checkin.specs.Entries.{StatesState, of_states}
use Rattle.qz_stores.specs.Stores.{EntryKind, StoreState, Same, Starves, Submits}
use Rattle.qz_cluster.specs.Submitting.{Submitted, StatesSubmitted, Unsubmitted, unaccepted, answered}
use Rattle.qz_cluster.specs.View.{KeepsStores, KeepsTriggers, KeepsUnlessDone, KeepsUnlessJoined}
use Rattle.qz_cluster.specs.declared.clusters.Cluster.{Cluster}
use Rattle.qz_cluster.specs.declared.errors.StepEnd.{StepEnd}
use Rattle.qz_steps.specs.declared.rooms.Marked.TheVariants.{Made, NoRoom}
use Rattle.qz_steps.specs.declared.steps.StepReply.{StepReply}
use Rattle.qz_steps.specs.declared.steps.StepReply.TheVariants as reply

pub replies : (e : EntryData) (x : SubmitError) (s t : TriggerState) → Submits trigger_entry e (Err x) s t → IfOk (unaccepted x) (λ r. Submitted e r s t)
replies e (submit.Closed at) s t is = is.0
replies e (submit.Refused refusal) s t is = is
replies e (submit.JournalFull need room) s t is = tt
replies e submit.NoMemory s t is = tt
replies e submit.Fault s t is = is

pub ends : (e : EntryData) (x : SubmitError) (s t : TriggerState) → Submits trigger_entry e (Err x) s t → IfErr (unaccepted x) (λ end. Unsubmitted trigger_entry e end s t)
ends e (submit.Closed at) s t is = tt
ends e (submit.Refused refusal) s t is = tt
ends e (submit.JournalFull need room) s t is = is
ends e submit.NoMemory s t is = is
ends e submit.Fault s t is = tt

pub states_reply : (e : StateEntryData) (r : Result ⊤ SubmitError) (s t : StatesState) → Submits of_states e r s t → IfOk (answered r) (λ r. StatesSubmitted e r s t)
states_reply e (Ok tt) s t is = (is, refl)
states_reply e (Err (submit.Closed at)) s t is = is.0
states_reply e (Err (submit.Refused refusal)) s t is = is
states_reply e (Err (submit.JournalFull need room)) s t is = tt
states_reply e (Err submit.NoMemory) s t is = tt
states_reply e (Err submit.Fault) s t is = is

pub states_replied : (e : StateEntryData) (r : Result ⊤ SubmitError) (result : Result StepReply StepEnd) (s t : StatesState) → result ≡ answered r → Submits of_states e r s t
    → IfOk result (λ r. StatesSubmitted e r s t)
states_replied e r result s t is came = subst (λ (x : Result StepReply StepEnd). IfOk x (λ r. StatesSubmitted e r s t)) (sym is) (states_reply e r s t came)

pub states_end : (e : StateEntryData) (r : Result ⊤ SubmitError) (s t : StatesState) → Submits of_states e r s t → IfErr (answered r) (λ end. Unsubmitted of_states e end s t)
states_end e (Ok tt) s t is = tt
states_end e (Err (submit.Closed at)) s t is = tt
states_end e (Err (submit.Refused refusal)) s t is = tt
states_end e (Err (submit.JournalFull need room)) s t is = is
states_end e (Err submit.NoMemory) s t is = is
states_end e (Err submit.Fault) s t is = tt

-- All but a fault leaves the stores as they were.
pub keeps : {D : Type 0} {g : Ghosts D} (x : SubmitError) (c d : Cluster D g) → (x ≢ submit.Fault → KeepsStores c d) → IfOk (unaccepted x) (λ r. KeepsUnlessDone r c d)
keeps (submit.Closed at) c d same = same (λ is. cc)
keeps (submit.Refused refusal) c d same = same (λ is. cc)
keeps (submit.JournalFull need room) c d same = tt
keeps submit.NoMemory c d same = tt
keeps submit.Fault c d same = tt

pub stays : {D : Type 0} {g : Ghosts D} (x : SubmitError) (c d : Cluster D g) → (x ≢ submit.Fault → KeepsStores c d) → OnErr (unaccepted x) (KeepsStores c d)
stays (submit.Closed at) c d same = tt
stays (submit.Refused refusal) c d same = tt
stays (submit.JournalFull need room) c d same = same (λ is. cc)
stays submit.NoMemory c d same = same (λ is. cc)
stays submit.Fault c d same = tt

pub states_keep : {D : Type 0} {g : Ghosts D} (r : Result ⊤ SubmitError) (c d : Cluster D g) → (r ≢ Err submit.Fault → OnErr r (KeepsStores c d)) → IfOk (answered r) (λ r. KeepsUnlessDone r c d)
states_keep (Ok tt) c d same = tt
states_keep (Err x) c d same = keeps x c d (λ other. same (λ is. other cc))

pub states_stay : {D : Type 0} {g : Ghosts D} (r : Result ⊤ SubmitError) (c d : Cluster D g) → (r ≢ Err submit.Fault → OnErr r (KeepsStores c d)) → OnErr (answered r) (KeepsStores c d)
states_stay (Ok tt) c d same = tt
states_stay (Err x) c d same = stays x c d (λ other. same (λ is. other cc))

-- What a step keeps, a join keeps.
pub joined_too : {D : Type 0} {g : Ghosts D} (r : StepReply) (c d : Cluster D g) → KeepsUnlessDone r c d → KeepsUnlessJoined r c d
joined_too (reply.Refused refusal) c d keep = keep.0
joined_too (reply.Ok r) c d keep = tt
joined_too reply.Fault c d keep = tt
joined_too reply.Closed c d keep = keep
joined_too reply.Stopped c d keep = keep
joined_too reply.Restarted c d keep = tt
joined_too (reply.Shown shown) c d keep = keep
joined_too (reply.Marked Made) c d keep = tt
joined_too (reply.Marked NoRoom) c d keep = keep
joined_too (reply.Room room) c d keep = keep

pub all_joined_too : {D : Type 0} {g : Ghosts D} (result : Result StepReply StepEnd) (c d : Cluster D g) → IfOk result (λ r. KeepsUnlessDone r c d) → IfOk result (λ r. KeepsUnlessJoined r c d)
all_joined_too (Ok r) c d keep = joined_too r c d keep
all_joined_too (Err end) c d keep = tt

-- where the check-in of a join wasn't accepted
pub unjoined : {D : Type 0} {g : Ghosts D} (x : SubmitError) (c d : Cluster D g) → (x ≢ submit.Fault → KeepsStores c d) → IfOk (unaccepted x) (λ r. KeepsUnlessJoined r c d)
unjoined x c d same = all_joined_too (unaccepted x) c d (keeps x c d same)

pub unjoined_stays : {D : Type 0} {g : Ghosts D} (x : SubmitError) (c d : Cluster D g) → (x ≢ submit.Fault → KeepsStores c d) → OnErr (unaccepted x) (KeepsTriggers c d)
unjoined_stays (submit.Closed at) c d same = tt
unjoined_stays (submit.Refused refusal) c d same = tt
unjoined_stays (submit.JournalFull need room) c d same = (same (λ is. cc)).0
unjoined_stays submit.NoMemory c d same = (same (λ is. cc)).0
unjoined_stays submit.Fault c d same = tt

-- A call that changes nothing keeps the stores, whatever it answers.
pub nothing_changes : {D : Type 0} {g : Ghosts D} (c : Cluster D g) → KeepsStores c c
nothing_changes c = (((refl, (refl, refl, refl, refl, refl), refl, refl, refl, refl, refl, refl), refl), (refl, (refl, refl, refl, refl, refl), refl, refl, refl, refl, refl, refl))

-- an entry that would be accepted, for which there is no memory
pub starves_here : {H E R : Type 0} (kind : EntryKind H E R) (e : E) (s : StoreState H E) → s.is_open ≡ true → IsOk (kind.answer s.history e) → Starves kind e s s
starves_here kind e s is_open passes =
    record { was_open = is_open; passes = passes; same = record { history = refl; gate = refl; payloads = refl; is_open = refl; undecided = refl; later = omega arith } }

pub same_here : {H E : Type 0} (s : StoreState H E) → Same s s
same_here s = record { history = refl; gate = refl; payloads = refl; is_open = refl; undecided = refl; later = omega arith }
