-- The headline of a call that did steps.
use Rattle.std.proofs.Common.{◌≡◌, ◌⊎◌, inl, inr, ◌≤◌, ℕ, ℤ, List, [], ◌∷◌, ◌++◌, length, take, drop, Option, Bool, true, false, refl, sym, ap, ◌∙◌, subst, arith, append_assoc, append-nil}
use Rattle.std.proofs.lemmas.List.{take-append-drop}
use Rattle.std.proofs.KnownBytes.{Appends-nil, Appends-trans}
use Rattle.std.specs.Prelude.{⊤, Ok, Err, None}
use Rattle.std.specs.List.{AllByRecursion}
use Rattle.std.specs.Io.KnownBytes.{Appends}
use Rattle.qz_disk.specs.declared.disk.Disk.{Ghosts}
use Rattle.qz_document.specs.declared.documents.Document.{Document}
use Rattle.qz_io.specs.Handlers.{IfKnown}
use Rattle.qz_io.specs.Outside.{Outside, only_output}
use Rattle.qz_io.proofs.TakenLaws.{AllByRecursion-append}
use Rattle.qz_document.specs.Document.{document_meaning}
use Rattle.qz_report.specs.Replies.{reply_text}
use Rattle.qz_model.proofs.RowPoints.{All-both}
use Rattle.qz_types.specs.declared.commands.Command.{Command}
use Rattle.qz_steps.specs.declared.steps.StepReply.{StepReply}
use Rattle.qz_trigger_store.specs.Bytes.{Whole}
use Rattle.qz_trigger_store.specs.Opening.{IsOpened}
use Rattle.qz_checkin.specs.Bytes.{Whole as WholeRows}
use Rattle.qz_checkin.specs.Laws.{state_lawful}
use Rattle.qz_checkin.specs.Opening.{IsOpened as AreOpened}
use Rattle.qz_cluster.specs.Script.{TimedStep}
use Rattle.qz_cluster.specs.Steps.{ClusterState, is_closed}
use Rattle.qz_open.specs.Runs.{IsStart, StepsDone}
use Rattle.qz_open.proofs.Runs.{always_alone, always_spares}
use Rattle.qz_top.specs.Calls.{begun, HasSoundStores, RecoversLosses, RanInMemory, RanOnDisk, LoadedOnDisk}
use Rattle.qz_top.specs.Clients.{client_steps, given_command, DidSome}
use Rattle.qz_top.specs.Found.{IsTold, HoldWhole}
use Rattle.qz_top.specs.Headline.{AlongHistories, Headline, HeadlineInMemory}
use Rattle.qz_top.specs.HeadlineByWords.{LinesAsk, AreFirst, DocumentAsks}
use Rattle.qz_top.specs.LineOutcomes.{IsOwn, step_at, StepPart, StepDone}
use Rattle.qz_top.specs.Lines.{steps_of}
use Rattle.qz_top.specs.Loads.{CauseOfNone, HadNone, DidAll, DidFirst, DidDocument, Loaded, Loads, no_input}
use Rattle.qz_top.specs.Runs.{IsRun, WrotePart}
use Rattle.qz_top.specs.Standing.{IsInOrder}
use Rattle.qz_top.specs.Statuses.{status_at, Finishes}
use Rattle.qz_top.specs.Trails.{texts, last_of, RunState, RanSteps, new_cluster}
use Rattle.qz_top.specs.declared.ended.Ended.{Ended}
use Rattle.qz_top.specs.declared.line_handler.LineEnd.{LineEnd}
use Rattle.qz_top.specs.declared.line_handler.LineEnd.TheVariants as ends
use Rattle.qz_top.specs.declared.statuses.Status.{Status}
use Rattle.qz_top.specs.declared.statuses.Status.TheVariants as status
use Rattle.qz_top.proofs.AloneLaws.{new_start}
use Rattle.qz_top.proofs.ClientLaws.{steps_one}
use Rattle.qz_top.proofs.GrowingLaws.{HaveEnds, loses_nothing, ends_found, new_ends}
use Rattle.qz_top.proofs.LoadLaws.{end_no_fault}
use Rattle.qz_top.proofs.LossLaws.{steps_recover, cut_keeps, end_keeps}
use Rattle.qz_top.proofs.OpenedLaws.{opened_ready, end_trail}
use Rattle.qz_top.proofs.RestLaws.{rests_may, rested_history, rested_trail}
use Rattle.qz_top.proofs.RunLaws.{run_plain_first, run_sound}
use Rattle.qz_top.proofs.StandingLaws.{shown_kept}
use Rattle.qz_top.proofs.StopLaws.{at_not_ok}
use Rattle.qz_top.proofs.TrailLaws.{RanSteps-none, RanSteps-more}

-- Steps on stores that were just opened.
pub along_of : (told : Type 0) (S : ClusterState) (ts : List TimedStep) (rs : List StepReply) (states : List ClusterState) → IsOpened S.triggers → AreOpened S.states → S.held ≡ [] → StepsDone told S ts rs states
    → (told → HaveEnds S) → AlongHistories told S ts rs states
along_of told S ts rs states opened states_opened held done ends =
    let start : IsStart S = record { opened = opened; held = held } in
    record {
      one_history = done;
      nothing_lost = λ is. loses_nothing told is S ts rs states done (ends is);
      plain = λ first rest is on no_fault. run_plain_first told S ts first rest states (subst (λ (xs : List StepReply). StepsDone told S ts xs states) is done) (opened_ready S opened states_opened) on no_fault;
      in_order = All-both HasSoundStores RecoversLosses IsInOrder (S ∷ states) (λ T sound recovered. record { sound = sound; recovered = recovered })
          ((opened.sound, states_opened.sound), run_sound told S ts rs states done (opened.sound, states_opened.sound)) (steps_recover told S ts rs states opened done);
      alone = always_alone told S ts rs states start done;
      spared = always_spares told S ts rs states start done;
    }

-- A script.

pub script_headline : {D : Type 0} {g : Ghosts D} (triggers states : D) (e : Ended D g) (old new : Outside) → RanOnDisk triggers states e old new → Headline (LinesAsk e.status old new) triggers states e
script_headline {g = g} triggers states e old new ran =
    let run = ran.run in
    record {
      steps = steps_of ran.lines ran.readings;
      replies = ran.replies;
      asks = record { lines = ran.lines; good = run.good; readings = ran.readings; steps_are = refl; reads = run.reads; clocked = run.clocked; writes = run.writes; hands_on = run.hands_on };
      opened = ran.opened;
      were_opened = record { are_opened = ran.are_opened; nothing_held = ran.nothing_held; found = ran.found; no_earlier = ran.no_earlier };
      later = run.steps.states;
      along = along_of (IsTold g triggers) ran.opened _ ran.replies run.steps.states ran.are_opened.0 ran.are_opened.1 ran.nothing_held run.steps.done (ends_found g triggers states ran.opened ran.found);
      shown = ran.trail_is ∙ end_trail (IsTold g triggers) e.status old.left ran.lines run.clocked.more run.last ran.end run.end ∙ run.steps.trail;
      end = ran.end.cluster;
      end_is = end_keeps (IsTold g triggers) e.status old.left ran.lines run.clocked.more run.last ran.end run.end ∙ ap (λ (S : ClusterState). S.triggers.history) run.steps.last;
      end_in_order = record { sound = ran.sound_end; recovered = ran.recovered_end };
      outlasts = record {
        faults = ran.faults;
        at_end = ran.images;
        any_moment = λ w v held. ∣ shown_kept triggers states e.triggers e.states w v e.trail.on_disk.value.items ran.end.cluster (ran.opening held.honest) (ran.any_moment w v held) ∣₁;
      };
      each_kept = ran.any_moment;
    }

new_states_opened : (m n : ℕ) → AreOpened (new_cluster m n).states
new_states_opened m n = record {
  is_open = refl;
  settled = refl;
  sound = record {
    version = 2;
    begins = λ _. record { known = refl; count = refl; base = refl };
    base = state_lawful.valid_new 2 refl;
    legal = tt;
    state = state_lawful.valid_new 2 refl;
    counted = λ _. omega arith;
  };
  valid = tt;
}

pub memory_headline : (s : Status) (trail : List ClusterState) (old new : Outside) → RanInMemory s trail old new → HeadlineInMemory (LinesAsk s old new) trail
memory_headline s trail old new ran =
    let run = ran.run in
    let m = ran.triggers_faults in
    let n = ran.states_faults in
    record {
      steps = steps_of ran.lines ran.readings;
      replies = ran.replies;
      asks = record { lines = ran.lines; good = run.good; readings = ran.readings; steps_are = refl; reads = run.reads; clocked = run.clocked; writes = run.writes; hands_on = run.hands_on };
      plain = ran.plain;
      triggers_faults = m;
      states_faults = n;
      later = run.steps.states;
      along = along_of ⊤ (new_cluster m n) _ ran.replies run.steps.states (new_start m n).opened (new_states_opened m n) refl run.steps.done (λ is. new_ends m n);
      shown = ran.trail_is ∙ end_trail ⊤ s old.left ran.lines run.clocked.more run.last ran.end run.end ∙ run.steps.trail;
    }

-- A load: which steps it did, and what it wrote.

-- the steps, and what the call left after them
record Read (honest : Type 0) (s : Status) (before after : RunState) (old new : Outside) : Type 0 where
  pub steps : List TimedStep
  pub replies : List StepReply
  pub last : RunState
  pub ran : RanSteps honest steps replies before last
  pub trail : after.trail ≡ last.trail
  pub history : after.cluster.triggers.history ≡ last.cluster.triggers.history
  pub asks : DocumentAsks s old new steps replies

-- All replies were written.
wrote_all : (old new : Option (List ℕ)) (replies : List StepReply) → Appends old new (texts replies) → WrotePart old new replies
wrote_all old new replies wrote = record {
  kept = replies;
  last = [];
  cut = sym (append-nil replies);
  one = omega arith;
  part = [];
  rest = [];
  text = refl;
  written = subst (Appends old new) (sym (append-nil (texts replies))) wrote;
}

-- and a part of one more
wrote_one : (old mid new : Option (List ℕ)) (replies : List StepReply) (r : StepReply) (count : ℕ) → Appends old mid (texts replies) → Appends mid new (take count (reply_text r)) → WrotePart old new (replies ++ r ∷ [])
wrote_one old mid new replies r count wrote part = record {
  kept = replies;
  last = r ∷ [];
  cut = refl;
  one = omega arith;
  part = take count (reply_text r);
  rest = drop count (reply_text r);
  text = append-nil (reply_text r) ∙ sym (take-append-drop count (reply_text r));
  written = Appends-trans old mid new (texts replies) (take count (reply_text r)) wrote part;
}

-- nothing more was written
wrote_still : (old mid new : Option (List ℕ)) (text : List ℕ) → Appends old mid text → Appends mid new [] → Appends old new text
wrote_still old mid new text wrote none = subst (Appends old new) (append-nil text) (Appends-trans old mid new text [] wrote none)

finishes_none : (s : Status) (closed : Bool) (old new : Outside) (faults faults_now : ℕ) → Finishes s closed old new faults faults_now → Appends old.held new.held []
finishes_none status.Ok closed old new faults faults_now finishes = finishes.1.0
finishes_none status.DiskFault closed old new faults faults_now finishes = finishes.1.0
finishes_none status.WriteFault closed old new faults faults_now finishes = finishes.0
finishes_none status.NoMemory closed old new faults faults_now finishes = finishes
finishes_none (status.BadWords fault) closed old new faults faults_now finishes = absurd finishes
finishes_none (status.BadLine line kind) closed old new faults faults_now finishes = absurd finishes
finishes_none status.ReadFault closed old new faults faults_now finishes = absurd finishes
finishes_none (status.NotAStore store) closed old new faults faults_now finishes = absurd finishes
finishes_none (status.Damaged store at) closed old new faults faults_now finishes = absurd finishes
finishes_none (status.JournalFull need room) closed old new faults faults_now finishes = absurd finishes
finishes_none status.Exists closed old new faults faults_now finishes = absurd finishes
finishes_none (status.Budget firings) closed old new faults faults_now finishes = absurd finishes
finishes_none (status.TooMany count) closed old new faults faults_now finishes = absurd finishes
finishes_none status.Fenced closed old new faults faults_now finishes = absurd finishes
finishes_none status.OldStore closed old new faults faults_now finishes = absurd finishes
finishes_none (status.BadStream at) closed old new faults faults_now finishes = absurd finishes

-- a load that stopped early ended with neither status
not_whole : (s : Status) (end : LineEnd) → s ≡ status_at 0 end → (s ≡ status.Ok) ⊎ (s ≡ status.DiskFault) → ⊥
not_whole s end is (inl ok) = at_not_ok 0 end (sym is ∙ ok)
not_whole s end is (inr fault) = end_no_fault end (sym fault ∙ is)

module _ (honest : Type 0) (before : RunState) (not_own : before.is_own ≡ false) where
  read_none : (s : Status) (after : RunState) (old new : Outside) → HadNone s before after old new → Read honest s before after old new
  read_none s after old new none = record {
    steps = [];
    replies = [];
    last = before;
    ran = RanSteps-none before;
    trail = ap (λ (r : RunState). r.trail) none.same;
    history = ap (λ (r : RunState). r.cluster.triggers.history) none.same;
    asks = record {
      at = None;
      done = [];
      left = [];
      document = inl refl;
      all = λ is. refl;
      moments = [];
      own = tt;
      steps_are = refl;
      writes = wrote_all old.held new.held [] none.kept;
    };
  }

  module _ (s : Status) (document : Document) (after : RunState) (old new : Outside) (had : IfKnown old.left (λ bytes. document_meaning bytes ≡ Ok document)) where
    read_all : DidAll honest s document before after (no_input old) (no_input new) → Read honest s before after old new
    read_all all =
        let may = rests_may all.last after s all.rests in
        record {
          steps = client_steps document.commands all.did.moments;
          replies = all.did.replies;
          last = all.last;
          ran = all.did.steps;
          trail = rested_trail all.last after may;
          history = rested_history all.last after may;
          asks = record {
            at = document.at;
            done = document.commands;
            left = [];
            document = inr (document, had, refl, sym (append-nil document.commands));
            all = λ is. refl;
            moments = all.did.moments;
            own = all.did.own;
            steps_are = refl;
            writes = wrote_all old.held new.held all.did.replies (wrote_still old.held all.then.held new.held _ all.did.written (finishes_none s (is_closed after.cluster) (only_output all.then) (only_output new) all.faults all.faults_now all.finishes));
          };
        }

    -- the next command was done, and a part of its reply was written
    read_part : (end : LineEnd) (then : Outside) → s ≡ status_at 0 end → (some : DidSome honest end document.at document.commands before after (no_input old) then) → Appends then.held new.held []
        → (part : StepPart honest (given_command document.at some.next) some.between after some.then then) → Read honest s before after old new
    read_part end then is some more part = record {
      steps = client_steps some.done some.did.moments ++ step_at (given_command document.at some.next) part.at ∷ [];
      replies = some.did.replies ++ part.did.reply ∷ [];
      last = after;
      ran = RanSteps-more honest (client_steps some.done some.did.moments) _ some.did.replies _ before some.between after some.did.steps part.did.steps;
      trail = refl;
      history = refl;
      asks = record {
        at = document.at;
        done = some.done ++ some.next ∷ [];
        left = some.left;
        document = inr (document, had, refl, some.all ∙ sym (append_assoc some.done (some.next ∷ []) some.left));
        all = λ whole. absurd (not_whole s end is whole);
        moments = some.did.moments ++ part.at ∷ [];
        own = AllByRecursion-append (IsOwn document.at) some.did.moments (part.at ∷ []) some.did.own (part.did.own, tt);
        steps_are = sym (steps_one some.done some.next some.did.moments part.at some.did.count);
        writes = wrote_one old.held some.then.held new.held some.did.replies part.did.reply part.count some.did.written (wrote_still some.then.held then.held new.held _ part.written more);
      };
    }

    -- it wasn't done, and nothing was written
    read_some : (end : LineEnd) (then : Outside) → s ≡ status_at 0 end → (some : DidSome honest end document.at document.commands before after (no_input old) then) → Appends then.held new.held []
        → Appends some.then.held then.held [] → after.trail ≡ some.between.trail → after.cluster.triggers.history ≡ some.between.cluster.triggers.history → Read honest s before after old new
    read_some end then is some more none trail history = record {
      steps = client_steps some.done some.did.moments;
      replies = some.did.replies;
      last = some.between;
      ran = some.did.steps;
      trail = trail;
      history = history;
      asks = record {
        at = document.at;
        done = some.done;
        left = some.next ∷ some.left;
        document = inr (document, had, refl, some.all);
        all = λ whole. absurd (not_whole s end is whole);
        moments = some.did.moments;
        own = some.did.own;
        steps_are = refl;
        writes = wrote_all old.held new.held some.did.replies (wrote_still old.held then.held new.held _ (wrote_still old.held some.then.held then.held _ some.did.written none) more);
      };
    }

    read_ended : (end : LineEnd) (then : Outside) → s ≡ status_at 0 end → (some : DidSome honest end document.at document.commands before after (no_input old) then) → Appends then.held new.held []
        → StepDone honest (Err end) (given_command document.at some.next) some.between after some.then then → Read honest s before after old new
    read_ended (ends.Bad kind) then is some more ended = absurd ended
    read_ended ends.WriteFault then is some more ended = read_part ends.WriteFault then is some more ended
    read_ended ends.Unanswered then is some more ended = read_part ends.Unanswered then is some more ended
    read_ended ends.NoMemory then is some more ended = read_some ends.NoMemory then is some more ended.kept ended.nothing.trail ended.nothing.history
    read_ended (ends.CutShort stop) then is some more ended =
        read_some (ends.CutShort stop) then is some more ended.kept ended.cut.trail (cut_keeps honest (step_at (given_command document.at some.next) ended.at) stop some.between.cluster after.cluster ended.cut.cut.case)

    read_document : DidDocument honest s document before after (no_input old) (no_input new) → Read honest s before after old new
    read_document (inl all) = read_all all
    read_document (inr first) = read_ended first.end first.then first.status_is first.did first.wrote_no_more first.did.ended

  read_load : (s : Status) (after : RunState) (old new : Outside) → Loads honest s before after old new → Read honest s before after old new
  read_load s after old new (inl none) = read_none s after old new none
  read_load s after old new (inr loaded) = read_document s loaded.document after old new loaded.had.meaning loaded.did

pub load_headline : {D : Type 0} {g : Ghosts D} (triggers states : D) (e : Ended D g) (old new : Outside) → LoadedOnDisk triggers states e old new → Headline (DocumentAsks e.status old new) triggers states e
load_headline {g = g} triggers states e old new ran =
    let did = read_load (IsTold g triggers) (begun false ran.opened) refl e.status ran.end old new ran.loads in
    record {
      steps = did.steps;
      replies = did.replies;
      asks = did.asks;
      opened = ran.opened;
      were_opened = record { are_opened = ran.are_opened; nothing_held = ran.nothing_held; found = ran.found; no_earlier = ran.no_earlier };
      later = did.ran.states;
      along = along_of (IsTold g triggers) ran.opened did.steps did.replies did.ran.states ran.are_opened.0 ran.are_opened.1 ran.nothing_held did.ran.done (ends_found g triggers states ran.opened ran.found);
      shown = ran.trail_is ∙ did.trail ∙ did.ran.trail;
      end = ran.end.cluster;
      end_is = did.history ∙ ap (λ (S : ClusterState). S.triggers.history) did.ran.last;
      end_in_order = record { sound = ran.sound_end; recovered = ran.recovered_end };
      outlasts = record {
        faults = ran.faults;
        at_end = ran.images;
        any_moment = λ w v held. ∣ shown_kept triggers states e.triggers e.states w v e.trail.on_disk.value.items ran.end.cluster (ran.opening held.honest) (ran.any_moment w v held) ∣₁;
      };
      each_kept = ran.any_moment;
    }
