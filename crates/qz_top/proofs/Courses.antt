-- The steps that a load did, and what it left after them.
use Rattle.std.proofs.Common.{◌≡◌, ◌⊎◌, inl, inr, List, [], ◌∷◌, ◌++◌, Option, ℤ, false, refl, sym, ◌∙◌, subst}
use Rattle.std.specs.Prelude.{Err}
use Rattle.std.specs.List.{AllByRecursion}
use Rattle.qz_io.specs.Outside.{Outside}
use Rattle.qz_document.specs.declared.documents.Document.{Document}
use Rattle.qz_job_json.specs.declared.lines.Given.{Given}
use Rattle.qz_steps.specs.declared.steps.StepReply.{StepReply}
use Rattle.qz_types.specs.declared.commands.Command.{Command}
use Rattle.qz_cluster.specs.Script.{TimedStep}
use Rattle.qz_cluster.specs.Steps.{ClusterState, IsCutShort}
use Rattle.qz_cluster.specs.declared.errors.StepEnd.{StepEnd}
use Rattle.qz_cluster.proofs.Sound.{cut_sound}
use Rattle.qz_open.specs.Opened.{AreAlwaysAlone}
use Rattle.qz_open.specs.Runs.{IsStart}
use Rattle.qz_open.proofs.Runs.{always_alone}
use Rattle.qz_trigger_store.specs.Opening.{IsOpened}
use Rattle.qz_checkin.specs.Opening.{IsOpened as AreOpened}
use Rattle.qz_top.specs.Calls.{begun, HasSoundStores}
use Rattle.qz_top.specs.Clients.{given_command, client_steps, DidCommands}
use Rattle.qz_top.specs.LineOutcomes.{step_at, StepDone}
use Rattle.qz_top.specs.Loads.{AloneInLoad, AloneInDocument, DidDocument, Loads}
use Rattle.qz_top.specs.Resting.{MayBreak}
use Rattle.qz_top.specs.Trails.{RunState, RanSteps}
use Rattle.qz_top.specs.declared.line_handler.LineEnd.{LineEnd}
use Rattle.qz_top.specs.declared.line_handler.LineEnd.TheVariants as ends
use Rattle.qz_top.specs.declared.statuses.Status.{Status}
use Rattle.qz_top.proofs.RestLaws.{rests_may, rested_trail, rested_sound}
use Rattle.qz_top.proofs.RunLaws.{run_sound, last_sound}
use Rattle.qz_top.proofs.TrailLaws.{RanSteps-none, RanSteps-more}

-- a step that was cut short
pub record CutAt (honest : Type 0) (last after : RunState) : Type 0 where
  pub step : TimedStep
  pub stop : StepEnd
  pub is : IsCutShort honest step stop last.cluster after.cluster

-- nothing was done after the last answer, or a checkpoint was made, or a step was cut short
abbrev pub CourseEnd : Type 0 → RunState → RunState → Type 0
CourseEnd honest last after = (after.cluster ≡ last.cluster) ⊎ MayBreak last after ⊎ CutAt honest last after

-- steps that were done, and what was left after the last one
pub record Course (honest : Type 0) (before after : RunState) : Type 0 where
  pub steps : List TimedStep
  pub replies : List StepReply
  pub last : RunState
  pub ran : RanSteps honest steps replies before last
  pub trail : after.trail ≡ last.trail
  pub end : CourseEnd honest last after

module _ (honest : Type 0) (before : RunState) (not_own : before.is_own ≡ false) where
  all_course : (steps : List TimedStep) (replies : List StepReply) (after : RunState) → RanSteps honest steps replies before after → Course honest before after
  all_course steps replies after ran = record { steps = steps; replies = replies; last = after; ran = ran; trail = refl; end = inl refl }

  some_course : (end : LineEnd) (given : Given) (steps : List TimedStep) (replies : List StepReply) (between after : RunState) (old new : Outside) → RanSteps honest steps replies before between
      → StepDone honest (Err end) given between after old new → Course honest before after
  some_course (ends.Bad kind) given steps replies between after old new ran ended = absurd ended
  some_course ends.WriteFault given steps replies between after old new ran part =
      all_course (steps ++ step_at given part.at ∷ []) (replies ++ part.did.reply ∷ []) after (RanSteps-more honest steps _ replies _ before between after ran part.did.steps)
  some_course ends.Unanswered given steps replies between after old new ran part =
      all_course (steps ++ step_at given part.at ∷ []) (replies ++ part.did.reply ∷ []) after (RanSteps-more honest steps _ replies _ before between after ran part.did.steps)
  some_course ends.NoMemory given steps replies between after old new ran gave_up =
      record { steps = steps; replies = replies; last = between; ran = ran; trail = gave_up.nothing.trail; end = inl (gave_up.nothing.stays (ran.own ∙ not_own)) }
  some_course (ends.CutShort end) given steps replies between after old new ran cut =
      record { steps = steps; replies = replies; last = between; ran = ran; trail = cut.cut.trail; end = inr (inr (record { step = step_at given cut.at; stop = end; is = cut.cut.cut })) }

  document_course : (s : Status) (document : Document) (after : RunState) (old new : Outside) → DidDocument honest s document before after old new → Course honest before after
  document_course s document after old new (inl all) =
      let may = rests_may all.last after s all.rests in
      record { steps = _; replies = _; last = all.last; ran = all.did.steps; trail = rested_trail all.last after may; end = inr (inl may) }
  document_course s document after old new (inr first) = some_course first.end (given_command document.at first.did.next) _ _ first.did.between after _ _ first.did.did.steps first.did.ended

  -- a load is a course
  pub load_course : (s : Status) (after : RunState) (old new : Outside) → Loads honest s before after old new → Course honest before after
  load_course s after old new (inl none) = subst (Course honest before) (sym none.same) (all_course [] [] before (RanSteps-none before))
  load_course s after old new (inr loaded) = document_course s loaded.document after _ _ loaded.did

-- Legal histories, valid tables and valid rows.
module _ (honest : Type 0) (S : ClusterState) (after : RunState) (opened : IsOpened S.triggers) (states_opened : AreOpened S.states) (course : Course honest (begun false S) after) where
  states_sound_in : AllByRecursion HasSoundStores course.ran.states
  states_sound_in = run_sound honest S _ course.replies course.ran.states course.ran.done (opened.sound, states_opened.sound)

  pub sound_in : AllByRecursion HasSoundStores after.trail
  sound_in = subst (AllByRecursion HasSoundStores) (sym (course.trail ∙ course.ran.trail)) ((opened.sound, states_opened.sound), states_sound_in)

  last_sound_in : HasSoundStores course.last.cluster
  last_sound_in = subst HasSoundStores (sym course.ran.last) (last_sound S course.ran.states (opened.sound, states_opened.sound) states_sound_in)

  pub sound_in_end : HasSoundStores after.cluster
  sound_in_end = left_sound course.end where
    left_sound : CourseEnd honest course.last after → HasSoundStores after.cluster
    left_sound (inl same) = subst HasSoundStores (sym same) last_sound_in
    left_sound (inr (inl may)) = rested_sound course.last after may last_sound_in
    left_sound (inr (inr cut)) = cut_sound honest cut.step cut.stop course.last.cluster after.cluster cut.is last_sound_in

-- Open executions.
module _ (honest : Type 0) (S : ClusterState) (start : IsStart S) where
  commands_alone : (at : Option ℤ) (commands : List Command) (after : RunState) (old new : Outside) (did : DidCommands honest at commands (begun false S) after old new)
      → AreAlwaysAlone [] (client_steps commands did.moments) did.replies
  commands_alone at commands after old new did = always_alone honest S (client_steps commands did.moments) did.replies did.steps.states start did.steps.done

  document_alone : (s : Status) (document : Document) (after : RunState) (old new : Outside) (did : DidDocument honest s document (begun false S) after old new) → AloneInDocument did
  document_alone s document after old new (inl all) = commands_alone _ _ _ _ _ all.did
  document_alone s document after old new (inr first) = commands_alone _ _ _ _ _ first.did.did

  pub load_alone : (s : Status) (after : RunState) (old new : Outside) (loads : Loads honest s (begun false S) after old new) → AloneInLoad loads
  load_alone s after old new (inl none) = tt
  load_alone s after old new (inr loaded) = document_alone s loaded.document after _ _ loaded.did
