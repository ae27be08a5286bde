-- What a run came to where the disks tell what they hold, it came to where something else says that they do.
use Rattle.std.proofs.Common.{◌⊎◌, inl, inr, ℕ, ℤ, List, [], ◌∷◌, Option}
use Rattle.std.specs.Prelude.{Result, Err}
use Rattle.qz_document.specs.declared.documents.Document.{Document}
use Rattle.qz_io.specs.Outside.{Outside}
use Rattle.qz_job_json.specs.declared.lines.Given.{Given}
use Rattle.qz_types.specs.declared.commands.Command.{Command}
use Rattle.qz_steps.specs.declared.steps.StepReply.{StepReply}
use Rattle.qz_cluster.specs.Script.{TimedStep}
use Rattle.qz_cluster.specs.Steps.{ClusterState}
use Rattle.qz_cluster.specs.declared.errors.StepEnd.{StepEnd}
use Rattle.qz_cluster.proofs.Under.{step_under, cut_under}
use Rattle.qz_open.specs.Runs.{StepsDone}
use Rattle.qz_top.specs.Clients.{client_steps, given_command, DidCommands, DidSome}
use Rattle.qz_top.specs.LineOutcomes.{step_at, DidStep, WasCut, StepPart, StepDone}
use Rattle.qz_top.specs.Loads.{DidDocument, Loads}
use Rattle.qz_top.specs.Runs.{EndsShort, EndsRun, IsRun}
use Rattle.qz_top.specs.Trails.{RunState, RanSteps}
use Rattle.qz_top.specs.declared.line_handler.LineEnd.{LineEnd}
use Rattle.qz_top.specs.declared.line_handler.LineEnd.TheVariants as line
use Rattle.qz_top.specs.declared.statuses.Status.{Status}
use Rattle.qz_top.specs.declared.statuses.Status.TheVariants as status

module _ (P Q : Type 0) (tells : P → ∥ Q ∥₁) where
  pub steps_under : (S : ClusterState) (ts : List TimedStep) (rs : List StepReply) (states : List ClusterState) → StepsDone Q S ts rs states → StepsDone P S ts rs states
  steps_under S [] [] [] done = done
  steps_under S (t ∷ ts) (r ∷ rs) (S' ∷ states) done = (step_under P Q tells t S S' r done.0, steps_under S' ts rs states done.1)
  steps_under S [] (r ∷ rs) states done = absurd done
  steps_under S [] [] (x ∷ states) done = absurd done
  steps_under S (t ∷ ts) [] states done = absurd done
  steps_under S (t ∷ ts) (r ∷ rs) [] done = absurd done

  pub ran_under : (ts : List TimedStep) (rs : List StepReply) (before after : RunState) → RanSteps Q ts rs before after → RanSteps P ts rs before after
  ran_under ts rs before after ran = record {
    states = ran.states;
    done = steps_under before.cluster ts rs ran.states ran.done;
    last = ran.last;
    trail = ran.trail;
    own = ran.own;
    no_fault = ran.no_fault;
  }

  pub was_cut_under : (t : TimedStep) (e : StepEnd) (before after : RunState) → WasCut Q t e before after → WasCut P t e before after
  was_cut_under t e before after was = record { cut = cut_under P Q tells t before.cluster after.cluster e was.cut; trail = was.trail; own = was.own }

  short_under : (e : StepEnd) (left : Option (List ℕ)) (lines : List (List ℕ)) (more : List ℤ) (last after : RunState) → EndsShort Q e left lines more last after → EndsShort P e left lines more last after
  short_under e left lines more last after short = record {
    line = short.line;
    next = short.next;
    given = short.given;
    meaning = short.meaning;
    at = short.at;
    own = short.own;
    read = short.read;
    cut = was_cut_under (step_at short.given short.at) e last after short.cut;
  }

  end_under : (s : Status) (left : Option (List ℕ)) (lines : List (List ℕ)) (more : List ℤ) (last after : RunState) → EndsRun Q s left lines more last after → EndsRun P s left lines more last after
  end_under (status.NotAStore store) left lines more last after end = short_under _ left lines more last after end
  end_under (status.Damaged store at) left lines more last after end = short_under _ left lines more last after end
  end_under (status.JournalFull need room) left lines more last after end = short_under _ left lines more last after end
  end_under status.NoMemory left lines more last after (inl nothing) = inl nothing
  end_under status.NoMemory left lines more last after (inr short) = inr (short_under _ left lines more last after short)
  end_under status.Ok left lines more last after end = end
  end_under (status.BadWords fault) left lines more last after end = end
  end_under (status.BadLine line kind) left lines more last after end = end
  end_under status.ReadFault left lines more last after end = end
  end_under status.WriteFault left lines more last after end = end
  end_under status.DiskFault left lines more last after end = end
  end_under status.Exists left lines more last after end = end
  end_under (status.Budget firings) left lines more last after end = end
  end_under (status.TooMany count) left lines more last after end = end
  end_under status.Fenced left lines more last after end = end
  end_under status.OldStore left lines more last after end = end
  end_under (status.BadStream at) left lines more last after end = end

  pub run_under : (s : Status) (before after : RunState) (old new : Outside) (lines : List (List ℕ)) (readings : List ℤ) (replies : List StepReply)
      → IsRun Q s before after old new lines readings replies → IsRun P s before after old new lines readings replies
  run_under s before after old new lines readings replies run = record {
    called = run.called;
    good = run.good;
    last = run.last;
    steps = ran_under _ replies before run.last run.steps;
    clocked = run.clocked;
    end = end_under s old.left lines run.clocked.more run.last after run.end;
    closed = run.closed;
    reads = run.reads;
    writes = run.writes;
    hands_on = run.hands_on;
  }

  -- Of a load.

  did_step_under : (given : Given) (at : ℤ) (before after : RunState) (old new : Outside) → DidStep Q given at before after old new → DidStep P given at before after old new
  did_step_under given at before after old new did =
      record { own = did.own; told = did.told; reply = did.reply; steps = ran_under (step_at given at ∷ []) (did.reply ∷ []) before after did.steps }

  part_under : (given : Given) (before after : RunState) (old new : Outside) → StepPart Q given before after old new → StepPart P given before after old new
  unfolding did_step_under
  part_under given before after old new part =
      record { at = part.at; did = did_step_under given part.at before after old new part.did; count = part.count; part = part.part; written = part.written }

  ended_under : (end : LineEnd) (given : Given) (before after : RunState) (old new : Outside) → StepDone Q (Err end) given before after old new → StepDone P (Err end) given before after old new
  ended_under (line.Bad kind) given before after old new done = done
  ended_under line.WriteFault given before after old new done = part_under given before after old new done
  ended_under line.Unanswered given before after old new done = part_under given before after old new done
  ended_under line.NoMemory given before after old new done = done
  ended_under (line.CutShort end) given before after old new done =
      record { at = done.at; own = done.own; told = done.told; kept = done.kept; cut = was_cut_under (step_at given done.at) end before after done.cut }

  commands_under : (at : Option ℤ) (commands : List Command) (before after : RunState) (old new : Outside) → DidCommands Q at commands before after old new → DidCommands P at commands before after old new
  commands_under at commands before after old new did = record {
    moments = did.moments;
    count = did.count;
    own = did.own;
    told = did.told;
    replies = did.replies;
    steps = ran_under (client_steps commands did.moments) did.replies before after did.steps;
    written = did.written;
  }

  some_under : (end : LineEnd) (at : Option ℤ) (commands : List Command) (before after : RunState) (old new : Outside) → DidSome Q end at commands before after old new → DidSome P end at commands before after old new
  some_under end at commands before after old new some = record {
    done = some.done;
    next = some.next;
    left = some.left;
    all = some.all;
    between = some.between;
    then = some.then;
    did = commands_under at some.done before some.between old some.then some.did;
    ended = ended_under end (given_command at some.next) some.between after some.then new some.ended;
  }

  document_under : (s : Status) (document : Document) (before after : RunState) (old new : Outside) → DidDocument Q s document before after old new → DidDocument P s document before after old new
  document_under s document before after old new (inl all) = inl (record {
    then = all.then;
    last = all.last;
    did = commands_under document.at document.commands before all.last old all.then all.did;
    rests = all.rests;
    asked_no_more = all.asked_no_more;
    faults = all.faults;
    faults_now = all.faults_now;
    finishes = all.finishes;
  })
  document_under s document before after old new (inr first) = inr (record {
    end = first.end;
    status_is = first.status_is;
    then = first.then;
    did = some_under first.end document.at document.commands before after old first.then first.did;
    wrote_no_more = first.wrote_no_more;
    asked_no_more = first.asked_no_more;
  })

  pub loads_under : (s : Status) (before after : RunState) (old new : Outside) → Loads Q s before after old new → Loads P s before after old new
  loads_under s before after old new (inl none) = inl none
  loads_under s before after old new (inr loaded) =
      inr (record { document = loaded.document; had = loaded.had; did = document_under s loaded.document before after _ _ loaded.did })
