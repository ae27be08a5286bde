-- What a job is told.
use Rattle.std.specs.Prelude.{Bool, Option, Some, None, codes}
use Rattle.std.specs.Str.{bytes_eq}
use Rattle.qz_types.specs.declared.keys.Key.{Key}
use Rattle.qz_types.specs.declared.replies.Reply.{Reply}
use Rattle.qz_types.specs.declared.replies.Reply.TheVariants.{Fired}
use Rattle.qz_node.specs.declared.contexts.JobContext.{JobContext}

-- the trigger was added for a lost execution
abbrev pub is_recovery : Key → Bool
is_recovery trigger = bytes_eq trigger.group (codes "RECOVERING_JOBS")

-- what the job is told at the first execution after this reply
abbrev pub context_of : Reply → Option JobContext
context_of (Fired entry scheduled fired next trigger job) = Some (record {
  job = job;
  trigger = trigger;
  entry = entry;
  scheduled = scheduled;
  fired = fired;
  recovering = is_recovery trigger;
  refires = 0;
})
context_of other = None
