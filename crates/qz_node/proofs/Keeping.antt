-- What a turn keeps of its time, and of being fenced, whatever it hears.
use Rattle.std.proofs.Common.{◌≡◌, ℤ, Bool, true, false, ◌||◌, [], ◌∷◌, refl, if◌then◌else◌}
use Rattle.std.specs.Prelude.{Option, Some, None}
use Rattle.qz_types.specs.declared.replies.Reply.{Reply}
use Rattle.qz_types.specs.declared.replies.Reply.TheVariants as reply
use Rattle.qz_node.specs.declared.turns.Held.{Held}
use Rattle.qz_node.specs.declared.turns.Heard.{Heard}
use Rattle.qz_node.specs.declared.turns.Heard.TheVariants as hears
use Rattle.qz_node.specs.Turns.{TurnData, learnt, learnt_reply, refused_with, ends_at_refusal, ended, is_fenced}
use Rattle.qz_node.specs.TurnRuns.{is_fencing}

-- its time, and whether it was fenced
pub record Keeps (turn : TurnData) (end : ℤ) (was : Bool) : Type 0 where
  pub until : turn.until ≡ end
  pub fenced : turn.fenced ≡ was

reply_keeps : (t : TurnData) (r : Reply) → Keeps (learnt_reply t r) t.until t.fenced
reply_keeps t (reply.Misfired []) = record { until = refl; fenced = refl }
reply_keeps t (reply.Misfired (m ∷ ms)) = record { until = refl; fenced = refl }
reply_keeps t (reply.Acquired []) = record { until = refl; fenced = refl }
reply_keeps t (reply.Acquired (x ∷ xs)) = record { until = refl; fenced = refl }
reply_keeps t other = record { until = refl; fenced = refl }

ended_keeps : (t : TurnData) (b : Bool) → Keeps (if b then ended t else t) t.until t.fenced
ended_keeps t true = record { until = refl; fenced = refl }
ended_keeps t false = record { until = refl; fenced = refl }

refused_keeps : (t : TurnData) (h : Option Held) → Keeps (refused_with h t) t.until t.fenced
refused_keeps t None = record { until = refl; fenced = refl }
refused_keeps t (Some held) = ended_keeps t (ends_at_refusal held.last)

pub heard_keeps : (t : TurnData) (h : Heard) → Keeps (learnt t h) t.until (is_fencing h || t.fenced)
heard_keeps t (hears.Reply r) = reply_keeps t r.now
heard_keeps t (hears.Refused r) = refused_keeps (record t { fenced = is_fenced r.now || t.fenced }) t.held
heard_keeps t (hears.Executed entry code) = record { until = refl; fenced = refl }
heard_keeps t hears.Rested = record { until = refl; fenced = refl }

-- what is heard doesn't change the time
pub until_kept : (t : TurnData) (h : Heard) → (learnt t h).until ≡ t.until
until_kept t h = (heard_keeps t h).until
