-- Which nodes hold an epoch after another's changed.
use Rattle.std.proofs.Common.{◌≡◌, ℕ, Bool, true, false, ◌&&◌, List, Option, Some, None, is_some, refl, ap, ◌∙◌}
use Rattle.std.specs.Prelude.{is_none, if◌then◌else◌}
use Rattle.qz_types.specs.Rows.{MemberData}
use Rattle.qz_types.specs.Tables.{SchedulerTables}
use Rattle.qz_types.specs.Words.{same_text, member_of, put_member, without_member}
use Rattle.qz_types.specs.declared.replies.Refusal.{Refusal}
use Rattle.qz_types.specs.declared.replies.Refusal.TheVariants.{Fenced}
use Rattle.qz_types.specs.declared.replies.Reply.{Reply}
use Rattle.qz_types.specs.declared.replies.Reply.TheVariants as reply
use Rattle.qz_model.proofs.LookUps.{row_of-put}
use Rattle.qz_model.proofs.NamedRows.{same_text_laws}
use Rattle.qz_model.specs.Membership.{live_epoch, is_live}
use Rattle.qz_model.proofs.RowLaws.{member_of-put_member, member_of-without_member}
use Rattle.qz_types.specs.Words.{text_cmp}
use Rattle.qz_cluster.specs.Asking.{may_resume, resume_refusal, held_after_resume}
use Rattle.qz_cluster.specs.Script.{hold, held_after_join}

pub hold-other : (node other : List ℕ) (epoch : ℕ) (held : List MemberData) → same_text node other ≡ false → member_of other (hold node epoch held) ≡ member_of other held
unfolding hold member_of put_member same_text
hold-other node other epoch held differ =
    row_of-put text_cmp (λ r. r.node) other (record { node = node; epoch = epoch }) (without_member node held) (same_text_laws.symm other node ∙ differ)
    ∙ member_of-without_member node other held differ

pub join-other : (node other : List ℕ) (held : List MemberData) (r : Reply) → same_text node other ≡ false → member_of other (held_after_join node held r) ≡ member_of other held
join-other node other held (reply.Joined epoch executions triggers) differ = hold-other node other epoch held differ
join-other node other held r differ = refl

-- A node that goes on held none before.

allowed : (b : Bool) (x : Refusal) → ◌≡◌ {A = Option Refusal} (if b then None else Some x) None → b ≡ true
allowed true x is = refl
allowed false x is = absurd (cc)

held_none : (o : Option MemberData) (b : Bool) → is_none o && b ≡ true → o ≡ None
held_none None b is = refl
held_none (Some m) b is = let bad : false ≡ true = is in absurd (cc)

pub resume-none : (T : SchedulerTables) (held : List MemberData) (node : List ℕ) (epoch : ℕ) → resume_refusal T held node epoch ≡ None → member_of node held ≡ None
unfolding resume_refusal
resume-none T held node epoch is =
    held_none (member_of node held) (is_live epoch (live_epoch T node)) (allowed (may_resume T held node epoch) (Fenced (live_epoch T node)) is)

still_some : (o p : Option MemberData) → ((m : MemberData) → o ≡ Some m → p ≡ Some m) → is_some o ≡ true → is_some p ≡ true
still_some None p found some = let bad : false ≡ true = some in absurd (cc)
still_some (Some m) p found some = ap is_some (found m refl)

-- so each node that held one holds it still
pub resume-some : (node other : List ℕ) (epoch : ℕ) (held : List MemberData) → member_of node held ≡ None → is_some (member_of other held) ≡ true
    → is_some (member_of other (held_after_resume node epoch held)) ≡ true
resume-some node other epoch held none some =
    still_some (member_of other held) (member_of other (held_after_resume node epoch held))
    (λ m found. member_of-put_member other (record { node = node; epoch = epoch }) m held none found) some
