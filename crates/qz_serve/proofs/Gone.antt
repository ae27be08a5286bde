-- Nodes that are gone, and what is due.
use Rattle.std.proofs.Common.{◌≡◌, ℕ, List, [], true, false, option_copied, Bor, sym, ap, ◌∙◌, subst, refl}
use Rattle.std.proofs.lemmas.Bool.{false_from_ne_true}
use Rattle.std.specs.Prelude.{Option, Some, None, Bool, not, is_some, IsSomeAnd}
use Rattle.qz_types.specs.Rows.{StateData}
use Rattle.qz_types.specs.Tables.{SchedulerTables}
use Rattle.qz_types.specs.Words.{member_of, same_text}
use Rattle.qz_model.specs.History.{replay}
use Rattle.qz_model.specs.Invariant.{TablesValid}
use Rattle.qz_model.proofs.Changes.{HasMember}
use Rattle.qz_model.proofs.RowPoints.{All-weaker}
use Rattle.qz_model.proofs.RowLaws.{member_of-alike}
use Rattle.qz_checkin.specs.History.{replay_states}
use Rattle.qz_checkin.specs.Rows.{state_of}
use Rattle.qz_seen.specs.Seen.{rows_of}
use Rattle.qz_seen.proofs.NodeRows.{IsOthers, rows-none}
use Rattle.qz_cluster.specs.Steps.{ClusterState}
use Rattle.qz_serve.specs.Courses.{IsGone}

-- a node that is no member has no fired rows
no_rows : (T : SchedulerTables) (node : List ℕ) → TablesValid T → member_of node T.members ≡ None → rows_of node T.fired ≡ []
no_rows T node valid absent = rows-none node T.fired (All-weaker (HasMember T.members) (IsOthers node) T.fired (λ f has. false_from_ne_true (same_text node f.node) (λ same.
    let found : member_of f.node T.members ≡ None = sym (member_of-alike node f.node T.members same) ∙ absent in
    subst (λ o. IsSomeAnd o (λ m. m.epoch ≡ f.epoch)) found has)) valid.rows_of_members.rows)

none_by : {A : Type 0} (o : Option A) → is_some o ≡ false → o ≡ None
none_by None is = refl
none_by (Some a) is = absurd (cc)

-- a copy is there where what it copies is
pub copied_some : {A : Type 0} (o : Option (Bor A)) → is_some (option_copied o) ≡ is_some o
copied_some None = refl
copied_some (Some a) = refl

-- what was looked up isn't there
pub absent_by : (o copied : Option StateData) → copied ≡ o → (b : Bool) → is_some copied ≡ not b → b ≡ true → o ≡ None
absent_by o copied same b some is = sym same ∙ none_by copied (some ∙ ap not is)

pub gone_by : (S : ClusterState) (name : List ℕ) → TablesValid (replay S.triggers.history) → is_some (member_of name (replay S.triggers.history).members) ≡ false → state_of name (replay_states S.states.history).rows ≡ None → IsGone S name
gone_by S name valid member row =
    let absent = none_by _ member in
    record { no_member = absent; no_row = row; holds_none = no_rows (replay S.triggers.history) name valid absent }
