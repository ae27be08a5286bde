-- What a commit needs of the entry, and what it leaves.
use Rattle.std.proofs.Common.{◌≡◌, ◌&&◌, Bool, true, false, ℕ, List, IsTrue, refl, subst}
use Rattle.std.proofs.Math.Logic.{∥∥₁_map}
use Rattle.qz_types.specs.Entries.{EntryData, is_command, is_of_node, has_actor, is_entry}
use Rattle.qz_types.specs.Rows.{is_node}
use Rattle.qz_types.specs.declared.commands.Command.TheVariants.{Join}
use Rattle.qz_types.specs.declared.replies.Reply.{Reply}
use Rattle.qz_types.specs.Tables.{SchedulerTables}
use Rattle.qz_types.specs.Outcomes.{accepted}
use Rattle.qz_model.specs.Invariant.{TablesValid}
use Rattle.qz_model.specs.Transaction.{transaction}
use Rattle.qz_model.proofs.Kept.{kept}

first_true : (a b : Bool) → IsTrue (a && b) → IsTrue a
first_true true b is = refl
first_true false b is = is

-- the node of a Join that keeps its limits keeps them
pub join_node : (e : EntryData) (name : List ℕ) → e.command ≡ Join name → IsTrue (is_entry e) → IsTrue (is_node name)
unfolding is_entry
join_node e name is good = subst (λ c. IsTrue (is_command c)) is (first_true (is_command e.command) (has_actor (is_of_node e.command) e.actor) good)

-- tables stay valid where an accepted transaction is done
pub valid_done : (old new : SchedulerTables) (e : EntryData) (reply : Reply) → IsTrue (is_entry e) → ∥ TablesValid old ∥₁ → transaction old e ≡ accepted new reply → ∥ TablesValid new ∥₁
valid_done old new e reply good valid done = ∥∥₁_map valid (λ was. kept old new e reply good was done)
