-- State entries: each that is valid is written and read so, and none else is read.
use Rattle.std.proofs.Common.{◌≡◌, ℕ, ℤ, List, [], ◌∷◌, ◌++◌, Ok, refl, arith}
use Rattle.std.specs.Prelude.{FitsSigned}
use Rattle.std.specs.Int.{w64}
use Rattle.qz_types.specs.Rows.{is_interval}
use Rattle.qz_types.specs.Entries.{StateEntryData}
use Rattle.qz_types.specs.declared.limits.TheConstants.{NODE_LIMIT}
use Rattle.qz_types.specs.declared.states.StateCommand.{StateCommand}
use Rattle.qz_types.specs.declared.states.StateCommand.TheVariants.{CheckIn, Forget}
use Rattle.qz_values.specs.Fields.{integer, text, IsText, IsNumber, checked, byte_at, integer_at}
use Rattle.qz_codec.specs.Reading.{node_at}
use Rattle.qz_codec.specs.States.{state_command, state_entry, IsStateCommand, IsStateEntry, check_in_at, forget_at, state_command_at, state_entry_at}
use Rattle.qz_values.specs.Formats.{IsFormat, Any}
use Rattle.qz_values.proofs.Formats.{Also, Both, field, last, same}
use Rattle.qz_values.proofs.SingleFields.{wide32, wide64, same64, number_format, integer_format}
use Rattle.qz_codec.proofs.RowFormats.{node_format}
use Rattle.qz_values.proofs.NameFormats.{tested}
use Rattle.qz_values.proofs.VariantFormats.{IsVariant, variant, read_so, pair, regroup, Choices, part, tagged}

abbrev Free : {A : Type 0} → A → Type 0
Free x = Unit {0}

-- ---- commands

-- a node, and a time or a span
abbrev timed_node : List ℕ × ℤ → List ℕ
timed_node x = text x.0 ++ integer w64 x.1

abbrev make_check_in : List ℕ × ℤ → StateCommand
make_check_in x = CheckIn x.0 x.1

abbrev make_forget : List ℕ × ℤ → StateCommand
make_forget x = Forget x.0 x.1

check_in : IsVariant make_check_in timed_node (λ (x : List ℕ × ℤ). Both (IsText 1 NODE_LIMIT x.0) (IsNumber w64 is_interval x.1)) check_in_at 130
unfolding check_in_at
check_in = read_so check_in_at (variant make_check_in (pair node_format (tested is_interval))) (λ bytes. regroup make_check_in (node_at bytes) (λ node. checked is_interval (integer_at w64) node.1) _ (λ node. refl))

forget : IsVariant make_forget timed_node (λ (x : List ℕ × ℤ). Both (IsText 1 NODE_LIMIT x.0) (FitsSigned w64 x.1)) forget_at 130
unfolding forget_at
forget = read_so forget_at (variant make_forget (pair node_format (integer_format wide64 same64))) (λ bytes. regroup make_forget (node_at bytes) (λ node. integer_at w64 node.1) _ (λ node. refl))

state_command_choices : Choices StateCommand
state_command_choices = (0, check_in_at) ∷ (1, forget_at) ∷ []

state_command_again : (c : StateCommand) (rest : List ℕ) → IsStateCommand c → state_command_at (state_command c ++ rest) ≡ Ok (c, rest)
unfolding state_command_at state_command byte_at
state_command_again (CheckIn node interval) rest is = check_in.again (node, interval) rest (record { first = is.0; others = is.1 })
state_command_again (Forget node last) rest is = forget.again (node, last) rest (record { first = is.0; others = is.1 })

state_command_format : IsFormat state_command Any IsStateCommand state_command_at 131
unfolding state_command_at state_command byte_at state_command_choices
state_command_format = tagged 130 state_command_choices
    (part 0 check_in (omega arith) (λ x. refl) (λ x p. (p.first, p.others)), (part 1 forget (omega arith) (λ x. refl) (λ x p. (p.first, p.others)), tt))
    refl (λ b bytes. refl) state_command_again

-- ---- entries

pub state_entry_format : IsFormat state_entry Any IsStateEntry state_entry_at 143
unfolding state_entry state_entry_at
state_entry_format = same {write' = state_entry} {Is' = IsStateEntry}
    (field Free (λ (e : StateEntryData). e.at) (integer_format wide64 same64) (λ at.
    field (λ (e : StateEntryData). Also (Unit {0}) (e.at ≡ at)) (λ (e : StateEntryData). e.seat) (number_format wide32) (λ seat.
    last (λ (e : StateEntryData). Also (Also (Unit {0}) (e.at ≡ at)) (e.seat ≡ seat)) (λ (e : StateEntryData). e.command) state_command_format
    (λ c. record { at = at; seat = seat; command = c })
    (λ c. record { before = record { before = tt; now = refl }; now = refl })
    (λ c. refl) (λ e h. rw (← h.now, ← h.before.now) refl))))
    (λ e h. refl)
    (λ e h p. record { at = p.first; seat = p.others.first; command = p.others.others })
    (λ e h p. record { first = p.at; others = record { first = p.seat; others = p.command } })
