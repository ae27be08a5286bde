-- Commands: each is written and read so, where its actor may give it, and none else is read.
use Rattle.std.proofs.Common.{◌≡◌, ℕ, suc, ◌^◌, ◌<◌, ◌≤◌, ◌+◌, ℤ, Bool, true, false, List, [], ◌∷◌, ◌++◌, length, Option, Some, None, Ok, refl, sym, ap, subst, ◌∙◌, arith, ◌==◌, inl, inr}
use Rattle.std.specs.Int.{w32, w64}
use Rattle.std.proofs.lemmas.Bool.{eqb-true}
use Rattle.qz_types.specs.Rows.{is_interval}
use Rattle.qz_types.specs.Entries.{is_of_node}
use Rattle.qz_types.specs.declared.limits.TheConstants.{ACQUIRE_LIMIT, NODE_LIMIT}
use Rattle.qz_types.specs.declared.keys.Key.{Key}
use Rattle.qz_types.specs.declared.commands.Code.{Code}
use Rattle.qz_types.specs.declared.commands.Code.TheVariants as code
use Rattle.qz_types.specs.declared.commands.Command.{Command}
use Rattle.qz_types.specs.declared.commands.Command.TheVariants.{AddJob, DeleteJob, AddTrigger, DeleteTrigger, PauseTrigger, ResumeTrigger, PauseGroup, ResumeGroup, AddCalendar, DeleteCalendar, AddZone, DeleteZone, TriggerNow, Threshold, Join, Leave, Acquire, Release, Fire, Complete, Misfires, Recover, Upgrade, ResetTrigger, PauseJobGroup, ResumeJobGroup}
use Rattle.qz_values.specs.declared.versions.Version.{Version}
use Rattle.qz_values.specs.declared.versions.Version.TheVariants.{One, Two}
use Rattle.qz_values.specs.Fields.{number, integer, flag, text, is_long, IsText, IsName, IsNumber, IsSpan, Read, as_variant, checked, byte_at, number_at, flag_at, name_at, span_at}
use Rattle.qz_codec.specs.Layout.{key, code_place, command}
use Rattle.qz_codec.specs.Zones.{zone_row, IsZoneRow, zone_row_at}
use Rattle.qz_codec.specs.Values.{IsKey, IsCommand}
use Rattle.qz_codec.specs.Reading.{node_at, threshold_at, key_at, code_of, chosen, code_at, replacing_at, acquire_at, complete_at, later_command_at, client_command_at, node_command_at}
use Rattle.qz_values.specs.Formats.{IsBytes, EndsNear, Takes, IsFormat, Any}
use Rattle.qz_values.proofs.Formats.{Both, Passes, ok_is, no_value, those}
use Rattle.qz_values.proofs.SingleFields.{IsBytes-rest, wide32, wide64, number_format, flag_format}
use Rattle.qz_values.proofs.NameFormats.{name_format, span_format, tested}
use Rattle.qz_codec.proofs.RowFormats.{node_format, key_format, job_format, spec_format, zone_row_format, calendar_row_format}
use Rattle.qz_values.proofs.VariantFormats.{IsVariant, variant, read_so, pair, regroup, Part, part, bare, choices_of, are_parts, tagged, choice}

-- ---- codes

abbrev code_byte : Code → List ℕ
code_byte c = code_place c ∷ []

known_code : (c : Code) → code_of (code_place c) ≡ Some c
known_code code.Noop = refl
known_code code.ReExecuteJob = refl
known_code code.SetTriggerComplete = refl
known_code code.DeleteTrigger = refl
known_code code.SetAllJobTriggersComplete = refl
known_code code.SetTriggerError = refl
known_code code.SetAllJobTriggersError = refl

abbrev some : {A : Type 0} → A → Option A
some x = Some x

some_is : (x y : Code) → some x ≡ some y → x ≡ y
some_is x y e = cc

code_is : (b : ℕ) (c : Code) → code_of b ≡ Some c → code_place c ≡ b
code_is b c e =
    elim (choice (b == 0) (Some code.Noop) _ (Some c) e) [
      | inl h ↦ named code.Noop h.0 h.1
      | inr e1 ↦ elim (choice (b == 1) (Some code.ReExecuteJob) _ (Some c) e1) [
        | inl h ↦ named code.ReExecuteJob h.0 h.1
        | inr e2 ↦ elim (choice (b == 2) (Some code.SetTriggerComplete) _ (Some c) e2) [
          | inl h ↦ named code.SetTriggerComplete h.0 h.1
          | inr e3 ↦ elim (choice (b == 3) (Some code.DeleteTrigger) _ (Some c) e3) [
            | inl h ↦ named code.DeleteTrigger h.0 h.1
            | inr e4 ↦ elim (choice (b == 4) (Some code.SetAllJobTriggersComplete) _ (Some c) e4) [
              | inl h ↦ named code.SetAllJobTriggersComplete h.0 h.1
              | inr e5 ↦ elim (choice (b == 5) (Some code.SetTriggerError) _ (Some c) e5) [
                | inl h ↦ named code.SetTriggerError h.0 h.1
                | inr e6 ↦ elim (choice (b == 6) (Some code.SetAllJobTriggersError) _ (Some c) e6) [
                  | inl h ↦ named code.SetAllJobTriggersError h.0 h.1
                  | inr e7 ↦ absurd (nothing e7)
                ]
              ]
            ]
          ]
        ]
      ]
    ] where
      named : (d : Code) → (b == code_place d) ≡ true → Some d ≡ Some c → code_place c ≡ b
      named d t h = ap code_place (sym (some_is d c h)) ∙ sym (eqb-true b (code_place d) t)

      nothing : None ≡ Some c → ⊥
      nothing h = absurd cc

chosen_takes : (b : ℕ) (bytes : List ℕ) (o : Option Code) (x : Code × List ℕ) → code_of b ≡ o → IsBytes bytes → chosen o (suc (length bytes)) bytes ≡ Ok x → Takes code_byte Any Any (b ∷ bytes) x
chosen_takes b bytes None x o fits e = absurd (no_value (suc (length bytes)) x e)
chosen_takes b bytes (Some c) x o fits e = subst (λ (y : Code × List ℕ). Takes code_byte Any Any (b ∷ bytes) y) (ok_is (c, bytes) x e) (record { parts = ap (λ (n : ℕ). n ∷ bytes) (sym (code_is b c o)); rest = fits; known = tt; valid = tt })

chosen_near : (bytes : List ℕ) (o : Option Code) → EndsNear 1 (suc (length bytes)) (chosen o (suc (length bytes)) bytes)
chosen_near bytes None = record { within = omega arith; near = omega arith }
chosen_near bytes (Some c) = record { within = omega arith; near = omega arith }

code_format : IsFormat code_byte Any Any code_at 1
unfolding code_at byte_at
code_format = record { again = λ c rest k is. ap (λ (o : Option Code). chosen o (suc (length rest)) rest) (known_code c); takes = takes; near = near } where
  takes : (bytes : List ℕ) (x : Code × List ℕ) → IsBytes bytes → code_at bytes ≡ Ok x → Takes code_byte Any Any bytes x
  takes [] x fits e = absurd (no_value 0 x e)
  takes (b ∷ bytes) x fits e = chosen_takes b bytes (code_of b) x refl (IsBytes-rest b bytes fits) e

  near : (bytes : List ℕ) → EndsNear 1 (length bytes) (code_at bytes)
  near [] = record { within = omega arith; near = omega arith }
  near (b ∷ bytes) = chosen_near bytes (code_of b)

-- ---- what follows a command's place

abbrev make_complete : ℕ × Code → Command
make_complete x = Complete x.0 x.1

abbrev make_acquire : ℤ × (ℤ × ℕ) → Command
make_acquire x = Acquire x.0 x.1.0 x.1.1

replacing : {A : Type 0} {write : A → List ℕ} {Is : A → Type 0} {read : List ℕ → Read A} {m : ℕ} (make : A → Bool → Command)
    → IsFormat write Any Is read m → IsVariant (λ (x : A × Bool). make x.0 x.1) (λ (x : A × Bool). write x.0 ++ flag x.1) (λ (x : A × Bool). Both (Is x.0) (Any x.1)) (λ bytes. replacing_at make read bytes) (m + 1)
replacing {A} {write} {Is} {read} {m} make f =
    let make_both : A × Bool → Command = λ x. make x.0 x.1 in
    read_so (λ bytes. replacing_at make read bytes) (variant make_both (pair f flag_format)) (λ bytes. regroup make_both (read bytes) (λ row. flag_at row.1) _ (λ row. refl))

complete : IsVariant make_complete (λ (x : ℕ × Code). number w64 x.0 ++ code_byte x.1) (λ (x : ℕ × Code). Both (x.0 < 2 ^ 64) (Any x.1)) complete_at 9
unfolding complete_at
complete = read_so complete_at (variant make_complete (pair (number_format wide64) code_format)) (λ bytes. regroup make_complete (number_at w64 bytes) (λ entry. code_at entry.1) _ (λ entry. refl))

max_at : List ℕ → Read ℕ
max_at bytes = checked (is_long 1 ACQUIRE_LIMIT) (number_at w32) bytes

max_format : IsFormat (number w32) Any (Passes (λ n. n < 2 ^ 32) (is_long 1 ACQUIRE_LIMIT)) max_at 4
unfolding max_at
max_format = those (is_long 1 ACQUIRE_LIMIT) (number_format wide32)

acquire : IsVariant make_acquire (λ (x : ℤ × (ℤ × ℕ)). integer w64 x.0 ++ (integer w64 x.1.0 ++ number w32 x.1.1)) (λ (x : ℤ × (ℤ × ℕ)). Both (IsSpan x.0) (Both (IsSpan x.1.0) (Passes (λ n. n < 2 ^ 32) (is_long 1 ACQUIRE_LIMIT) x.1.1))) acquire_at 20
unfolding acquire_at max_at
acquire = read_so acquire_at (variant make_acquire (pair span_format (pair span_format max_format))) (λ bytes. regroup make_acquire (span_at bytes) _ _ (λ no_later. regroup (λ x. make_acquire (no_later.0, x)) (span_at no_later.1) (λ window. max_at window.1) _ (λ window. refl)))

add_zone : (version : Version) → IsVariant AddZone zone_row (IsZoneRow version) (λ bytes. as_variant AddZone (zone_row_at version bytes)) 6348
add_zone version = variant AddZone (zone_row_format version)

of_key : (make : Key → Command) → IsVariant make key IsKey (λ bytes. as_variant make (key_at bytes)) 404
of_key make = variant make key_format

of_name : (make : List ℕ → Command) → IsVariant make text IsName (λ bytes. as_variant make (name_at bytes)) 202
of_name make = variant make name_format

of_node : (make : List ℕ → Command) → IsVariant make text (IsText 1 NODE_LIMIT) (λ bytes. as_variant make (node_at bytes)) 122
of_node make = variant make node_format

of_entry : (make : ℕ → Command) → IsVariant make (number w64) (λ n. n < 2 ^ 64) (λ bytes. as_variant make (number_at w64 bytes)) 8
of_entry make = variant make (number_format wide64)

threshold : IsVariant Threshold (integer w64) (IsNumber w64 is_interval) (λ bytes. as_variant Threshold (threshold_at bytes)) 8
threshold = variant Threshold (tested is_interval)

-- ---- commands of a client and of a node

pub record IsGiven (version : Version) (by_node : Bool) (c : Command) : Type 0 where
  pub actor : is_of_node c ≡ by_node
  pub valid : IsCommand version c

abbrev given_at : Version → Bool → List ℕ → Read Command
given_at version false = client_command_at version
given_at version true = node_command_at

again : (version : Version) (c : Command) (rest : List ℕ) → IsCommand version c → given_at version (is_of_node c) (command version c ++ rest) ≡ Ok (c, rest)
unfolding client_command_at later_command_at node_command_at command byte_at
again version (AddJob row replace) rest is = (replacing AddJob job_format).again (row, replace) rest (record { first = is; others = tt })
again version (DeleteJob k) rest is = (of_key DeleteJob).again k rest is
again version (AddTrigger row replace) rest is = (replacing AddTrigger (spec_format version)).again (row, replace) rest (record { first = is; others = tt })
again version (DeleteTrigger k) rest is = (of_key DeleteTrigger).again k rest is
again version (PauseTrigger k) rest is = (of_key PauseTrigger).again k rest is
again version (ResumeTrigger k) rest is = (of_key ResumeTrigger).again k rest is
again version (PauseGroup group) rest is = (of_name PauseGroup).again group rest is
again version (ResumeGroup group) rest is = (of_name ResumeGroup).again group rest is
again version (AddCalendar row replace) rest is = (replacing AddCalendar (calendar_row_format version)).again (row, replace) rest (record { first = is; others = tt })
again version (DeleteCalendar name) rest is = (of_name DeleteCalendar).again name rest is
again version (AddZone row) rest is = (add_zone version).again row rest is
again version (DeleteZone name) rest is = (of_name DeleteZone).again name rest is
again version (TriggerNow k) rest is = (of_key TriggerNow).again k rest is
again version (Threshold ms) rest is = threshold.again ms rest is
again version (Join node) rest is = (of_node Join).again node rest is
again version Leave rest is = refl
again version (Acquire no_later window max) rest is = acquire.again (no_later, (window, max)) rest (record { first = is.0; others = record { first = is.1; others = record { fits = is.2; passed = is.3 } } })
again version (Release entry) rest is = (of_entry Release).again entry rest is
again version (Fire entry) rest is = (of_entry Fire).again entry rest is
again version (Complete entry c) rest is = complete.again (entry, c) rest (record { first = is; others = tt })
again version Misfires rest is = refl
again version (Recover node) rest is = (of_node Recover).again node rest is
again One Upgrade rest is = absurd (let no = is in cc)
again One (ResetTrigger k) rest is = absurd (let no = is.0 in cc)
again One (PauseJobGroup group) rest is = absurd (let no = is.0 in cc)
again One (ResumeJobGroup group) rest is = absurd (let no = is.0 in cc)
again Two Upgrade rest is = refl
again Two (ResetTrigger k) rest is = (of_key ResetTrigger).again k rest is.1
again Two (PauseJobGroup group) rest is = (of_name PauseJobGroup).again group rest is.1
again Two (ResumeJobGroup group) rest is = (of_name ResumeJobGroup).again group rest is.1

given_again : (version : Version) (by_node : Bool) (c : Command) (rest : List ℕ) → IsGiven version by_node c → given_at version by_node (command version c ++ rest) ≡ Ok (c, rest)
given_again version by_node c rest is = subst (λ (b : Bool). given_at version b (command version c ++ rest) ≡ Ok (c, rest)) is.actor (again version c rest is.valid)

-- a place, and what reads after it
abbrev Given : Version → Bool → Type 0
Given version by_node = Part (command version) (IsGiven version by_node) 16995

-- A command after its place, whose fields are all that it asks for.
abbrev given : {A : Type 0} {make : A → Command} {write : A → List ℕ} {Is : A → Type 0} {read : List ℕ → Read Command} {m : ℕ} {version : Version} {by_node : Bool} (place : ℕ)
    → IsVariant make write Is read m → m ≤ 16995 → ((x : A) → place ∷ write x ≡ command version (make x)) → ((x : A) → Is x → IsGiven version by_node (make x)) → Given version by_node
given {A} {make} {write} {Is} {read} {m} {version} {by_node} place v le spelled valid = record { place = place; read = read; is = part place v le spelled valid }

later_parts : (version : Version) → List (Given version false)
unfolding command
later_parts One = []
later_parts Two =
    record { place = 22; read = λ rest. Ok (Upgrade, rest); is = bare 22 Upgrade refl (record { actor = refl; valid = refl }) }
    ∷ given 23 (of_key ResetTrigger) (omega arith) (λ x. refl) (λ x is. record { actor = refl; valid = (refl, is) })
    ∷ given 24 (of_name PauseJobGroup) (omega arith) (λ x. refl) (λ x is. record { actor = refl; valid = (refl, is) })
    ∷ given 25 (of_name ResumeJobGroup) (omega arith) (λ x. refl) (λ x is. record { actor = refl; valid = (refl, is) })
    ∷ []

client_parts : (version : Version) → List (Given version false)
unfolding command
client_parts version =
    given 0 (replacing AddJob job_format) (omega arith) (λ x. refl) (λ x is. record { actor = refl; valid = is.first })
    ∷ given 1 (of_key DeleteJob) (omega arith) (λ x. refl) (λ x is. record { actor = refl; valid = is })
    ∷ given 2 (replacing AddTrigger (spec_format version)) (omega arith) (λ x. refl) (λ x is. record { actor = refl; valid = is.first })
    ∷ given 3 (of_key DeleteTrigger) (omega arith) (λ x. refl) (λ x is. record { actor = refl; valid = is })
    ∷ given 4 (of_key PauseTrigger) (omega arith) (λ x. refl) (λ x is. record { actor = refl; valid = is })
    ∷ given 5 (of_key ResumeTrigger) (omega arith) (λ x. refl) (λ x is. record { actor = refl; valid = is })
    ∷ given 6 (of_name PauseGroup) (omega arith) (λ x. refl) (λ x is. record { actor = refl; valid = is })
    ∷ given 7 (of_name ResumeGroup) (omega arith) (λ x. refl) (λ x is. record { actor = refl; valid = is })
    ∷ given 8 (replacing AddCalendar (calendar_row_format version)) (omega arith) (λ x. refl) (λ x is. record { actor = refl; valid = is.first })
    ∷ given 9 (of_name DeleteCalendar) (omega arith) (λ x. refl) (λ x is. record { actor = refl; valid = is })
    ∷ given 10 (add_zone version) (omega arith) (λ x. refl) (λ x is. record { actor = refl; valid = is })
    ∷ given 11 (of_name DeleteZone) (omega arith) (λ x. refl) (λ x is. record { actor = refl; valid = is })
    ∷ given 12 (of_key TriggerNow) (omega arith) (λ x. refl) (λ x is. record { actor = refl; valid = is })
    ∷ given 13 threshold (omega arith) (λ x. refl) (λ x is. record { actor = refl; valid = is })
    ∷ given 14 (of_node Join) (omega arith) (λ x. refl) (λ x is. record { actor = refl; valid = is })
    ∷ later_parts version

pub client_format : (version : Version) → IsFormat (command version) Any (IsGiven version false) (client_command_at version) 16996
unfolding client_command_at later_command_at byte_at client_parts later_parts
client_format One = tagged 16995 (choices_of (client_parts One)) (are_parts (client_parts One)) refl (λ b bytes. refl) (given_again One false)
client_format Two = tagged 16995 (choices_of (client_parts Two)) (are_parts (client_parts Two)) refl (λ b bytes. refl) (given_again Two false)

node_parts : (version : Version) → List (Given version true)
unfolding command
node_parts version =
    record { place = 15; read = λ rest. Ok (Leave, rest); is = bare 15 Leave refl (record { actor = refl; valid = tt }) }
    ∷ given 16 acquire (omega arith) (λ x. refl) (λ x is. record { actor = refl; valid = (is.first, is.others.first, is.others.others.fits, is.others.others.passed) })
    ∷ given 17 (of_entry Release) (omega arith) (λ x. refl) (λ x is. record { actor = refl; valid = is })
    ∷ given 18 (of_entry Fire) (omega arith) (λ x. refl) (λ x is. record { actor = refl; valid = is })
    ∷ given 19 complete (omega arith) (λ x. refl) (λ x is. record { actor = refl; valid = is.first })
    ∷ record { place = 20; read = λ rest. Ok (Misfires, rest); is = bare 20 Misfires refl (record { actor = refl; valid = tt }) }
    ∷ given 21 (of_node Recover) (omega arith) (λ x. refl) (λ x is. record { actor = refl; valid = is })
    ∷ []

pub node_command_format : (version : Version) → IsFormat (command version) Any (IsGiven version true) node_command_at 16996
unfolding node_command_at byte_at node_parts
node_command_format version = tagged 16995 (choices_of (node_parts version)) (are_parts (node_parts version)) refl (λ b bytes. refl) (given_again version true)
