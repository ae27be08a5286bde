-- Actors and entries.
use Rattle.std.proofs.Common.{◌≡◌, ℕ, zero, suc, ◌^◌, ◌<◌, Bool, true, false, cond, List, [], ◌∷◌, ◌++◌, length, Ok, refl, sym, ap, subst, ◌∙◌, arith}
use Rattle.qz_types.specs.Rows.{MemberData}
use Rattle.qz_types.specs.Entries.{EntryData, is_of_node, has_actor}
use Rattle.qz_types.specs.declared.commands.Command.{Command}
use Rattle.qz_types.specs.declared.commands.Actor.{Actor}
use Rattle.qz_types.specs.declared.commands.Actor.TheVariants.{Client, Node}
use Rattle.qz_codec.specs.Layout.{actor, command, entry}
use Rattle.qz_codec.specs.Records.{IsRecord}
use Rattle.qz_codec.specs.Values.{IsActor, IsCommand, IsEntry}
use Rattle.qz_values.specs.declared.versions.Version.{Version}
use Rattle.qz_values.specs.Fields.{◌>>=◌, Read, as_variant, byte_at, flag_at}
use Rattle.qz_codec.specs.Reading.{member_at, actor_at, command_at, entry_at}
use Rattle.qz_values.specs.Formats.{IsBytes, EndsNear, Takes, IsFormat, Any}
use Rattle.qz_values.proofs.Formats.{Also, ok_is, no_value, near_then, field, last, same}
use Rattle.qz_values.proofs.SingleFields.{IsBytes-rest, other_flag, flag_format, wide32, wide64, same64, number_format, integer_format}
use Rattle.qz_codec.proofs.RecordFormats.{record_unique}
use Rattle.qz_codec.proofs.RowFormats.{member_format}
use Rattle.qz_values.proofs.VariantFormats.{variant}
use Rattle.qz_codec.proofs.CommandFormats.{client_format, node_command_format}

-- ---- actors

actor_again : (a : Actor) (rest : List ℕ) → Unit {0} → IsActor a → actor_at (actor a ++ rest) ≡ Ok (a, rest)
unfolding actor_at actor flag_at byte_at
actor_again Client rest known is = refl
actor_again (Node m) rest known is = (variant Node member_format).again m rest is

abbrev node_or_client : Bool × List ℕ → Read Actor
node_or_client flag = cond flag.0 (as_variant Node (member_at flag.1)) (Ok (Client, flag.1))

actor_takes : (bytes : List ℕ) (x : Actor × List ℕ) → IsBytes bytes → actor_at bytes ≡ Ok x → Takes actor Any IsActor bytes x
unfolding actor_at actor flag_at byte_at
actor_takes [] x fits e = absurd (no_value 0 x e)
actor_takes (zero ∷ bytes) x fits e = subst (λ (y : Actor × List ℕ). Takes actor Any IsActor (0 ∷ bytes) y) (ok_is (Client, bytes) x e) (record { parts = refl; rest = IsBytes-rest 0 bytes fits; known = tt; valid = tt })
actor_takes (suc zero ∷ bytes) x fits e =
    let t = (variant Node member_format).takes bytes x (IsBytes-rest 1 bytes fits) e in
    subst (λ (y : Actor × List ℕ). Takes actor Any IsActor (1 ∷ bytes) y) t.2 (record { parts = ap (λ (r : List ℕ). 1 ∷ r) t.1.parts; rest = t.1.rest; known = tt; valid = t.1.valid })
actor_takes (suc (suc b) ∷ bytes) x fits e = absurd (no_value (suc (length bytes)) x (sym (ap (λ (r : Read Bool). r >>= node_or_client) (other_flag b bytes)) ∙ e))

actor_near : (bytes : List ℕ) → EndsNear 131 (length bytes) (actor_at bytes)
unfolding actor_at
actor_near bytes = near_then 1 130 (length bytes) (flag_at bytes) node_or_client (flag_format.near bytes) (λ flag e. ends flag.0 flag.1) where
  ends : (b : Bool) (rest : List ℕ) → EndsNear 130 (length rest) (node_or_client (b, rest))
  ends true rest = (variant Node member_format).near rest
  ends false rest = record { within = omega arith; near = omega arith }

actor_format : IsFormat actor Any IsActor actor_at 131
actor_format = record { again = actor_again; takes = actor_takes; near = actor_near }

-- ---- commands of an actor

pub record IsFrom (version : Version) (a : Actor) (c : Command) : Type 0 where
  pub asked : has_actor (is_of_node c) a ≡ true
  pub valid : IsCommand version c

of_client : (b : Bool) → has_actor b Client ≡ true → b ≡ false
of_client true e = sym e
of_client false e = refl

of_node : (b : Bool) (m : MemberData) → has_actor b (Node m) ≡ true → b ≡ true
of_node true m e = refl
of_node false m e = e

command_format : (version : Version) (a : Actor) → IsFormat (command version) Any (IsFrom version a) (command_at version a) 16996
command_format version Client = same {Is' = IsFrom version Client} (client_format version) (λ c k. refl) (λ c k p. record { asked = ap (λ (b : Bool). has_actor b Client) p.actor; valid = p.valid }) (λ c k p. record { actor = of_client (is_of_node c) p.asked; valid = p.valid })
command_format version (Node m) = same {Is' = IsFrom version (Node m)} (node_command_format version) (λ c k. refl) (λ c k p. record { asked = ap (λ (b : Bool). has_actor b (Node m)) p.actor; valid = p.valid }) (λ c k p. record { actor = of_node (is_of_node c) m p.asked; valid = p.valid })

-- ---- entries

pub record IsRestOfEntry (version : Version) (e : EntryData) : Type 0 where
  pub seat : e.seat < 2 ^ 32
  pub command : IsCommand version e.command
  pub asked : has_actor (is_of_node e.command) e.actor ≡ true

abbrev Free : {A : Type 0} → A → Type 0
Free x = Unit {0}

pub entry_format : (version : Version) → IsFormat (entry version) Any (IsEntry version) (entry_at version) 17139
unfolding entry entry_at
entry_format version = same {write' = entry version} {Is' = IsEntry version}
    (field Free (λ (e : EntryData). e.at) (integer_format wide64 same64) (λ at.
    field (λ (e : EntryData). Also (Unit {0}) (e.at ≡ at)) (λ (e : EntryData). e.actor) actor_format (λ who. same {Is' = IsRestOfEntry version}
    (field (λ (e : EntryData). Also (Also (Unit {0}) (e.at ≡ at)) (e.actor ≡ who)) (λ (e : EntryData). e.seat) (number_format wide32) (λ seat.
    last (λ (e : EntryData). Also (Also (Also (Unit {0}) (e.at ≡ at)) (e.actor ≡ who)) (e.seat ≡ seat)) (λ (e : EntryData). e.command) (command_format version who)
    (λ c. record { at = at; actor = who; seat = seat; command = c })
    (λ c. record { before = record { before = record { before = tt; now = refl }; now = refl }; now = refl })
    (λ c. refl) (λ e h. rw (← h.now, ← h.before.now, ← h.before.before.now) refl)))
    (λ e h. refl)
    (λ e h p. record { seat = p.first; command = p.others.valid; asked = subst (λ (a : Actor). has_actor (is_of_node e.command) a ≡ true) (sym h.now) p.others.asked })
    (λ e h p. record { first = p.seat; others = record { asked = subst (λ (a : Actor). has_actor (is_of_node e.command) a ≡ true) h.now p.asked; valid = p.command } }))))
    (λ e h. refl)
    (λ e h p. record { at = p.first; actor = p.others.first; seat = p.others.others.seat; command = p.others.others.command; asked = p.others.others.asked })
    (λ e h p. record { first = p.at; others = record { first = p.actor; others = record { seat = p.seat; command = p.command; asked = p.asked } } })

-- No two entries have one record.
pub entry_record_unique : (bytes : List ℕ) (a b : EntryData) → IsRecord entry IsEntry bytes a → IsRecord entry IsEntry bytes b → a ≡ b
entry_record_unique bytes a b is_a is_b = record_unique entry_format bytes a b is_a is_b
