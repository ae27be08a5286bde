-- What the members of an object say. None is a member that is missing, or whose value is of another type or out
-- of its range.
use Rattle.std.specs.Prelude.{ℕ, ℤ, List, [], ◌∷◌, Bool, false, if◌then◌else◌, nat_eq, Option, Some, None, option_map, option_and_then, codes}
use Rattle.std.specs.Cmp.Lexicographic.{pointwise}
use Rattle.std.specs.List.{list_any, list_all}
use Rattle.serde_json.specs.Data.{Data, Members, no_members, member}
use Rattle.serde_json.specs.Find.{get, as_str, as_bool, as_number, as_u64, as_i64, as_object}
use Rattle.qz_civil.specs.Timings.{is_within, is_span, is_name}
use Rattle.qz_types.specs.Rows.{is_node}

abbrev pub is_text : List ℕ → List ℕ → Bool
is_text a b = pointwise nat_eq a b

abbrev pub is_among : List (List ℕ) → List ℕ → Bool
is_among names name = list_any (is_text name) names

-- the names of an object's members, of which each stands once
abbrev pub names_in : Members → List (List ℕ)
names_in no_members = []
names_in (member name value rest) = name ∷ names_in rest

abbrev pub names_if : Option Members → List (List ℕ)
names_if None = []
names_if (Some members) = names_in members

abbrev pub member_names : Data → List (List ℕ)
member_names d = names_if (as_object d)

abbrev pub has_only : List (List ℕ) → Data → Bool
has_only names d = list_all (is_among names) (member_names d)

-- what passes a test
abbrev pub kept : {T : Type 0} → (T → Bool) → Option T → Option T
kept test None = None
kept test (Some x) = if test x then Some x else None

-- both values, where both are there
abbrev pub both : {A B T : Type 0} → (A → B → T) → Option A → Option B → Option T
both make None b = None
both make (Some a) b = option_map (make a) b

abbrev pub text_at : List ℕ → Data → Option (List ℕ)
text_at name d = option_and_then as_str (get name d)

abbrev pub integer_of : Data → Option ℤ
integer_of d = option_and_then as_i64 (as_number d)

-- any whole number from 0 to 2^64 - 1
abbrev pub number_at : List ℕ → Data → Option ℕ
number_at name d = option_and_then as_u64 (option_and_then as_number (get name d))

-- a time or a span of time, in ms
abbrev pub span_at : List ℕ → Data → Option ℤ
span_at name d = kept is_span (option_and_then integer_of (get name d))

abbrev pub name_at : List ℕ → Data → Option (List ℕ)
name_at name d = kept is_name (text_at name d)

abbrev pub node_at : List ℕ → Data → Option (List ℕ)
node_at name d = kept is_node (text_at name d)

-- what a member says, and the default only where there is none
abbrev pub said_or : {T : Type 0} → T → (Data → Option T) → Option Data → Option T
said_or default says None = Some default
said_or default says (Some d) = says d

-- what a member says, and Some None only where there is none
abbrev pub said_if : {T : Type 0} → (Data → Option T) → Option Data → Option (Option T)
said_if says None = Some None
said_if says (Some d) = option_map Some (says d)

abbrev pub name_of : Data → Option (List ℕ)
name_of d = kept is_name (as_str d)

abbrev pub span_of : Data → Option ℤ
span_of d = kept is_span (integer_of d)

-- a name with a default
abbrev pub name_or : List ℕ → List ℕ → Data → Option (List ℕ)
name_or default name d = said_or default name_of (get name d)

-- a group: a name, and DEFAULT only where there is no such member
abbrev pub group_at : List ℕ → Data → Option (List ℕ)
group_at name d = name_or (codes "DEFAULT") name d

-- a whole number from low to high
abbrev pub integer_in : ℤ → ℤ → Data → Option ℤ
integer_in low high d = kept (is_within low high) (integer_of d)

-- such a number with a default
abbrev pub integer_or : ℤ → ℤ → ℤ → List ℕ → Data → Option ℤ
integer_or low high default name d = said_or default (integer_in low high) (get name d)

-- any whole number from -2^63 to 2^63 - 1, if there is one
abbrev pub optional_integer_at : List ℕ → Data → Option (Option ℤ)
optional_integer_at name d = said_if integer_of (get name d)

-- a time or a span of time in ms, if there is one
abbrev pub optional_span_at : List ℕ → Data → Option (Option ℤ)
optional_span_at name d = said_if span_of (get name d)

abbrev pub optional_name_at : List ℕ → Data → Option (Option (List ℕ))
optional_name_at name d = said_if name_of (get name d)

-- a truth value; the other one is taken where there is no such member
abbrev pub flag_or : Bool → List ℕ → Data → Option Bool
flag_or otherwise name d = said_or otherwise as_bool (get name d)

-- the same, false where there is no such member
abbrev pub flag_at : List ℕ → Data → Option Bool
flag_at name d = flag_or false name d
