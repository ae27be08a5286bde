-- Fields and elements with their places: what cutting a text gives.
use Rattle.std.proofs.Common.{◌≡◌, ◌≢◌, ◌∙◌, ap, sym, refl, subst, ℕ, ◌+◌, ◌≤◌, Bool, true, false, arith, List, [], ◌∷◌, ◌++◌, length, inl, inr}
use Rattle.std.specs.Prelude.{◌==◌, ◌⊎◌, nat_eq}
use Rattle.std.specs.List.{slice_split, AllByRecursion}
use Rattle.qz_cron_text.specs.Texts.{is_blank, Placed, placed, fields_at}
use Rattle.qz_cron_text.specs.Grammar.{AreBlanks}
use Rattle.qz_cron_text.specs.Faults.{part_at, IsUnbroken, AreFields, no_field, last_field, next_field, AreParts, last_part, next_part}
use Rattle.qz_cron_text.proofs.Free.{IsFree, is_mark, free_split, free_split_at}
use Rattle.qz_cron_text.proofs.TextLaws.{blank_is, is_blank_of}

-- Fields between blanks.

no_blank : (b : ℕ) → (b ≢ 32) × (b ≢ 9) → is_blank b ≡ false
no_blank b other = by_blank (is_blank b) refl
  where
    by_blank : (t : Bool) → is_blank b ≡ t → t ≡ false
    by_blank true blank = elim (is_blank_of b blank) [ inl is ↦ absurd (other.0 is) | inr is ↦ absurd (other.1 is) ]
    by_blank false none = refl

unbroken_free : (text : List ℕ) → AllByRecursion (λ b. (b ≢ 32) × (b ≢ 9)) text → IsFree is_blank text
unbroken_free [] all = tt
unbroken_free (b ∷ bs) all = (no_blank b all.0, unbroken_free bs all.1)

not_empty : (text : List ℕ) → 1 ≤ length text → nat_eq (length text) 0 ≡ false
not_empty text some = grind (arith, some)

after_blanks : (at : ℕ) (blanks rest : List ℕ) → AreBlanks blanks → fields_at at (blanks ++ rest) ≡ fields_at (at + length blanks) rest
unfolding fields_at
after_blanks at [] rest are = let same : at ≡ at + 0 = omega arith in ap (λ (n : ℕ). placed n (slice_split is_blank rest)) same
after_blanks at (b ∷ bs) rest are =
    let next : at + 1 + length bs ≡ at + length (b ∷ bs) = omega arith in
    rw (blank_is b are.0) (after_blanks (at + 1) bs rest are.1 ∙ ap (λ (n : ℕ). placed n (slice_split is_blank rest)) next)

blanks_alone : (at : ℕ) (blanks : List ℕ) → AreBlanks blanks → fields_at at blanks ≡ []
unfolding fields_at
blanks_alone at [] are = refl
blanks_alone at (b ∷ bs) are = rw (blank_is b are.0) (blanks_alone (at + 1) bs are.1)

field_alone : (at : ℕ) (field : List ℕ) → IsUnbroken field → fields_at at field ≡ part_at at field ∷ []
unfolding fields_at
field_alone at field is = rw (free_split is_blank field (unbroken_free field is.no_blank), not_empty field is.some) refl

field_before : (at : ℕ) (field : List ℕ) (b : ℕ) (rest : List ℕ) → IsUnbroken field → (b ≡ 32) ⊎ (b ≡ 9)
    → fields_at at (field ++ b ∷ rest) ≡ part_at at field ∷ fields_at (at + length field + 1) rest
unfolding fields_at
field_before at field b rest is blank = rw (free_split_at is_blank field b rest (unbroken_free field is.no_blank) (blank_is b blank), not_empty field is.some) refl

-- the fields of a text are those that are found
pub fields_found : (at : ℕ) (text : List ℕ) (parts : List Placed) → AreFields at text parts → fields_at at text ≡ parts
fields_found at text parts (no_field {blanks} are) = blanks_alone at blanks are
fields_found at text parts (last_field blanks {field} are is) = after_blanks at blanks field are ∙ field_alone (at + length blanks) field is
fields_found at text parts (next_field blanks {field} {rest} b {more} are is blank after) =
    after_blanks at blanks (field ++ b ∷ rest) are
    ∙ (field_before (at + length blanks) field b rest is blank
    ∙ ap (λ (ps : List Placed). part_at (at + length blanks) field ∷ ps) (fields_found (at + length blanks + length field + 1) rest more after))

-- some fields of a text
abbrev HasFields : ℕ → List ℕ → Type 0
HasFields at text = (parts : List Placed) × AreFields at text parts

moved : (at from : ℕ) (text : List ℕ) (parts : List Placed) → from ≡ at → AreFields from text parts → AreFields at text parts
moved at from text parts e are = subst (λ (n : ℕ). AreFields n text parts) e are

blank_before : (at from b : ℕ) (text : List ℕ) (parts : List Placed) → from ≡ at + 1 → (b ≡ 32) ⊎ (b ≡ 9) → AreFields from text parts → HasFields at (b ∷ text)
blank_before at from b text parts e blank (no_field {blanks} are) = ([], no_field {blanks = b ∷ blanks} (blank, are))
blank_before at from b text parts e blank (last_field blanks {field} are is) = (part_at (at + length (b ∷ blanks)) field ∷ [], last_field (b ∷ blanks) (blank, are) is)
blank_before at from b text parts e blank (next_field blanks {field} {rest} c {more} are is there after) = (
  part_at (at + length (b ∷ blanks)) field ∷ more,
  next_field (b ∷ blanks) c (blank, are) is there (moved _ _ rest more (omega arith) after),
)

one_byte : (b : ℕ) → is_blank b ≡ false → IsUnbroken (b ∷ [])
one_byte b other = record { some = omega arith; no_blank = (((λ is. clash (blank_is b (inl is))), (λ is. clash (blank_is b (inr is)))), tt) }
  where
    clash : is_blank b ≡ true → ⊥
    clash blank = cc

one_more : (b : ℕ) (field : List ℕ) → is_blank b ≡ false → IsUnbroken field → IsUnbroken (b ∷ field)
one_more b field other is = let one = one_byte b other in record { some = omega arith; no_blank = (one.no_blank.0, is.no_blank) }

byte_before : (at from b : ℕ) (text : List ℕ) (parts : List Placed) → from ≡ at + 1 → is_blank b ≡ false → AreFields from text parts → HasFields at (b ∷ text)
byte_before at from b text parts e other (no_field {blanks = []} are) = (part_at (at + 0) (b ∷ []) ∷ [], last_field [] tt (one_byte b other))
byte_before at from b text parts e other (no_field {blanks = c ∷ cs} are) =
    (part_at (at + 0) (b ∷ []) ∷ [], next_field [] {field = b ∷ []} c tt (one_byte b other) are.0 (no_field {blanks = cs} are.1))
byte_before at from b text parts e other (last_field [] {field} are is) = (part_at (at + 0) (b ∷ field) ∷ [], last_field [] tt (one_more b field other is))
byte_before at from b text parts e other (last_field (c ∷ cs) {field} are is) =
    (part_at (at + 0) (b ∷ []) ∷ part_at (at + 0 + 1 + 1 + length cs) field ∷ [], next_field [] {field = b ∷ []} c tt (one_byte b other) are.0 (last_field cs are.1 is))
byte_before at from b text parts e other (next_field [] {field} {rest} d {more} are is there after) =
    (part_at (at + 0) (b ∷ field) ∷ more, next_field [] d tt (one_more b field other is) there (moved _ _ rest more (omega arith) after))
byte_before at from b text parts e other (next_field (c ∷ cs) {field} {rest} d {more} are is there after) = (
  part_at (at + 0) (b ∷ []) ∷ part_at (at + 0 + 1 + 1 + length cs) field ∷ more,
  next_field [] {field = b ∷ []} c tt (one_byte b other) are.0 (next_field cs d are.1 is there (moved _ _ rest more (omega arith) after)),
)

some_fields : (text : List ℕ) (at : ℕ) → HasFields at text
some_fields [] at = ([], no_field {blanks = []} tt)
some_fields (b ∷ bs) at = by_blank (is_blank b) refl (some_fields bs (at + 1))
  where
    by_blank : (t : Bool) → is_blank b ≡ t → HasFields (at + 1) bs → HasFields at (b ∷ bs)
    by_blank true blank rest = blank_before at (at + 1) b bs rest.0 refl (is_blank_of b blank) rest.1
    by_blank false other rest = byte_before at (at + 1) b bs rest.0 refl other rest.1

pub are_fields : (at : ℕ) (text : List ℕ) → AreFields at text (fields_at at text)
are_fields at text =
    let some : HasFields at text = some_fields text at in
    subst (λ (ps : List Placed). AreFields at text ps) (sym (fields_found at text some.0 some.1)) some.1

-- Elements between commas.

abbrev pub placed_parts : ℕ → List (List ℕ) → List Placed
placed_parts at [] = []
placed_parts at (text ∷ texts) = part_at at text ∷ placed_parts (at + length text + 1) texts

no_comma : (b : ℕ) → b ≢ 44 → is_mark 44 b ≡ false
no_comma b other = by_comma (b == 44) refl
  where
    by_comma : (t : Bool) → (b == 44) ≡ t → t ≡ false
    by_comma true is = absurd (other (grind (arith, is)))
    by_comma false is = refl

part_free : (text : List ℕ) → AllByRecursion (λ b. b ≢ 44) text → IsFree (is_mark 44) text
part_free [] all = tt
part_free (b ∷ bs) all = (no_comma b all.0, part_free bs all.1)

-- the elements of a field are those that are found
pub parts_found : (at : ℕ) (text : List ℕ) (parts : List Placed) → AreParts at text parts → placed_parts at (slice_split (is_mark 44) text) ≡ parts
parts_found at text parts (last_part {part} free) = rw (free_split (is_mark 44) part (part_free part free)) refl
parts_found at text parts (next_part {part} {rest} {more} free after) =
    rw (free_split_at (is_mark 44) part 44 rest (part_free part free) refl)
    (ap (λ (ps : List Placed). part_at at part ∷ ps) (parts_found (at + length part + 1) rest more after))

abbrev HasParts : ℕ → List ℕ → Type 0
HasParts at text = (parts : List Placed) × AreParts at text parts

moved_parts : (at from : ℕ) (text : List ℕ) (parts : List Placed) → from ≡ at → AreParts from text parts → AreParts at text parts
moved_parts at from text parts e are = subst (λ (n : ℕ). AreParts n text parts) e are

byte_in_part : (at from b : ℕ) (text : List ℕ) (parts : List Placed) → from ≡ at + 1 → b ≢ 44 → AreParts from text parts → HasParts at (b ∷ text)
byte_in_part at from b text parts e other (last_part {part} free) = (part_at at (b ∷ part) ∷ [], last_part (other, free))
byte_in_part at from b text parts e other (next_part {part} {rest} {more} free after) =
    (part_at at (b ∷ part) ∷ more, next_part {part = b ∷ part} (other, free) (moved_parts _ _ rest more (omega arith) after))

some_parts : (text : List ℕ) (at : ℕ) → HasParts at text
some_parts [] at = (part_at at [] ∷ [], last_part tt)
some_parts (b ∷ bs) at = by_comma (b == 44) refl (some_parts bs (at + 1))
  where
    by_comma : (t : Bool) → (b == 44) ≡ t → HasParts (at + 1) bs → HasParts at (b ∷ bs)
    by_comma true is rest =
        let comma : 44 ≡ b = grind (arith, is) in
        let here : HasParts at (44 ∷ bs) = (part_at at [] ∷ rest.0, next_part {part = []} tt (moved_parts _ _ bs rest.0 (omega arith) rest.1)) in
        subst (λ (c : ℕ). HasParts at (c ∷ bs)) comma here
    by_comma false is rest = byte_in_part at (at + 1) b bs rest.0 refl (λ same. let comma : (b == 44) ≡ true = grind (arith, same) in clash comma) rest.1
      where
        clash : (b == 44) ≡ true → ⊥
        clash x = cc

pub are_parts : (at : ℕ) (text : List ℕ) → AreParts at text (placed_parts at (slice_split (is_mark 44) text))
are_parts at text =
    let some : HasParts at text = some_parts text at in
    subst (λ (ps : List Placed). AreParts at text ps) (sym (parts_found at text some.0 some.1)) some.1
