-- Reading the number that a name ends in.
use Rattle.std.proofs.Common.{◌≡◌, ℕ, ◌+◌, ◌-◌, ◌*◌, ◌/◌, ◌%◌, ◌^◌, ◌<◌, ◌≤◌, true, false, ◌&&◌, nat_lt, nat_le, ◌==◌, List, [], ◌∷◌, ◌++◌, Some, if◌then◌else◌, refl, sym, ap, subst, ◌∙◌, append_assoc, arith}
use Rattle.std.specs.Bool.{⊤}
use Rattle.std.specs.Fmt.{decimal}
use Rattle.std.specs.List.{fold}
use Rattle.std.proofs.lemmas.Fmt.{decimal_digit, decimal_step, decimal_by_steps}
use Rattle.std.proofs.lemmas.Bool.{and_parts, leb-true}
use Rattle.std.proofs.lemmas.Bool.Decides.{nat_tests, Decides-eqb, Decides-ltb}
use Rattle.std.proofs.lemmas.List.{append-nil}
use Rattle.qz_model.specs.Invariant.{EndsIn}
use Rattle.qz_valid.specs.declared.names.Ending.{Ending}
use Rattle.qz_valid.specs.declared.names.Ending.TheVariants.{Underscore, Number, Other}
use Rattle.qz_valid.specs.Names.{is_digit, with_digit, with_byte, number_at, number_of}

abbrev after : Ending → List ℕ → Ending
after ending bytes = fold with_byte ending bytes

after-append : (s : Ending) (xs ys : List ℕ) → after s (xs ++ ys) ≡ after (after s xs) ys
after-append s [] ys = refl
after-append s (x ∷ xs) ys = after-append (with_byte s x) xs ys

-- A name that ends in a number is read as that number.

not_underscore : (d : ℕ) → d < 10 → ((48 + d) == 95) ≡ false
not_underscore d lt = grind (arith, nat_tests)

digit_is : (d : ℕ) → d < 10 → is_digit (48 + d) ≡ true
digit_is d lt = grind (arith, nat_tests)

read-digit : (s : Ending) (d : ℕ) → d < 10 → with_byte s (48 + d) ≡ with_digit s d
unfolding with_byte
read-digit s d lt =
    let back : 48 + d - 48 ≡ d = omega arith in
    rw (not_underscore d lt, digit_is d lt) (ap (with_digit s) back)

fits : (v d n : ℕ) → 0 < v → v * 10 + d ≡ n → n < 2 ^ 64 → with_digit (Number v) d ≡ Number n
fits v d n some is small =
    let yes : (nat_lt 0 v && nat_lt (v * 10 + d) (2 ^ 64)) ≡ true = rw (is, (Decides-ltb 0 v).1 some, (Decides-ltb n (2 ^ 64)).1 small) refl in
    rw yes (ap (λ (m : ℕ). Number m) is)

abbrev Reads : ℕ → List ℕ → Type 0
Reads n ds = n < 2 ^ 64 → after Underscore ds ≡ Number n

reads_one : (n : ℕ) → n < 10 → Reads n ((48 + n) ∷ [])
reads_one n lt small = read-digit Underscore n lt

reads_more : (n : ℕ) (ds : List ℕ) → 10 ≤ n → Reads (n / 10) ds → Reads n (ds ++ ((48 + n % 10) ∷ []))
reads_more n ds le before small =
    after-append Underscore ds ((48 + n % 10) ∷ [])
    ∙ ap (λ (s : Ending). with_byte s (48 + n % 10)) (before (omega arith))
    ∙ read-digit (Number (n / 10)) (n % 10) (omega arith)
    ∙ fits (n / 10) (n % 10) n (omega arith) (omega arith) small

reads_decimal : (n : ℕ) → n < 2 ^ 64 → after Underscore (decimal n) ≡ Number n
reads_decimal n small = decimal_by_steps Reads reads_one reads_more n small small

underscore : (s : Ending) (ds : List ℕ) → after s (95 ∷ ds) ≡ after Underscore ds
unfolding with_byte
underscore s ds = refl

pub number_is_read : (name : List ℕ) (n : ℕ) → n < 2 ^ 64 → EndsIn name n → number_of name ≡ Some n
unfolding number_of
number_is_read name n small ends =
    ap number_at (ap (after Other) ends.1 ∙ after-append Other ends.0 (95 ∷ decimal n) ∙ underscore (after Other ends.0) (decimal n) ∙ reads_decimal n small)

-- The number that is read is the one that the name ends in.

-- what an ending says of the bytes so far
abbrev Says : Ending → List ℕ → Type 0
Says Underscore bytes = (front : List ℕ) × (bytes ≡ front ++ 95 ∷ [])
Says (Number v) bytes = EndsIn bytes v × (v < 2 ^ 64)
Says Other bytes = ⊤

ends_one : (front bytes : List ℕ) (d : ℕ) → d < 10 → bytes ≡ front ++ 95 ∷ [] → EndsIn (bytes ++ (48 + d) ∷ []) d
ends_one front bytes d lt is = (
  front,
  ap (λ (xs : List ℕ). xs ++ (48 + d) ∷ []) is ∙ append_assoc front (95 ∷ []) ((48 + d) ∷ []) ∙ ap (λ (ds : List ℕ). front ++ 95 ∷ ds) (sym (decimal_digit d lt)),
)

ends_more : (bytes : List ℕ) (v d n : ℕ) → d < 10 → 0 < v → v * 10 + d ≡ n → n < 2 ^ 64 → EndsIn bytes v → EndsIn (bytes ++ (48 + d) ∷ []) n
ends_more bytes v d n lt some is small ends =
    let high : n / 10 ≡ v = omega arith in
    let low : n % 10 ≡ d = omega arith in
    let whole : decimal n ≡ decimal v ++ (48 + d) ∷ [] = decimal_step n (omega arith) small ∙ ap (λ (m : ℕ). decimal m ++ (48 + n % 10) ∷ []) high ∙ ap (λ (m : ℕ). decimal v ++ (48 + m) ∷ []) low in
    (ends.0, ap (λ (xs : List ℕ). xs ++ (48 + d) ∷ []) ends.1 ∙ append_assoc ends.0 (95 ∷ decimal v) ((48 + d) ∷ []) ∙ ap (λ (ds : List ℕ). ends.0 ++ 95 ∷ ds) (sym whole))

digit_says : (s : Ending) (d : ℕ) (bytes : List ℕ) → d < 10 → Says s bytes → Says (with_digit s d) (bytes ++ (48 + d) ∷ [])
digit_says Underscore d bytes lt says = (ends_one says.0 bytes d lt says.1, omega arith)
digit_says (Number v) d bytes lt says = elim (nat_lt 0 v && nat_lt (v * 10 + d) (2 ^ 64)) as (λ b. (nat_lt 0 v && nat_lt (v * 10 + d) (2 ^ 64)) ≡ b → Says (if b then Number (v * 10 + d) else Other) (bytes ++ (48 + d) ∷ [])) [
  | true ↦ λ e.
      let parts = and_parts (nat_lt 0 v) (nat_lt (v * 10 + d) (2 ^ 64)) e in
      let some : 0 < v = (Decides-ltb 0 v).0 parts.0 in
      let small : v * 10 + d < 2 ^ 64 = (Decides-ltb (v * 10 + d) (2 ^ 64)).0 parts.1 in
      (ends_more bytes v d (v * 10 + d) lt some refl small says.0, small)
  | false ↦ λ e. tt
] refl
digit_says Other d bytes lt says = tt

digit_range : (c : ℕ) → is_digit c ≡ true → (c - 48 < 10) × (48 + (c - 48) ≡ c)
digit_range c h =
    let parts = and_parts (nat_le 48 c) (nat_le c 57) h in
    let low : 48 ≤ c = leb-true 48 c parts.0 in
    let high : c ≤ 57 = leb-true c 57 parts.1 in
    (omega arith, omega arith)

byte_says : (s : Ending) (c : ℕ) (bytes : List ℕ) → Says s bytes → Says (with_byte s c) (bytes ++ c ∷ [])
unfolding with_byte
byte_says s c bytes says = elim (c == 95) as (λ b. (c == 95) ≡ b → Says (if b then Underscore else (if is_digit c then with_digit s (c - 48) else Other)) (bytes ++ c ∷ [])) [
  | true ↦ λ e. let same : c ≡ 95 = (Decides-eqb c 95).0 e in (bytes, ap (λ (x : ℕ). bytes ++ x ∷ []) same)
  | false ↦ λ e. elim (is_digit c) as (λ b. is_digit c ≡ b → Says (if b then with_digit s (c - 48) else Other) (bytes ++ c ∷ [])) [
    | true ↦ λ is.
        let r = digit_range c is in
        subst (λ (x : ℕ). Says (with_digit s (c - 48)) (bytes ++ x ∷ [])) r.1 (digit_says s (c - 48) bytes r.0 says)
    | false ↦ λ is. tt
  ] refl
] refl

bytes_say : (s : Ending) (cs bytes : List ℕ) → Says s bytes → Says (after s cs) (bytes ++ cs)
bytes_say s [] bytes says = subst (λ (xs : List ℕ). Says s xs) (sym (append-nil bytes)) says
bytes_say s (c ∷ cs) bytes says = subst (λ (xs : List ℕ). Says (after (with_byte s c) cs) xs) (append_assoc bytes (c ∷ []) cs) (bytes_say (with_byte s c) cs (bytes ++ c ∷ []) (byte_says s c bytes says))

said : (s : Ending) (bytes : List ℕ) (n : ℕ) → Says s bytes → number_at s ≡ Some n → EndsIn bytes n × (n < 2 ^ 64)
said Underscore bytes n says is = absurd (cc)
said (Number v) bytes n says is = let same : v ≡ n = cc in subst (λ (m : ℕ). EndsIn bytes m × (m < 2 ^ 64)) same says
said Other bytes n says is = absurd (cc)

pub read_is_number : (name : List ℕ) (n : ℕ) → number_of name ≡ Some n → EndsIn name n × (n < 2 ^ 64)
unfolding number_of
read_is_number name n is = said (after Other name) name n (bytes_say Other name [] tt) is
