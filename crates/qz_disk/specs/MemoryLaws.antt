-- A disk in memory is lawful.
use Rattle.std.proofs.Common.{◌≡◌, ◌⊎◌, inl, inr, ◌||◌, ℕ, ◌+◌, ◌-◌, ◌<◌, ◌≤◌, min, Bool, true, false, List, [], ◌∷◌, ◌++◌, length, take, drop, get_or, refl, sym, ◌∙◌, ap, subst, arith, length-append, length-take, length-drop}
use Rattle.std.proofs.lemmas.List.{take_all, get_or_append_left, get_or-append_right, get_or-take, get_or-drop}
use Rattle.std.proofs.lemmas.Bool.Decides.{nat_tests}
use Rattle.qz_disk.specs.declared.calls.Call.{Call}
use Rattle.qz_disk.specs.declared.calls.Call.TheVariants.{Len, Read, Write, Sync, Restart}
use Rattle.qz_disk.specs.Disk.{written, IsLawful}
use Rattle.qz_disk.specs.Memory.{Standing, at_rest, after_call, after_calls, is_within, is_touched, IsImageOf, standing_of, memory_state}

pub at_rest_image : (bytes : List ℕ) → IsImageOf (at_rest bytes) bytes
at_rest_image bytes = record { no_shorter = omega arith; no_longer = omega arith; same = λ k lt clean. refl }

pub length-written : (at : ℕ) (bytes old : List ℕ)
    → length (written at bytes old) ≡ min at (length old) + length bytes + (length old - (at + length bytes))
length-written at bytes old = omega (
  arith,
  length-append (take at old ++ bytes) (drop (at + length bytes) old),
  length-append (take at old) bytes,
  length-take at old,
  length-drop (at + length bytes) old,
)

pub outside_parts : (at n k : ℕ) → is_within (at, n) k ≡ false → (k < at) ⊎ (at + n ≤ k)
outside_parts at n k outside = grind (arith, nat_tests)

-- a byte outside the range
pub written_outside : (at : ℕ) (bytes old : List ℕ) (k : ℕ) → k < length old → is_within (at, length bytes) k ≡ false
    → get_or (written at bytes old) k 0 ≡ get_or old k 0
written_outside at bytes old k lt outside = elim (outside_parts at (length bytes) k outside) [
  | inl before ↦
      let here : k < length (take at old) = omega (arith, length-take at old) in
      let there : k < length (take at old ++ bytes) = omega (arith, here, length-append (take at old) bytes) in
      get_or_append_left (take at old ++ bytes) _ 0 k there
      ∙ get_or_append_left (take at old) bytes 0 k here
      ∙ get_or-take at old k 0 before
  | inr behind ↦
      let size : length (take at old ++ bytes) ≡ at + length bytes
      = omega (arith, length-append (take at old) bytes, length-take at old) in
      get_or-append_right (take at old ++ bytes) (drop (at + length bytes) old) (at + length bytes) k 0 size behind
      ∙ get_or-drop (at + length bytes) old (k - (at + length bytes)) 0
      ∙ ap (λ j. get_or old j 0) (omega arith)
]

pub or_parts : (a b : Bool) → (a || b) ≡ false → (a ≡ false) × (b ≡ false)
or_parts false false is = (refl, refl)
or_parts false true is = (refl, is)
or_parts true b is = cc

pub written_image : (at : ℕ) (bytes : List ℕ) (s : Standing) → IsImageOf s s.content
    → IsImageOf (after_call s (Write at bytes)) (written at bytes s.content)
written_image at bytes s is = record {
  no_shorter = omega (arith, is.no_shorter, length-written at bytes s.content);
  no_longer = omega (arith, is.no_longer, length-written at bytes s.content);
  same = λ k lt clean.
      let parts = or_parts (is_within (at, length bytes) k) (is_touched s.ranges k) clean in
      written_outside at bytes s.content k (omega (arith, is.no_shorter)) parts.0 ∙ is.same k lt parts.1;
}

pub calls_image : (s : Standing) (calls : List Call) → IsImageOf s s.content
    → IsImageOf (after_calls s calls) (after_calls s calls).content
calls_image s [] is = is
calls_image s (Len ∷ calls) is = calls_image s calls is
calls_image s (Read at count ∷ calls) is = calls_image s calls is
calls_image s (Write at bytes ∷ calls) is = calls_image (after_call s (Write at bytes)) calls (written_image at bytes s is)
calls_image s (Sync ∷ calls) is = calls_image (at_rest s.content) calls (at_rest_image s.content)
calls_image s (Restart image ∷ calls) is = calls_image (at_rest image) calls (at_rest_image image)

pub memory_lawful : (first : List ℕ) (calls : List Call) → IsLawful (memory_state first calls)
memory_lawful first calls = record {
  content = calls_image (at_rest first) calls (at_rest_image first);
  counts_now = λ t b le is. record {
    moment = length calls;
    no_earlier = le;
    no_later = omega arith;
    image = subst (λ (l : List Call). IsImageOf (standing_of first l) b) (sym (take_all (length calls) calls (omega arith))) is;
  };
  only_now = λ b was.
      subst (λ (l : List Call). IsImageOf (standing_of first l) b) (take_all was.moment calls was.no_earlier) was.image;
}
