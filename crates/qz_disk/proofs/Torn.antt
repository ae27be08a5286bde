-- Writes of adjacent ranges, one after the other.
use Rattle.std.proofs.Common.{◌≡◌, ◌⊎◌, ⊎_elim, ℕ, ◌+◌, ◌-◌, ◌<◌, ◌≤◌, min, List, ◌++◌, length, take, drop, sym, ◌∙◌, ap, subst, arith, append_assoc, drop-drop, length-append, length-take, length-drop}
use Rattle.std.proofs.lemmas.List.{take_all, drop_all, take-take, drop-take, take-append-le, drop-append-le, take-append-drop}
use Rattle.qz_disk.specs.Disk.{written, Torn}
use Rattle.qz_disk.specs.MemoryLaws.{length-written}
use Rattle.qz_disk.proofs.Moments.{torn_same}

pub take_split : (d k : ℕ) (xs : List ℕ) → take (d + k) xs ≡ take d xs ++ take k (drop d xs)
take_split d k xs =
    sym (take-append-drop d (take (d + k) xs))
    ∙ ap (λ (l : List ℕ). l ++ drop d (take (d + k) xs)) (take-take d (d + k) xs (omega arith))
    ∙ ap (λ (l : List ℕ). take d xs ++ l) (drop-take d k xs)

-- the part of a list after one that has this length
pub drop_front : (n : ℕ) (front rest : List ℕ) → length front ≡ n → drop n (front ++ rest) ≡ rest
drop_front n front rest long = drop-append-le n front rest (omega arith) ∙ ap (λ (l : List ℕ). l ++ rest) (drop_all n front (omega arith))

pub take_front : (n : ℕ) (front rest : List ℕ) → length front ≡ n → take n (front ++ rest) ≡ front
take_front n front rest long = take-append-le n front rest (omega arith) ∙ take_all n front (omega arith)

front_length : (at : ℕ) (p c : List ℕ) → at ≤ length c → length (take at c ++ p) ≡ at + length p
front_length at p c within = omega (arith, length-append (take at c) p, length-take at c)

drop-written : (at : ℕ) (p c : List ℕ) → at ≤ length c → drop (at + length p) (written at p c) ≡ drop (at + length p) c
drop-written at p c within = drop_front (at + length p) (take at c ++ p) (drop (at + length p) c) (front_length at p c within)

pub written-written : (at : ℕ) (p q c : List ℕ) → at ≤ length c → written (at + length p) q (written at p c) ≡ written at (p ++ q) c
written-written at p q c within =
    let n : ℕ = at + length p in
    let w : List ℕ = written at p c in
    let front : take n w ≡ take at c ++ p = take_front n (take at c ++ p) (drop n c) (front_length at p c within) in
    let back : drop (n + length q) w ≡ drop (at + length (p ++ q)) c =
    sym (drop-drop (length q) n w)
    ∙ ap (λ (l : List ℕ). drop (length q) l) (drop-written at p c within)
    ∙ drop-drop (length q) n c
    ∙ ap (λ j. drop j c) (omega (arith, length-append p q)) in
    ap (λ (l : List ℕ). l ++ q ++ drop (n + length q) w) front
    ∙ ap (λ (l : List ℕ). take at c ++ p ++ q ++ l) back
    ∙ ap (λ (l : List ℕ). l ++ drop (at + length (p ++ q)) c) (append_assoc (take at c) p q)

pub torn-written : (at : ℕ) (p c : List ℕ) → at ≤ length c → Torn at (length p) c (written at p c)
torn-written at p c within = record {
  before =
      take-append-le (min at (length c)) (take at c ++ p) (drop (at + length p) c) (omega (arith, front_length at p c within))
      ∙ take-append-le (min at (length c)) (take at c) p (omega (arith, length-take at c))
      ∙ take-take (min at (length c)) at c (omega arith);
  behind = drop-written at p c within;
  no_shorter = omega (arith, length-written at p c);
  no_longer = omega (arith, length-written at p c);
}

pub torn_then : (at d k : ℕ) (a m b : List ℕ) → Torn at d a m → Torn (at + d) k m b → Torn at (d + k) a b
torn_then at d k a m b first second =
    let p : ℕ = min at (length a) in
    let q : ℕ = min (at + d) (length m) in
    record {
      before =
          sym (take-take p q b (omega (arith, first.no_shorter)))
          ∙ ap (λ (l : List ℕ). take p l) second.before
          ∙ take-take p q m (omega (arith, first.no_shorter))
          ∙ first.before;
      behind =
          ap (λ j. drop j b) (omega arith)
          ∙ second.behind
          ∙ sym (drop-drop k (at + d) m)
          ∙ ap (λ (l : List ℕ). drop k l) first.behind
          ∙ drop-drop k (at + d) a
          ∙ ap (λ j. drop j a) (omega arith);
      no_shorter = omega (arith, first.no_shorter, second.no_shorter);
      no_longer = omega (arith, first.no_longer, second.no_longer);
    }

-- a longer range
pub torn_wider : (at k j : ℕ) (a b : List ℕ) → k ≤ j → Torn at k a b → Torn at j a b
torn_wider at k j a b le torn = subst (λ n. Torn at n a b) (omega arith) (torn_then at k (j - k) a b b torn (torn_same (at + k) (j - k) b))

-- what a torn write of both ranges leaves, where only the first was torn
pub between : ℕ → List ℕ → List ℕ → List ℕ
between n a b = take n b ++ drop n a

module _ (at d k : ℕ) (a b : List ℕ) (torn : Torn at (d + k) a b) where
  abbrev n : ℕ
  n = at + d

  size : length (between n a b) ≡ min n (length b) + (length a - n)
  unfolding between
  size = omega (arith, length-append (take n b) (drop n a), length-take n b, length-drop n a)

  either : (i j : ℕ) → (i ≤ j) ⊎ (j < i)
  either i j = grind arith

  back : drop n (between n a b) ≡ drop n a
  unfolding between
  back = ⊎_elim
      (λ (long : n ≤ length b). drop_front n (take n b) (drop n a) (omega (arith, length-take n b)))
      (λ (short : length b < n). drop_all n (between n a b) (omega (arith, size, torn.no_shorter)) ∙ sym (drop_all n a (omega (arith, torn.no_shorter))))
      (either n (length b))

  front : (q : ℕ) → q ≤ min n (length b) → take q (between n a b) ≡ take q b
  unfolding between
  front q le = take-append-le q (take n b) (drop n a) (omega (arith, length-take n b)) ∙ take-take q n b (omega arith)

  pub torn_first : Torn at d a (between n a b)
  torn_first = record {
    before = front (min at (length a)) (omega (arith, torn.no_shorter)) ∙ torn.before;
    behind = back;
    no_shorter = omega (arith, size, torn.no_shorter);
    no_longer = omega (arith, size, torn.no_shorter, torn.no_longer);
  }

  pub torn_second : Torn n k (between n a b) b
  torn_second = record {
    before = sym (front (min n (length (between n a b))) (omega (arith, size, torn.no_shorter)));
    behind =
        ap (λ j. drop j b) (omega arith)
        ∙ torn.behind
        ∙ ap (λ j. drop j a) (omega arith)
        ∙ sym (drop-drop k n a)
        ∙ ap (λ (l : List ℕ). drop k l) (sym back)
        ∙ drop-drop k n (between n a b);
    no_shorter = omega (arith, size, torn.no_shorter);
    no_longer = omega (arith, size, torn.no_shorter, torn.no_longer);
  }
