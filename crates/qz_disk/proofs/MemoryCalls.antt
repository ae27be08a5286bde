-- What one call more does to a disk in memory.
use Rattle.std.proofs.Common.{◌≡◌, ◌⊎◌, inl, inr, ⊎_elim, ℕ, ◌+◌, ◌-◌, ◌<◌, ◌≤◌, min, Bool, true, false, cond, ◌||◌, leb, List, [], ◌∷◌, ◌++◌, map, length, take, drop, get_or, sum_by, refl, sym, ◌∙◌, ap, subst, arith, length-append, length-take, length-drop}
use Rattle.std.specs.Prelude.{Ok}
use Rattle.std.specs.List.{range_with_len}
use Rattle.std.proofs.lemmas.List.{take_all, take-append-le, ext_get_or, get_or-take, get_or-drop}
use Rattle.std.proofs.lemmas.List.FromFn.{length-map-range_with_len, get_or-map-range_with_len}
use Rattle.std.proofs.lemmas.List.Sums.{sum_by-append}
use Rattle.std.proofs.lemmas.Bool.Decides.{nat_tests}
use Rattle.qz_disk.specs.declared.calls.Call.{Call}
use Rattle.qz_disk.specs.declared.calls.Call.TheVariants.{Len, Read, Write, Sync, Restart}
use Rattle.qz_disk.specs.Disk.{Torn, Stays, Elapses, Measured, Reads, Writes, Syncs, Restarts}
use Rattle.qz_disk.specs.Memory.{Standing, at_rest, after_call, after_calls, is_within, is_touched, is_reached, reach, IsImageOf, read_count, standing_of, memory_state}
use Rattle.qz_disk.specs.MemoryLaws.{or_parts, outside_parts, memory_lawful}
use Rattle.qz_disk.proofs.Moments.{torn_same}

after_calls-push : (s : Standing) (calls : List Call) (call : Call) → after_calls s (calls ++ call ∷ []) ≡ after_call (after_calls s calls) call
after_calls-push s [] call = refl
after_calls-push s (c ∷ calls) call = after_calls-push (after_call s c) calls call

pub standing-push : (first : List ℕ) (calls later : List Call) (call : Call) → later ≡ calls ++ call ∷ [] → standing_of first later ≡ after_call (standing_of first calls) call
standing-push first calls later call is = ap (standing_of first) is ∙ after_calls-push (at_rest first) calls call

-- time goes on by one call
pub elapses_push : (first : List ℕ) (calls later : List Call) (call : Call) → later ≡ calls ++ call ∷ [] → Elapses (memory_state first calls) (memory_state first later)
elapses_push first calls later call is =
    let long : length later ≡ length calls + 1 = omega (arith, ap length is, length-append calls (call ∷ [])) in
    let front : (k : ℕ) → k ≤ length calls → take k later ≡ take k calls = λ k le. ap (λ (l : List Call). take k l) is ∙ take-append-le k calls (call ∷ []) le in
    record {
      later = omega (arith, long);
      nothing_else = λ t b le was. ⊎_elim
          (λ now. inr (subst (λ (l : List Call). IsImageOf (standing_of first l) b) (take_all was.moment later now) was.image))
          (λ (before : was.moment ≤ length calls). inl (record { moment = was.moment; no_earlier = was.no_earlier; no_later = before; image = subst (λ (l : List Call). IsImageOf (standing_of first l) b) (front was.moment before) was.image }))
          (either was.moment (length calls) (length later) long);
      keeps = λ t b le was. record { moment = was.moment; no_earlier = was.no_earlier; no_later = omega (arith, was.no_later, long); image = subst (λ (l : List Call). IsImageOf (standing_of first l) b) (sym (front was.moment was.no_later)) was.image };
    }
  where
    either : (m n k : ℕ) → k ≡ n + 1 → (k ≤ m) ⊎ (m ≤ n)
    either m n k e = grind arith

-- a call that changes nothing
stays : (first : List ℕ) (calls later : List Call) → standing_of first later ≡ standing_of first calls → Stays (memory_state first calls) (memory_state first later)
stays first calls later same = record {
  content = ap (λ (s : Standing). s.content) same;
  images = λ b. (λ is. subst (λ (s : Standing). IsImageOf s b) same is, λ is. subst (λ (s : Standing). IsImageOf s b) (sym same) is);
}

read-push : (calls later : List Call) (call : Call) → later ≡ calls ++ call ∷ [] → sum_by read_count later ≡ sum_by read_count calls + read_count call
read-push calls later call is = omega (arith, ap (sum_by read_count) is, sum_by-append read_count calls (call ∷ []))

-- The record of a call later: first bytes and calls as `prepare` left them, and one call more.
pub record IsLater (first first_2 : List ℕ) (calls mid later : List Call) (call : Call) : Type 0 where
  pub same_first : first_2 ≡ first
  pub same_calls : mid ≡ calls
  pub pushed : later ≡ mid ++ call ∷ []

-- so it does to say what a call did where only the calls are longer
later_by : (R : List ℕ → Type 0) (first first_2 : List ℕ) (calls mid later : List Call) (call : Call) → IsLater first first_2 calls mid later call → (later ≡ calls ++ call ∷ [] → R first) → R first_2
later_by R first first_2 calls mid later call is here = subst R (sym is.same_first) (here (is.pushed ∙ ap (λ (l : List Call). l ++ call ∷ []) is.same_calls))

-- what a call that changes no content leaves of it
pub kept_by : (first : List ℕ) (mid later : List Call) (call : Call) (content : List ℕ) → content ≡ (standing_of first mid).content → (after_call (standing_of first mid) call).content ≡ (standing_of first mid).content → later ≡ mid ++ call ∷ [] → content ≡ (standing_of first later).content
kept_by first mid later call content is same pushed = is ∙ sym (ap (λ (s : Standing). s.content) (standing-push first mid later call pushed) ∙ same)

pub len_call : (first first_2 : List ℕ) (calls mid later : List Call) → IsLater first first_2 calls mid later Len → Measured (memory_state first calls) (memory_state first_2 later)
len_call first first_2 calls mid later is = later_by (λ f. Measured (memory_state first calls) (memory_state f later)) first first_2 calls mid later Len is (λ push. record {
  time = elapses_push first calls later Len push;
  same = stays first calls later (standing-push first calls later Len push);
  bytes_read = read-push calls later Len push ∙ omega arith;
})

pub read_call : {E : Type 0} (first first_2 : List ℕ) (calls mid later : List Call) (at : ℕ) (into : List ℕ) → into ≡ take (length into) (drop at (standing_of first calls).content) → IsLater first first_2 calls mid later (Read at (length into)) → Reads {T = Unit {0}} {E = E} at (Ok tt) into (memory_state first calls) (memory_state first_2 later)
read_call {E} first first_2 calls mid later at into bytes is = later_by (λ f. Reads {T = Unit {0}} {E = E} at (Ok tt) into (memory_state first calls) (memory_state f later)) first first_2 calls mid later (Read at (length into)) is (λ push. record {
  time = elapses_push first calls later (Read at (length into)) push;
  same = stays first calls later (standing-push first calls later (Read at (length into)) push);
  bytes = bytes;
  bytes_read = read-push calls later (Read at (length into)) push;
  failed = tt;
})

-- all of it is on the disk
rest_only : (bytes b : List ℕ) → IsImageOf (at_rest bytes) b → b ≡ bytes
rest_only bytes b is = ext_get_or 0 b bytes (omega (arith, is.no_shorter, is.no_longer)) (λ k lt. is.same k (omega (arith, is.no_longer)) refl)

pub sync_call : {E : Type 0} (first first_2 : List ℕ) (calls mid later : List Call) → IsLater first first_2 calls mid later Sync → Syncs {T = Unit {0}} {E = E} (Ok tt) (memory_state first calls) (memory_state first_2 later)
sync_call {E} first first_2 calls mid later is = later_by (λ f. Syncs {T = Unit {0}} {E = E} (Ok tt) (memory_state first calls) (memory_state f later)) first first_2 calls mid later Sync is (λ push. record {
  time = elapses_push first calls later Sync push;
  content = ap (λ (s : Standing). s.content) (standing-push first calls later Sync push);
  durable = λ b image. rest_only _ b (subst (λ (s : Standing). IsImageOf s b) (standing-push first calls later Sync push) image);
  images = λ b image. subst (IsImageOf (standing_of first calls)) (sym (rest_only _ b (subst (λ (s : Standing). IsImageOf s b) (standing-push first calls later Sync push) image))) (memory_lawful first calls).content;
  bytes_read = read-push calls later Sync push ∙ omega arith;
})

pub restart_call : {E : Type 0} (first first_2 : List ℕ) (calls mid later : List Call) (image : List ℕ) → IsImageOf (standing_of first calls) image → IsLater first first_2 calls mid later (Restart image) → Restarts {T = Unit {0}} {E = E} (Ok tt) (memory_state first calls) (memory_state first_2 later)
restart_call {E} first first_2 calls mid later image among is = later_by (λ f. Restarts {T = Unit {0}} {E = E} (Ok tt) (memory_state first calls) (memory_state f later)) first first_2 calls mid later (Restart image) is (λ push.
    let up = standing-push first calls later (Restart image) push in
    record {
      time = elapses_push first calls later (Restart image) push;
      image = subst (IsImageOf (standing_of first calls)) (sym (ap (λ (s : Standing). s.content) up)) among;
      durable = λ b of_new. rest_only image b (subst (λ (s : Standing). IsImageOf s b) up of_new) ∙ sym (ap (λ (s : Standing). s.content) up);
      failed = tt;
      bytes_read = read-push calls later (Restart image) push ∙ omega arith;
    })

at_least : (n : ℕ) (ranges : List (ℕ × ℕ)) → n ≤ reach n ranges
at_least n [] = omega arith
at_least n (r ∷ ranges) = omega (arith, at_least n ranges)

bool_cases : (b : Bool) → (b ≡ true) ⊎ (b ≡ false)
bool_cases true = inl refl
bool_cases false = inr refl

-- what an image was before a write: the range as it was at the sync, and no longer than it could be
within : ℕ → ℕ → List ℕ → List ℕ → ℕ → ℕ
within at n synced b k = cond (is_within (at, n) k) (get_or synced k 0) (get_or b k 0)

within_in : (at n : ℕ) (synced b : List ℕ) (k : ℕ) → is_within (at, n) k ≡ true → within at n synced b k ≡ get_or synced k 0
unfolding within
within_in at n synced b k is = ap (λ t. cond t (get_or synced k 0) (get_or b k 0)) is

within_out : (at n : ℕ) (synced b : List ℕ) (k : ℕ) → is_within (at, n) k ≡ false → within at n synced b k ≡ get_or b k 0
unfolding within
within_out at n synced b k is = ap (λ t. cond t (get_or synced k 0) (get_or b k 0)) is

before_range : (at n k : ℕ) → k < at → is_within (at, n) k ≡ false
before_range at n k lt = grind (arith, nat_tests)

behind_range : (at n k : ℕ) → at + n ≤ k → is_within (at, n) k ≡ false
behind_range at n k le = grind (arith, nat_tests)

both_clean : (a b : Bool) → a ≡ false → b ≡ false → (a || b) ≡ false
both_clean a b x y = ap (λ t. t || b) x ∙ y

module _ (s : Standing) (at n : ℕ) (after b : List ℕ) (is : IsImageOf (record { content = after; synced = s.synced; ranges = (at, n) ∷ s.ranges }) b) where
  abbrev m : ℕ
  m = min (length b) (reach (length s.synced) s.ranges)

  abbrev a : List ℕ
  a = map (within at n s.synced b) (range_with_len 0 m)

  size : length a ≡ m
  size = length-map-range_with_len (within at n s.synced b) 0 m

  reads : (k : ℕ) → k < m → get_or a k 0 ≡ within at n s.synced b k
  reads k lt = get_or-map-range_with_len (within at n s.synced b) 0 m k k 0 lt (omega arith)

  enough : length s.synced ≤ reach (length s.synced) s.ranges
  enough = at_least (length s.synced) s.ranges

  kept : (k : ℕ) → k < length s.synced → is_touched s.ranges k ≡ false → within at n s.synced b k ≡ get_or s.synced k 0
  kept k lt clean = elim (bool_cases (is_within (at, n) k)) [
    | inl inside ↦ within_in at n s.synced b k inside
    | inr outside ↦ within_out at n s.synced b k outside ∙ is.same k lt (both_clean _ _ outside clean)
  ]

  image : IsImageOf s a
  image = record {
    no_shorter = omega (arith, size, is.no_shorter, enough);
    no_longer = omega (arith, size);
    same = λ k lt clean. reads k (omega (arith, is.no_shorter, enough)) ∙ kept k lt clean;
  }

  torn : Torn at n a b
  torn = record {
    before = ext_get_or 0 (take (min at (length a)) b) (take (min at (length a)) a) (omega (arith, size, length-take (min at (length a)) b, length-take (min at (length a)) a)) (λ k lt.
        let here : k < min at (length a) = omega (arith, length-take (min at (length a)) b) in
        let below : k < at = omega (arith, here) in
        let short : k < m = omega (arith, here, size) in
        get_or-take (min at (length a)) b k 0 here ∙ sym (get_or-take (min at (length a)) a k 0 here ∙ reads k short ∙ within_out at n s.synced b k (before_range at n k below)));
    behind = ext_get_or 0 (drop (at + n) b) (drop (at + n) a) (omega (arith, size, length-drop (at + n) b, length-drop (at + n) a, is.no_longer)) (λ k lt.
        let short : at + n + k < m = omega (arith, length-drop (at + n) b, is.no_longer) in
        get_or-drop (at + n) b k 0 ∙ sym (get_or-drop (at + n) a k 0 ∙ reads (at + n + k) short ∙ within_out at n s.synced b (at + n + k) (behind_range at n (at + n + k) (omega arith))));
    no_shorter = omega (arith, size);
    no_longer = omega (arith, size, is.no_longer);
  }

  pub was_image : (a : List ℕ) × IsImageOf s a × Torn at n a b
  was_image = (a, image, torn)

-- a byte that a torn write leaves as it was
pub torn_outside : (at n : ℕ) (from b : List ℕ) (k : ℕ) → Torn at n from b → k < length from → (k < at) ⊎ (at + n ≤ k) → get_or b k 0 ≡ get_or from k 0
torn_outside at n from b k torn there (inl before) =
    let front : k < min at (length from) = omega arith in
    sym (get_or-take (min at (length from)) b k 0 front) ∙ ap (λ (l : List ℕ). get_or l k 0) torn.before ∙ get_or-take (min at (length from)) from k 0 front
torn_outside at n from b k torn there (inr behind) =
    let place : at + n + (k - (at + n)) ≡ k = omega arith in
    sym (ap (λ j. get_or b j 0) place) ∙ sym (get_or-drop (at + n) b (k - (at + n)) 0) ∙ ap (λ (l : List ℕ). get_or l (k - (at + n)) 0) torn.behind ∙ get_or-drop (at + n) from (k - (at + n)) 0 ∙ ap (λ j. get_or from j 0) place

-- each torn image is one
torn_image : (s : Standing) (at n : ℕ) (after a b : List ℕ) → IsImageOf s a → Torn at n a b → IsImageOf (record { content = after; synced = s.synced; ranges = (at, n) ∷ s.ranges }) b
torn_image s at n after a b is torn = record {
  no_shorter = omega (arith, is.no_shorter, torn.no_shorter);
  no_longer = omega (arith, is.no_longer, torn.no_longer);
  same = λ k lt clean.
      let parts = or_parts (is_within (at, n) k) (is_touched s.ranges k) clean in
      torn_outside at n a b k torn (omega (arith, is.no_shorter)) (outside_parts at n k parts.0) ∙ is.same k lt parts.1;
}

pub write_call : {E : Type 0} (first first_2 : List ℕ) (calls mid later : List Call) (at : ℕ) (bytes : List ℕ) → IsLater first first_2 calls mid later (Write at bytes) → Writes {T = Unit {0}} {E = E} at bytes (Ok tt) (memory_state first calls) (memory_state first_2 later)
write_call {E} first first_2 calls mid later at bytes is = later_by (λ f. Writes {T = Unit {0}} {E = E} at bytes (Ok tt) (memory_state first calls) (memory_state f later)) first first_2 calls mid later (Write at bytes) is (λ push.
    let up = standing-push first calls later (Write at bytes) push in
    record {
      time = elapses_push first calls later (Write at bytes) push;
      content = ap (λ (s : Standing). s.content) up;
      failed = tt;
      any_bytes = λ a b of_old torn. subst (λ (s : Standing). IsImageOf s b) (sym up) (torn_image (standing_of first calls) at (length bytes) _ a b of_old torn);
      keeps = λ b of_old. subst (λ (s : Standing). IsImageOf s b) (sym up) (torn_image (standing_of first calls) at (length bytes) _ b b of_old (torn_same at (length bytes) b));
      images = λ b of_new. was_image (standing_of first calls) at (length bytes) _ b (subst (λ (s : Standing). IsImageOf s b) up of_new);
      bytes_read = read-push calls later (Write at bytes) push ∙ omega arith;
    })

pub not_fresh : {P : Type 0} (copied : Bool) → copied ≡ true → copied ≡ false → P
not_fresh true is other = cc
not_fresh false is other = cc

pub reached : (n : ℕ) (ranges : List (ℕ × ℕ)) (len : ℕ) → is_reached ranges len ≡ true → len ≤ reach n ranges
reached n [] len is = cc
reached n (r ∷ ranges) len is = elim (bool_cases (is_reached ranges len)) [
  | inl later ↦ omega (arith, reached n ranges len later)
  | inr none ↦ omega (arith, ends_behind r.0 r.1 len (last_one _ _ is none))
]
  where
    last_one : (a b : Bool) → (a || b) ≡ true → b ≡ false → a ≡ true
    last_one true b is none = refl
    last_one false b is none = cc

    ends_behind : (at count len : ℕ) → (leb len count || leb (len - count) at) ≡ true → len ≤ at + count
    ends_behind at count len is = grind (arith, nat_tests)

no_less : (n : ℕ) (ranges : List (ℕ × ℕ)) (len : ℕ) → len ≤ n → len ≤ reach n ranges
no_less n ranges len le = omega (arith, at_least n ranges)

pub image_from : (s : Standing) (synced : List ℕ) (ranges : List (ℕ × ℕ)) (bytes : List ℕ) → s.synced ≡ synced → s.ranges ≡ ranges → length synced ≤ length bytes → (length bytes ≤ length synced) ⊎ (is_reached ranges (length bytes) ≡ true)
    → ((i : ℕ) → i < length synced → is_touched ranges i ≡ false → get_or bytes i 0 ≡ get_or synced i 0) → IsImageOf s bytes
image_from s synced ranges bytes synced_is ranges_is long ends same = record {
  no_shorter = omega (arith, ap length synced_is, long);
  no_longer = subst (λ (l : List ℕ). length bytes ≤ reach (length l) s.ranges) (sym synced_is) (subst (λ (rs : List (ℕ × ℕ)). length bytes ≤ reach (length synced) rs) (sym ranges_is) (⊎_elim (no_less (length synced) ranges (length bytes)) (reached (length synced) ranges (length bytes)) ends));
  same = λ k lt clean. same k (omega (arith, ap length synced_is, lt)) (ap (λ (rs : List (ℕ × ℕ)). is_touched rs k) (sym ranges_is) ∙ clean) ∙ ap (λ (l : List ℕ). get_or l k 0) (sym synced_is);
}

-- a length past the sync's that one of the ranges reaches
pub reached_back : (n : ℕ) (ranges : List (ℕ × ℕ)) (len : ℕ) → n < len → len ≤ reach n ranges → is_reached ranges len ≡ false → ⊥
reached_back n [] len past le none = absurd (omega (arith, past, le))
reached_back n (r ∷ ranges) len past le none =
    let parts = or_parts (leb len r.1 || leb (len - r.1) r.0) (is_reached ranges len) none in
    let short : r.0 + r.1 < len = ends_before r.0 r.1 len parts.0 in
    reached_back n ranges len past (omega (arith, le, short)) parts.1
  where
    ends_before : (at count len : ℕ) → (leb len count || leb (len - count) at) ≡ false → at + count < len
    ends_before at count len is = grind (arith, nat_tests)

pub not_reached : (s : Standing) (synced : List ℕ) (ranges : List (ℕ × ℕ)) (bytes : List ℕ) → s.synced ≡ synced → s.ranges ≡ ranges → length synced < length bytes → is_reached ranges (length bytes) ≡ false → IsImageOf s bytes → ⊥
not_reached s synced ranges bytes synced_is ranges_is past none is =
    reached_back (length s.synced) s.ranges (length bytes) (omega (arith, ap length synced_is, past)) is.no_longer (ap (λ (rs : List (ℕ × ℕ)). is_reached rs (length bytes)) ranges_is ∙ none)
