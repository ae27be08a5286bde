-- The room that records take in a store that has them alone.
use Rattle.std.proofs.Common.{◌≡◌, ℕ, ◌+◌, ◌-◌, ◌<◌, ◌≤◌, Bool, true, false, if◌then◌else◌, nat_lt, List, [], ◌∷◌, ◌++◌, length, refl, ap, arith, length-append}
use Rattle.std.proofs.lemmas.Bool.{lt-ltb, ltb-true}
use Rattle.qz_journal.proofs.Stands.{length-body, end_of-push}
use Rattle.qz_journal.proofs.TrueTails.{blocks-append}
use Rattle.qz_journal.specs.Commits.{IsFull, need_of, room_of, HaveRoom}
use Rattle.qz_journal.specs.declared.layout.TheConstants.{MAX_BYTES, MAX_PAYLOADS}
use Rattle.qz_journal.specs.Layout.{body_of, blocks, end_of}

by_test : (b : Bool) (size end : ℕ) → need_of size ≤ (if◌then◌else◌ {A = ℕ} b (MAX_BYTES - (end + 1)) 0) → (b ≡ true) × (end + need_of size < MAX_BYTES)
by_test true size end room = (refl, omega (arith, room))
by_test false size end room = absurd (omega (arith, room))

-- what has room behind the records so far
pub one_fits : (size end count : ℕ) → need_of size ≤ room_of end count → (count < MAX_PAYLOADS) × (end + need_of size < MAX_BYTES)
one_fits size end count room =
    let t = by_test (nat_lt count MAX_PAYLOADS) size end room in
    (ltb-true count MAX_PAYLOADS t.0, t.1)

pub room_next : (rs : List (List ℕ)) (p : List ℕ) (end count : ℕ) → end ≡ end_of rs → count ≡ length rs → need_of (length p) ≤ room_of end count → HaveRoom (rs ++ p ∷ []) 16 0
room_next rs p end count end_is count_is room =
    let fits = one_fits (length p) end count room in
    (omega (arith, fits.1, end_is, end_of-push rs p), omega (arith, fits.0, count_is, length-append rs (p ∷ [])))

-- what has none isn't among records that have
pub full_not : (rs more : List (List ℕ)) (p : List ℕ) (need room : ℕ) → HaveRoom (rs ++ p ∷ more) 16 0 → IsFull (end_of rs) (length rs) (length p) need room → ⊥
full_not rs more p need room have full =
    let few : length rs < MAX_PAYLOADS = omega (arith, have.1, length-append rs (p ∷ more)) in
    let is : room ≡ (if◌then◌else◌ {A = ℕ} true (MAX_BYTES - (end_of rs + 1)) 0) = (rw (lt-ltb (length rs) MAX_PAYLOADS few) at full.1) in
    omega (arith, is, full.0, full.2, have.0, ap length (blocks-append rs (p ∷ more)), length-append (blocks rs) (blocks (p ∷ more)), length-append (body_of p) (blocks more), length-body p)
