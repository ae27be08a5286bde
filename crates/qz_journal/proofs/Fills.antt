-- Payloads that go to a journal in groups.
use Rattle.std.proofs.Common.{◌≡◌, refl, true, false, ⊎_elim, ℕ, ◌+◌, ◌≤◌, List, ◌++◌, length, take, drop, sym, ◌∙◌, ap, subst, arith, append_assoc, append-nil, length-append, length-take, length-drop, take-append-drop, take-add}
use Rattle.std.specs.Prelude.{All, Option, Some, None, Err, ◌-◌, nat_lt, if◌then◌else◌}
use Rattle.std.specs.declared.result.Result.{Result}
use Rattle.std.proofs.lemmas.Bool.{ltb-true}
use Rattle.std.proofs.lemmas.List.Elements.{All-take, All-drop}
use Rattle.qz_disk.specs.Disk.{DiskState, Only, IsLawful, LeavesOnly}
use Rattle.qz_disk.proofs.Moments.{started, then_leaves, content_among}
use Rattle.qz_journal.specs.Commits.{HaveRoom, IsFullFor, room_for}
use Rattle.qz_journal.specs.declared.errors.AppendError.{AppendError}
use Rattle.qz_journal.specs.declared.errors.AppendError.TheVariants as journal
use Rattle.qz_journal.specs.declared.layout.TheConstants.{MAX_BYTES, MAX_PAYLOADS}
use Rattle.qz_journal.specs.Layout.{IsPayload, Holds, IsWithoutOrWithAll, HoldFirst, blocks, end_of}
use Rattle.qz_journal.proofs.SlotBytes.{take-shorter}
use Rattle.qz_journal.proofs.Stands.{blocks-both, end_of-both}

-- some more of a list
pub take_both : (i n : ℕ) (xs : List (List ℕ)) → take (i + n) xs ≡ take i xs ++ take n (drop i xs)
take_both i n xs = take-add i n xs

-- a piece has room behind those before it
pub piece_room : (xs : List (List ℕ)) (i n offset count gate before : ℕ) → i + n ≤ length xs → HaveRoom xs offset count → gate ≡ offset + length (blocks (take i xs)) → before ≡ count + i → HaveRoom (take n (drop i xs)) gate before
piece_room xs i n offset count gate before le room gate_is before_is = (
  omega (
    arith,
    room.0,
    gate_is,
    ap (λ (l : List (List ℕ)). length (blocks l)) (take_both i n xs),
    ap length (blocks-both (take i xs) (take n (drop i xs))),
    length-append (blocks (take i xs)) (blocks (take n (drop i xs))),
    ap (λ (l : List (List ℕ)). length (blocks l)) (take-append-drop (i + n) xs),
    ap length (blocks-both (take (i + n) xs) (drop (i + n) xs)),
    length-append (blocks (take (i + n) xs)) (blocks (drop (i + n) xs)),
  ),
  omega (arith, room.1, before_is, le, length-take n (drop i xs), length-drop i xs),
)

pub gate_later : (xs : List (List ℕ)) (i n offset gate after : ℕ) → gate ≡ offset + length (blocks (take i xs)) → after ≡ gate + length (blocks (take n (drop i xs))) → after ≡ offset + length (blocks (take (i + n) xs))
gate_later xs i n offset gate after is after_is =
    omega (arith, is, after_is, ap (λ (l : List (List ℕ)). length (blocks l)) (take_both i n xs), ap length (blocks-both (take i xs) (take n (drop i xs))), length-append (blocks (take i xs)) (blocks (take n (drop i xs))))

pub gate_at : (all xs : List (List ℕ)) (i offset gate : ℕ) → gate ≡ offset + length (blocks (take i xs)) → offset ≡ end_of all → gate ≡ end_of (all ++ take i xs)
gate_at all xs i offset gate is offset_is = omega (arith, end_of-both all (take i xs), is, offset_is)

pub held_later : (b : List ℕ) (v k : ℕ) (all xs : List (List ℕ)) (i n : ℕ) → Holds b v k ((all ++ take i xs) ++ take n (drop i xs)) → Holds b v k (all ++ take (i + n) xs)
held_later b v k all xs i n holds = subst (Holds b v k) (append_assoc all (take i xs) (take n (drop i xs)) ∙ ap (λ (l : List (List ℕ)). all ++ l) (sym (take_both i n xs))) holds

pub same_holds : (b : List ℕ) (v w k l : ℕ) (ps : List (List ℕ)) → v ≡ w → k ≡ l → Holds b v k ps → Holds b w l ps
same_holds b v w k l ps v_is k_is holds = subst (λ x. Holds b x l ps) v_is (subst (λ x. Holds b v x ps) k_is holds)

-- before the first group
pub none_yet : (v k : ℕ) (all xs : List (List ℕ)) (s : DiskState) → IsLawful s → Only s.content s → Holds s.content v k all → LeavesOnly s s (HoldFirst v k all xs)
none_yet v k all xs s lawful only holds = started s _ lawful (λ b is. record { many = 0; holds = subst (Holds b v k) (sym (append-nil all)) (subst (λ (l : List ℕ). Holds l v k all) (sym (only b is)) holds) })

-- one group more
pub one_group : (v w k l : ℕ) (all xs : List (List ℕ)) (i n : ℕ) (old s t : DiskState) → w ≡ v → l ≡ k → LeavesOnly old s (HoldFirst v k all xs) → LeavesOnly s t (IsWithoutOrWithAll w l (all ++ take i xs) (take n (drop i xs))) → LeavesOnly old t (HoldFirst v k all xs)
one_group v w k l all xs i n old s t v_is k_is so_far more =
    then_leaves old s t _ _ _ so_far more (λ b x. x)
    (λ b either. ⊎_elim (λ before. record { many = i; holds = same_holds b w v l k (all ++ take i xs) v_is k_is before })
    (λ after. record { many = i + n; holds = held_later b v k all xs i n (same_holds b w v l k ((all ++ take i xs) ++ take n (drop i xs)) v_is k_is after) }) either)

pub piece_sizes : (xs : List (List ℕ)) (i n : ℕ) → All IsPayload xs → All IsPayload (take n (drop i xs))
piece_sizes xs i n all = All-take IsPayload n (drop i xs) (All-drop IsPayload i xs all)

-- no byte before the first gate changes
pub one_front : (first gate : ℕ) (content : List ℕ) (old s t : DiskState) → first ≤ gate → IsLawful s → LeavesOnly old s (λ b. take first b ≡ take first content) → LeavesOnly s t (λ b. take gate b ≡ take gate s.content) → LeavesOnly old t (λ b. take first b ≡ take first content)
one_front first gate content old s t le lawful so_far more =
    then_leaves old s t _ _ _ so_far more (λ b x. x) (λ b same. take-shorter first gate b s.content le same ∙ content_among old s _ lawful so_far)

pub no_front : (gate : ℕ) (s : DiskState) → IsLawful s → Only s.content s → LeavesOnly s s (λ b. take gate b ≡ take gate s.content)
no_front gate s lawful only = started s _ lawful (λ b is. ap (λ (l : List ℕ). take gate l) (only b is))

-- Payloads that have room have it as a group.
as_group : (gate count bytes n : ℕ) → count + n ≤ MAX_PAYLOADS → bytes ≤ MAX_BYTES - (gate + 1) → bytes ≤ room_for gate count n
as_group gate count bytes n few le = elim (nat_lt (MAX_PAYLOADS - count) n) as (λ c. nat_lt (MAX_PAYLOADS - count) n ≡ c → bytes ≤ (if c then 0 else MAX_BYTES - (gate + 1))) [
  | true ↦ λ lt. absurd (omega (arith, ltb-true (MAX_PAYLOADS - count) n lt, few))
  | false ↦ λ lt. le
] refl

-- An open journal in which they have room fails by the disk alone.
pub fault_only : {T : Type 0} (x : AppendError) (result : Result T AppendError) (closed : Option ℕ) (gate count : ℕ) (ps : List (List ℕ)) → result ≡ Err x → closed ≡ None → HaveRoom ps gate count
    → ((at : ℕ) → (result ≡ Err (journal.Closed at)) → (closed ≡ Some at)) → ((need room : ℕ) → (result ≡ Err (journal.JournalFull need room)) → ((closed ≡ None) × IsFullFor ps gate count need room))
    → result ≡ Err journal.Fault
fault_only (journal.Closed at) result closed gate count ps is is_open fits shut full = let there : closed ≡ Some at = shut at is in absurd (cc)
fault_only (journal.JournalFull need room) result closed gate count ps is is_open fits shut full =
    let there = full need room is in absurd (omega (arith, there.1.0, there.1.1, there.1.2, as_group gate count (length (blocks ps)) (length ps) fits.1 fits.0))
fault_only journal.Fault result closed gate count ps is is_open fits shut full = is
