-- Why a thread stopped is known of the seats into which its own were joined, and then of the stores.
use Rattle.std.proofs.Common.{◌≡◌, ◌⊎◌, inl, inr, ℕ, ℤ, Bool, true, false, List, [], ◌∷◌, ◌++◌, if◌then◌else◌, sym, subst}
use Rattle.std.specs.Prelude.{⊤, Contains, Option, Some, None, IfSome, nat_lt}
use mathlib.Core.List.{IsPrefix}
use Rattle.qz_types.specs.Entries.{EntryData, StateEntryData}
use Rattle.qz_types.specs.Rows.{MemberData}
use Rattle.qz_types.specs.declared.replies.Reply.{Reply}
use Rattle.qz_stores.specs.Stores.{EntryKind, StoreState}
use Rattle.qz_checkin.specs.Rows.{StateTables}
use Rattle.qz_run.specs.declared.commands.Declined.{Declined}
use Rattle.qz_shared.specs.Calls.{Known}
use Rattle.qz_rounds.specs.Adding.{IsRecovery, IsRoundEntry}
use Rattle.qz_rounds.specs.Declining.{IsStopped}
use Rattle.qz_rounds.proofs.Lasting.{recovery_on, entries_on}
use Rattle.qz_rounds.proofs.Lists.{prefix_trans, prefix_refl}
use Rattle.qz_serve.specs.Causes.{least_cause, rank}
use Rattle.qz_serve.specs.Declining.{AtLimit, DeclinedOnTheWay}
use Rattle.qz_serve.specs.Entries.{IsScheduled}
use Rattle.qz_serve.specs.Stopping.{IsOfThreads, IsRowOfThreads, StoppedAfter}
use Rattle.qz_serve.proofs.Growing.{declined_seen, limit_map}
use Rattle.qz_serve.proofs.Lists.{contains_one}

-- Of causes.

pub some_map : (P Q : Declined → Type 0) → ((w : Declined) → P w → Q w) → (o : Option Declined) → IfSome o P → IfSome o Q
some_map P Q f None p = tt
some_map P Q f (Some w) p = f w p

-- what is so of both causes is so of the least one
pub least : (P : Declined → Type 0) (a b : Option Declined) → IfSome a P → IfSome b P → IfSome (least_cause a b) P
least P None b p q = q
least P (Some a) None p q = p
least P (Some a) (Some b) p q = by (nat_lt (rank b) (rank a)) where
  by : (x : Bool) → IfSome (if x then Some b else Some a) P
  by true = q
  by false = p

module _ (shows : ℤ → Type 0) (until : ℤ) (leaves : List StateEntryData → StateTables → Type 0) (first : List StateEntryData) where
  asked_on : (me : MemberData) (number : ℕ) (seen more : List StateEntryData) → IsPrefix seen more → (e : EntryData) → IsScheduled shows until me number e ⊎ IsRecovery shows leaves first me seen e → IsScheduled shows until me number e ⊎ IsRecovery shows leaves first me more e
  asked_on me number seen more p e (inl s) = inl s
  asked_on me number seen more p e (inr r) = inr (recovery_on shows leaves first me seen more p e r)

  -- more was seen, and more nodes are counted
  pub threads_on : (names wider : List (List ℕ)) (seen more : List StateEntryData) → IsPrefix seen more → ((x : List ℕ) → Contains names x → Contains wider x) → (e : EntryData) → IsOfThreads shows until leaves first names seen e → IsOfThreads shows until leaves first wider more e
  threads_on names wider seen more p among e of = record { me = of.me; number = of.number; ours = among of.me.node of.ours; asked = asked_on of.me of.number seen more p e of.asked }

  pub rows_on : (names wider : List (List ℕ)) (seen more : List StateEntryData) → IsPrefix seen more → ((x : List ℕ) → Contains names x → Contains wider x) → (e : StateEntryData) → IsRowOfThreads shows until leaves first names seen e → IsRowOfThreads shows until leaves first wider more e
  rows_on names wider seen more p among e of = record { me = of.me; ours = among of.me.node of.ours; asked = (entries_on shows leaves first of.me.node seen more (e ∷ []) p (of.asked, tt)).0 }

module _ {H E R : Type 0} (kind : EntryKind H E R) (listed : H → List E) (opened : StoreState H E) where
  stopped_map : (P Q : E → Type 0) → ((e : E) → P e → Q e) → (k : Known E) (w : Declined) → IsStopped kind listed opened P k w → IsStopped kind listed opened Q k w
  stopped_map P Q f k w s = record { entry = s.entry; error = s.error; is_one = f s.entry s.is_one; cause = s.cause; reason = s.reason }

  pub after_map : (base : List E) (P Q : E → Type 0) → ((e : E) → P e → Q e) → (seen more : List E) → IsPrefix seen more → (w : Declined) → StoppedAfter kind listed opened base P seen w → StoppedAfter kind listed opened base Q more w
  after_map base P Q f seen more p w s = record { knows = s.knows; stopped = stopped_map P Q f s.knows w s.stopped; begins = s.begins; within = prefix_trans s.knows.seen seen more s.within p }

  -- a thread that stopped, by its seat
  pub after_own : (base : List E) (P Q : E → Type 0) → ((e : E) → P e → Q e) → (k : Known E) (past more : List E) → k.seen ≡ base ++ past → IsPrefix k.seen more → (w : Declined) → IsStopped kind listed opened P k w → StoppedAfter kind listed opened base Q more w
  after_own base P Q f k past more seen_is p w s = record { knows = k; stopped = stopped_map P Q f k w s; begins = (past, sym seen_is); within = p }

  pub after_declined : (lists : (e : E) (h : H) → listed (kind.with_entry e h) ≡ listed h ++ e ∷ []) (now : StoreState H E) (base : List E) (P Q : E → Type 0) → ((e : E) → P e → Q e) → (seen : List E) (w : Declined) → base ≡ listed opened.history → IsPrefix seen (listed now.history)
      → StoppedAfter kind listed opened base P seen w → AtLimit (DeclinedOnTheWay kind listed Q opened now) w
  after_declined lists now base P Q f seen w same p s =
      declined_seen kind listed lists Q opened now s.knows w (stopped_map P Q f s.knows w s.stopped) (subst (λ xs. IsPrefix xs s.knows.seen) same s.begins) (prefix_trans s.knows.seen seen (listed now.history) s.within p)

-- A store declined what a thread of one of these nodes asked.
module _ {H I : Type 0} (kind : EntryKind H EntryData Reply) (listed : H → List EntryData) (row_kind : EntryKind I StateEntryData ⊤) (row_listed : I → List StateEntryData) (shows : ℤ → Type 0) (names : List (List ℕ)) (now : StoreState H EntryData) (now_rows : StoreState I StateEntryData) where
  abbrev pub DeclinedThread : StoreState H EntryData → StoreState I StateEntryData → ℤ → (List StateEntryData → StateTables → Type 0) → List StateEntryData → Declined → Type 0
  DeclinedThread opened row_opened until leaves first w =
      DeclinedOnTheWay kind listed (IsOfThreads shows until leaves first names (row_listed now_rows.history)) opened now w
      ⊎ DeclinedOnTheWay row_kind row_listed (IsRowOfThreads shows until leaves first names (row_listed now_rows.history)) row_opened now_rows w

  -- the same by other names
  pub thread_as : (opened opened' : StoreState H EntryData) (row_opened row_opened' : StoreState I StateEntryData) (until until' : ℤ) (leaves leaves' : List StateEntryData → StateTables → Type 0) (first first' : List StateEntryData) (o : Option Declined)
      → opened ≡ opened' → row_opened ≡ row_opened' → until ≡ until' → leaves ≡ leaves' → first ≡ first' → IfSome o (AtLimit (DeclinedThread opened row_opened until leaves first)) → IfSome o (AtLimit (DeclinedThread opened' row_opened' until' leaves' first'))
  thread_as opened opened' row_opened row_opened' until until' leaves leaves' first first' o a b c d e x =
      subst (λ s. IfSome o (AtLimit (DeclinedThread s row_opened' until' leaves' first'))) a
      (subst (λ s. IfSome o (AtLimit (DeclinedThread opened s until' leaves' first'))) b
      (subst (λ s. IfSome o (AtLimit (DeclinedThread opened row_opened s leaves' first'))) c
      (subst (λ s. IfSome o (AtLimit (DeclinedThread opened row_opened until s first'))) d
      (subst (λ s. IfSome o (AtLimit (DeclinedThread opened row_opened until leaves s))) e x))))

-- Of both stores.
module _ {H I : Type 0} (kind : EntryKind H EntryData Reply) (listed : H → List EntryData) (opened : StoreState H EntryData) (base : List EntryData)
    (row_kind : EntryKind I StateEntryData ⊤) (row_listed : I → List StateEntryData) (row_opened : StoreState I StateEntryData) (row_base : List StateEntryData)
    (shows : ℤ → Type 0) (until : ℤ) (leaves : List StateEntryData → StateTables → Type 0) (first : List StateEntryData) where
  abbrev Stopped : List (List ℕ) → List EntryData → List StateEntryData → Declined → Type 0
  Stopped names seen rows w =
      StoppedAfter kind listed opened base (IsOfThreads shows until leaves first names rows) seen w ⊎ StoppedAfter row_kind row_listed row_opened row_base (IsRowOfThreads shows until leaves first names rows) rows w

  more_stopped : (names wider : List (List ℕ)) (seen more : List EntryData) (rows more_rows : List StateEntryData) → ((x : List ℕ) → Contains names x → Contains wider x) → IsPrefix seen more → IsPrefix rows more_rows
      → (w : Declined) → Stopped names seen rows w → Stopped wider more more_rows w
  more_stopped names wider seen more rows more_rows among p q w (inl s) =
      inl (after_map kind listed opened base (IsOfThreads shows until leaves first names rows) (IsOfThreads shows until leaves first wider more_rows) (threads_on shows until leaves first names wider rows more_rows q among) seen more p w s)
  more_stopped names wider seen more rows more_rows among p q w (inr s) =
      inr (after_map row_kind row_listed row_opened row_base (IsRowOfThreads shows until leaves first names rows) (IsRowOfThreads shows until leaves first wider more_rows) (rows_on shows until leaves first names wider rows more_rows q among) rows more_rows q w s)

  -- The seats of nodes were joined.
  pub joined_stopped : (names others wider : List (List ℕ)) (seen seen' more : List EntryData) (rows rows' more_rows : List StateEntryData) → ((x : List ℕ) → Contains names x → Contains wider x) → ((x : List ℕ) → Contains others x → Contains wider x)
      → IsPrefix seen more → IsPrefix rows more_rows → IsPrefix seen' more → IsPrefix rows' more_rows → (a b : Option Declined) → IfSome a (Stopped names seen rows) → IfSome b (Stopped others seen' rows') → IfSome (least_cause a b) (Stopped wider more more_rows)
  joined_stopped names others wider seen seen' more rows rows' more_rows among among' p q p' q' a b x y =
      least (Stopped wider more more_rows) a b (some_map (Stopped names seen rows) (Stopped wider more more_rows) (more_stopped names wider seen more rows more_rows among p q) a x)
      (some_map (Stopped others seen' rows') (Stopped wider more more_rows) (more_stopped others wider seen' more rows' more_rows among' p' q') b y)

  -- A node's two threads have ended, and the seats of its trigger threads were joined.
  pub pair_stopped : (up_to : ℤ) (me : MemberData) (number : ℕ) (k l : Known EntryData) (r : Known StateEntryData) (past others : List EntryData) (row_past : List StateEntryData) (more : List EntryData) → k.seen ≡ base ++ past → l.seen ≡ base ++ others → r.seen ≡ row_base ++ row_past
      → IsPrefix k.seen more → IsPrefix l.seen more → up_to ≡ until → (a b : Option Declined) → IfSome a (IsStopped kind listed opened (IsScheduled shows up_to me number) k)
      → IfSome b (λ w. IsStopped kind listed opened (IsRecovery shows leaves first me r.seen) l w ⊎ IsStopped row_kind row_listed row_opened (IsRoundEntry shows leaves first me.node r.seen) r w)
      → IfSome (least_cause a b) (Stopped (me.node ∷ []) more r.seen)
  pair_stopped up_to me number k l r past others row_past more k_is l_is r_is p q same a b x y =
      least (Stopped (me.node ∷ []) more r.seen) a b
      (some_map (IsStopped kind listed opened (IsScheduled shows up_to me number) k) (Stopped (me.node ∷ []) more r.seen) (λ w s. inl (after_own kind listed opened base (IsScheduled shows up_to me number) (IsOfThreads shows until leaves first (me.node ∷ []) r.seen)
      (λ e of. record { me = me; number = number; ours = contains_one me.node; asked = inl (subst (λ u. IsScheduled shows u me number e) same of) }) k past more k_is p w s)) a x)
      (some_map (λ w. IsStopped kind listed opened (IsRecovery shows leaves first me r.seen) l w ⊎ IsStopped row_kind row_listed row_opened (IsRoundEntry shows leaves first me.node r.seen) r w) (Stopped (me.node ∷ []) more r.seen) rounds b y) where
        rounds : (w : Declined) → IsStopped kind listed opened (IsRecovery shows leaves first me r.seen) l w ⊎ IsStopped row_kind row_listed row_opened (IsRoundEntry shows leaves first me.node r.seen) r w → Stopped (me.node ∷ []) more r.seen w
        rounds w (inl s) = inl (after_own kind listed opened base (IsRecovery shows leaves first me r.seen) (IsOfThreads shows until leaves first (me.node ∷ []) r.seen) (λ e of. record { me = me; number = number; ours = contains_one me.node; asked = inr of }) l others more l_is q w s)
        rounds w (inr s) = inr (after_own row_kind row_listed row_opened row_base (IsRoundEntry shows leaves first me.node r.seen) (IsRowOfThreads shows until leaves first (me.node ∷ []) r.seen) (λ e of. record { me = me; ours = contains_one me.node; asked = of }) r row_past r.seen r_is (prefix_refl r.seen) w s)

  -- All seats were joined, and the stores were taken back.

  module _ (lists : (e : EntryData) (h : H) → listed (kind.with_entry e h) ≡ listed h ++ e ∷ []) (row_lists : (e : StateEntryData) (h : I) → row_listed (row_kind.with_entry e h) ≡ row_listed h ++ e ∷ [])
      (names : List (List ℕ)) (seen : List EntryData) (rows : List StateEntryData) (now : StoreState H EntryData) (now_rows : StoreState I StateEntryData) (same : base ≡ listed opened.history) (row_same : row_base ≡ row_listed row_opened.history)
      (p : IsPrefix seen (listed now.history)) (q : IsPrefix rows (row_listed now_rows.history)) where
    either_declined : (w : Declined) → Stopped names seen rows w → AtLimit (DeclinedThread kind listed row_kind row_listed shows names now now_rows opened row_opened until leaves first) w
    either_declined w (inl s) = limit_map (DeclinedOnTheWay kind listed (IsOfThreads shows until leaves first names (row_listed now_rows.history)) opened now) (DeclinedThread kind listed row_kind row_listed shows names now now_rows opened row_opened until leaves first) (λ v d. inl d) w
        (after_declined kind listed opened lists now base (IsOfThreads shows until leaves first names rows) (IsOfThreads shows until leaves first names (row_listed now_rows.history))
        (threads_on shows until leaves first names names rows (row_listed now_rows.history) q (λ n c. c)) seen w same p s)
    either_declined w (inr s) = limit_map (DeclinedOnTheWay row_kind row_listed (IsRowOfThreads shows until leaves first names (row_listed now_rows.history)) row_opened now_rows) (DeclinedThread kind listed row_kind row_listed shows names now now_rows opened row_opened until leaves first) (λ v d. inr d) w
        (after_declined row_kind row_listed row_opened row_lists now_rows row_base (IsRowOfThreads shows until leaves first names rows) (IsRowOfThreads shows until leaves first names (row_listed now_rows.history))
        (rows_on shows until leaves first names names rows (row_listed now_rows.history) q (λ n c. c)) rows w row_same q s)

    pub closed_stopped : (o : Option Declined) → IfSome o (Stopped names seen rows) → IfSome o (AtLimit (DeclinedThread kind listed row_kind row_listed shows names now now_rows opened row_opened until leaves first))
    closed_stopped o x = some_map (Stopped names seen rows) (AtLimit (DeclinedThread kind listed row_kind row_listed shows names now now_rows opened row_opened until leaves first)) either_declined o x

-- The same of the node `main`, which works alone.
pub main_stopped : {H E R : Type 0} (kind : EntryKind H E R) (listed : H → List E) (opened now : StoreState H E) (lists : (e : E) (h : H) → listed (kind.with_entry e h) ≡ listed h ++ e ∷ []) (base past : List E) (P Q : E → Type 0) (k : Known E) → ((e : E) → P e → Q e) → k.seen ≡ base ++ past
    → base ≡ listed opened.history → IsPrefix k.seen (listed now.history) → (o : Option Declined) → IfSome o (IsStopped kind listed opened P k) → IfSome o (AtLimit (DeclinedOnTheWay kind listed Q opened now))
main_stopped kind listed opened now lists base past P Q k f seen_is same p o x =
    some_map (IsStopped kind listed opened P k) (AtLimit (DeclinedOnTheWay kind listed Q opened now)) (λ w s. after_declined kind listed opened lists now base Q Q (λ e q. q) k.seen w same p (after_own kind listed opened base P Q f k past k.seen seen_is (prefix_refl k.seen) w s)) o x

-- the same under a number and up to a moment that are the same
pub under_stopped : {H R : Type 0} (kind : EntryKind H EntryData R) (listed : H → List EntryData) (opened : StoreState H EntryData) (shows : ℤ → Type 0) (up_to until : ℤ) (me : MemberData) (now number : ℕ) (k : Known EntryData) (o : Option Declined) → now ≡ number
    → IfSome o (IsStopped kind listed opened (IsScheduled shows up_to me now) k) → up_to ≡ until → IfSome o (IsStopped kind listed opened (IsScheduled shows until me number) k)
under_stopped kind listed opened shows up_to until me now number k o same x until_is =
    subst (λ n. IfSome o (IsStopped kind listed opened (IsScheduled shows until me n) k)) same (subst (λ u. IfSome o (IsStopped kind listed opened (IsScheduled shows u me now) k)) until_is x)

pub some_as : (P : Declined → Type 0) (o : Option Declined) (w : Declined) → o ≡ Some w → IfSome o P → P w
some_as P o w is x = subst (λ (p : Option Declined). IfSome p P) is x

pub as_told : (P : Declined → Type 0) (told o : Option Declined) → told ≡ o → IfSome o P → IfSome told P
as_told P told o is x = subst (λ (p : Option Declined). IfSome p P) (sym is) x

-- the same up to a moment that is the same
pub stopped_until : {H I : Type 0} (kind : EntryKind H EntryData Reply) (listed : H → List EntryData) (opened : StoreState H EntryData) (base : List EntryData) (row_kind : EntryKind I StateEntryData ⊤) (row_listed : I → List StateEntryData) (row_opened : StoreState I StateEntryData) (row_base : List StateEntryData)
    (shows : ℤ → Type 0) (up_to until : ℤ) (leaves : List StateEntryData → StateTables → Type 0) (first : List StateEntryData) (names : List (List ℕ)) (seen : List EntryData) (rows : List StateEntryData) (o : Option Declined) → up_to ≡ until
    → IfSome o (Stopped kind listed opened base row_kind row_listed row_opened row_base shows up_to leaves first names seen rows) → IfSome o (Stopped kind listed opened base row_kind row_listed row_opened row_base shows until leaves first names seen rows)
stopped_until kind listed opened base row_kind row_listed row_opened row_base shows up_to until leaves first names seen rows o same x = subst (λ u. IfSome o (Stopped kind listed opened base row_kind row_listed row_opened row_base shows u leaves first names seen rows)) same x
