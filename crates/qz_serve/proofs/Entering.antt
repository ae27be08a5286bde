-- The entries by which nodes come and go are those of the call's nodes.
use Rattle.std.proofs.Common.{◌≡◌, ◌⊎◌, inl, inr, ℕ, ℤ, List, sym, ap, ◌∙◌, subst}
use Rattle.std.specs.Prelude.{Contains}
use Rattle.qz_types.specs.Entries.{EntryData, StateEntryData}
use Rattle.qz_types.specs.Rows.{MemberData}
use Rattle.qz_types.specs.declared.commands.Actor.TheVariants.{Client, Node}
use Rattle.qz_types.specs.declared.commands.Command.TheVariants.{Join, Leave}
use Rattle.qz_types.specs.declared.states.StateCommand.TheVariants.{CheckIn, Forget}
use Rattle.qz_run.specs.declared.stores.TheConstants.{CHECK_IN_INTERVAL}
use Rattle.qz_serve.specs.Ours.{IsCheckIn, IsForget, IsJoin, IsLeave}

module _ (shows : ℤ → Type 0) (names : List (List ℕ)) (at : ℤ) (shown : shows at) where
  pub join_of : (e : EntryData) (node name : List ℕ) → e ≡ record { at = at; actor = Client; seat = 0; command = Join node } → node ≡ name → Contains names name → IsJoin shows names e ⊎ IsLeave shows names e
  join_of e node name is same ours = inl (record {
    node = node;
    ours = subst (Contains names) (sym same) ours;
    is = is ∙ ap (λ (t : ℤ). record { at = t; actor = Client; seat = 0; command = Join node }) (sym (ap (λ (x : EntryData). x.at) is));
    shown = subst shows (sym (ap (λ (x : EntryData). x.at) is)) shown;
  })

  pub leave_of : (e : EntryData) (me : MemberData) (name : List ℕ) → e ≡ record { at = at; actor = Node me; seat = 0; command = Leave } → me.node ≡ name → Contains names name → IsJoin shows names e ⊎ IsLeave shows names e
  leave_of e me name is same ours = inr (record {
    me = me;
    ours = subst (Contains names) (sym same) ours;
    is = is ∙ ap (λ (t : ℤ). record { at = t; actor = Node me; seat = 0; command = Leave }) (sym (ap (λ (x : EntryData). x.at) is));
    shown = subst shows (sym (ap (λ (x : EntryData). x.at) is)) shown;
  })

  pub check_in_of : (e : StateEntryData) (node name : List ℕ) → e ≡ record { at = at; seat = 0; command = CheckIn node CHECK_IN_INTERVAL } → node ≡ name → Contains names name → IsCheckIn shows names e ⊎ IsForget shows names e
  check_in_of e node name is same ours = inl (record {
    node = node;
    ours = subst (Contains names) (sym same) ours;
    is = is ∙ ap (λ (t : ℤ). record { at = t; seat = 0; command = CheckIn node CHECK_IN_INTERVAL }) (sym (ap (λ (x : StateEntryData). x.at) is));
    shown = subst shows (sym (ap (λ (x : StateEntryData). x.at) is)) shown;
  })

  pub forget_of : (e : StateEntryData) (node name : List ℕ) (last : ℤ) → e ≡ record { at = at; seat = 0; command = Forget node last } → node ≡ name → Contains names name → IsCheckIn shows names e ⊎ IsForget shows names e
  forget_of e node name last is same ours = inr (record {
    node = node;
    last = last;
    ours = subst (Contains names) (sym same) ours;
    is = is ∙ ap (λ (t : ℤ). record { at = t; seat = 0; command = Forget node last }) (sym (ap (λ (x : StateEntryData). x.at) is));
    shown = subst shows (sym (ap (λ (x : StateEntryData). x.at) is)) shown;
  })
