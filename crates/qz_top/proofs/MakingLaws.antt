-- An `init` that made no store on one of its disks.
use Rattle.std.proofs.Common.{◌≡◌, ◌⊎◌, inl, inr, Bool, true, refl, sym, subst}
use Rattle.std.specs.Prelude.{Ok, Err}
use Rattle.qz_civil.specs.Causes.{Rose}
use Rattle.qz_disk.specs.declared.disk.Disk.{Ghosts}
use Rattle.qz_disk.specs.Disk.{IsLawful, LeavesOnly}
use Rattle.qz_disk.proofs.Moments.{started}
use Rattle.qz_journal.specs.Layout.{HasStore}
use Rattle.qz_journal.specs.declared.layout.TheConstants.{TRIGGERS, STATES}
use Rattle.qz_types.specs.declared.stores.Store.TheVariants as store
use Rattle.qz_top.specs.Making.{Makes, unmade_status, IsInit, KeepsStores}
use Rattle.qz_top.specs.declared.making.Unmade.{Unmade}
use Rattle.qz_top.specs.declared.making.Unmade.TheVariants as unmade
use Rattle.qz_top.specs.declared.statuses.Status.{Status}
use Rattle.qz_top.specs.declared.statuses.Status.TheVariants as status

module _ {D : Type 0} (g : Ghosts D) where
  pub first_unmade : (u : Unmade) (t t' s : D) → (g.honest → Makes TRIGGERS (Err u) (g.state t) (g.state t')) → (u ≡ unmade.Fault → Rose (g.faults t) (g.faults t'))
      → IsInit g (unmade_status u store.Triggers) t t' s s
  first_unmade unmade.OtherKind t t' s told rose = (told, refl)
  first_unmade unmade.Fault t t' s told rose = inl (record { rose = rose refl; triggers = told; states = refl })

  pub second_unmade : (u : Unmade) (made : Bool) (t t' s s' : D) → (g.honest → Makes TRIGGERS (Ok made) (g.state t) (g.state t'))
      → (g.honest → Makes STATES (Err u) (g.state s) (g.state s')) → (u ≡ unmade.Fault → Rose (g.faults s) (g.faults s')) → IsInit g (unmade_status u store.States) t t' s s'
  second_unmade unmade.OtherKind made t t' s s' first told rose = λ honest. record { made = made; triggers = first honest; states = told honest }
  second_unmade unmade.Fault made t t' s s' first told rose = inr (record { made = made; triggers = first; rose = rose refl; states = told })

  -- Both disks are kept: the second wasn't touched, or was looked at too.
  pub kept_alone : ((d : D) → g.honest → IsLawful (g.state d)) → (t t' s : D) → (g.honest → HasStore TRIGGERS (g.state t).content → LeavesOnly (g.state t) (g.state t') (g.state t).IsImage) → KeepsStores g t t' s s
  kept_alone lawful t t' s kept = record { triggers = kept; states = λ honest has. started (g.state s) _ (lawful s honest) (λ b is. is) }

  pub kept_both : (t t' s s' : D) → (g.honest → HasStore TRIGGERS (g.state t).content → LeavesOnly (g.state t) (g.state t') (g.state t).IsImage)
      → (g.honest → HasStore STATES (g.state s).content → LeavesOnly (g.state s) (g.state s') (g.state s).IsImage) → KeepsStores g t t' s s'
  kept_both t t' s s' kept also = record { triggers = kept; states = also }

  -- Both were looked at, and one of them is new.
  pub both_made : (s : Status) (first second : Bool) (t t' u u' : D) → (s ≡ status.Ok) ⊎ (s ≡ status.WriteFault) → (first ≡ true) ⊎ (second ≡ true)
      → (g.honest → Makes TRIGGERS (Ok first) (g.state t) (g.state t')) → (g.honest → Makes STATES (Ok second) (g.state u) (g.state u')) → IsInit g s t t' u u'
  both_made s first second t t' u u' (inl is) some made also =
      subst (λ (x : Status). IsInit g x t t' u u') (sym is) (λ honest. record { triggers_made = first; states_made = second; triggers = made honest; states = also honest; some = some })
  both_made s first second t t' u u' (inr is) some made also =
      subst (λ (x : Status). IsInit g x t t' u u') (sym is) (λ honest. record { triggers_made = first; states_made = second; triggers = made honest; states = also honest; some = some })
