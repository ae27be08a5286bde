-- `new` makes the empty struct, and its ghost list is the one that its clause names.
use mathlib.Core.Path.{refl}
use mathlib.Core.List.{[], ◌∷◌}
use seplogic.Ra.Ura.{Ura}
use mir.Syntax.{Fn, a_type}
use mir.MapTy.{inst_fn}
use mir.Val.{vstruct, vcons, vnil}
use base.Logic.{SProp, ent, via, fst∗}
use prog.Memory.{Memory}
use prog.Routine.{Routine}
use prog.Wp.{Calls, Loops, WpFn, Tables}
use types.Logic.{Logic}
use contract.Monad.{Fun}
use contract.Lifetimes.{Lfts, Shares}
use contract.Running.{tables, tables_of}
use sound.WpLaws.{WpFn-mono}
use types.Kit.{‵, raw, ◌$◌, ◌∵◌, !, qed, move, suffices, done}
use types.Run.{no_more, and_then, returns, enter}
use types.Part.{agg}
use types.ByLocal.{alloc_all, pass_all, free_all, look_at, get, sets}
use denote.RattleType.{RattleType, owns}
use denote.Param.{layouts}
use denote.Shadow.{pure_i}
use denote.Triple.Entry.{on_entry, alive}
use denote.Triple.Spec.{Meets, triple_of}
use denote.Triple.Table.{entered}
use denote.Triple.Walked.{says, Stays, walk_of, Walks, ends_at, walked, walk_Meets}
use Rattle.qz_logs.specs.contracts.logs.Log.new.Key.{name as key}
use Rattle.qz_logs.specs.contracts.logs.Log.new as f
use Rattle.qz_logs.proofs.logs.Log.new.Statement as stated
use Rattle.qz_logs.proofs.logs.Log.new.Code as code
use Rattle.qz_logs.specs.contracts.logs.Log as made

module _ (Y : RattleType) where
  abbrev function : Fn
  function = inst_fn (layouts (a_type ∷ []) (Y, tt)) code.function

  abbrev stayed : Stays (f.ended Y).signature.params (f.ended Y).kept
  stayed = tt

  module _ {M : Type 1} {𝓤 : Ura M} (𝓛 : Logic 𝓤) (mem : Memory → SProp 𝓤) (run : Routine → Fun 𝓤) (C : Calls 𝓤 𝓛.H) (Λ : Loops 𝓤 𝓛.H) where
    open 𝓛 use {H}

    module _ (κs : Lfts (f.ended Y).signature.lifetimes) (qs : Shares (f.ended Y).signature.lifetimes) where
      abbrev bound : (walk_of 𝓛 (f.ended Y) stayed (f.clauses Y 𝓛 mem run)).Ghost
      bound = ((κs, qs, tt, tt, tt), tt)

      walk : ent 𝓤 (on_entry 𝓛 (f.ended Y).signature κs qs tt tt) (WpFn 𝓤 H C Λ function [] ((walk_of 𝓛 (f.ended Y) stayed (f.clauses Y 𝓛 mem run)).post bound))
      walk =
          qed 𝓛 (raw (alive 𝓛 (f.ended Y).signature κs qs) ∷ ‵ (owns [] tt tt) ∷ []) ∵ enter ! C Λ function [] _ $
          alloc_all ! (λ l. pass_all ! refl tt $ sets ! (agg ! (no_more !)) refl (tt, tt) $ sets ! (agg ! (and_then ! (get ! refl) (no_more !))) refl (tt, (tt, tt)) $
          returns ! (look_at ! 0 refl) $ free_all ! refl $
          suffices ! _ (ends_at 𝓛 (f.ended Y) stayed (f.clauses Y 𝓛 mem run) bound (vstruct (vcons (vstruct vnil) vnil)) (record { marker = record {}; items = [] }) tt tt) $
          says ! refl $ pure_i ! ((made.the_row Y).own_val (record { marker = record {}; items = [] }) (vstruct (vcons (vstruct vnil) vnil) ∷ [])) ((λ vss. (tt, ((λ uss. (tt, tt)), tt))), tt) (((vstruct vnil ∷ [], tt), (refl, ((tt, (refl, tt)), tt))), tt) $
          move ! (1 ∷ 2 ∷ 0 ∷ []) $ done !)

    walks : Walks 𝓛 (f.ended Y) stayed (WpFn 𝓤 H C Λ function) (f.clauses Y 𝓛 mem run)
    walks =
        walked 𝓛 (f.ended Y) stayed (f.clauses Y 𝓛 mem run) (WpFn 𝓤 H C Λ function) (λ κs. tt) (λ κs. tt)
        (λ κs qs bounds a g are. via 𝓤 _ (fst∗ 𝓤 _ ((f.clauses Y 𝓛 mem run κs a).requires g)) (walk κs qs))

meets : (Y : RattleType) {M : Type 1} {𝓤 : Ura M} (𝓛 : Logic 𝓤) (mem : Memory → SProp 𝓤) (run : Routine → Fun 𝓤) (𝓣 : Tables 𝓤 𝓛.H)
    → Meets 𝓛 (f.ended Y).signature (WpFn 𝓤 𝓛.H 𝓣.C 𝓣.Λ (function Y)) (f.spec Y 𝓛 mem run)
meets Y {𝓤 = 𝓤} 𝓛 mem run 𝓣 =
    walk_Meets 𝓛 (f.ended Y) (stayed Y) tt (f.clauses Y 𝓛 mem run) (WpFn 𝓤 𝓛.H 𝓣.C 𝓣.Λ (function Y))
    (WpFn-mono 𝓤 𝓛.H 𝓛.laws 𝓣 (function Y)) (walks Y 𝓛 mem run 𝓣.C 𝓣.Λ)

pub new_spec : {M : Type 1} → stated.statement M
unfolding tables_of
new_spec 𝓤 𝓛 𝓜 𝓡 wired Y laws =
    entered 𝓤 𝓛.H (triple_of 𝓛 (f.ended Y).signature (f.spec Y 𝓛 𝓜.mem 𝓡.returns))
    (tables 𝓤 𝓛.H 𝓜 𝓡 𝓡.env).C (tables 𝓤 𝓛.H 𝓜 𝓡 𝓡.env).Λ (key (layouts (a_type ∷ []) (Y, tt))) (function Y) (code.unfolded 𝓤 𝓛.H 𝓜 𝓡 wired (Y, tt))
    (meets Y 𝓛 𝓜.mem 𝓡.returns (tables_of 𝓤 𝓛.H 𝓜 (tables 𝓤 𝓛.H 𝓜 𝓡 𝓡.env)))
