-- `joined` makes the empty struct, and its ghost list is the one that its clause names.
use mathlib.Core.Path.{refl}
use mathlib.Core.List.{[], ◌∷◌, ◌++◌}
use seplogic.Ra.Ura.{Ura}
use mir.Syntax.{Fn, a_type}
use mir.MapTy.{inst_fn}
use mir.Val.{Val, vptr, vstruct, vcons, vnil}
use mir.Syntax.{named}
use base.Fml.{Fml}
use base.Logic.{SProp, ent, via, fst∗}
use prog.Memory.{Memory}
use prog.Routine.{Routine}
use prog.Wp.{Calls, Loops, WpFn, Tables}
use types.Logic.{Logic}
use contract.Monad.{Fun}
use contract.Lifetimes.{Lfts, Shares, AllOutlive}
use contract.Running.{tables, tables_of}
use sound.WpLaws.{WpFn-mono}
use types.Kit.{‵, raw, ◌$◌, ◌∵◌, !, qed, move, suffices, done}
use types.Run.{no_more, and_then, returns, enter}
use types.Part.{agg}
use types.ByLocal.{alloc_all, pass_all, free_all, look_at, get, sets}
use denote.RattleType.{RattleType, owns}
use denote.Exit.{yes}
use denote.Ref.{shr_vals, shr_Tells}
use denote.Signature.{plain, types_at}
use denote.Param.{layouts}
use denote.Shadow.{pure_i}
use denote.Triple.Entry.{on_entry, alive, Args, Res}
use denote.Triple.Spec.{Meets, triple_of}
use denote.Triple.Table.{entered}
use denote.Triple.Walked.{says, stay_none_ref, Stays, walk_of, Walks, ends_at, walked, Goes-none_ref, walk_Meets}
use Rattle.qz_logs.specs.contracts.logs.Log.joined.Key.{name as key}
use Rattle.qz_logs.specs.contracts.logs.Log.joined as f
use Rattle.qz_logs.proofs.logs.Log.joined.Statement as stated
use Rattle.qz_logs.proofs.logs.Log.joined.Code as code
use Rattle.qz_logs.specs.contracts.logs.Log as made

module _ (Y : RattleType) where
  abbrev function : Fn
  function = inst_fn (layouts (a_type ∷ []) (Y, tt)) code.function

  abbrev stayed : Stays (f.ended Y).signature.params (f.ended Y).kept
  stayed = (stay_none_ref (0 ∷ []) tt (plain (λ _. made.the_row (f.T-row Y))) yes, (stay_none_ref (1 ∷ []) tt (plain (λ _. made.the_row (f.T-row Y))) yes, tt))

  module _ {M : Type 1} {𝓤 : Ura M} (𝓛 : Logic 𝓤) (mem : Memory → SProp 𝓤) (run : Routine → Fun 𝓤) (C : Calls 𝓤 𝓛.H) (Λ : Loops 𝓤 𝓛.H) where
    open 𝓛 use {H}

    module _ (κs : Lfts (f.ended Y).signature.lifetimes) (qs : Shares (f.ended Y).signature.lifetimes) (bounds : AllOutlive (f.ended Y).signature.lifetimes (f.ended Y).signature.outlives κs) (a : Args (f.ended Y).signature κs) where
      abbrev before : Val
      before = vptr a.0.ref_ptr.0 a.0.ref_ptr.1

      abbrev reading : Val
      reading = vptr a.1.0.ref_ptr.0 a.1.0.ref_ptr.1

      abbrev bound : (walk_of 𝓛 (f.ended Y) stayed (f.clauses Y 𝓛 mem run)).Ghost
      bound = ((κs, qs, bounds, a, (before ∷ [], (reading ∷ [], tt))), tt)

      abbrev passed : Fml
      passed = owns (types_at (f.ended Y).signature.params κs) a (before ∷ [], (reading ∷ [], tt))

      walk : ent 𝓤 (on_entry 𝓛 (f.ended Y).signature κs qs a (before ∷ [], (reading ∷ [], tt)))
          (WpFn 𝓤 H C Λ function (before ∷ reading ∷ []) ((walk_of 𝓛 (f.ended Y) stayed (f.clauses Y 𝓛 mem run)).post bound))
      walk =
          let r : Res (f.ended Y).signature κs = record { marker = record {}; items = a.0.now.items ++ a.1.0.now.items } in
          qed 𝓛 (raw (alive 𝓛 (f.ended Y).signature κs qs) ∷ ‵ passed ∷ []) ∵ enter ! C Λ function (before ∷ reading ∷ []) _ $
          alloc_all ! (λ l. pass_all ! refl ((tt, tt), ((tt, tt), tt)) $
          sets ! (agg ! (no_more !)) refl (tt, tt) $ sets ! (agg ! (and_then ! (get ! refl) (no_more !))) refl (tt, (tt, tt)) $
          returns ! (look_at ! 0 refl) $ free_all ! refl $
          suffices ! _ (ends_at 𝓛 (f.ended Y) stayed (f.clauses Y 𝓛 mem run) bound (vstruct (vcons (vstruct vnil) vnil)) r (tt, (tt, tt)) (tt, (tt, tt))) $
          says ! refl $ pure_i ! ((made.the_row (f.T-row Y)).own_val r (vstruct (vcons (vstruct vnil) vnil) ∷ [])) ((λ vss. (tt, ((λ uss. (tt, tt)), tt))), tt) (((vstruct vnil ∷ [], tt), (refl, ((tt, (refl, tt)), tt))), tt) $
          move ! (1 ∷ 2 ∷ 0 ∷ []) $ done !)

    walks : Walks 𝓛 (f.ended Y) stayed (WpFn 𝓤 H C Λ function) (f.clauses Y 𝓛 mem run)
    walks =
        walked 𝓛 (f.ended Y) stayed (f.clauses Y 𝓛 mem run) (WpFn 𝓤 H C Λ function) (λ κs. (shr_vals, (shr_vals, tt)))
        (λ κs. (shr_Tells (named 0) κs.0 (made.the_row (f.T-row Y)), (shr_Tells (named 1) κs.1.0 (made.the_row (f.T-row Y)), tt)))
        (λ κs qs bounds a g are. via 𝓤 _ (fst∗ 𝓤 _ ((f.clauses Y 𝓛 mem run κs a).requires g)) (walk κs qs bounds a))

meets : (Y : RattleType) {M : Type 1} {𝓤 : Ura M} (𝓛 : Logic 𝓤) (mem : Memory → SProp 𝓤) (run : Routine → Fun 𝓤) (𝓣 : Tables 𝓤 𝓛.H)
    → Meets 𝓛 (f.ended Y).signature (WpFn 𝓤 𝓛.H 𝓣.C 𝓣.Λ (function Y)) (f.spec Y 𝓛 mem run)
meets Y {𝓤 = 𝓤} 𝓛 mem run 𝓣 =
    walk_Meets 𝓛 (f.ended Y) (stayed Y) (Goes-none_ref 𝓛 3 (0 ∷ []) tt (plain (λ _. made.the_row (f.T-row Y))) yes, (Goes-none_ref 𝓛 3 (1 ∷ []) tt (plain (λ _. made.the_row (f.T-row Y))) yes, tt)) (f.clauses Y 𝓛 mem run) (WpFn 𝓤 𝓛.H 𝓣.C 𝓣.Λ (function Y))
    (WpFn-mono 𝓤 𝓛.H 𝓛.laws 𝓣 (function Y)) (walks Y 𝓛 mem run 𝓣.C 𝓣.Λ)

pub joined_spec : {M : Type 1} → stated.statement M
unfolding tables_of
joined_spec 𝓤 𝓛 𝓜 𝓡 wired Y laws =
    entered 𝓤 𝓛.H (triple_of 𝓛 (f.ended Y).signature (f.spec Y 𝓛 𝓜.mem 𝓡.returns))
    (tables 𝓤 𝓛.H 𝓜 𝓡 𝓡.env).C (tables 𝓤 𝓛.H 𝓜 𝓡 𝓡.env).Λ (key (layouts (a_type ∷ []) (Y, tt))) (function Y) (code.unfolded 𝓤 𝓛.H 𝓜 𝓡 wired (Y, tt))
    (meets Y 𝓛 𝓜.mem 𝓡.returns (tables_of 𝓤 𝓛.H 𝓜 (tables 𝓤 𝓛.H 𝓜 𝓡 𝓡.env)))
