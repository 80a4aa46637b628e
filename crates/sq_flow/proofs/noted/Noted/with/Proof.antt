-- `with` makes a value of no bytes, at a list that is longer by one.
use Rattle.std.proofs.Common.{List, [], ◌∷◌, ◌++◌, refl}
use seplogic.Ra.Ura.{Ura}
use mir.Syntax.{named}
use mir.Val.{Val, vptr, vstruct, vcons, vnil}
use base.Logic.{SProp, ent, emp, via, fst∗}
use base.Fml.{Lft, Share, ftrue, flft}
use prog.Memory.{Memory}
use prog.Routine.{Routine}
use prog.Wp.{Calls, Loops, WpFn, Tables}
use types.Logic.{Logic}
use contract.Monad.{Fun}
use contract.Running.{tables, tables_of}
use types.Kit.{‵, ◌⊛◌, ◌$◌, ◌∵◌, !, qed, move, drop, join, suffices, done}
use types.Run.{no_more, and_then, returns, enter}
use types.Part.{agg}
use types.ByLocal.{alloc_all, pass_all, free_all, look_at, get, sets}
use sound.WpLaws.{WpFn-mono}
use denote.RattleType.{owns}
use denote.Builtin.{RefOf}
use denote.Exit.{yes}
use denote.Ref.{Bor, ShrRef, shr_vals, shr_Tells}
use denote.Shadow.{pure_i}
use denote.Signature.{plain}
use denote.Steps.{nothing}
use denote.Triple.Entry.{on_entry}
use denote.Triple.Spec.{Meets, triple_of}
use denote.Triple.Table.{entered}
use denote.Triple.Walked.{says, Stays, stay_dropped, walk_of, AllGo, Goes-dropped, Walks, ends_at, walked, walk_Meets}
use Rattle.sq_flow.specs.declared.noted.Noted.{Noted}
use Rattle.sq_oper.specs.declared.outs.Decision.{Decision}
use Rattle.sq_flow.specs.contracts.noted.Noted as T
use Rattle.sq_oper.specs.contracts.outs.Decision as D
use Rattle.sq_flow.specs.contracts.noted.Noted.with.Key.{name as #it}
use Rattle.sq_flow.specs.contracts.noted.Noted.with as it
use Rattle.sq_flow.proofs.noted.Noted.with.Statement as stated
use Rattle.sq_flow.proofs.noted.Noted.with.Code as code

abbrev Arg : Type 0
Arg = Bor Noted × (Bor Decision × Unit {0})

abbrev v : Val
v = vstruct (vcons (vstruct vnil) vnil)

abbrev stayed : Stays (it.ended).signature.params (it.ended).kept
stayed = (stay_dropped _ yes, (stay_dropped _ yes, tt))

module _ {M : Type 1} {𝓤 : Ura M} (𝓛 : Logic 𝓤) (at_mem : Memory → SProp 𝓤) (run : Routine → Fun 𝓤) (κ κ' : Lft) (q q' : Share) (h : Bor Noted) (k : Bor Decision) where
  open 𝓛 use {H}

  abbrev x : Arg
  x = (h, (k, tt))

  abbrev r : Noted
  r = record { marker = record {}; drops = h.now.drops ++ k.now ∷ [] }

  abbrev at : List Val × (List Val × Unit {0})
  at = (shr_vals h, (shr_vals k, tt))

  abbrev Post : Val → SProp 𝓤
  Post = (walk_of 𝓛 it.ended stayed (it.clauses 𝓛 at_mem run)).post (((κ, (κ', tt)), (q, (q', tt)), tt, x, at), tt)

  module _ (C : Calls 𝓤 H) (Λ : Loops 𝓤 H) where
    walk : ent 𝓤 (on_entry 𝓛 it.signature (κ, (κ', tt)) (q, (q', tt)) x at) (WpFn 𝓤 H C Λ code.function (vptr h.ref_ptr.0 h.ref_ptr.1 ∷ vptr k.ref_ptr.0 k.ref_ptr.1 ∷ []) Post)
    walk =
        qed 𝓛 ((‵ (flft κ q) ⊛ (‵ (flft κ' q') ⊛ ‵ ftrue)) ∷ ‵ (owns (ShrRef (named 0) κ T.the_row ∷ ShrRef (named 1) κ' D.the_row ∷ []) x at) ∷ []) ∵
        move ! (1 ∷ []) $ drop ! $
        enter ! C Λ code.function (vptr h.ref_ptr.0 h.ref_ptr.1 ∷ vptr k.ref_ptr.0 k.ref_ptr.1 ∷ []) _ $
        alloc_all ! (λ l. pass_all ! refl ((tt, tt), ((tt, tt), tt)) $
        sets ! (agg ! (no_more !)) refl (tt, tt) $ sets ! (agg ! (and_then ! (get ! refl) (no_more !))) refl (tt, (tt, tt)) $
        returns ! (look_at ! 0 refl) $ free_all ! refl $
        pure_i ! ((T.the_row).own_val r (v ∷ [])) ((λ vss. (tt, ((λ uss. (tt, tt)), tt))), tt) (((vstruct vnil ∷ [], tt), (refl, ((tt, (refl, tt)), tt))), tt) $
        suffices ! _ (ends_at 𝓛 it.ended stayed (it.clauses 𝓛 at_mem run) (((κ, (κ', tt)), (q, (q', tt)), tt, x, at), tt) v r (tt, (tt, tt)) (tt, (tt, tt))) $ says ! refl $
        nothing ! $ nothing ! $ join ! $ nothing ! $ join ! $ move ! (2 ∷ []) $ done !)

module _ {M : Type 1} {𝓤 : Ura M} (𝓛 : Logic 𝓤) (at_mem : Memory → SProp 𝓤) (run : Routine → Fun 𝓤) where
  open 𝓛 use {H}

  walks : (C : Calls 𝓤 H) (Λ : Loops 𝓤 H) → Walks 𝓛 it.ended stayed (WpFn 𝓤 H C Λ code.function) (it.clauses 𝓛 at_mem run)
  walks C Λ = walked 𝓛 it.ended stayed (it.clauses 𝓛 at_mem run) (WpFn 𝓤 H C Λ code.function) (λ κs. (shr_vals, (shr_vals, tt))) (λ κs. (shr_Tells (named 0) κs.0 T.the_row, (shr_Tells (named 1) κs.1.0 D.the_row, tt)))
      (λ κs qs bounds a _ are. via 𝓤 _ (fst∗ 𝓤 _ (emp 𝓤)) (walk 𝓛 at_mem run κs.0 κs.1.0 qs.0 qs.1.0 a.0 a.1.0 C Λ))

  goes : AllGo 𝓛 2 (it.signature).params (it.ended).kept stayed
  goes = (Goes-dropped 𝓛 2 (RefOf (0 ∷ []) tt (plain (λ _. T.the_row)) (λ _. tt)) yes (λ κs x w. refl), (Goes-dropped 𝓛 2 (RefOf (1 ∷ []) tt (plain (λ _. D.the_row)) (λ _. tt)) yes (λ κs x w. refl), tt))

meets : {M : Type 1} {𝓤 : Ura M} (𝓛 : Logic 𝓤) → (at_mem : Memory → SProp 𝓤) (run : Routine → Fun 𝓤) (𝓣 : Tables 𝓤 𝓛.H)
    → Meets 𝓛 it.signature (WpFn 𝓤 𝓛.H 𝓣.C 𝓣.Λ code.function) (it.spec 𝓛 at_mem run)
meets {𝓤 = 𝓤} 𝓛 at_mem run 𝓣 = walk_Meets 𝓛 it.ended stayed (goes 𝓛 at_mem run) (it.clauses 𝓛 at_mem run) (WpFn 𝓤 𝓛.H 𝓣.C 𝓣.Λ code.function) (WpFn-mono 𝓤 𝓛.H 𝓛.laws 𝓣 code.function) (walks 𝓛 at_mem run 𝓣.C 𝓣.Λ)

pub with_spec : {M : Type 1} → stated.statement M
unfolding tables_of
with_spec 𝓤 𝓛 𝓜 𝓡 wired =
    entered 𝓤 𝓛.H (triple_of 𝓛 it.signature (it.spec 𝓛 𝓜.mem 𝓡.returns))
    (tables 𝓤 𝓛.H 𝓜 𝓡 𝓡.env).C (tables 𝓤 𝓛.H 𝓜 𝓡 𝓡.env).Λ #it code.function (code.unfolded 𝓤 𝓛.H 𝓜 𝓡 wired)
    (meets 𝓛 𝓜.mem 𝓡.returns (tables_of 𝓤 𝓛.H 𝓜 (tables 𝓤 𝓛.H 𝓜 𝓡 𝓡.env)))
