-- `none` owns nothing.
use Rattle.std.proofs.Common.{◌≡◌, List, [], ◌∷◌, ◌++◌, refl, sym, subst}
use mir.Val.{Val}
use base.Logic.{SProp, ent, emp, id⊢}
use prog.Wp.{WpFn}
use types.Kit.{‵, raw, ◌⊛◌, ◌$◌, ◌∵◌, !, qed, by, move, keep, drop, split, fsplit3, fjoin, suffices}
use types.Kit.{use0, rewrite}
use types.Run.{no_more, and_then, returns, enter}
use types.ByLocal.{alloc_all, pass_all, free_all, look_at, get, sets}
use types.Part.{agg}
use contract.Monad.{fact, fact_i}
use contract.Running.{tables}
use denote.Exit.{yes}
use denote.RattleType.{owns}
use denote.Signature.{types_at, plain}
use denote.Builtin.{RawPtr}
use denote.RawPtr.{ptr_val, rawptr_Tells}
use denote.Param.{layout}
use denote.Steps.{nothing}
use denote.Triple.Entry.{alive}
use denote.Triple.Walked.{Stays, stay_dropped, walk_of, Goes-dropped}
use Rattle.std.specs.Prelude.{None}
use Rattle.std.proofs.cell.Inside.{one}
use Rattle.std.proofs.raw_atomic.Walks.{proved_at, leaves}
use Rattle.its_c.proofs.Values.{both}
use Rattle.its_c.proofs.UnitPtrs.{Z, LZ, HandleOut, ptr_good, both_good, handle_out_in}
use Rattle.its_c.specs.contracts.handle_out.HandleOut.none.{ended, clauses}
use Rattle.its_c.specs.contracts.handle_out.HandleOut.none.Key.{name as #self}
use Rattle.its_c.proofs.handle_out.HandleOut.none.Statement.{statement}
use Rattle.its_c.proofs.handle_out.HandleOut.none.Code as code

pub none_spec : {M : Type 1} → statement M
none_spec 𝓤 𝓛 𝓜 𝓡 wired =
    let H = 𝓛.H in let 𝓣 = tables 𝓤 H 𝓜 𝓡 𝓡.env in let c = clauses 𝓛 𝓜.mem 𝓡.returns in
    let fn = code.function in
    let hs : Stays ended.signature.params ended.kept = (
      stay_dropped (plain (λ _. RawPtr)) yes,
      (stay_dropped (plain (λ _. Z)) yes, tt),
    ) in
    proved_at 𝓛 ended hs c 𝓜 𝓡 (
      Goes-dropped 𝓛 0 (plain (λ _. RawPtr)) yes (λ κs x f. refl),
      (
        Goes-dropped 𝓛 0 (plain (λ _. Z)) yes (λ κs x f. refl),
        tt,
      ),
    ) #self fn (code.unfolded 𝓤 H 𝓜 𝓡 wired) (λ z are.
    let κs = z.0.0 in let qs = z.0.1 in
    let Post : Val → SProp 𝓤 = (walk_of 𝓛 ended hs c).post z in
    let Run : List Val → SProp 𝓤 = λ ws. WpFn 𝓤 H 𝓣.C 𝓣.Λ fn ws Post in
    let p = z.0.3.0 in let a = z.0.3.1.0 in
    let h = one (layout Z) z.0.4.1.0 ((LZ.lawful 𝓛).typed a z.0.4.1.0 are.1.0) in
    let v : Val = ptr_val p in let w : Val = both v h.0 in
    let d : HandleOut.Denot = record { at = p; alloc = a; handle = None } in
    qed 𝓛 ((raw (alive 𝓛 ended.signature κs qs) ⊛ ‵ (owns (types_at ended.signature.params κs)
    z.0.3 z.0.4)) ∷ raw ((c κs z.0.3).requires z.1) ∷ []) ∵
    split ! $ move ! (1 ∷ []) $ fsplit3 ! $ drop ! $
    rewrite ! 0 (λ (us : List Val). ‵ (Z.own_val a us)) h.1 refl $ nothing ! $
    handle_out_in ! p h.0 a None $
    -- [the handle; ..; the tokens; the requires]
    suffices ! (Run (v ∷ h.0 ∷ [])) (subst (λ (us : List Val). ent 𝓤 (Run (v ∷ h.0 ∷
    [])) (Run us)) (sym (λ i. rawptr_Tells p z.0.4.0 are.0 i ++ (h.1 i ++ []))) (id⊢ 𝓤 (Run (v ∷
    h.0 ∷ [])))) $
    enter ! 𝓣.C 𝓣.Λ fn (v ∷ h.0 ∷ []) Post $
    alloc_all ! (λ l. pass_all ! refl (ptr_good p, (h.2, tt)) $
    sets ! (agg ! (and_then ! (get ! refl) (and_then ! (get ! refl) (no_more !)))) refl (both_good
    p h.0 h.2) $
    use0 𝓛 (raw (fact 𝓤 (d.handle ≡ None))) (fact_i 𝓤 (d.handle ≡ None) (emp 𝓤) refl) $
    nothing ! $ nothing ! $ fjoin ! $ nothing ! $ fjoin ! $
    returns ! (look_at ! 0 refl) $ free_all ! refl $ keep ! (4 ∷ 0 ∷ 2 ∷ 1 ∷ []) $
    by ! (leaves 𝓛 ended hs c z w d (tt, (tt, tt)) (tt, (tt, tt)))))
