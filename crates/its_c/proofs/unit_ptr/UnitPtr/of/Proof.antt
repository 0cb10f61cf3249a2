-- `of` hands on what the parts own.
use Rattle.std.proofs.Common.{◌≡◌, List, [], ◌∷◌, ◌++◌, refl, sym, subst}
use mir.Val.{Val}
use base.Logic.{SProp, ent, emp, id⊢}
use prog.Wp.{WpFn}
use types.Kit.{‵, raw, ◌⊛◌, ◌$◌, ◌∵◌, !, qed, by, move, keep, split, fsplit, fjoin, suffices, use0}
use types.Run.{stop, fld, of_opd, no_more, and_then, returns, enter}
use types.ByLocal.{alloc_all, pass_all, free_all, look_at, get, get_in, sets}
use types.Part.{agg, sub, whole}
use contract.Monad.{fact, fact_i}
use contract.Running.{tables}
use denote.Exit.{yes}
use denote.RattleType.{owns}
use denote.Signature.{types_at, plain}
use denote.RawPtr.{ptr_val}
use denote.Steps.{nothing}
use denote.Triple.Entry.{alive}
use denote.Triple.Walked.{Stays, stay_dropped, walk_of, Goes-dropped}
use Rattle.std.specs.Prelude.{Some}
use Rattle.std.proofs.raw_atomic.Walks.{proved_at, leaves}
use Rattle.its_c.proofs.Values.{both}
use Rattle.its_c.proofs.UnitPtrs.{UnitPtr, RawBox, ptr_good, both_good, unit_ptr_in, raw_boxed}
use Rattle.its_c.specs.contracts.unit_ptr.UnitPtr.of.{ended, clauses}
use Rattle.its_c.specs.contracts.unit_ptr.UnitPtr.of.Key.{name as #self}
use Rattle.its_c.proofs.unit_ptr.UnitPtr.of.Statement.{statement}
use Rattle.its_c.proofs.unit_ptr.UnitPtr.of.Code as code

pub of_spec : {M : Type 1} → statement M
of_spec 𝓤 𝓛 𝓜 𝓡 wired =
    let H = 𝓛.H in let 𝓣 = tables 𝓤 H 𝓜 𝓡 𝓡.env in let c = clauses 𝓛 𝓜.mem 𝓡.returns in
    let fn = code.function in
    let hs : Stays ended.signature.params ended.kept = (
      stay_dropped (plain (λ _. RawBox)) yes,
      tt,
    ) in
    proved_at 𝓛 ended hs c 𝓜 𝓡 (
      Goes-dropped 𝓛 0 (plain (λ _. RawBox)) yes (λ κs x f. refl),
      tt,
    ) #self fn (code.unfolded 𝓤 H 𝓜 𝓡 wired) (λ z are.
    let κs = z.0.0 in let qs = z.0.1 in
    let Post : Val → SProp 𝓤 = (walk_of 𝓛 ended hs c).post z in
    let Run : List Val → SProp 𝓤 = λ ws. WpFn 𝓤 H 𝓣.C 𝓣.Λ fn ws Post in
    let l₀ = z.0.3.0 in let p = l₀.at in let a = l₀.alloc in
    let d : UnitPtr.Denot = record { at = p; alloc = a; unit = Some l₀.value } in
    qed 𝓛 ((raw (alive 𝓛 ended.signature κs qs) ⊛ ‵ (owns (types_at ended.signature.params κs)
    z.0.3 z.0.4)) ∷ raw ((c κs z.0.3).requires z.1) ∷ []) ∵
    split ! $ move ! (1 ∷ []) $ fsplit ! $
    raw_boxed ! l₀ z.0.4.0 (λ h ws fits. let v : Val = ptr_val p in let w : Val = both v h in
    unit_ptr_in ! p h a (Some l₀.value) $
    suffices ! (Run (w ∷ [])) (subst (λ (us : List Val). ent 𝓤 (Run (w ∷
    [])) (Run us)) (sym (λ i. ws i ++ [])) (id⊢ 𝓤 (Run (w ∷ [])))) $
    enter ! 𝓣.C 𝓣.Λ fn (w ∷ []) Post $ alloc_all ! (λ l. pass_all ! refl (both_good p h fits, tt) $
    sets ! (of_opd ! (get_in ! (fld ! refl (stop !)) (sub ! 0 refl (whole !)))) refl (ptr_good p) $
    sets ! (of_opd ! (get_in ! (fld ! refl (stop !)) (sub ! 1 refl (whole !)))) refl fits $
    sets ! (of_opd ! (get ! refl)) refl (ptr_good p) $
    sets ! (agg ! (and_then ! (get ! refl) (and_then ! (get ! refl) (no_more !)))) refl (both_good
    p h fits) $
    use0 𝓛 (raw (fact 𝓤 (d.unit ≡ Some l₀.value))) (fact_i 𝓤 (d.unit ≡ Some l₀.value) (emp 𝓤)
    refl) $ nothing ! $ nothing ! $ fjoin ! $
    returns ! (look_at ! 0 refl) $ free_all ! refl $ keep ! (4 ∷ 0 ∷ 2 ∷ 1 ∷ []) $
    by ! (leaves 𝓛 ended hs c z w d (tt, tt) (tt, tt)))))
