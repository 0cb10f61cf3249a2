-- `into_raw_box` hands on what the handle owns, which is a unit.
use Rattle.std.proofs.Common.{◌≡◌, List, [], ◌∷◌, ◌++◌, refl, sym, subst}
use lib.Dec.{T}
use mir.Val.{Val}
use base.Logic.{SProp, ent, emp, id⊢}
use prog.Wp.{WpFn}
use types.Kit.{‵, raw, ◌⊛◌, ◌$◌, ◌∵◌, !, qed, by, move, keep, split, fsplit, fjoin, suffices, use0}
use types.Kit.{rewrite}
use types.Run.{stop, fld, of_opd, no_more, and_then, returns, enter}
use types.ByLocal.{alloc_all, pass_all, free_all, look_at, get, get_in, sets}
use types.Part.{agg, sub, whole}
use contract.Monad.{fact, fact_i}
use contract.Running.{tables}
use denote.Exit.{yes}
use denote.RattleType.{owns}
use denote.Signature.{types_at, plain}
use denote.RawPtr.{ptr_val}
use denote.Steps.{nothing, heard}
use denote.Triple.Entry.{alive}
use denote.Triple.Walked.{Stays, stay_dropped, walk_of, Goes-dropped}
use Rattle.std.specs.Prelude.{Some, None}
use Rattle.std.proofs.raw_atomic.Walks.{proved_at, leaves}
use Rattle.its_c.proofs.Values.{both}
use Rattle.std.specs.Prelude.{Option, IsSome}
use Rattle.its_unit.specs.Unit.{UnitState}
use Rattle.its_c.specs.Ownership.{unit_ptr_owns}
use Rattle.its_c.proofs.UnitPtrs.{UnitPtr, RawBox, ptr_good, both_good, unit_ptr_out, raw_box_of}
use Rattle.its_c.specs.contracts.unit_ptr.UnitPtr.into_raw_box.{ended, clauses}
use Rattle.its_c.specs.contracts.unit_ptr.UnitPtr.into_raw_box.Key.{name as #self}
use Rattle.its_c.proofs.unit_ptr.UnitPtr.into_raw_box.Statement.{statement}
use Rattle.its_c.proofs.unit_ptr.UnitPtr.into_raw_box.Code as code

some_is : (o : Option UnitState) → IsSome o → (x : UnitState) × (o ≡ Some x)
some_is None e = absurd (subst T (sym e) tt)
some_is (Some x) e = (x, refl)

pub into_raw_box_spec : {M : Type 1} → statement M
into_raw_box_spec 𝓤 𝓛 𝓜 𝓡 wired =
    let H = 𝓛.H in let 𝓣 = tables 𝓤 H 𝓜 𝓡 𝓡.env in let c = clauses 𝓛 𝓜.mem 𝓡.returns in
    let fn = code.function in
    let hs : Stays ended.signature.params ended.kept = (stay_dropped (plain (λ _. UnitPtr)) yes, tt) in
    proved_at 𝓛 ended hs c 𝓜 𝓡 (
      Goes-dropped 𝓛 0 (plain (λ _. UnitPtr)) yes (λ κs x f. refl),
      tt,
    ) #self fn (code.unfolded 𝓤 H 𝓜 𝓡 wired) (λ z are.
    let κs = z.0.0 in let qs = z.0.1 in
    let Post : Val → SProp 𝓤 = (walk_of 𝓛 ended hs c).post z in
    let Run : List Val → SProp 𝓤 = λ ws. WpFn 𝓤 H 𝓣.C 𝓣.Λ fn ws Post in
    let d = z.0.3.0 in let p = d.at in let a = d.alloc in
    qed 𝓛 ((raw (alive 𝓛 ended.signature κs qs) ⊛ ‵ (owns (types_at ended.signature.params κs)
    z.0.3 z.0.4)) ∷ raw (fact 𝓤 (IsSome d.unit)) ∷ []) ∵
    move ! (1 ∷ []) $ heard ! (IsSome d.unit) (λ is. let x = some_is d.unit is in
    let l₀ : RawBox.Denot = record { at = p; alloc = a; value = x.0 } in
    split ! $ move ! (1 ∷ []) $ fsplit ! $
    unit_ptr_out ! d z.0.4.0 (λ h ws fits. let v : Val = ptr_val p in let w : Val = both v h in
    rewrite ! 0 (λ (st : Option UnitState). ‵ (unit_ptr_owns a p st)) x.1 refl $
    raw_box_of ! p h a x.0 $
    suffices ! (Run (w ∷ [])) (subst (λ (us : List Val). ent 𝓤 (Run (w ∷
    [])) (Run us)) (sym (λ i. ws i ++ [])) (id⊢ 𝓤 (Run (w ∷ [])))) $
    enter ! 𝓣.C 𝓣.Λ fn (w ∷ []) Post $ alloc_all ! (λ l. pass_all ! refl (both_good p h fits, tt) $
    sets ! (of_opd ! (get_in ! (fld ! refl (stop !)) (sub ! 0 refl (whole !)))) refl (ptr_good p) $
    sets ! (of_opd ! (get_in ! (fld ! refl (stop !)) (sub ! 1 refl (whole !)))) refl fits $
    sets ! (of_opd ! (get ! refl)) refl (ptr_good p) $
    sets ! (agg ! (and_then ! (get ! refl) (and_then ! (get ! refl) (no_more !)))) refl (both_good
    p h fits) $
    use0 𝓛 (raw (fact 𝓤 (d.unit ≡ Some x.0))) (fact_i 𝓤 (d.unit ≡ Some x.0) (emp 𝓤) x.1) $
    nothing ! $ nothing ! $ fjoin ! $
    returns ! (look_at ! 0 refl) $ free_all ! refl $ keep ! (4 ∷ 0 ∷ 2 ∷ 1 ∷ []) $
    by ! (leaves 𝓛 ended hs c z w l₀ (tt, tt) (tt, tt))))))
