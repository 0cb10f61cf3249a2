-- `geostation_dispose` makes the pointer a box again, which `release` frees.
use Rattle.std.proofs.Common.{List, [], ◌∷◌, ◌++◌, refl, sym, ap, subst}
use mir.Val.{Val, vunit}
use base.Logic.{SProp, ent, id⊢}
use base.Fml.{ftrue}
use prog.Wp.{WpFn}
use types.Kit.{‵, raw, ◌⊛◌, some, later, ◌$◌, ◌∵◌, !, qed, by, move, keep, drop, split, join}
use types.Kit.{fsplit3, fjoin, suffices, use1, use2, rewrite, await, pick, feq_l, feq_i}
use types.Run.{of_opd, unit_lit, no_more, and_then, returns, enter}
use types.ByLocal.{alloc_all, pass_all, free_all, look_at, get, sets, lands_as}
use types.Part.{agg}
use contract.Running.{tables}
use denote.Exit.{yes}
use denote.RattleType.{owns}
use denote.Signature.{types_at, plain}
use denote.Builtin.{RawPtr, unit}
use denote.RawPtr.{ptr_val, rawptr_Tells}
use denote.Param.{layout}
use denote.Steps.{nothing, only}
use denote.Triple.Entry.{alive}
use denote.Triple.Call.{calls_at}
use denote.Triple.Clauses.{Lasts, lasts}
use denote.Triple.Spec.{triple_of}
use denote.Triple.Table.{framed}
use denote.Triple.Walked.{Stays, stay_dropped, walk_of, Goes-dropped}
use Rattle.std.proofs.cell.Inside.{one}
use Rattle.std.proofs.raw_atomic.Walks.{proved_at, leaves}
use Rattle.its_c.specs.Handles.{handle_owns}
use Rattle.its_c.proofs.Values.{both}
use Rattle.its_c.proofs.UnitPtrs.{Z, LZ, RawHandle, ptr_good, both_good, handle_of}
use Rattle.its_c.specs.contracts.heap.release as g
use Rattle.its_c.proofs.heap.release.Met.{met}
use Rattle.its_c.specs.contracts.heap.geostation_dispose.{ended, clauses}
use Rattle.its_c.specs.contracts.heap.geostation_dispose.Key.{name as #self}
use Rattle.its_c.proofs.heap.geostation_dispose.Statement.{statement}
use Rattle.its_c.proofs.heap.geostation_dispose.Code as code

pub geostation_dispose_spec : {M : Type 1} → statement M
geostation_dispose_spec 𝓤 𝓛 𝓜 𝓡 wired =
    let H = 𝓛.H in let 𝓣 = tables 𝓤 H 𝓜 𝓡 𝓡.env in let c = clauses 𝓛 𝓜.mem 𝓡.returns in
    let fn = code.function in
    let hs : Stays ended.signature.params ended.kept = (
      stay_dropped (plain (λ _. Z)) yes,
      (stay_dropped (plain (λ _. RawPtr)) yes, tt),
    ) in
    proved_at 𝓛 ended hs c 𝓜 𝓡 (
      Goes-dropped 𝓛 0 (plain (λ _. Z)) yes (λ κs x f. refl),
      (
        Goes-dropped 𝓛 0 (plain (λ _. RawPtr)) yes (λ κs x f. refl),
        tt,
      ),
    ) #self fn (code.unfolded 𝓤 H 𝓜 𝓡 wired) (λ z are.
    let κs = z.0.0 in let qs = z.0.1 in
    let Post : Val → SProp 𝓤 = (walk_of 𝓛 ended hs c).post z in
    let Run : List Val → SProp 𝓤 = λ ws. WpFn 𝓤 H 𝓣.C 𝓣.Λ fn ws Post in
    let a = z.0.3.0 in let p = z.0.3.1.0 in let x = z.1 in
    let h = one (layout Z) z.0.4.0 ((LZ.lawful 𝓛).typed a z.0.4.0 are.0) in
    let v : Val = ptr_val p in let w : Val = both v h.0 in
    let d : RawHandle.Denot = record { at = p; alloc = a; value = x } in
    let k = triple_of 𝓛 g.signature (g.spec 𝓛 𝓜.mem 𝓡.returns) in
    let y : k.Ghost = ((κs, qs, tt, (d, tt), (w ∷ [], tt)), tt) in
    qed 𝓛 ((raw (alive 𝓛 ended.signature κs qs) ⊛ ‵ (owns (types_at ended.signature.params κs)
    z.0.3 z.0.4)) ∷ ‵ (handle_owns a p x) ∷ []) ∵
    split ! $ move ! (1 ∷ []) $ fsplit3 ! $ move ! (1 ∷ []) $ drop ! $
    rewrite ! 0 (λ (us : List Val). ‵ (Z.own_val a us)) h.1 refl $
    -- [the allocator; nothing; the tokens; the box]
    move ! (3 ∷ 0 ∷ []) $ handle_of ! p h.0 a x $ nothing ! $ move ! (1 ∷ 0 ∷ []) $ fjoin ! $
    move ! (2 ∷ 0 ∷ []) $ join ! $
    nothing ! $ move ! (1 ∷ 0 ∷ []) $ use2 𝓛 (raw (k.pre y)) (id⊢ 𝓤 _) $
    suffices ! (Run (h.0 ∷ v ∷ [])) (subst (λ (us : List Val). ent 𝓤 (Run (h.0 ∷ v ∷
    [])) (Run us)) (sym (λ i. h.1 i ++ (rawptr_Tells p z.0.4.1.0 are.1.0 i ++ []))) (id⊢ 𝓤 (Run
    (h.0 ∷ v ∷ [])))) $
    enter ! 𝓣.C 𝓣.Λ fn (h.0 ∷ v ∷ []) Post $
    alloc_all ! (λ l. pass_all ! refl (h.2, (ptr_good p, tt)) $
    sets ! (agg ! (and_then ! (get ! refl) (and_then ! (get ! refl) (no_more !)))) refl (both_good
    p h.0 h.2) $
    calls_at ! (framed 𝓤 𝓛.H 𝓜 (tables 𝓤 𝓛.H 𝓜 𝓡 𝓡.env)) k (met 𝓤 𝓛 𝓜 𝓡
    (code.calls-its_c::heap::release 𝓡.env wired)) y (and_then ! (get ! refl) (no_more !)) (λ u.
    use1 𝓛 (later (some (λ (r : Unit {0}). (‵ ftrue ⊛ ‵ (unit.own_val r (u ∷
    []))) ⊛ some (λ (ls : Lasts g.ended κs y.0.3). ‵ (lasts g.ended κs y.0.3 ls) ⊛ ‵ ftrue)))) (id⊢
    𝓤 _) $
    await ! tt $ pick ! (λ r. split ! $ split ! $ drop ! $
    feq_l ! (λ is_unit. pick ! (λ ls. split ! $ drop ! $ drop ! $
    lands_as ! (ap only is_unit) refl (tt, tt) $ sets ! (of_opd ! (unit_lit !)) refl (tt, tt) $
    returns ! (look_at ! 0 refl) $ free_all ! refl $
    nothing ! $ feq_i ! (List Val) (vunit ∷ []) (vunit ∷ []) refl $ nothing ! $ nothing ! $
    fjoin ! $ nothing ! $ fjoin ! $ nothing ! $
    keep ! (0 ∷ 1 ∷ 2 ∷ 3 ∷ []) $
    by ! (leaves 𝓛 ended hs c z vunit tt (tt, (tt, tt)) (tt, (tt, tt)))))))))
