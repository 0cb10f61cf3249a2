-- The machine values of handles and the pointers to them, and how a pointer and what it owns come apart.
use Rattle.std.proofs.Common.{◌≡◌, List, [], ◌∷◌, ◌++◌, refl, subst}
use mathlib.Core.Bool.{true, ◌&&◌}
use lib.Dec.{T, lit<}
use seplogic.Ra.Ura.{Ura}
use mir.Syntax.{impl, tnil, dnil, ty_ptr}
use mir.Val.{Val, vstruct, of_list, has_ty, WT}
use types.Logic.{Logic}
use types.Kit.{Item, Goal, Seq, Step, step, ‵, ◌$◌, move, drop, fsplit, fjoin, fpick, fpack, feq_i}
use types.Kit.{feq_l}
use denote.RattleType.{RattleType, Valss}
use denote.Builtin.{RawPtr}
use denote.RawPtr.{Ptr, block_ptr, null_ptr, ptr_val}
use denote.Steps.{nothing}
use denote.Param.{layout}
use denote.Param.Laws.{Laws}
use denote.Struct.Struct.{within}
use denote.Struct.Owning.{shape, to}
use Rattle.std.specs.Prelude.{Option}
use Rattle.std.specs.Box.Ownership.{box_owns}
use Rattle.std.specs.contracts.alloc.Global as heap
use Rattle.std.proofs.alloc.Global.TheLaws as heap_laws
use Rattle.std.specs.contracts.impls.GlobalAllocator.TheImpl.{ghosts}
use Rattle.std.proofs.alloc.Calls.{Al, handle_tells}
use Rattle.std.proofs.cell.Inside.{Good}
use Rattle.std.proofs.ResultValues.{and_tt}
use Rattle.its_unit.specs.Unit.{UnitState}
use Rattle.its_unit.specs.contracts.unit.Unit as unit_row
use Rattle.its_loctable.specs.contracts.sorted.SortedTable as table
use Rattle.its_loctable.specs.contracts.sorted.SortedTableLocationStore.TheImpl as store
use Rattle.its_c.specs.Ownership.{unit_ptr_owns}
use Rattle.its_c.specs.contracts.unit_ptr.UnitPtr as unit_ptr
use Rattle.its_c.specs.contracts.raw_box.RawBox as raw_box
use Rattle.its_c.specs.contracts.handle.Geostation as geostation
use Rattle.its_c.specs.contracts.handle_out.HandleOut as handle_out
use Rattle.its_c.specs.declared.handle.Geostation.{Geostation as Handle}
use Rattle.its_c.specs.Handles.{handle_out_owns}
use Rattle.its_c.proofs.Values.{both}

abbrev pub Z : RattleType
Z = heap.the_row

abbrev pub LZ : Laws Z
LZ = heap_laws.the_row_laws

abbrev pub R : RattleType
R = unit_row.the_row table.the_row store.ghosts

abbrev pub UnitPtr : RattleType
UnitPtr = unit_ptr.the_row

abbrev pub RawBox : RattleType
RawBox = raw_box.the_row R Z ghosts

abbrev al : Al
al = record { row = Z; laws = LZ; g = ghosts; d = impl [] tnil dnil; drops = impl [] tnil dnil }

pub ptr_good : (p : Ptr) → T (has_ty ty_ptr (ptr_val p)) × WT (ptr_val p)
ptr_good (block_ptr b o) = (tt, tt)
ptr_good null_ptr = (tt, record { fits = lit< tt })

pub both_good : (p : Ptr) (h : Val) → Good (layout Z) h
    → T (has_ty ty_ptr (ptr_val p) && (has_ty (layout Z) h && true)) × WT (both (ptr_val p) h)
both_good (block_ptr b o) h fits = (and_tt (has_ty (layout Z) h) fits.0, (tt, (fits.1, tt)))
both_good null_ptr h fits = (
  and_tt (has_ty (layout Z) h) fits.0,
  (
    record { fits = lit< tt },
    (fits.1, tt),
  ),
)

module _ {M : Type 1} {𝓤 : Ura M} {𝓛 : Logic 𝓤} {K : Type 0} {Γ : List (Item 𝓤)} {G : Goal 𝓤 𝓛.H}
  where
    pub unit_ptr_out : K → (d : UnitPtr.Denot) (vs : List Val)
        → ((h : Val) → vs ≡ both (ptr_val d.at) h ∷ [] → Good (layout Z) h →
        Seq K 𝓛 (‵ (unit_ptr_owns d.alloc d.at d.unit) ∷ ‵ (Z.own_val d.alloc (h ∷ [])) ∷ Γ) G)
        → Seq K 𝓛 (‵ (UnitPtr.own_val d vs) ∷ Γ) G
    unit_ptr_out t d vs k =
        fsplit t $ fpick t (λ vss. fsplit t $ feq_l t (λ ev. fsplit t $ feq_l t (λ ep. fsplit t $
        handle_tells al t d.alloc vss.1.0 (λ h ea fits. move t (1 ∷ []) $ drop t $
        move t (1 ∷ []) $ k h
        (subst (λ (ws : List Val). vs ≡ vstruct (of_list (ptr_val d.at ∷ (ws ++ []))) ∷
        []) ea (subst (λ (ps : List Val). vs ≡ vstruct (of_list (ps ++ (vss.1.0 ++ []))) ∷
        []) ep ev)) fits))))

    pub unit_ptr_in : K → (p : Ptr) (h : Val) (a : Z.Denot) (st : Option UnitState)
        → Step K 𝓛 (‵ (UnitPtr.own_val (record { at = p; alloc = a; unit = st }) (both (ptr_val p) h
        ∷ [])) ∷ Γ) G (‵ (unit_ptr_owns a p st) ∷ ‵ (Z.own_val a (h ∷ [])) ∷ Γ) G
    unit_ptr_in t p h a st = step (λ s. let v : Val = both (ptr_val p) h in
        nothing t $ move t (2 ∷ 0 ∷ []) $ fjoin t $
        feq_i t (List Val) (ptr_val p ∷ []) (ptr_val p ∷ []) refl $ fjoin t $
        feq_i t (List Val) (v ∷ []) (v ∷ []) refl $ fjoin t $
        fpack t (Valss (RawPtr ∷ Z ∷
        [])) (within (shape unit_ptr.the_type) (to unit_ptr.the_type (record {
          at = p;
          alloc = a;
          unit =
              st;
        })) (v ∷ [])) (ptr_val p ∷ [], (h ∷ [], tt)) $ fjoin t $ s)

    pub raw_boxed : K → (d : RawBox.Denot) (vs : List Val)
        → ((h : Val) → vs ≡ both (ptr_val d.at) h ∷ [] → Good (layout Z) h →
        Seq K 𝓛 (‵ (box_owns (ghosts.dealloc_token d.alloc) R d.at d.value) ∷
        ‵ (Z.own_val d.alloc (h ∷ [])) ∷ Γ) G)
        → Seq K 𝓛 (‵ (RawBox.own_val d vs) ∷ Γ) G
    raw_boxed t d vs k =
        fsplit t $ fpick t (λ vss. fsplit t $ feq_l t (λ ev. fsplit t $ feq_l t (λ ep. fsplit t $
        handle_tells al t d.alloc vss.1.0 (λ h ea fits. move t (1 ∷ []) $ drop t $
        move t (1 ∷ []) $ k h
        (subst (λ (ws : List Val). vs ≡ vstruct (of_list (ptr_val d.at ∷ (ws ++ []))) ∷
        []) ea (subst (λ (ps : List Val). vs ≡ vstruct (of_list (ps ++ (vss.1.0 ++ []))) ∷
        []) ep ev)) fits))))

    pub raw_box_of : K → (p : Ptr) (h : Val) (a : Z.Denot) (x : R.Denot)
        → Step K 𝓛 (‵ (RawBox.own_val (record { at = p; alloc = a; value = x }) (both (ptr_val p) h ∷
        [])) ∷ Γ) G (‵ (box_owns (ghosts.dealloc_token a) R p x) ∷ ‵ (Z.own_val a (h ∷ [])) ∷ Γ) G
    raw_box_of t p h a x = step (λ s. let v : Val = both (ptr_val p) h in
        nothing t $ move t (2 ∷ 0 ∷ []) $ fjoin t $
        feq_i t (List Val) (ptr_val p ∷ []) (ptr_val p ∷ []) refl $ fjoin t $
        feq_i t (List Val) (v ∷ []) (v ∷ []) refl $ fjoin t $
        fpack t (Valss (RawPtr ∷ Z ∷ [])) (within (shape (raw_box.the_type R Z ghosts)) (
          p,
          (
            a,
            tt,
          ),
        ) (v ∷ [])) (ptr_val p ∷ [], (h ∷ [], tt)) $ fjoin t $ s)

-- the same of a handle on the heap
abbrev pub G : RattleType
G = geostation.the_row

abbrev pub HandleOut : RattleType
HandleOut = handle_out.the_row

abbrev pub RawHandle : RattleType
RawHandle = raw_box.the_row G Z ghosts

module _ {M : Type 1} {𝓤 : Ura M} {𝓛 : Logic 𝓤} {K : Type 0} {Γ : List (Item 𝓤)} {Go : Goal 𝓤 𝓛.H}
  where
    pub handle_of : K → (p : Ptr) (h : Val) (a : Z.Denot) (x : G.Denot)
        → Step K 𝓛 (‵ (RawHandle.own_val (record { at = p; alloc = a; value = x }) (both (ptr_val
        p) h ∷ [])) ∷ Γ) Go (‵ (box_owns (ghosts.dealloc_token a) G p x) ∷ ‵ (Z.own_val a (h ∷
        [])) ∷ Γ) Go
    handle_of t p h a x = step (λ s. let v : Val = both (ptr_val p) h in
        nothing t $ move t (2 ∷ 0 ∷ []) $ fjoin t $
        feq_i t (List Val) (ptr_val p ∷ []) (ptr_val p ∷ []) refl $ fjoin t $
        feq_i t (List Val) (v ∷ []) (v ∷ []) refl $ fjoin t $
        fpack t (Valss (RawPtr ∷ Z ∷ [])) (within (shape (raw_box.the_type G Z ghosts)) (
          p,
          (
            a,
            tt,
          ),
        ) (v ∷ [])) (ptr_val p ∷ [], (h ∷ [], tt)) $ fjoin t $ s)

    pub handle_raw_boxed : K → (d : RawHandle.Denot) (vs : List Val)
        → ((h : Val) → vs ≡ both (ptr_val d.at) h ∷ [] → Good (layout Z) h →
        Seq K 𝓛 (‵ (box_owns (ghosts.dealloc_token d.alloc) G d.at d.value) ∷
        ‵ (Z.own_val d.alloc (h ∷ [])) ∷ Γ) Go)
        → Seq K 𝓛 (‵ (RawHandle.own_val d vs) ∷ Γ) Go
    handle_raw_boxed t d vs k =
        fsplit t $ fpick t (λ vss. fsplit t $ feq_l t (λ ev. fsplit t $ feq_l t (λ ep. fsplit t $
        handle_tells al t d.alloc vss.1.0 (λ h ea fits. move t (1 ∷ []) $ drop t $
        move t (1 ∷ []) $ k h
        (subst (λ (ws : List Val). vs ≡ vstruct (of_list (ptr_val d.at ∷ (ws ++ []))) ∷
        []) ea (subst (λ (ps : List Val). vs ≡ vstruct (of_list (ps ++ (vss.1.0 ++ []))) ∷
        []) ep ev)) fits))))

    pub handle_out_in : K → (p : Ptr) (h : Val) (a : Z.Denot) (st : Option Handle)
        → Step K 𝓛 (‵ (HandleOut.own_val (record { at = p; alloc = a; handle = st })
        (both (ptr_val p) h ∷
        [])) ∷ Γ) Go (‵ (handle_out_owns a p st) ∷ ‵ (Z.own_val a (h ∷ [])) ∷ Γ) Go
    handle_out_in t p h a st = step (λ s. let v : Val = both (ptr_val p) h in
        nothing t $ move t (2 ∷ 0 ∷ []) $ fjoin t $
        feq_i t (List Val) (ptr_val p ∷ []) (ptr_val p ∷ []) refl $ fjoin t $
        feq_i t (List Val) (v ∷ []) (v ∷ []) refl $ fjoin t $
        fpack t (Valss (RawPtr ∷ Z ∷
        [])) (within (shape handle_out.the_type) (to handle_out.the_type (record {
          at = p;
          alloc = a;
          handle = st;
        })) (v ∷ [])) (ptr_val p ∷ [], (h ∷ [], tt)) $ fjoin t $ s)
