use Rattle.std.proofs.Common.{◌≡◌, suc, ◌+◌, ◌<◌, ◌&&◌, ◌∙◌, Bool, true, false, find}
use Rattle.std.proofs.Common.{drop, get_or, length, eqb, ltb, refl, sym, ap, subst, arith}
use Rattle.std.proofs.lemmas.Bool.{ne_eqb}
use Rattle.std.proofs.lemmas.List.{length-map, get_or_default}
use Rattle.its_gnvalue.specs.Values.{mid_of}
use Rattle.its_loctable.specs.declared.sorted.slot.SortedSlot.{SortedSlot}
use Rattle.its_model.specs.Stations.{has_mid}
use Rattle.its_loctable.specs.Sorted.{bare_known, addresses_of, AreWithoutMid}
use Rattle.its_loctable.proofs.ListLemmas.{find_past, find_skip}
use Rattle.its_loctable.proofs.SortedLemmas.{key, column-at}
use Rattle.its_loctable.proofs.sorted.search.place_with_mid.Goals as goal

none_more : (b : Bool) → (b && false) ≡ false
none_more true = refl
none_more false = refl

pub loop-place-init : goal.loop-place-init
loop-place-init c =
    let xs = c.args.slots.now in
    let now = c.args.now in
    let mid = c.args.mid in
    find_skip (λ (s : SortedSlot). ltb now s.until && has_mid mid (bare_known s)) xs
    c.skip_eights-place.result
    (λ k d lt within.
    let a = get_or (addresses_of xs) k 0 in
    let counted : k < length (addresses_of xs) = omega (arith, within, length-map xs key) in
    let own : a ≡ key (get_or xs k d) =
    column-at xs k a d within (get_or_default (addresses_of xs) k 0 a counted) in
    ap (λ b. ltb now (get_or xs k d).until && b)
    (ne_eqb (mid_of (key (get_or xs k d))) mid
    (λ is. subst (AreWithoutMid mid c.skip_eights-place.result) c.requires
    c.skip_eights-place.ensures.none k 0 lt counted (ap mid_of own ∙ is)))
    ∙ none_more (ltb now (get_or xs k d).until))

pub loop-place-preserved : goal.loop-place-preserved
loop-place-preserved c =
    let xs = c.args.slots.now in
    let now = c.args.now in
    let mid = c.args.mid in
    let i = c.loop-place.place in
    let a = c.index-addresses-place.result in
    let p = λ (s : SortedSlot). ltb now s.until && has_mid mid (bare_known s) in
    let within : i < length xs =
    omega (arith, c.loop-place-test.true, ap length c.requires, length-map xs key) in
    let next : suc i ≡ i + 1 = omega arith in
    let fails : (d : SortedSlot) → p (get_or xs i d) ≡ false =
    elim c.else-eq.branch [
      | goal.else-eq-via-then-eq+else-is_live_at w ↦ λ d.
          ap (λ b. b && has_mid mid (bare_known (get_or xs i d)))
          (sym (w.is_live_at.ensures d) ∙ w.if-is_live_at.false)
      | goal.else-eq-via-else-eq w ↦ λ d.
          let own = column-at xs i a d within
          (c.index-addresses-place.is ∙ ap (λ l. get_or l i a) c.requires) in
          ap (λ b. ltb now (get_or xs i d).until && b)
          (ap (λ n. eqb (mid_of n) mid) (sym own) ∙ ap (λ m. eqb m mid) (sym c.mid.ensures.value)
          ∙ sym c.eq.ensures ∙ w.if-eq.false)
          ∙ none_more (ltb now (get_or xs i d).until)
    ] in
    ap (λ n. find p (drop n xs)) (sym next) ∙ sym (find_past p xs i fails)
    ∙ c.loop-place.invariant
