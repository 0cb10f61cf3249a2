use Rattle.std.proofs.Common.{◌≡◌, ◌+◌, ◌-◌, ◌++◌, ◌∷◌, ◌&&◌, true, false, Bool, ltb, map, take}
use Rattle.std.proofs.Common.{length, length-set, sym, ap, ◌∙◌, refl, arith}
use Rattle.std.proofs.lemmas.Bool.{and_from, lt-ltb, le-ltb}
use Rattle.its_model.specs.History.{Known}
use Rattle.its_loctable.specs.Sorted.{bare_known}
use Rattle.its_loctable.proofs.PieceLemmas.{left, left-live, left-other, one_more}
use Rattle.its_loctable.proofs.piece.gather.Goals as goal
use Rattle.its_loctable.proofs.piece.gather.Goals.{then-now-slot+then-slot, else-now-slot}
use Rattle.its_loctable.proofs.piece.gather.Goals.{else-now-slot-via-then-now-slot+else-slot}
use Rattle.its_loctable.proofs.piece.gather.Goals.{else-now-slot-via-else-now-slot}

pub loop-place-preserved : goal.loop-place-preserved
loop-place-preserved c =
    let slots = c.args.slots.now in
    let now = c.args.now in
    let i = c.loop-place.place in
    let n = c.loop-place.count in
    let s = c.index-slots-place.result in
    let k = bare_known s in
    let v = c.loop-place.invariant in
    let rest = left now slots (i + 1) in
    elim c.if-now-slot.branch [
      | then-now-slot+then-slot w ↦
          let here : left now slots i ≡ k ∷ rest =
          left-live now slots i s c.loop-place-test.true c.index-slots-place.is
          (and_from (ltb now s.until) s.neighbour (lt-ltb _ _ w.if-now-slot.true) w.if-slot.true) in
          record {
            few = omega (arith, w.count-is, c.if-count-ge32.false);
            addresses_long = ap length w.addresses-is
                ∙ length-set c.loop-place.addresses n w.address.result ∙ v.addresses_long;
            places_long = ap length w.places-is
                ∙ length-set c.loop-place.places n w.place.result ∙ v.places_long;
            addresses = (λ j. take (w.count-is j) (w.addresses-is j)
                ++ map (λ (k : Known). k.vector.address) (take (32 - w.count-is j) rest))
                ∙ one_more (λ (k : Known). k.vector.address) c.loop-place.addresses n
                w.address.result k rest v.addresses_long c.if-count-ge32.false w.address.ensures
                ∙ ap (λ l. take n c.loop-place.addresses
                ++ map (λ (k : Known). k.vector.address) (take (32 - n) l)) (sym here)
                ∙ v.addresses;
            places = (λ j. take (w.count-is j) (w.places-is j)
                ++ map (λ (k : Known). k.vector.place) (take (32 - w.count-is j) rest))
                ∙ one_more (λ (k : Known). k.vector.place) c.loop-place.places n
                w.place.result k rest v.places_long c.if-count-ge32.false w.place.ensures
                ∙ ap (λ l. take n c.loop-place.places
                ++ map (λ (k : Known). k.vector.place) (take (32 - n) l)) (sym here)
                ∙ v.places;
          }
      | else-now-slot w ↦
          let fails : (ltb now s.until && s.neighbour) ≡ false = elim w.else-now-slot.branch [
            | else-now-slot-via-then-now-slot+else-slot u ↦
                ap (λ b. ltb now s.until && b) u.if-slot.false ∙ no_more (ltb now s.until)
            | else-now-slot-via-else-now-slot u ↦
                ap (λ b. b && s.neighbour) (le-ltb _ _ u.if-now-slot.false)
          ] in
          let here : left now slots i ≡ rest =
          left-other now slots i s c.loop-place-test.true c.index-slots-place.is fails in
          record {
            few = omega (arith, w.count-is, v.few);
            addresses_long = ap length w.addresses-is ∙ v.addresses_long;
            places_long = ap length w.places-is ∙ v.places_long;
            addresses = (λ j. take (w.count-is j) (w.addresses-is j)
                ++ map (λ (k : Known). k.vector.address) (take (32 - w.count-is j) rest))
                ∙ ap (λ l. take n c.loop-place.addresses
                ++ map (λ (k : Known). k.vector.address) (take (32 - n) l)) (sym here)
                ∙ v.addresses;
            places = (λ j. take (w.count-is j) (w.places-is j)
                ++ map (λ (k : Known). k.vector.place) (take (32 - w.count-is j) rest))
                ∙ ap (λ l. take n c.loop-place.places
                ++ map (λ (k : Known). k.vector.place) (take (32 - n) l)) (sym here)
                ∙ v.places;
          }
    ]
  where
    no_more : (b : Bool) → (b && false) ≡ false
    no_more true = refl
    no_more false = refl
