use Rattle.std.proofs.Common.{◌≡◌, ℕ, ℤ, List, Option, pos, subst, sym, ◌∙◌, refl, arith}
use mir.Val.{to_z, of_z}
use mir.Syntax.{w16}
use Rattle.std.proofs.lemmas.Int.{to_z-of_z}
use Rattle.its_gnvalue.specs.Values.{IsSpeed}
use Rattle.sim_moves.specs.Fields.{cut}
use Rattle.its_words.specs.Ids.{IsId}
use Rattle.sim_moves.specs.Rows.{IsMoment, IsNumber, MayBeNumber, may_field}
use Rattle.sim_moves.specs.declared.columns.Column.TheVariants as columns
use Rattle.sim_moves.proofs.Bounds.{length_cut}
use Rattle.sim_moves.proofs.row.numbers_of.Goals as goal

-- a speed is one of 16 bits
speed_same : (z : ℤ) → IsSpeed z → z ≡ to_z w16 (of_z w16 z)
speed_same z h = sym (to_z-of_z w16 z (grind (arith, h)))

pub returns-clause-ok : goal.returns-clause-ok
returns-clause-ok c =
    let notation = c.args.columns.now.notation in
    let octets = c.args.octets.now in
    let bounds = c.args.bounds.now in
    record {
      count = length_cut octets bounds ∙ c.if-bounds-columns.false;
      at = subst (λ (l : List ℕ). IsMoment notation c.args.before l c.in-Some.at) c.field.ensures
          c.in-Some.ensures.some;
      id = subst IsId c.field-2.ensures (c.is_id.ensures.0 c.if-not-is_id.false);
      lat = subst (λ (l : List ℕ). IsNumber notation columns.Lat l c.in_ok-place.place.latitude)
          c.field-3.ensures c.in_ok-place.ensures.ok.0;
      lon = subst (λ (l : List ℕ). IsNumber notation columns.Lon l c.in_ok-place.place.longitude)
          c.field-4.ensures c.in_ok-place.ensures.ok.1;
      speed = subst (λ (z : ℤ). MayBeNumber notation columns.Speed
          (may_field (cut octets bounds) c.args.columns.now.speed) z)
          (speed_same c.in_ok-speed.speed c.in_ok-speed.ensures.range)
          (subst (λ (o : Option (List ℕ)). MayBeNumber notation columns.Speed o c.in_ok-speed.speed)
          c.optional_field.ensures c.in_ok-speed.ensures.ok);
      turn = c.in_ok-turn.turn;
      heading = subst (λ (o : Option (List ℕ)).
          MayBeNumber notation columns.Heading o (pos c.in_ok-turn.turn))
          c.optional_field-2.ensures c.in_ok-turn.ensures.ok;
      turned = refl;
    }
