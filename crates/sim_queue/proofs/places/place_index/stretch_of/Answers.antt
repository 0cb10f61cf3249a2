use Rattle.std.proofs.Common.{◌≡◌, ◌∙◌, ap, sym, subst, false}
use Rattle.its_gnvalue.specs.Values.{Position}
use Rattle.sim_air_model.specs.Range.{is_within}
use Rattle.sim_queue.specs.PlaceIndexes.{Covers, easting}
use Rattle.sim_queue.proofs.Bands.{covers}
use Rattle.sim_queue.proofs.places.place_index.stretch_of.Goals as goal

pub returns-clause-covers : goal.returns-clause-covers
returns-clause-covers c =
    let range = c.args.range in
    let place = c.args.place in
    let west = c.in_ok-west.west in
    let east = c.in_ok-east.east in
    let out : is_within range place east ≡ false =
    ap (λ (p : Position). is_within range p east) (sym c.requires.centre)
    ∙ sym c.is_within.ensures ∙ c.if-is_within.false in
    let covered = covers range c.args.width place west east c.requires.width
    c.place_west.ensures.longitude c.easting.ensures.longitude c.easting-2.ensures.longitude
    c.in_ok-west.ensures.place.1 c.in_ok-east.ensures.0 c.in_ok-east.ensures.1 out in
    subst (λ k. Covers range place k c.easting-2.result) (sym c.easting.ensures.value)
    (subst (λ k. Covers range place (easting west) k) (sym c.easting-2.ensures.value) covered)
