use Rattle.std.proofs.Common.{◌≡◌, ◌∙◌, ◌++◌, ◌∷◌, [], List, arith, All, ap, subst, sym}
use Rattle.std.proofs.Common.{append-nil, append_assoc, get_or, length}
use Rattle.std.proofs.Math.Seq.{get_or-append_seam}
use Rattle.std.proofs.lemmas.List.{length-append, nil_from_length}
use Rattle.std.proofs.lemmas.List.Elements.{All-push}
use Rattle.std.specs.Vec.Iter.{into_iter_items}
use Rattle.sim_scenario.proofs.Said.{AreDone, done_more, done_say}
use Rattle.sim_scenario.specs.Events.{FitsFileEvent, FitsStationEvent}
use Rattle.sim_scenario.specs.Saying.{SaysStationEvent}
use Rattle.sim_scenario.specs.declared.events.event.FileEvent.{FileEvent}
use Rattle.sim_scenario.specs.declared.events.event.StationEvent.{StationEvent}
use Rattle.sim_settings.specs.Items.{SayItems}
use Rattle.sim_scenario.proofs.event_tables.read_file.Goals as goal
use Rattle.toml.specs.Data.{Items}
use Rattle.toml.specs.View.{items_view}

pub loop-event-preserved : goal.loop-event-preserved
loop-event-preserved c =
    let at = c.loop-event in
    let items : Items = items_view c.args.items.now in
    let e : StationEvent = c.in-Some.event in
    let filed : FileEvent = c.done_at.result in
    let left = into_iter_items c.next.new.self in
    let steps : into_iter_items at.event-iterator ≡ e ∷ left = c.in-Some.ensures.steps.0 in
    let all : at.yielded ++ into_iter_items at.event-iterator ≡ (at.yielded ++ e ∷ []) ++ left =
    ap (λ (l : List StationEvent). at.yielded ++ l) steps
    ∙ sym (append_assoc at.yielded (e ∷ []) left) in
    let more = length-append at.yielded (into_iter_items at.event-iterator) in
    let one = ap length steps in
    let fits : FitsStationEvent e =
    subst FitsStationEvent
    (ap (λ (l : List StationEvent). get_or (at.yielded ++ l) (length at.yielded) e) steps
    ∙ get_or-append_seam at.yielded e left e)
    (at.invariant.fits (length at.yielded) e (omega (arith, more, one))) in
    let done = c.done_at.ensures.done in
    let within = fits.0 in
    let before = fits.1 in
    let station = done.0 in
    let moment = done.1 in
    let small = fits.2.1 in
    let frame = c.done_at.ensures.frame in
    record {
      left = let was = at.invariant.left in
          let gone = c.in-Some.ensures.steps.1 in
          let short = ap length steps in
          omega arith;
      says =
          subst (λ (l : List StationEvent). SayItems SaysStationEvent items l) all
          at.invariant.says;
      fits = subst (λ (l : List StationEvent). All FitsStationEvent l) all at.invariant.fits;
      done =
          subst (λ (l : List FileEvent). AreDone (at.yielded ++ e ∷ []) l)
          (sym c.in_ok-push.ensures.items)
          (done_more at.yielded at.file.items e filed at.invariant.done
          (c.at-place.result, done));
      ranges =
          subst (λ (l : List FileEvent). All FitsFileEvent l) (sym c.in_ok-push.ensures.items)
          (All-push FitsFileEvent at.file.items filed at.invariant.ranges (
            omega (arith, within, station),
            omega (arith, before, moment),
            c.done_at.ensures.speed,
            omega (arith, small, frame),
          ));
    }

pub returns-clause-says : goal.returns-clause-says
returns-clause-says c =
    let at = c.loop-event in
    let items : Items = items_view c.args.items.now in
    let none : into_iter_items at.event-iterator ≡ [] =
    let was = at.invariant.left in
    let gone = c.in-None.ensures.steps in
    nil_from_length (into_iter_items at.event-iterator) (omega (arith, was, gone)) in
    let all : at.yielded ++ into_iter_items at.event-iterator ≡ at.yielded =
    ap (λ (l : List StationEvent). at.yielded ++ l) none ∙ append-nil at.yielded in
    done_say items at.yielded at.file.items at.invariant.done
    (subst (λ (l : List StationEvent). SayItems SaysStationEvent items l) all at.invariant.says)
