use Rattle.std.proofs.Common.{◌≡◌, ◌+◌, List, Option, None, Bool, map, take, get_or, ◌++◌, ◌∷◌, []}
use Rattle.std.proofs.Common.{sym, ap, ◌∙◌}
use Rattle.std.proofs.lemmas.List.{take_more, map-append}
use Rattle.sim_scenario.specs.Scenarios.{contends}
use Rattle.sim_scenario.proofs.contention.contending.Goals as goal

pub loop-station-preserved : goal.loop-station-preserved
loop-station-preserved c =
    let i = c.loop-station.station-index in
    let own : List (Option Bool) = c.args.own.now in
    let usual = c.args.usual in
    let x : Option Bool = get_or own i None in
    let front : map (contends usual) (take (i + 1) own)
    ≡ map (contends usual) (take i own) ++ contends usual x ∷ [] =
    ap (map (contends usual)) (take_more own i None c.loop-station-test.true)
    ∙ map-append (contends usual) (take i own) (x ∷ []) in
    c.in_ok-push.ensures.items
    ∙ ap (λ (l : List Bool). l ++ c.contends.result ∷ []) c.loop-station.invariant
    ∙ ap (λ (b : Bool). map (contends usual) (take i own) ++ b ∷ []) c.contends.ensures
    ∙ sym front
