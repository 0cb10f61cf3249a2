-- All laws of a unit.
use Rattle.std.proofs.Common.{◌≡◌, ℕ, List, Option, Some, None, refl, ap, ◌∙◌, subst}
use Rattle.std.specs.Option.{option_map}
use Rattle.its_governor.specs.declared.rate.Limits.{Limits}
use Rattle.its_governor.specs.declared.rate.Rate.{Rate}
use Rattle.its_governor.specs.Bucket.{IsBounded, full}
use Rattle.its_governor.specs.Forwarding.{RemembersSources, times}
use Rattle.its_governor.specs.Governing.{IsNewGovernor}
use Rattle.its_governor.specs.Sources.{Forwarded, times_from}
use Rattle.its_governor.proofs.Bounds.{bounded}
use Rattle.its_governor.proofs.Deliveries.{owed, apart}
use Rattle.its_governor.proofs.Forwarding.{forwards_bounded, sources_stay}
use Rattle.its_governor.proofs.Pressure.{withheld, shares_kept, new_take_nothing}
use Rattle.its_unit.specs.Lawful.{IsLawful}
use Rattle.its_unit.specs.Runs.{AreWithin, UnitCallAt, frames_forwarded, requests_sent, unit_run}
use Rattle.its_unit.specs.Unit.{UnitModel}
use Rattle.its_unit.proofs.Acts.{contends}
use Rattle.its_unit.proofs.ActLimits.{deliveries_are_kept, rates_are_kept}
use Rattle.its_unit.proofs.Outcomes.{copies_come_from_others, forwards_are_settled}
use Rattle.its_unit.proofs.Runs.{all_sent, governed_calls, model_runs, releases_within}
use Rattle.its_unit.proofs.Runs.{same_forwarded, station_runs}

within : (limits : Limits) (u : UnitModel) → IsNewGovernor limits u.governor → AreWithin limits u
within limits u new = record {
  forwards = λ rate is calls.
      subst (λ (fs : List Forwarded). IsBounded rate (times fs)) (same_forwarded u calls)
      (forwards_bounded limits u.governor rate new is (governed_calls u calls));
  sources = λ rate is fits calls source. of_each rate is limits.forward refl fits calls source;
  own = λ rate is calls.
      bounded (full rate) (requests_sent u calls)
      (all_sent (full rate) u calls (new.own ∙ ap (option_map full) is));
}
  where
    of_each : (rate : Rate) → limits.source ≡ Some rate → (o : Option Rate) → limits.forward ≡ o
        → RemembersSources o rate → (calls : List UnitCallAt) (source : ℕ)
        → IsBounded rate (times_from source (frames_forwarded u calls))
    of_each rate is None none fits calls source = absurd fits
    of_each rate is (Some forward) some fits calls source =
        subst (λ (fs : List Forwarded). IsBounded rate (times_from source fs))
        (same_forwarded u calls)
        (sources_stay limits u.governor forward rate new some is fits (governed_calls u calls) source)

pub lawful : (limits : Limits) (u : UnitModel) → IsNewGovernor limits u.governor
    → IsLawful limits u
lawful limits u new = record {
  station = station_runs u;
  model = model_runs u;
  within = within limits u new;
  deliveries = record {
    owed = owed limits u.governor new;
    apart = apart limits u.governor new;
  };
  fair = record {
    reasons = λ calls r now t. withheld (unit_run u calls).governor r now t;
    kept = shares_kept u.governor;
    untaken = λ forward source common own.
        new_take_nothing limits u.governor forward source new common own;
  };
  contention = contends limits u station_runs (releases_within limits u new)
      (rates_are_kept limits u new) (deliveries_are_kept limits u new) (forwards_are_settled u)
      (copies_come_from_others u);
}
