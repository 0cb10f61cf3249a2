use Rattle.its_model.proofs.SoundRuns.{run_sound}
use Rattle.its_model.proofs.laws.runs.stations_are_as_logged.Goals as goal

pub returns-clause-count : goal.returns-clause-count
returns-clause-count c = λ configs events. (run_sound configs events).count

pub returns-clause-each : goal.returns-clause-each
returns-clause-each c = λ configs events j s at. (
    let h = (run_sound configs events).each j s at in
    record {
      config = h.config;
      configured = h.is_config;
      address = h.address;
      capacity = h.capacity;
      remember = h.remember;
      mobile = h.mobile;
      own_vector = h.source;
      place =
          h.place;
      number = h.number;
      history = h.history;
    })
