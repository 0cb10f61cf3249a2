use Rattle.std.proofs.lemmas.Result.{on_ok_weaker}
use Rattle.its_station.specs.declared.call.OwnCall.TheVariants.{SendGeobroadcast, SendGeoanycast}
use Rattle.sim_simulation.specs.Records.{happening_in}
use Rattle.sim_simulation.specs.Packets.{sent_by}
use Rattle.sim_simulation.proofs.Tallies.{is_plain, other_call, plain_counts, plain_sends}
use Rattle.sim_simulation.proofs.tally.tally.Tally.count_send.Goals as goal

-- a frame that came carries no packet for an area
pub returns-in_default : goal.returns-in_default
returns-in_default c =
    let old = c.args.self.now in
    let new = c.count_frame.new.self in
    let e = happening_in c.args.done.now in
    let counted = c.count_frame.ensures in
    let other = c.in_default.not-Call in
    let plain = is_plain c.args.done.now.what.now (λ r. other (SendGeobroadcast r))
    (λ r. other (SendGeoanycast r)) in
    record {
      totals = counted.totals;
      sends = on_ok_weaker c.count_frame.result
          (λ given. plain_sends old new e.what (plain 0 e).0 counted.sends) counted.carried;
      released = counted.released;
      late = counted.late;
      counts = λ n ps fs ds number has. on_ok_weaker c.count_frame.result
          (λ given. plain_counts old new ps fs ds e.what (sent_by n e e.what) (plain n e).0
          (plain n e).1 counted.sends given counted.released counted.delivered has)
          counted.carried;
    }

-- and neither does one of another call
pub returns-in_default-call : goal.returns-in_default-call
returns-in_default-call c =
    let old = c.args.self.now in
    let new = c.count_frame-in_default-call.new.self in
    let e = happening_in c.args.done.now in
    let counted = c.count_frame-in_default-call.ensures in
    let what = c.args.done.now.what.now in
    let call = c.in-Call.call in
    let plain = is_plain what
    (λ r. other_call what call (SendGeobroadcast r) c.in-Call.is
    (c.in_default-call.not-SendGeobroadcast r))
    (λ r. other_call what call (SendGeoanycast r) c.in-Call.is
    (c.in_default-call.not-SendGeoanycast r)) in
    record {
      totals = counted.totals;
      sends = on_ok_weaker c.count_frame-in_default-call.result
          (λ given. plain_sends old new e.what (plain 0 e).0 counted.sends) counted.carried;
      released = counted.released;
      late = counted.late;
      counts = λ n ps fs ds number has. on_ok_weaker c.count_frame-in_default-call.result
          (λ given. plain_counts old new ps fs ds e.what (sent_by n e e.what) (plain n e).0
          (plain n e).1 counted.sends given counted.released counted.delivered has)
          counted.carried;
    }
