use Rattle.cmd_stats.proofs.Verified.{received}
use Rattle.cmd_stats.proofs.Replies.{said_fits}
use Rattle.cmd_stats.proofs.replay.secured_octets.SecuredOctets.receive.Goals as goal

pub of-requires-clause-room : goal.of-requires-clause-room
of-requires-clause-room c =
    said_fits c.match-self.plain.now _ c.receive_verified-said.result c.in_ok-make_room.ensures.room
    c.receive_verified-said.ensures.payload

pub returns : goal.returns
returns c = λ u rep.
    let (call, came, step) = c.receive_verified-said.ensures.step in
    received c.args.limiting c.args.self c.args.moment u c.in_ok-reply.reply c.as_slice-2.result.now
    c.match-self.plain.now c.receive_verified-said.result c.receive_verified-said.new.unit call
    c.as_slice-2.ensures.value came (step u rep) c.in_ok-reply.ensures
