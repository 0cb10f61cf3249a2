use Rattle.std.proofs.Common.{refl}
use Rattle.its_linkframe.specs.Frames.{transmission_of}
use Rattle.its_c.proofs.Messages.{message_shown}
use Rattle.its_c.proofs.reading.shown_message.Goals as goal

pub returns : goal.returns
returns c =
    message_shown (transmission_of c.args.view.now) c.args.frame.now c.payload.result.now
    c.in-Ok.payload.now c.in-Ok.port c.in-Ok.info c.requires c.args.view.now.packet.pdu.body refl
    c.payload.ensures.message c.in-Ok.ensures.short c.in-Ok.ensures.port c.in-Ok.ensures.info
    c.in-Ok.ensures.payload
