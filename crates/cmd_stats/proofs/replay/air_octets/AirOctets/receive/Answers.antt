use Rattle.std.proofs.Common.{◌∙◌, ◌≤◌, ap, length, subst, List, ℕ}
use Rattle.std.specs.Prelude.{Vec, vec_capacity}
use Rattle.std.specs.declared.alloc.Global.{Global}
use Rattle.its_model.specs.Calls.{Call}
use Rattle.its_unit.specs.Unit.{UnitModel, step_by}
use Rattle.its_unit.specs.Unit.UnitCall.{Receive}
use Rattle.cmd_stats.proofs.Replies.{received_by, said_fits}
use Rattle.cmd_stats.proofs.replay.air_octets.AirOctets.receive.Goals as goal

pub of-requires-clause-room : goal.of-requires-clause-room
of-requires-clause-room c =
    said_fits c.args.self.now.items (vec_capacity c.make_room.new.room) c.lend_to.result
    (subst (λ (w : List ℕ). length w ≤ vec_capacity c.make_room.new.room)
    (c.as_slice.ensures.value ∙ ap (λ (v : Vec ℕ Global). v.items) c.self.view_is)
    c.in_ok-make_room.ensures.room) c.lend_to.ensures.payload

pub returns : goal.returns
returns c =
    received_by c.of.result c.lend_to.result c.args.self.now.items c.args.unit.now c.lend_to.new.unit
    (λ (call : Call) (u : UnitModel). step_by c.args.limiting u c.args.moment (Receive call))
    c.lend_to.ensures.step c.of.ensures
