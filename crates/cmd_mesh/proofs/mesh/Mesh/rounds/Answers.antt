use Rattle.std.proofs.Common.{refl, ◌∙◌, arith}
use Rattle.cmd_mesh.proofs.Stations.{none_came, more_rounds}
use Rattle.cmd_mesh.proofs.mesh.Mesh.rounds.Goals as goal
use Rattle.cmd_mesh.proofs.mesh.Mesh.rounds.Goals.{else-loop-test, then-branch, else-branch}
use Rattle.cmd_mesh.proofs.mesh.Mesh.rounds.Goals.{then-loop-test+in_ok-round+then-quiet-eq-QUIET}

pub loop-init : goal.loop-init
loop-init g c =
    record {
      quiet = omega arith;
      received = λ models represent. none_came models c.args.self.now.moment
          c.args.self.now.refused c.args.self.now.stations.items represent;
      moment = refl;
    }

pub loop-preserved : goal.loop-preserved
loop-preserved g c =
    record {
      quiet = elim c.if-branch.branch [ then-branch w ↦ omega arith | else-branch w ↦ omega arith ];
      received = λ models represent. more_rounds models c.args.self.now.moment
          c.loop.self.moment c.args.self.now.refused c.loop.self.refused
          c.round.new.self.refused c.loop.self.stations.items c.round.new.self.stations.items
          c.loop.invariant.moment (c.loop.invariant.received models represent)
          c.round.ensures.received;
      moment = c.round.ensures.moment ∙ c.loop.invariant.moment;
    }

pub returns-in_err-round-clause-received : goal.returns-in_err-round-clause-received
returns-in_err-round-clause-received g c = λ models represent.
    more_rounds models c.args.self.now.moment c.loop.self.moment c.args.self.now.refused
    c.loop.self.refused c.round.new.self.refused c.loop.self.stations.items
    c.round.new.self.stations.items c.loop.invariant.moment
    (c.loop.invariant.received models represent) c.round.ensures.received

pub returns-clause-received : goal.returns-clause-received
returns-clause-received g c = λ models represent.
    elim c.loop-test.branch [
      | else-loop-test w ↦ rw w.self-is (c.loop.invariant.received models represent)
      | then-loop-test+in_ok-round+then-quiet-eq-QUIET w ↦ rw w.self-is
          (more_rounds models c.args.self.now.moment c.loop.self.moment c.args.self.now.refused
          c.loop.self.refused w.round.new.self.refused c.loop.self.stations.items
          w.round.new.self.stations.items c.loop.invariant.moment
          (c.loop.invariant.received models represent) w.round.ensures.received)
    ]
