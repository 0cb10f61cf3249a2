use Rattle.std.proofs.Common.{arith, length-take}
use Rattle.std.proofs.lemmas.Result.{err_from_is_err_and}
use Rattle.cap_pcap.proofs.Cuts.{IsCutShort-after, Passes-after}
use Rattle.cap_pcap.specs.Reading.{Passes}
use Rattle.cap_pcap.proofs.transfer.skip_pieces.Goals as goal

pub returns-in_err-read_exact-clause-fault : goal.returns-in_err-read_exact-clause-fault
returns-in_err-read_exact-clause-fault g c =
    let before = c.loop-left.invariant.2 in
    let p = err_from_is_err_and c.from_residual.result c.from_residual.ensures.1 in
    rw (p.1, p.2)
    (IsCutShort-after _ _ _ before.gone _ c.args.count _
    (omega
    (arith, before.size, c.min-size.ensures, length-take c.min-size.result c.loop-left.piece))
    before.consumes c.in_err-read_exact.ensures.fault)

pub loop-left-preserved : goal.loop-left-preserved
loop-left-preserved g c =
    let before = c.loop-left.invariant in
    let more : Passes c.min-size.result (g.S.Read.remaining c.loop-left.source)
    (g.S.Read.remaining c.read_exact.new.source) = record {
      gone = c.read_exact.new.buf;
      size =
          omega (
            arith,
            c.read_exact.auto.buf,
            c.min-size.ensures,
            length-take c.min-size.result c.loop-left.piece,
          );
      consumes = c.in_ok-read_exact.ensures.octets;
    } in (
      omega (arith, c.min-size.ensures),
      omega (arith, before.1, c.in_ok-read_exact.ensures.counts),
      Passes-after _ _ _ _ _ _ (omega (arith, before.0, c.min-size.ensures)) before.2 more,
    )
