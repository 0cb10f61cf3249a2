use Rattle.std.proofs.Common.{◌≡◌, ℕ, ◌++◌, ◌∙◌, List, OnOk, length, take, drop, min}
use Rattle.std.proofs.Common.{sym, ap, subst}
use Rattle.std.proofs.Common.{arith, ◌-◌}
use Rattle.std.proofs.Math.Seq.{take-append_seam}
use Rattle.cap_pcap.specs.Reading.{GivesFrame, Passes}
use Rattle.cap_pcap.proofs.Cuts.{frame-fault, frame-given}
use Rattle.cap_pcap.proofs.transfer.read_record_octets.Goals as goal

pub returns-clause-frame : goal.returns-clause-frame
returns-clause-frame g c =
    let buf = c.read_exact.new.buf in
    let tail = drop (length buf) c.resize.new.self.items in
    let len : c.resize.new.self.len ≡ c.min-kept.result = grind arith in
    let full : c.resize.new.self.len ≡ length buf = omega (arith, len) in
    let whole : take c.resize.new.self.len (buf ++ tail) ≡ buf =
    ap (λ (n : ℕ). take n (buf ++ tail)) full ∙ take-append_seam buf tail in
    let size : length buf ≡ min c.args.captured c.args.keep =
    omega (arith, len, c.min-kept.ensures) in
    let old = g.S.Read.remaining c.args.source.now in
    let mid = g.S.Read.remaining c.read_exact.new.source in
    let new = g.S.Read.remaining c.skip.new.source in
    subst
    (λ (t : List ℕ). OnOk c.skip.result (GivesFrame c.args.captured c.args.keep t old new))
    (sym whole)
    (frame-given c.skip.result old mid new buf c.args.captured c.args.keep size
    c.in_ok-read_exact.ensures.octets
    (subst (λ (n : ℕ). OnOk c.skip.result (Passes (c.args.captured - n) mid new))
    c.min-kept.ensures c.skip.ensures.octets))

pub returns-clause-fault : goal.returns-clause-fault
returns-clause-fault g c =
    let len : c.resize.new.self.len ≡ c.min-kept.result = grind arith in
    frame-fault c.skip.result _ _ _ c.read_exact.new.buf _ c.args.captured
    (omega (arith, len, c.min-kept.ensures)) c.in_ok-read_exact.ensures.octets
    c.skip.ensures.fault
