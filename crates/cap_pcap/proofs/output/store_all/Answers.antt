use Rattle.std.proofs.Common.{rules, ℕ, List, [], Bor, subst, sym}
use Rattle.std.proofs.KnownBytes.{Appends-trans}
use Rattle.std.specs.Io.KnownBytes.{Appends}
use Rattle.its_linkframe.specs.Devices.{AppendsPrefix}
use Rattle.its_linkframe.proofs.CapturesWritten.{AppendsPrefix-longer}
use Rattle.cap_pcap.proofs.Puts.{AppendsPrefix-behind, joined-more, joined-parts}
use Rattle.cap_pcap.proofs.output.store_all.Goals as goal

none : Bor (List ℕ)
none = record { ref_ptr = (0, 0); now = [] }

pub returns-in_err-store-clause-bytes : goal.returns-in_err-store-clause-bytes
unfolding none
returns-in_err-store-clause-bytes g c =
    let i = c.loop-part.part-index in
    let put = AppendsPrefix-behind _ _ _ _ _ c.loop-part.invariant.1 c.in_err-store.ensures.bytes in
    rw c.from_residual.ensures
    (subst (λ (t : List ℕ). AppendsPrefix (g.S.Write.contents c.args.sink.now)
    (g.S.Write.contents c.store.new.sink) t)
    (joined-parts c.args.parts.now i none c.loop-part-test.true)
    (AppendsPrefix-longer _ _ _ _ put))

pub loop-part-preserved : goal.loop-part-preserved
unfolding none
loop-part-preserved g c =
    let i = c.loop-part.part-index in
    let put = Appends-trans _ _ _ _ _ c.loop-part.invariant.1 c.in_ok-store.ensures.bytes in (
      search rules,
      subst (λ (t : List ℕ). Appends (g.S.Write.contents c.args.sink.now)
          (g.S.Write.contents c.store.new.sink) t)
          (sym (joined-more c.args.parts.now i none c.loop-part-test.true)) put,
    )
