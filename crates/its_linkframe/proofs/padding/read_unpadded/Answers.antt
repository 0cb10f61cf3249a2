use Rattle.std.proofs.Common.{◌≡◌, ℕ, arith, length, subst, inl, refl, take_all}
use Rattle.std.specs.Prelude.{All}
use Rattle.std.proofs.lemmas.List.{take_rest}
use Rattle.its_linkframe.specs.Frames.{EncodesFrame}
use Rattle.its_linkframe.proofs.Paddings.{unpadded_frame, whole_frame}
use Rattle.its_linkframe.proofs.padding.read_unpadded.Goals as goal

pub returns-in-Err-clause-only : goal.returns-in-Err-clause-only
returns-in-Err-clause-only c = λ t enc.
    let w = c.args.octets.now in
    let whole = whole_frame t w enc in
    c.in-Err.ensures.only (length w) t whole.0 (omega arith) whole.1

pub returns-then-length-octets-clause-found : goal.returns-then-length-octets-clause-found
returns-then-length-octets-clause-found c =
    subst (EncodesFrame _) (take_all c.in-Ok.read.1 c.args.octets.now (omega arith))
    c.in-Ok.ensures.found

pub returns-then-length-octets-clause-octets : goal.returns-then-length-octets-clause-octets
returns-then-length-octets-clause-octets c =
    unpadded_frame c.args.octets.now _ (subst (EncodesFrame _)
    (take_all c.in-Ok.read.1 c.args.octets.now (omega arith)) c.in-Ok.ensures.found)

pub returns-then-length-octets-clause-only : goal.returns-then-length-octets-clause-only
returns-then-length-octets-clause-only c = λ t enc.
    let w = c.args.octets.now in
    let whole = whole_frame t w enc in
    (c.in-Ok.ensures.only (length w) t whole.0 (omega arith) whole.1).1

pub returns-then-are_zero-clause-octets : goal.returns-then-are_zero-clause-octets
returns-then-are_zero-clause-octets c =
    inl (
      c.in-Ok.read.1,
      record {
        short = omega arith;
        frame = (
          c.in-Ok.ensures.within,
          record { transmission = _; encodes = c.in-Ok.ensures.found },
        );
        zeros = subst (All (λ (b : ℕ). b ≡ 0)) (take_rest c.args.octets.now c.in-Ok.read.1)
            (c.if-are_zero.ensures.0 refl);
      },
      refl,
    )

pub returns-clause-only : goal.returns-clause-only
returns-clause-only c = λ t enc.
    let w = c.args.octets.now in
    let whole = whole_frame t w enc in
    omega (arith, (c.in-Ok.ensures.only (length w) t whole.0 (omega arith) whole.1).0)
