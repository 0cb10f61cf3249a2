use Rattle.std.proofs.Common.{Some, List, ℕ, ap, sym, subst, ◌∙◌, length}
use Rattle.std.specs.Prelude.{Vec}
use Rattle.std.specs.declared.alloc.Global.{Global}
use Rattle.its_linkframe.specs.Frames.{transmission_of}
use Rattle.its_linkframe.specs.Secured.{EncodesSecured, sealed}
use Rattle.its_c.specs.Told.{Holds}
use Rattle.its_c.proofs.Sealed.{sealed_fits, some_sealed}
use Rattle.its_c.proofs.sealing.geostation_seal.Goals as goal

pub hand_out-requires : goal.hand_out-requires
hand_out-requires c =
    let secured = sealed (transmission_of c.in-Ok.view) c.args.message.now in
    sealed_fits secured c.in-Ok-Some.sealed.items c.as_slice.result.now (length c.args.out.now)
    c.as_slice.ensures.value
    (some_sealed c.in-Ok-Some.field-0 c.in-Ok-Some.sealed _
    (λ (w : Vec ℕ Global). EncodesSecured secured w.items)
    (c.in-Ok-Some.field-0-is ∙ ap Some (sym c.in-Ok-Some.sealed-is)) c.in-Ok-Some.ensures.frame)
    c.if-out-lt-LONGEST_SECURED_FRAME.false

pub returns-in-Ok-Some-clause-sealed : goal.returns-in-Ok-Some-clause-sealed
returns-in-Ok-Some-clause-sealed c = λ _.
    let secured = sealed (transmission_of c.in-Ok.view) c.args.message.now in (
      transmission_of c.in-Ok.view,
      c.in-Ok.ensures.found,
      c.in-Ok-Some.sealed.items,
      some_sealed c.in-Ok-Some.field-0 c.in-Ok-Some.sealed _
          (λ (w : Vec ℕ Global). EncodesSecured secured w.items)
          (c.in-Ok-Some.field-0-is ∙ ap Some (sym c.in-Ok-Some.sealed-is))
          c.in-Ok-Some.ensures.frame,
      subst (λ (l : List ℕ). Holds c.hand_out.result c.hand_out.new.room l)
          c.as_slice.ensures.value c.hand_out.ensures.written,
    )
