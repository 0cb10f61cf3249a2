use Rattle.std.proofs.Common.{◌≡◌, length, sym, subst, arith}
use Rattle.std.proofs.lemmas.List.{take_at}
use Rattle.its_linkframe.specs.Secured.{Secured, EncodesSecured, sealed}
use Rattle.its_linkframe.proofs.SecuredFrames.{secured_bounds}
use Rattle.its_station.proofs.received.VerifiedFrameReceivedFrame.redirect.Goals as goal

pub returns-clause-target : goal.returns-clause-target
returns-clause-target c = λ t enc.
    let size : length c.retarget_secured.new.frame ≡ c.args.octets.len =
    omega (arith, c.retarget_secured.auto.frame, c.as_mut_slice.ensures.len) in
    let s : Secured = sealed t c.args.self.now.message in
    let u : Secured = record s { link_target = c.args.to } in
    subst (EncodesSecured u) (sym (take_at c.retarget_secured.new.frame _ _ size))
    (c.retarget_secured.ensures s
    (subst (EncodesSecured s) (sym c.as_mut_slice.ensures.value) enc))

pub returns-clause-short : goal.returns-clause-short
returns-clause-short c =
    (secured_bounds _ _ (returns-clause-target c c.requires.transmission c.requires.encodes)).1
