-- Where the parts of frames lie, and how long secured frames are.
use Rattle.std.proofs.Common.{◌≡◌, ◌≤◌, ◌+◌, ◌-◌, ◌++◌, ◌∷◌, [], ℕ, List, length, drop, ap, sym}
use Rattle.std.proofs.Common.{subst}
use Rattle.std.proofs.Common.{arith, ◌∙◌, Option, Some}
use Rattle.std.specs.Prelude.{MatchOption, Vec}
use Rattle.std.specs.declared.alloc.Global.{Global}
use Rattle.std.proofs.Math.Seq.{drop-append_seam}
use Rattle.std.proofs.lemmas.List.{append_assoc, length-append}
use Rattle.its_model.specs.Packet.{Transmission}
use Rattle.its_headers.specs.Encoding.{Encodes}
use Rattle.its_headers.specs.Inner.{inner_octets}
use Rattle.its_linkframe.specs.Frames.{EncodesFrame, link_header}
use Rattle.its_linkframe.specs.Secured.{EncodesSecured, Secured, basic_on_air}
use Rattle.its_linkframe.proofs.SecuredFrames.{secured_bounds}

-- the end of some octets, and where it begins
end_of : (w front end : List ℕ) → w ≡ front ++ end
    → (drop (length w - length end) w ≡ end)
    × (length w - length end + length end ≡ length w)
end_of w front end is =
    let count : length w ≡ length front + length end =
    ap length is ∙ length-append front end in
    let start : length w - length end ≡ length front = omega (arith, count) in (
      ap (λ (n : ℕ). drop n w) start ∙ ap (λ (l : List ℕ). drop (length front) l) is
          ∙ drop-append_seam front end,
      omega (arith, count),
    )

-- the plain part of a frame is its end
pub plain_shown : (t : Transmission) (w plain : List ℕ) → EncodesFrame t w
    → Encodes t.pdu t.hops_left (inner_octets (basic_on_air t) plain)
    → (x : Transmission) × EncodesFrame x w
    × Encodes x.pdu x.hops_left
    (inner_octets (basic_on_air x) (drop (length w - length plain) w))
    × (length w - length plain + length plain ≡ length w)
plain_shown t w plain frame part =
    let link = link_header t.link_target t.link_source in
    let basic : List ℕ = 17 ∷ 0 ∷ t.pdu.lifetime ∷ t.hops_left ∷ [] in
    let is : w ≡ (link ++ basic) ++ plain =
    frame.octets ∙ ap (λ (l : List ℕ). link ++ l) (sym part.octets)
    ∙ sym (append_assoc link basic plain) in
    let found = end_of w (link ++ basic) plain is in (
      t,
      frame,
      subst (λ (l : List ℕ). Encodes t.pdu t.hops_left (inner_octets (basic_on_air t) l))
          (sym found.0) part,
      found.1,
    )

-- what is said of a frame that there is
pub some_sealed : (found : Option (Vec ℕ Global)) (w : Vec ℕ Global) (none : Type 0)
    (P : Vec ℕ Global → Type 0) → found ≡ Some w → MatchOption found none P → P w
some_sealed found w none P is holds =
    subst (λ (o : Option (Vec ℕ Global)). MatchOption o none P) is holds

-- a secured frame fits
pub sealed_fits : (s : Secured) (w octets : List ℕ) (room : ℕ) → octets ≡ w → EncodesSecured s w
    → 2310 ≤ room → length octets ≤ room
sealed_fits s w octets room is enc long =
    omega (arith, ap length is, (secured_bounds s w enc).1, long)
