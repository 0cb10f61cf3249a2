-- A capture that grows by a record.
use Rattle.std.proofs.Common.{◌≡◌, ℕ, List, [], ◌∷◌, ◌++◌, Option, None, Some, sym, ap, ◌∙◌, arith}
use Rattle.std.proofs.Common.{append_assoc, length-append, append-nil}
use Rattle.std.proofs.lemmas.List.Elements.{All-push}
use Rattle.std.specs.Io.KnownBytes.{Appends}
use Rattle.its_linkframe.specs.Captures.{Captured, IsCaptured, record_octets, capture_octets}
use Rattle.its_linkframe.specs.Captures.{EncodesCapture}
use Rattle.its_linkframe.specs.Devices.{AppendsPrefix}
use Rattle.its_linkframe.specs.Writing.{HoldsCapture, HoldsPrefix}

capture_octets-push : (rs : List Captured) (r : Captured)
    → capture_octets (rs ++ r ∷ []) ≡ capture_octets rs ++ record_octets r
capture_octets-push [] r = append-nil (record_octets r)
capture_octets-push (s ∷ rs) r =
    ap (λ (t : List ℕ). record_octets s ++ t) (capture_octets-push rs r)
    ∙ sym (append_assoc (record_octets s) (capture_octets rs) (record_octets r))

-- behind the octets of a capture those of a record
EncodesCapture-push : (rs : List Captured) (r : Captured) (w : List ℕ) → EncodesCapture rs w
    → IsCaptured r → EncodesCapture (rs ++ r ∷ []) (w ++ record_octets r)
EncodesCapture-push rs r w enc is = record {
  fields = All-push IsCaptured rs r enc.fields is;
  octets = ap (λ (t : List ℕ). t ++ record_octets r) enc.octets ∙ sym (capture_octets-push rs r);
}

pub HoldsCapture-push : (before : List ℕ) (rs : List Captured) (r : Captured)
    (old new : Option (List ℕ)) → IsCaptured r → Appends old new (record_octets r)
    → HoldsCapture before rs old → HoldsCapture before (rs ++ r ∷ []) new
HoldsCapture-push before rs r None new is put holds = absurd holds
HoldsCapture-push before rs r (Some x) None is put holds = absurd put
HoldsCapture-push before rs r (Some x) (Some y) is put holds = (
  holds.0 ++ record_octets r,
  put ∙ ap (λ (t : List ℕ). t ++ record_octets r) holds.1
      ∙ append_assoc before holds.0 (record_octets r),
  EncodesCapture-push rs r holds.0 holds.2 is,
)

pub HoldsPrefix-push : (before : List ℕ) (rs : List Captured) (r : Captured)
    (old new : Option (List ℕ)) → IsCaptured r → AppendsPrefix old new (record_octets r)
    → HoldsCapture before rs old → HoldsPrefix before (rs ++ r ∷ []) new
HoldsPrefix-push before rs r None new is put holds = absurd holds
HoldsPrefix-push before rs r (Some x) None is put holds = absurd put.appends
HoldsPrefix-push before rs r (Some x) (Some y) is put holds =
    let whole = EncodesCapture-push rs r holds.0 holds.2 is in (
      holds.0 ++ put.taken,
      put.rest,
      put.appends ∙ ap (λ (t : List ℕ). t ++ put.taken) holds.1
          ∙ append_assoc before holds.0 put.taken,
      record {
        fields = whole.fields;
        octets = append_assoc holds.0 put.taken put.rest
            ∙ ap (λ (t : List ℕ). holds.0 ++ t) (sym put.parts) ∙ whole.octets;
      },
    )

-- a prefix of a text is a prefix of a longer one
pub AppendsPrefix-longer : (old new : Option (List ℕ)) (a b : List ℕ) → AppendsPrefix old new a
    → AppendsPrefix old new (a ++ b)
AppendsPrefix-longer old new a b p = record {
  taken = p.taken;
  rest = p.rest ++ b;
  parts = ap (λ (t : List ℕ). t ++ b) p.parts ∙ append_assoc p.taken p.rest b;
  missing = omega (arith, p.missing, length-append p.rest b);
  appends = p.appends;
}
