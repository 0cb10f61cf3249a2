-- Where a frame is among the octets of a buffer.
use Rattle.std.proofs.Common.{◌≡◌, ◌≤◌, ◌+◌, ◌-◌, ◌∙◌, ℕ, List, length, take, drop, sym, ap, subst, arith}
use Rattle.std.proofs.Common.{length-take, inl, inr}
use Rattle.std.proofs.lemmas.List.{length-drop}
use Rattle.std.proofs.Math.Seq.{take-length}
use Rattle.cap_linklayers.specs.declared.link.LinkLayer.{LinkLayer}
use Rattle.cap_linklayers.specs.declared.link.LinkLayer.TheVariants as layers
use Rattle.its_linkframe.specs.Frames.{EncodesFrame}
use Rattle.its_linkframe.specs.Padding.{IsUnpadded}
use Rattle.its_model.specs.Packet.{Transmission}
use Rattle.cap_records.specs.FoundFrames.{IsPlaced}
use Rattle.cap_records.specs.RecordFrames.{IsReadAs}

-- what stands at the beginning of octets
Begins : List ℕ → List ℕ → Type 0
Begins w text = (length text ≤ length w) × (text ≡ take (length text) w)

begins_all : (w text : List ℕ) → text ≡ w → Begins w text
unfolding Begins
begins_all w text is = (
  omega (arith, ap length is),
  is ∙ sym (take-length w) ∙ ap (λ (n : ℕ). take n w) (sym (ap length is)),
)

begins_some : (w text : List ℕ) (n : ℕ) → n ≤ length w → text ≡ take n w → Begins w text
unfolding Begins
begins_some w text n within is =
    let long : length text ≡ n = omega (arith, ap length is, length-take n w, within) in (
      omega (arith, long, within),
      is ∙ ap (λ (k : ℕ). take k w) (sym long),
    )

begins_unpadded : (w text : List ℕ) → IsUnpadded w text → Begins w text
begins_unpadded w text is =
    elim is [
      | inl padded ↦ begins_some w text padded.0 padded.1.frame.0 padded.2
      | inr none ↦ begins_all w text none.1
    ]

-- what is read of what a link layer carries is its beginning
pub text_begins : (layer : LinkLayer) (w text : List ℕ) → IsReadAs layer w text
    → (length text ≤ length w) × (text ≡ take (length text) w)
unfolding Begins
text_begins layers.Bare w text is = begins_all w text is
text_begins layers.Ethernet w text is = begins_unpadded w text is
text_begins layers.Ieee80211 w text is = begins_all w text is
text_begins layers.Radiotap w text is = begins_all w text is
text_begins layers.Sll w text is = begins_unpadded w text is
text_begins layers.Sll2 w text is = begins_unpadded w text is

-- a frame at the beginning of the octets from a place on
pub placed : (start : ℕ) (w text : List ℕ) (t : Transmission) → start ≤ length w
    → length text ≤ length (drop start w) → text ≡ take (length text) (drop start w)
    → EncodesFrame t text
    → IsPlaced w t (record { start = start; end = start + length text })
placed start w text t within short is encodes =
    let long : (start + length text) - start ≡ length text = omega arith in
    record {
      order = omega arith;
      inside = omega (arith, within, short, length-drop start w);
      encodes = subst (EncodesFrame t)
          (is ∙ ap (λ (n : ℕ). take n (drop start w)) (sym long)) encodes;
    }

-- a frame that all octets are
pub placed_all : (w : List ℕ) (t : Transmission) → EncodesFrame t w
    → IsPlaced w t (record { start = 0; end = length w })
placed_all w t encodes =
    let all : length w - 0 ≡ length w = omega arith in
    record {
      order = omega arith;
      inside = omega arith;
      encodes = subst (EncodesFrame t) (sym (ap (λ (n : ℕ). take n w) all ∙ take-length w)) encodes;
    }
