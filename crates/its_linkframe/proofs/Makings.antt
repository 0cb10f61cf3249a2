-- Frames that are written.
use Rattle.std.proofs.Common.{◌≡◌, ℕ, ◌-◌, ◌^◌, ◌<◌, ◌≤◌, List, [], ◌∷◌, ◌++◌, length, take, drop}
use Rattle.std.proofs.Common.{ap, subst, ◌∙◌, arith, append-nil, length-take, length-drop}
use Rattle.std.proofs.Math.ListN.{set}
use Rattle.std.proofs.lemmas.List.{take_all, nil_from_length}
use Rattle.byteorder.specs.Endian.{big_bytes}
use borrow.Rule.Slice.PartMut.{put_mid}
use Rattle.its_model.specs.Packet.{Pdu, Transmission}
use Rattle.its_headers.specs.Encoding.{Encodes, encoding}
use Rattle.its_headers.specs.Seen.{Seen}
use Rattle.its_headers.specs.Written.{WritesEncoding}
use Rattle.its_linkframe.specs.Frames.{link_header, EncodesFrame, sent_from_to}

-- addresses and type, put into just the room that they need
pub link_header-made : (to from : ℕ) (a b : List ℕ) → a ≡ big_bytes 6 to → b ≡ big_bytes 6 from
    → set (set (put_mid 6 6 (a ++ 0 ∷ 0 ∷ 0 ∷ 0 ∷ 0 ∷ 0 ∷ 0 ∷ 0 ∷ []) b) 12 137) 13 71
    ≡ link_header to from
unfolding link_header
link_header-made to from a b ea eb =
    ap (λ (t : List ℕ).
    set (set (put_mid 6 6 (t ++ 0 ∷ 0 ∷ 0 ∷ 0 ∷ 0 ∷ 0 ∷ 0 ∷ 0 ∷ []) b) 12 137) 13 71) ea
    ∙ ap (λ (t : List ℕ).
    set (set (put_mid 6 6 (big_bytes 6 to ++ 0 ∷ 0 ∷ 0 ∷ 0 ∷ 0 ∷ 0 ∷ 0 ∷ 0 ∷ []) t) 12 137) 13 71)
    eb

-- an encoding that fills the slice that it was written into
Encodes-filled : (p : Pdu) (left n : ℕ) (old new : List ℕ) → WritesEncoding p left old new n
    → length new ≡ length (encoding p left) → Encodes p left new
Encodes-filled p left n old new put size =
    let text = ap length put.encodes.octets in
    let all : length new ≤ n = omega (arith, text, length-take n new) in
    subst (Encodes p left) (take_all n new all) put.encodes

-- the octets of a packet behind addresses and type, with one hop fewer
pub EncodesFrame-relayed : (s : Seen) (to from left : ℕ) (v w : List ℕ)
    → v ≡ link_header to from ++ w → to < 2 ^ 48 → from < 2 ^ 48 → 2 ≤ s.left → left ≡ s.left
    → Encodes s.pdu s.left w
    → EncodesFrame (sent_from_to from to (record s { left = s.left - 1 })) (set v 17 (left - 1))
unfolding link_header
EncodesFrame-relayed s to from left v w is fits_target fits_source more same enc =
    let f = enc.fields in
    record {
      fields = record {
        target = fits_target;
        source = fits_source;
        packet = record {
          lifetime = f.lifetime;
          class = f.class;
          some_left = omega arith;
          left_below = omega (arith, f.left_below);
          max_hops = f.max_hops;
          vector = f.vector;
          body = f.body;
        };
      };
      octets = ap (λ (t : List ℕ). set t 17 (left - 1)) is
          ∙ ap (λ (t : List ℕ). set (link_header to from ++ t) 17 (left - 1)) enc.octets
          ∙ ap (λ (n : ℕ). link_header to from ++ encoding s.pdu (n - 1)) same;
    }

-- a packet put behind addresses and type, in just the room that it needs
pub EncodesFrame-put : (t : Transmission) (f v old new : List ℕ) (n : ℕ)
    → f ≡ link_header t.link_target t.link_source ++ v → t.link_target < 2 ^ 48
    → t.link_source < 2 ^ 48
    → WritesEncoding t.pdu t.hops_left old new n → length new ≡ length (encoding t.pdu t.hops_left)
    → length v ≡ length new
    → EncodesFrame t (put_mid 14 (length f - 14) f new)
unfolding link_header
EncodesFrame-put t f v old new n is fits_target fits_source put size room =
    let enc = Encodes-filled t.pdu t.hops_left n old new put size in
    let rest : drop (length f - 14) (drop 14 f) ≡ [] =
    nil_from_length _ (omega (arith, length-drop (length f - 14) (drop 14 f), length-drop 14 f)) in
    record {
      fields = record { target = fits_target; source = fits_source; packet = enc.fields };
      octets = ap (λ (r : List ℕ). take 14 f ++ (new ++ r)) rest
          ∙ ap (λ (r : List ℕ). take 14 f ++ r) (append-nil new)
          ∙ ap (λ (r : List ℕ). take 14 r ++ new) is
          ∙ ap (λ (r : List ℕ). link_header t.link_target t.link_source ++ r) enc.octets;
    }

-- another target
pub EncodesFrame-retarget : (t : Transmission) (to : ℕ) (a w : List ℕ) → a ≡ big_bytes 6 to
    → to < 2 ^ 48 → EncodesFrame t w → EncodesFrame (record t { link_target = to }) (a ++ drop 6 w)
unfolding link_header
EncodesFrame-retarget t to a w is fits enc = record {
  fields = record { target = fits; source = enc.fields.source; packet = enc.fields.packet };
  octets = ap (λ (r : List ℕ). a ++ drop 6 r) enc.octets
      ∙ ap (λ (r : List ℕ). r
      ++ (big_bytes 6 t.link_source ++ 137 ∷ 71 ∷ encoding t.pdu t.hops_left)) is;
}
