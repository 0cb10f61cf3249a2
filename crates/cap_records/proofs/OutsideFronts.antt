-- Frames outside the profile, among octets.
use Rattle.std.proofs.Common.{◌≡◌, ◌∙◌, ◌+◌, ◌≤◌, ℕ, List, [], ◌∷◌, ◌++◌, length, take, drop, get_or}
use Rattle.std.proofs.Common.{ap, arith, length-drop, length-take-le, refl, subst, sym}
use Rattle.std.proofs.Common.{inl, inr, take-append-drop, take_all, true≢false, ◌-◌}
use Rattle.std.proofs.lemmas.List.{append_assoc, drop-append-le, drop-take, get_or-take}
use Rattle.byteorder.specs.Endian.{big_number}
use Rattle.its_linkframe.proofs.FrameLaws.{ether_type-is}
use Rattle.its_linkframe.specs.FrameFaults.{ether_type}
use Rattle.its_outside.proofs.Encodings.{one_encoding}
use Rattle.its_outside.specs.Encoding.{Standard, Encodes}
use Rattle.its_outside.specs.Outside.{BeginsInProfile, IsReason}
use Rattle.its_outside.specs.declared.outside.NotOutside.{NotOutside}
use Rattle.its_outside.specs.declared.outside.NotOutside.TheVariants as reasons
use Rattle.std.specs.Prelude.{Bool, false, IsErrOf, Ok}
use Rattle.cap_records.specs.FoundFrames.{IsPlacedOutside}
use Rattle.cap_records.specs.OutsideFrames.{IsOutsideAt, IsOutsideFrame, StandardFrame}

-- the type of octets
type_octets : (w : List ℕ) → 14 ≤ length w → ether_type w ≡ 137 ∷ 71 ∷ []
    → (get_or w 12 0 ≡ 137) × (get_or w 13 0 ≡ 71)
type_octets (a ∷ b ∷ c ∷ d ∷ e ∷ f ∷ g ∷ h ∷ i ∷ j ∷ k ∷ l ∷ m ∷ n ∷ w) le is =
    let both : (m ∷ n ∷ []) ≡ (137 ∷ 71 ∷ []) = is in (cc, cc)
type_octets _ le is = absurd (omega arith)

-- behind the headers: so many of the octets, and the others
pub behind_headers : (w : List ℕ) (n : ℕ) → 14 ≤ n → n ≤ length w
    → drop 14 w ≡ drop 14 (take n w) ++ drop n w
behind_headers w n long le =
    ap (drop 14) (sym (take-append-drop n w))
    ∙ drop-append-le 14 (take n w) (drop n w) (omega (arith, long, length-take-le n w le))

-- a packet of the profile in so many of the octets begins all of them
begins_longer : (w : List ℕ) (n : ℕ) → 14 ≤ n → n ≤ length w
    → BeginsInProfile (drop 14 (take n w)) → BeginsInProfile (drop 14 w)
begins_longer w n long le begins = record {
  pdu = begins.pdu;
  left = begins.left;
  encoded = begins.encoded;
  rest = begins.rest ++ drop n w;
  encodes = begins.encodes;
  is = behind_headers w n long le ∙ ap (λ (v : List ℕ). v ++ drop n w) begins.is
      ∙ append_assoc begins.encoded begins.rest (drop n w);
}

-- the frame that octets begin with, behind whose headers this packet is
pub outside_front : (w : List ℕ) (p : Standard) (k : ℕ) → 14 ≤ length w → get_or w 12 0 ≡ 137
    → get_or w 13 0 ≡ 71 → k ≤ length (drop 14 w) → Encodes p (take k (drop 14 w))
    → ¬ BeginsInProfile (drop 14 w) → (s : StandardFrame) × IsOutsideFrame (take (14 + k) w) s
outside_front w p k long high low le enc outside =
    let whole : 14 + k ≤ length w = omega (arith, le, long, length-drop 14 w) in
    let size = length-take-le (14 + k) w whole in
    let front : List ℕ = take (14 + k) w in
    let s : StandardFrame = record {
      link_target = big_number 6 (take 6 front);
      link_source = big_number 6 (take 6 (drop 6 front));
      packet = p;
    } in
    let is : IsOutsideFrame front s = record {
      header = (
        omega (arith, size),
        ether_type-is front (omega (arith, size))
            (get_or-take (14 + k) w 12 0 (omega arith) ∙ high)
            (get_or-take (14 + k) w 13 0 (omega arith) ∙ low),
      );
      target = refl;
      source = refl;
      packet = subst (Encodes p) (sym (drop-take 14 k w)) enc;
      outside = λ begins. outside (begins_longer w (14 + k) (omega arith) whole begins);
    } in (s, is)

-- what is known of octets that are a frame outside the profile
pub record Outside (w : List ℕ) (s : StandardFrame) (size : ℕ) : Type 0 where
  pub long : 14 ≤ size
  pub within : size ≤ length w
  pub high : get_or w 12 0 ≡ 137
  pub low : get_or w 13 0 ≡ 71
  pub packet : Encodes s.packet (drop 14 (take size w))
  pub behind : drop 14 w ≡ drop 14 (take size w) ++ drop size w

pub outside_parts : (padded : Bool) (w : List ℕ) (n : ℕ) (s : StandardFrame)
    → IsOutsideAt padded w n s → Outside w s n
outside_parts padded w n s i =
    let size = length-take-le n w i.within in
    let long : 14 ≤ n = omega (arith, size, i.frame.header.0) in
    let type = type_octets (take n w) i.frame.header.0 i.frame.header.1 in
    record {
      long = long;
      within = i.within;
      high = sym (get_or-take n w 12 0 (omega (arith, long))) ∙ type.0;
      low = sym (get_or-take n w 13 0 (omega (arith, long))) ∙ type.1;
      packet = i.frame.packet;
      behind = behind_headers w n long i.within;
    }

-- where a packet of this length was read, the frame ends with it
pub outside_ends : (w : List ℕ) (s : StandardFrame) (size k : ℕ) → Outside w s size
    → k ≡ length (drop 14 (take size w)) → 14 + k ≡ size
outside_ends w s size k o is =
    omega (
      arith,
      o.long,
      is,
      length-drop 14 (take size w),
      length-take-le size w o.within,
    )

-- octets are one frame at most
same_parts : (s r : StandardFrame) → s.link_target ≡ r.link_target → s.link_source ≡ r.link_source
    → s.packet ≡ r.packet → s ≡ r
same_parts s r target source packet =
    ap (λ (n : ℕ). (let f : StandardFrame = record {
      link_target = n;
      link_source = s.link_source;
      packet = s.packet;
    } in f)) target
    ∙ ap (λ (n : ℕ). (let f : StandardFrame = record {
      link_target = r.link_target;
      link_source = n;
      packet = s.packet;
    } in f)) source
    ∙ ap (λ (p : Standard). (let f : StandardFrame = record {
      link_target = r.link_target;
      link_source = r.link_source;
      packet = p;
    } in f)) packet

pub one_outside : (w : List ℕ) (s r : StandardFrame) → IsOutsideFrame w s → IsOutsideFrame w r
    → s ≡ r
one_outside w s r a b =
    let packet = one_encoding s.packet r.packet (drop 14 w) (drop 14 w) [] [] a.packet b.packet
    refl in
    same_parts s r (a.target ∙ sym b.target) (a.source ∙ sym b.source) packet.0

-- what reading answers that finds no such packet
pub reads_in_profile : (w : List ℕ) (e : NotOutside) → e ≡ reasons.InProfile → IsReason w e
    → BeginsInProfile w
reads_in_profile w e is reason = subst (IsReason w) is reason

-- a frame that has no octets behind it
pub whole_outside : (w : List ℕ) (n : ℕ) (s : StandardFrame) → IsOutsideAt false w n s
    → IsOutsideFrame w s
whole_outside w n s i =
    elim i.ends [
      | inl all ↦
          subst (λ (v : List ℕ). IsOutsideFrame v s) (take_all n w (omega (arith, all))) i.frame
      | inr filled ↦ absurd (true≢false (sym filled.0))
    ]

-- a frame at the beginning of the octets from a place on
pub placed_outside : (start : ℕ) (w : List ℕ) (n : ℕ) (s : StandardFrame) → start ≤ length w
    → n ≤ length (drop start w) → IsOutsideFrame (take n (drop start w)) s
    → IsPlacedOutside w s (record { start = start; end = start + n })
placed_outside start w n s within short is =
    let long : (start + n) - start ≡ n = omega arith in
    record {
      order = omega arith;
      inside = omega (arith, within, short, length-drop start w);
      frame = subst (λ (v : List ℕ). IsOutsideFrame v s)
          (ap (λ (k : ℕ). take k (drop start w)) (sym long)) is;
    }

pub ok_not_err : {A : Type 0} (x : A) (e : NotOutside) → IsErrOf (Ok x) e → ⊥
ok_not_err x e is = cc
