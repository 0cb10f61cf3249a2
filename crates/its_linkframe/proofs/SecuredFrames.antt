-- The octets of a secured frame, part by part.
use Rattle.std.proofs.Common.{◌≡◌, ℕ, ◌^◌, ◌<◌, ◌≤◌, List, [], ◌∷◌, ◌++◌, length, drop, get_or}
use Rattle.std.proofs.Common.{sym, ap, subst, ◌∙◌, arith, length-drop}
use Rattle.byteorder.specs.Endian.{big_bytes, big_number}
use Rattle.byteorder.specs.Numbers.{big_number-reads_back}
use Rattle.its_headers.specs.Encoding.{IsBytes}
use Rattle.its_headers.specs.Inner.{Basic, IsBasic, secured_header}
use Rattle.its_headers.specs.Seen.{Seen}
use Rattle.its_linkframe.specs.Frames.{link_header}
use Rattle.its_linkframe.specs.Secured.{Secured, secured_octets, EncodesSecured, Verified, sealed}
use Rattle.its_linkframe.specs.Secured.{seen_on_air, verified_from_to}
use Rattle.its_linkframe.proofs.Fronts.{first_six, next_six, in_parts, IsMac-first_six}
use Rattle.its_linkframe.proofs.Fronts.{IsMac-next_six}

-- octets that begin with addresses, type and Basic Header, and go on with a message
pub EncodesSecured-parts : (w : List ℕ) (b : Basic) (m : List ℕ) (to from : ℕ) → 19 ≤ length w
    → length w ≤ 2310 → IsBytes w → get_or w 12 0 ≡ 137 → get_or w 13 0 ≡ 71
    → drop 14 w ≡ secured_header b ++ m → m ≡ drop 18 w → IsBasic b
    → to ≡ big_number 6 (first_six w) → big_bytes 6 to ≡ first_six w
    → from ≡ big_number 6 (next_six w) → big_bytes 6 from ≡ next_six w
    → EncodesSecured
    (record { link_target = to; link_source = from; basic = b; message = m }) w
unfolding link_header
EncodesSecured-parts w b m to from some short fits e12 e13 text is range is_to to_octets is_from
    from_octets =
    let le : 14 ≤ length w = omega arith in
    let size = ap length is in
    record {
      fields = record {
        target = subst (λ (n : ℕ). n < 2 ^ 48) (sym is_to) (IsMac-first_six w le fits);
        source = subst (λ (n : ℕ). n < 2 ^ 48) (sym is_from) (IsMac-next_six w le fits);
        lifetime = range.lifetime;
        some_left = range.some_left;
        left = range.left;
        some = omega (arith, size, length-drop 18 w);
        short = omega (arith, size, length-drop 18 w);
      };
      octets = in_parts w le
          ∙ ap (λ (t : List ℕ). t ++ next_six w ++ get_or w 12 0 ∷ get_or w 13 0 ∷ drop 14 w)
          (sym to_octets)
          ∙ ap (λ (t : List ℕ). big_bytes 6 to ++ t ++ get_or w 12 0 ∷ get_or w 13 0 ∷ drop 14 w)
          (sym from_octets)
          ∙ ap (λ (n : ℕ). big_bytes 6 to ++ big_bytes 6 from ++ n ∷ get_or w 13 0 ∷ drop 14 w) e12
          ∙ ap (λ (n : ℕ). big_bytes 6 to ++ big_bytes 6 from ++ 137 ∷ n ∷ drop 14 w) e13
          ∙ ap (λ (t : List ℕ). big_bytes 6 to ++ big_bytes 6 from ++ 137 ∷ 71 ∷ t) text;
    }

-- ---- what a secured frame has

pub secured_bounds : (s : Secured) (w : List ℕ) → EncodesSecured s w
    → (19 ≤ length w) × (length w ≤ 2310)
unfolding link_header
secured_bounds s w enc =
    let size : length w ≡ length (secured_octets s) = ap length enc.octets in
    (omega (arith, size, enc.fields.some), omega (arith, size, enc.fields.short))

pub ether_of_secured : (s : Secured) (w : List ℕ) → EncodesSecured s w
    → (get_or w 12 0 ≡ 137) × (get_or w 13 0 ≡ 71)
unfolding link_header
ether_of_secured s w enc =
    (ap (λ (v : List ℕ). get_or v 12 0) enc.octets, ap (λ (v : List ℕ). get_or v 13 0) enc.octets)

pub packet_of_secured : (s : Secured) (w : List ℕ) → EncodesSecured s w
    → drop 14 w ≡ secured_header s.basic ++ s.message
unfolding link_header
packet_of_secured s w enc = ap (drop 14) enc.octets

pub message_of_secured : (s : Secured) (w : List ℕ) → EncodesSecured s w → drop 18 w ≡ s.message
unfolding link_header
message_of_secured s w enc = ap (drop 18) enc.octets

pub target_of_secured : (s : Secured) (w : List ℕ) → EncodesSecured s w
    → big_number 6 (first_six w) ≡ s.link_target
unfolding link_header
target_of_secured s w enc =
    ap (λ (v : List ℕ). big_number 6 (first_six v)) enc.octets
    ∙ big_number-reads_back 6 s.link_target [] enc.fields.target

pub source_of_secured : (s : Secured) (w : List ℕ) → EncodesSecured s w
    → big_number 6 (next_six w) ≡ s.link_source
unfolding link_header
source_of_secured s w enc =
    ap (λ (v : List ℕ). big_number 6 (next_six v)) enc.octets
    ∙ big_number-reads_back 6 s.link_source [] enc.fields.source

pub basic_of_secured : (s : Secured) (w : List ℕ) → EncodesSecured s w → IsBasic s.basic
basic_of_secured s w enc =
    record {
      lifetime = enc.fields.lifetime;
      some_left = enc.fields.some_left;
      left = enc.fields.left;
    }

pub same_secured : (s : Secured) (to from : ℕ) (b : Basic) (m : List ℕ) → to ≡ s.link_target
    → from ≡ s.link_source → b ≡ s.basic → m ≡ s.message
    → (let made : Secured = record {
      link_target = to;
      link_source = from;
      basic = b;
      message = m;
    } in made) ≡ s
same_secured s to from b m e1 e2 e3 e4 =
    λ i. record { link_target = e1 i; link_source = e2 i; basic = e3 i; message = e4 i }

-- another target
pub EncodesSecured-retarget : (s : Secured) (to : ℕ) (a w : List ℕ) → a ≡ big_bytes 6 to
    → to < 2 ^ 48 → EncodesSecured s w
    → EncodesSecured (record s { link_target = to }) (a ++ drop 6 w)
unfolding link_header
EncodesSecured-retarget s to a w is fits enc = record {
  fields = record {
    target = fits;
    source = enc.fields.source;
    lifetime = enc.fields.lifetime;
    some_left = enc.fields.some_left;
    left = enc.fields.left;
    some = enc.fields.some;
    short = enc.fields.short;
  };
  octets = ap (λ (r : List ℕ). a ++ drop 6 r) enc.octets
      ∙ ap (λ (r : List ℕ). r
      ++ (big_bytes 6 s.link_source ++ 137 ∷ 71 ∷ (secured_header s.basic ++ s.message))) is;
}

-- ---- with a plain part

pub same_verified : (s : Secured) (p : Seen) (v : Verified) → s ≡ sealed v.frame v.message
    → p ≡ seen_on_air v.frame → verified_from_to s.link_source s.link_target p s.message ≡ v
same_verified s p v same packet =
    ap (λ (t : Secured). verified_from_to t.link_source t.link_target p t.message) same
    ∙ ap (λ (q : Seen). verified_from_to v.frame.link_source v.frame.link_target q v.message) packet
