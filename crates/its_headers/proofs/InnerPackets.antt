-- Reading an inner packet behind its Basic Header.
use Rattle.std.proofs.Common.{◌≡◌, ℕ, ◌<◌, ◌≤◌, ◌-◌, ◌+◌, List, [], ◌∷◌, ◌++◌, length, take}
use Rattle.std.proofs.Common.{Result, Ok}
use Rattle.std.proofs.Common.{Err, refl, sym, ap, subst, ◌∙◌, arith, zero, suc, length-take, drop}
use Rattle.std.specs.Prelude.{IfOk, IfErr, IsOkAnd}
use Rattle.its_faults.specs.declared.packet.Fault.{Fault}
use Rattle.its_faults.specs.declared.packet.FaultKind.TheVariants.{Truncated}
use Rattle.its_model.specs.Packet.{Pdu}
use Rattle.its_formats.specs.Bytes.{IsBytes}
use Rattle.its_headers.specs.Encoding.{Encodes}
use Rattle.its_formats.specs.Format.{ends, number, ◌>>=◌, end_of, Gives}
use Rattle.its_headers.specs.Format.{Format, walk}
use Rattle.its_headers.specs.Inner.{Basic, IsBasic, inner_octets, secured_header}
use Rattle.its_headers.specs.Seen.{Seen, basic_of}
use Rattle.its_headers.specs.Layout.{basic_format, basic_format_of, plain_format, packet_format}
use Rattle.its_headers.specs.Layout.{secured_format, any}
use Rattle.its_formats.proofs.Found.{again, found, bind_ok, ok_is, number_read, number_at-here}
use Rattle.its_headers.proofs.Packets.{spells_basic, basic_spelled}
use Rattle.its_formats.proofs.Walks.{walk_after}
use Rattle.its_headers.specs.Format.{packet_faults}

-- its octets are numbers below 256
pub inner_bytes : (b : Basic) (plain : List ℕ) → b.lifetime < 256 → b.left < 256 → IsBytes plain
    → IsBytes (inner_octets b plain)
inner_bytes b plain lifetime left fits zero = omega arith
inner_bytes b plain lifetime left fits (suc zero) = omega arith
inner_bytes b plain lifetime left fits (suc (suc zero)) = lifetime
inner_bytes b plain lifetime left fits (suc (suc (suc zero))) = left
inner_bytes b plain lifetime left fits (suc (suc (suc (suc i)))) = fits i

-- what a packet's format reads behind a Basic Header that is right
pub inner_walk : (b : Basic) (plain : List ℕ) → b.lifetime < 256 → 0 < b.left → b.left < 256
    → walk packet_format 0 (inner_octets b plain)
    ≡ walk (plain_format (b.lifetime, b.left)) 4 (inner_octets b plain)
inner_walk b plain fl some fleft =
    let w = inner_octets b plain in
    let x : ℕ × ℕ = (b.lifetime, b.left) in
    walk_after packet_faults basic_format plain_format 0 w
    ∙ ap (λ (r : Result ((ℕ × ℕ) × ℕ) Fault). r >>= λ y. walk (plain_format y.0) y.1 w)
    (again packet_faults basic_format x 0 w (17 ∷ 0 ∷ x.0 ∷ x.1 ∷ []) plain
    (spells_basic 1 x (omega arith) refl fl some fleft) refl (omega arith))

-- what the plain part's walk ends with, the inner packet's does
pub inner_end : (b : Basic) (plain : List ℕ) (left : ℕ) (r : Result ℕ Fault) → left ≡ b.left
    → (b.lifetime < 256) × (0 < b.left) × (b.left < 256)
    → ((lifetime : ℕ) → r ≡ end_of (walk (plain_format (lifetime, left)) 4 (inner_octets b plain)))
    → r ≡ end_of (walk packet_format 0 (inner_octets b plain))
inner_end b plain left r same range ended =
    let w = inner_octets b plain in
    ended b.lifetime
    ∙ ap (λ (n : ℕ). end_of (walk (plain_format (b.lifetime, n)) 4 w)) same
    ∙ ap end_of (sym (inner_walk b plain range.0 range.1 range.2))

-- a packet is longer than its Basic Header
pub inner_long : (p : Pdu) (left n : ℕ) (w : List ℕ) → Encodes p left (take n w) → 4 ≤ n
inner_long p left n w enc = omega (arith, ap length enc.octets, length-take n w)

-- the first octets of an inner packet are the Basic Header and those of the plain part
pub inner_take : (b : Basic) (plain : List ℕ) (n : ℕ) → 4 ≤ n
    → take n (inner_octets b plain) ≡ inner_octets b (take (n - 4) plain)
inner_take b plain zero le = absurd (omega arith)
inner_take b plain (suc zero) le = absurd (omega arith)
inner_take b plain (suc (suc zero)) le = absurd (omega arith)
inner_take b plain (suc (suc (suc zero))) le = absurd (omega arith)
inner_take b plain (suc (suc (suc (suc n)))) le =
    let same : n ≡ suc (suc (suc (suc n))) - 4 = omega arith in
    ap (λ (k : ℕ). inner_octets b (take k plain)) same

-- what follows the Basic Header is the plain part
pub plain_is : (s : Seen) (w : List ℕ) → Encodes s.pdu s.left w
    → Encodes s.pdu s.left (inner_octets (basic_of s) (drop 4 w))
plain_is s w enc =
    record {
      fields = enc.fields;
      octets = ap (λ (v : List ℕ). inner_octets (basic_of s) (drop 4 v)) enc.octets;
    }

-- ---- the Basic Header of a secured packet

-- what a secured packet's format reads of one
pub secured_walk : (b : Basic) (message : List ℕ) → IsBasic b → 0 < length message
    → walk secured_format 0 (secured_header b ++ message) ≡ Ok ((b.lifetime, b.left), 5)
secured_walk b message range some =
    let w = secured_header b ++ message in
    let x : ℕ × ℕ = (b.lifetime, b.left) in
    let fit : 4 + 1 ≤ length w = omega arith in
    let rest : ℕ × ℕ → Format (ℕ × ℕ) = λ y. number 1 Truncated any (λ _. ends y) in
    walk_after packet_faults (basic_format_of 2) rest 0 w
    ∙ ap (λ (r : Result ((ℕ × ℕ) × ℕ) Fault). r >>= λ y. walk (rest y.0) y.1 w)
    (again packet_faults (basic_format_of 2) x 0 w (18 ∷ 0 ∷ x.0 ∷ x.1 ∷ []) message
    (spells_basic 2 x (omega arith) refl range.lifetime range.some_left range.left) refl
    (omega arith))
    ∙ ap (λ (r : Result ℕ Fault). r >>= λ v. walk (ends x) 5 w) (number_at-here packet_faults 1 4 w fit)

-- where it reads one, the header stands there
pub secured_read : (w : List ℕ) (x : ℕ × ℕ) (n : ℕ) → IsBytes w
    → walk secured_format 0 w ≡ Ok (x, n)
    → (w ≡ secured_header (record { lifetime = x.0; left = x.1 }) ++ drop 4 w) × (5 ≤ length w)
    × IsBasic (record { lifetime = x.0; left = x.1 })
secured_read w x n fits e =
    let i = bind_ok (walk (basic_format_of 2) 0 w) _ (x, n)
    (sym (walk_after packet_faults (basic_format_of 2) _ 0 w) ∙ e) in
    let f = found packet_faults (basic_format_of 2) i.0.0 0 w i.0.1 fits i.1 in
    let b = basic_spelled 2 i.0.0 f.text f.spells in
    let j = number_read packet_faults 1 i.0.1 w _ (x, n) i.2 in
    let end : i.0.1 ≡ 4 = omega (arith, f.size, ap length b.octets) in
    let same : i.0.0 ≡ x = ap (λ (t : (ℕ × ℕ) × ℕ). t.0) (ok_is _ (x, n) j.1) in
    let parts : w ≡ f.text ++ drop 4 w =
    f.parts ∙ ap (λ (m : ℕ). f.text ++ drop m w) end in (
      parts
          ∙ ap (λ (t : List ℕ). t ++ drop 4 w) b.octets
          ∙ ap (λ (y : ℕ × ℕ). secured_header (record { lifetime = y.0; left = y.1 }) ++ drop 4 w)
          same,
      omega (arith, j.0, end),
      subst (λ (y : ℕ × ℕ). IsBasic (record { lifetime = y.0; left = y.1 })) same
          (record { lifetime = b.lifetime; some_left = b.some_left; left = b.left }),
    )

-- ---- what reading it answers, from what the walk gives

abbrev header_read : Basic → (ℕ × ℕ) × ℕ
header_read b = ((b.lifetime, b.left), 5)

pub secured_found : (r : Result Basic Fault) (w : List ℕ) → IsBytes w
    → Gives header_read r (walk secured_format 0 w)
    → IfOk r (λ b. w ≡ secured_header b ++ drop 4 w)
secured_found (Ok b) w fits h = (secured_read w (b.lifetime, b.left) 5 fits h).0
secured_found (Err f) w fits h = tt

pub secured_long : (r : Result Basic Fault) (w : List ℕ) → IsBytes w
    → Gives header_read r (walk secured_format 0 w) → IfOk r (λ _. 5 ≤ length w)
secured_long (Ok b) w fits h = (secured_read w (b.lifetime, b.left) 5 fits h).1
secured_long (Err f) w fits h = tt

pub secured_range : (r : Result Basic Fault) (w : List ℕ) → IsBytes w
    → Gives header_read r (walk secured_format 0 w) → IfOk r IsBasic
secured_range (Ok b) w fits h = (secured_read w (b.lifetime, b.left) 5 fits h).2
secured_range (Err f) w fits h = tt

abbrev no_header : Fault → Result ((ℕ × ℕ) × ℕ) Fault
no_header e = Err e

never_read : (e : Fault) (x : (ℕ × ℕ) × ℕ) → no_header e ≡ Ok x → ⊥
never_read e x h = cc

pub secured_only : (r : Result Basic Fault) (w : List ℕ)
    → Gives header_read r (walk secured_format 0 w) → (b : Basic) (message : List ℕ) → IsBasic b
    → 0 < length message → w ≡ secured_header b ++ message → IsOkAnd r (λ x. x ≡ b)
secured_only (Ok x) w h b message range some is =
    let both = ok_is (header_read x) (header_read b)
    (sym h ∙ ap (walk secured_format 0) is ∙ secured_walk b message range some) in
    ap (λ (t : (ℕ × ℕ) × ℕ). let y : Basic = record { lifetime = t.0.0; left = t.0.1 } in y) both
secured_only (Err f) w h b message range some is =
    absurd (never_read f (header_read b)
    (sym h ∙ ap (walk secured_format 0) is ∙ secured_walk b message range some))

pub secured_fault : (r : Result Basic Fault) (w : List ℕ)
    → Gives header_read r (walk secured_format 0 w) → IfErr r (λ f. walk secured_format 0 w ≡ Err f)
secured_fault (Ok b) w h = tt
secured_fault (Err f) w h = h
