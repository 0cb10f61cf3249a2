-- Copies of frames, by their octets and by what they say.
use Rattle.std.proofs.Common.{◌≡◌, ◌≢◌, ℕ, ◌<◌, ◌^◌, Bool, true, false, not, ◌&&◌, ◌==◌, List, []}
use Rattle.std.proofs.Common.{◌∷◌, ◌++◌, length, take, drop, Option, Some, None, refl, sym, ap, ap₂}
use Rattle.std.proofs.Common.{◌∙◌, arith}
use Rattle.std.specs.Cmp.Lexicographic.{bytes_decides}
use Rattle.std.proofs.lemmas.Bool.{eqb-true, eq-eqb, lt-ltb}
use Rattle.byteorder.specs.Endian.{big_bytes, big_number}
use Rattle.its_gnvalue.specs.Values.{broadcast}
use Rattle.its_model.specs.Packet.{Transmission}
use Rattle.its_headers.specs.Encoding.{common_header, extended_header}
use Rattle.byteorder.specs.Numbers.{big_number-reads_back}
use Rattle.its_linkframe.specs.Frames.{EncodesFrame, frame_octets, link_header}
use Rattle.its_linkframe.specs.Copies.{is_copy, same_octets, octets_from, Sendable}
use Rattle.its_linkframe.specs.Copies.{octets_by, octets_of, sent_like, is_sent_again}
use Rattle.its_linkframe.proofs.FrameLaws.{one_frame_lem}

-- two tests are one if each holds where the other does
same_test : (b c : Bool) → (b ≡ true → c ≡ true) → (c ≡ true → b ≡ true) → b ≡ c
same_test true true there back = refl
same_test false false there back = refl
same_test true false there back = sym (there refl)
same_test false true there back = back refl

-- no test is both
false_true : false ≡ true → ⊥
false_true h = cc

-- both tests hold
both : (b c : Bool) → (b && c) ≡ true → (b ≡ true) × (c ≡ true)
both true true h = (refl, refl)
both true false h = (refl, h)
both false c h = (h, absurd (false_true h))

-- a test that fails
fails : (b : Bool) → not b ≡ true → b ≡ false
fails false h = refl
fails true h = absurd (false_true h)

-- a frame by its parts: link target and sender, next header, lifetime, and what follows
laid : ℕ → ℕ → ℕ → ℕ → List ℕ → List ℕ
laid target source kind lifetime rest = link_header target source ++ kind ∷ 0 ∷ lifetime ∷ rest

-- an address is told by its octets
same_address : (a b : ℕ) → a < 2 ^ 48 → b < 2 ^ 48 → big_bytes 6 a ≡ big_bytes 6 b → a ≡ b
same_address a b fits fits' e =
    sym (big_number-reads_back 6 a [] fits) ∙ ap (big_number 6) e
    ∙ big_number-reads_back 6 b [] fits'

-- both of two tests hold
two : (b c : Bool) → b ≡ true → c ≡ true → (b && c) ≡ true
two b c h k = rw (h, k) refl

-- a test that cannot hold
fails_if : (b : Bool) → (b ≡ true → ⊥) → b ≡ false
fails_if false h = refl
fails_if true h = absurd (h refl)

-- what a copy is, by its parts
forward : (own ta sa ka la : ℕ) (ra : List ℕ) (tb sb kb lb : ℕ) (rb : List ℕ) → tb < 2 ^ 48
    → is_copy own (laid ta sa ka la ra) (laid tb sb kb lb rb) ≡ true
    → (tb ≡ broadcast) × (sb ≢ own) × (laid ta sa ka la ra ≡ laid tb sa kb la rb)
unfolding link_header laid
forward own ta sa ka la ra tb sb kb lb rb fits h =
    let all = both _ _ h in
    let some = both _ _ all.0 in
    let first = both _ _ some.0 in
    let same = both _ _ all.1 in
    let fronts = both _ _ same.0 in
    let targets : big_bytes 6 ta ≡ big_bytes 6 tb = (bytes_decides _ _).0 fronts.0 in
    let kinds : 137 ∷ 71 ∷ ka ∷ 0 ∷ [] ≡ 137 ∷ 71 ∷ kb ∷ 0 ∷ [] = (bytes_decides _ _).0 fronts.1 in
    let kind : ka ≡ kb = cc kinds in
    let rest : ra ≡ rb = (bytes_decides ra rb).0 same.1 in (
      same_address tb broadcast fits (omega arith) ((bytes_decides _ _).0 first.1),
      λ e. false_true (sym (fails _ some.1)
          ∙ (bytes_decides (big_bytes 6 sb) (big_bytes 6 own)).1 (ap (big_bytes 6) e)),
      ap₂ (λ (h r : List ℕ). h ++ r)
          (ap (λ (t : List ℕ). t ++ big_bytes 6 sa ++ 137 ∷ 71 ∷ []) targets)
          (ap₂ (λ (k : ℕ) (r : List ℕ). k ∷ 0 ∷ la ∷ r) kind rest),
    )

-- and what has these parts is one
backward : (own ta sa ka la : ℕ) (ra : List ℕ) (tb sb kb lb : ℕ) (rb : List ℕ) → own < 2 ^ 48
    → sb < 2 ^ 48 → tb ≡ broadcast → sb ≢ own → laid ta sa ka la ra ≡ laid tb sa kb la rb
    → is_copy own (laid ta sa ka la ra) (laid tb sb kb lb rb) ≡ true
unfolding link_header laid
backward own ta sa ka la ra tb sb kb lb rb fits fits' target source same =
    let sizes : length (laid ta sa ka la ra) ≡ length (laid tb sb kb lb rb) = ap length same in
    let long : 16 < length (laid tb sb kb lb rb) = omega arith in
    let differ : same_octets (big_bytes 6 sb) (big_bytes 6 own) ≡ false =
    fails_if _ (λ t. source (same_address sb own fits' fits ((bytes_decides _ _).0 t))) in
    two _ _
    (two _ _
    (two _ _ (two _ _ (eq-eqb _ _ sizes) (lt-ltb _ _ long))
    ((bytes_decides _ _).1 (ap (big_bytes 6) target)))
    (ap not differ))
    (two _ _
    (two _ _ ((bytes_decides _ _).1 (ap (take 6) same)) ((bytes_decides _ _).1 (ap (octets_from 12
    4) same)))
    ((bytes_decides _ _).1 (ap (drop 17) same)))

-- so the two tests are one
laid-copy : (own ta sa ka la : ℕ) (ra : List ℕ) (tb sb kb lb : ℕ) (rb : List ℕ) → own < 2 ^ 48
    → tb < 2 ^ 48 → sb < 2 ^ 48
    → is_copy own (laid ta sa ka la ra) (laid tb sb kb lb rb)
    ≡ (tb == broadcast && not (sb == own)
    && same_octets (laid ta sa ka la ra) (laid tb sa kb la rb))
laid-copy own ta sa ka la ra tb sb kb lb rb fits fits' fits'' =
    same_test _ _
    (λ h. let parts = forward own ta sa ka la ra tb sb kb lb rb fits' h in
    two _ _
    (two _ _ (eq-eqb _ _ parts.0) (ap not (fails_if _ (λ t. parts.1 (eqb-true _ _ t)))))
    ((bytes_decides _ _).1 parts.2))
    (λ h. let all = both _ _ h in
    let some = both _ _ all.0 in
    backward own ta sa ka la ra tb sb kb lb rb fits fits'' (eqb-true _ _ some.0)
    (λ e. false_true (sym (fails _ some.1) ∙ eq-eqb _ _ e)) ((bytes_decides _ _).0 all.1))

-- the next header, and what follows the lifetime
kind_of : Option (List ℕ) → ℕ
kind_of None = 17
kind_of (Some message) = 18

rest_of : Transmission → Option (List ℕ) → List ℕ
rest_of t None = t.hops_left ∷ (common_header t.pdu ++ extended_header t.pdu.vector t.pdu.body)
rest_of t (Some message) = t.hops_left ∷ message

-- the octets of a frame by their parts
as_laid : (t : Transmission) (message : Option (List ℕ)) → octets_by t message
    ≡ laid t.link_target t.link_source (kind_of message) t.pdu.lifetime (rest_of t message)
unfolding laid kind_of rest_of
as_laid t None = refl
as_laid t (Some message) = refl

-- and of one that is sent like another
as_laid-like : (a t : Transmission) (message : Option (List ℕ)) → octets_by (sent_like a t) message
    ≡ laid t.link_target a.link_source (kind_of message) a.pdu.lifetime (rest_of t message)
unfolding laid kind_of rest_of
as_laid-like a t None = refl
as_laid-like a t (Some message) = refl

pub is_copy-sent_again : (own : ℕ) (held heard : Sendable) → own < 2 ^ 48
    → heard.frame.link_target < 2 ^ 48 → heard.frame.link_source < 2 ^ 48
    → is_copy own (octets_of held) (octets_of heard) ≡ is_sent_again own held heard
is_copy-sent_again own held heard fits target source =
    rw (
      as_laid held.frame held.message,
      as_laid heard.frame heard.message,
      as_laid-like held.frame heard.frame heard.message,
    )
    (laid-copy own held.frame.link_target held.frame.link_source (kind_of held.message)
    held.frame.pdu.lifetime (rest_of held.frame held.message) heard.frame.link_target
    heard.frame.link_source (kind_of heard.message) heard.frame.pdu.lifetime
    (rest_of heard.frame heard.message) fits target source)

-- a copy of a frame says what the frame says, but for link sender and lifetime
pub is_copy-same : (own : ℕ) (t u : Transmission) (w v : List ℕ) → EncodesFrame t w
    → EncodesFrame u v → is_copy own w v ≡ true
    → (u.link_target ≡ broadcast) × (u.link_source ≢ own) × (t ≡ sent_like t u)
unfolding kind_of
is_copy-same own t u w v a b h =
    let at_octets : is_copy own (frame_octets t) (frame_octets u) ≡ true =
    ap₂ (is_copy own) (sym a.octets) (sym b.octets) ∙ h in
    let at_parts =
    ap₂ (is_copy own) (sym (as_laid t None)) (sym (as_laid u None)) ∙ at_octets in
    let parts = forward own t.link_target t.link_source 17 t.pdu.lifetime (rest_of t None)
    u.link_target u.link_source 17 u.pdu.lifetime (rest_of u None) b.fields.target at_parts in
    let octets : frame_octets t ≡ frame_octets (sent_like t u) =
    as_laid t None ∙ parts.2 ∙ sym (as_laid-like t u None) in
    let packet = b.fields.packet in (
      parts.0,
      parts.1,
      one_frame_lem t (sent_like t u) w a (record {
        fields = record {
          target = b.fields.target;
          source = a.fields.source;
          packet = record {
            lifetime = a.fields.packet.lifetime;
            class = packet.class;
            some_left = packet.some_left;
            left_below = packet.left_below;
            max_hops = packet.max_hops;
            vector = packet.vector;
            body = packet.body;
          };
        };
        octets = a.octets ∙ octets;
      }),
    )
