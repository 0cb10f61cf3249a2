-- One text put after another is both.
use Rattle.std.proofs.Common.{◌≡◌, ℕ, ◌+◌, ◌≤◌, List, ◌++◌, length, take, drop, refl, sym, ap}
use Rattle.std.proofs.Common.{subst, ◌∙◌, arith, append_assoc, length-append, length-take}
use Rattle.std.proofs.lemmas.List.{take_at, drop_at, drop-drop}
use Rattle.std.specs.Int.{w32, cast_unsigned}
use Rattle.byteorder.specs.Endian.{big_bytes}
use Rattle.its_gnvalue.specs.Values.{PositionVector}
use Rattle.its_geometry.specs.Area.{GeoArea}
use Rattle.its_headers.specs.Encoding.{vector_octets, area_octets, motion}
use Rattle.its_headers.specs.Puts.{Puts}

pub Puts-then : (old mid new : List ℕ) (at next : ℕ) (a b : List ℕ) → Puts old mid at a
    → Puts mid new next b → next ≡ at + length a → at + length a + length b ≤ length old
    → Puts old new at (a ++ b)
Puts-then old mid new at next a b p q e room =
    let size : length (take at old) ≡ at = omega (arith, length-take at old) in
    let front : length (take at old ++ a) ≡ at + length a =
    omega (arith, length-append (take at old) a, size) in
    let mid_is : mid ≡ (take at old ++ a) ++ drop (at + length a) old =
    p.is ∙ sym (append_assoc (take at old) a (drop (at + length a) old)) in
    let before : take next mid ≡ take at old ++ a =
    ap (take next) mid_is
    ∙ take_at (take at old ++ a) (drop (at + length a) old) next (front ∙ sym e) in
    let moved : drop (at + length a) mid ≡ drop (at + length a) old =
    ap (drop (at + length a)) mid_is
    ∙ drop_at (take at old ++ a) (drop (at + length a) old) (at + length a) front in
    let sum : next + length b ≡ (at + length a) + length b = ap (λ (t : ℕ). t + length b) e in
    let total : (at + length a) + length b ≡ at + length (a ++ b) =
    omega (arith, length-append a b) in
    let after : drop (next + length b) mid ≡ drop (at + length (a ++ b)) old =
    ap (λ (t : ℕ). drop t mid) sum ∙ sym (drop-drop (length b) (at + length a) mid)
    ∙ ap (drop (length b)) moved ∙ drop-drop (length b) (at + length a) old
    ∙ ap (λ (t : ℕ). drop t old) total in
    let whole : new ≡ (take at old ++ a) ++ (b ++ drop (at + length (a ++ b)) old) =
    q.is ∙ ap (λ (t : List ℕ). t ++ (b ++ drop (next + length b) mid)) before
    ∙ ap (λ (t : List ℕ). (take at old ++ a) ++ (b ++ t)) after in
    record {
      inside = omega (arith, room, length-append a b);
      is = whole ∙ append_assoc (take at old) a (b ++ drop (at + length (a ++ b)) old)
          ∙ ap (λ (t : List ℕ). take at old ++ t)
          (sym (append_assoc a b (drop (at + length (a ++ b)) old)));
    }

pub vector_put : (old m1 m2 m3 m4 m5 new : List ℕ) (at a t la lo m h : ℕ) (v : PositionVector)
    → Puts old m1 at (big_bytes 8 a) → Puts m1 m2 (at + 8) (big_bytes 4 t)
    → Puts m2 m3 (at + 12) (big_bytes 4 la) → Puts m3 m4 (at + 16) (big_bytes 4 lo)
    → Puts m4 m5 (at + 20) (big_bytes 2 m) → Puts m5 new (at + 22) (big_bytes 2 h)
    → a ≡ v.address → t ≡ v.timestamp → la ≡ cast_unsigned w32 v.place.latitude
    → lo ≡ cast_unsigned w32 v.place.longitude → m ≡ motion v.accurate v.speed → h ≡ v.heading
    → at + 24 ≤ length old → Puts old new at (vector_octets v)
vector_put old m1 m2 m3 m4 m5 new at a t la lo m h v p0 p1 p2 p3 p4 p5 ea et ela elo em eh room =
    let q1 = Puts-then old m1 m2 at (at + 8) (big_bytes 8 a) (big_bytes 4 t) p0 p1 refl
    (omega arith) in
    let q2 = Puts-then old m2 m3 at (at + 12) (big_bytes 8 a ++ big_bytes 4 t)
    (big_bytes 4 la) q1 p2 refl (omega arith) in
    let q3 = Puts-then old m3 m4 at (at + 16) (big_bytes 8 a ++ big_bytes 4 t ++ big_bytes 4 la)
    (big_bytes 4 lo) q2 p3 refl (omega arith) in
    let q4 = Puts-then old m4 m5 at (at + 20) (big_bytes 8 a ++ big_bytes 4 t ++ big_bytes 4 la
    ++ big_bytes 4 lo) (big_bytes 2 m) q3 p4 refl (omega arith) in
    let q5 = Puts-then old m5 new at (at + 22) (big_bytes 8 a ++ big_bytes 4 t ++ big_bytes 4 la
    ++ big_bytes 4 lo ++ big_bytes 2 m) (big_bytes 2 h) q4 p5 refl (omega arith) in
    let text : big_bytes 8 a ++ big_bytes 4 t ++ big_bytes 4 la ++ big_bytes 4 lo ++ big_bytes 2 m
    ++ big_bytes 2 h ≡ vector_octets v = rw (ea, et, ela, elo, em, eh) refl in
    subst (λ (x : List ℕ). Puts old new at x) text q5

pub area_put : (old m1 m2 m3 m4 new : List ℕ) (at la lo a b g : ℕ) (x : GeoArea)
    → Puts old m1 at (big_bytes 4 la) → Puts m1 m2 (at + 4) (big_bytes 4 lo)
    → Puts m2 m3 (at + 8) (big_bytes 2 a) → Puts m3 m4 (at + 10) (big_bytes 2 b)
    → Puts m4 new (at + 12) (big_bytes 2 g)
    → la ≡ cast_unsigned w32 x.centre.latitude → lo ≡ cast_unsigned w32 x.centre.longitude → a ≡ x.a
    → b ≡ x.b → g ≡ x.angle
    → at + 14 ≤ length old → Puts old new at (area_octets x)
area_put old m1 m2 m3 m4 new at la lo a b g x p0 p1 p2 p3 p4 ela elo ea eb eg room =
    let q1 = Puts-then old m1 m2 at (at + 4) (big_bytes 4 la) (big_bytes 4 lo) p0 p1 refl
    (omega arith) in
    let q2 = Puts-then old m2 m3 at (at + 8) (big_bytes 4 la ++ big_bytes 4 lo)
    (big_bytes 2 a) q1 p2 refl (omega arith) in
    let q3 = Puts-then old m3 m4 at (at + 10) (big_bytes 4 la ++ big_bytes 4 lo ++ big_bytes 2 a)
    (big_bytes 2 b) q2 p3 refl (omega arith) in
    let q4 = Puts-then old m4 new at (at + 12) (big_bytes 4 la ++ big_bytes 4 lo ++ big_bytes 2 a
    ++ big_bytes 2 b) (big_bytes 2 g) q3 p4 refl (omega arith) in
    let text : big_bytes 4 la ++ big_bytes 4 lo ++ big_bytes 2 a ++ big_bytes 2 b
    ++ big_bytes 2 g ≡ area_octets x = rw (ela, elo, ea, eb, eg) refl in
    subst (λ (t : List ℕ). Puts old new at t) text q4
