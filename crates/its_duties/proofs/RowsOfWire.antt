-- A capture of a wire: a beacon of the station, a warning that it heard, and the warning as it
-- forwarded it.
use Rattle.std.proofs.Common.{◌≡◌, ◌≢◌, ◌⊎◌, ℕ, zero, suc, ◌+◌, ◌*◌, ◌≤◌, ◌<◌, Bool, true, false, ◌||◌}
use Rattle.std.proofs.Common.{cond, length, List, [], ◌∷◌, Option, Some, None, refl, sym, ap, subst, ◌∙◌}
use Rattle.std.proofs.Common.{true≢false, arith, inl, inr}
use Rattle.std.specs.Prelude.{slice_get}
use Rattle.its_gnvalue.specs.Values.{broadcast}
use Rattle.its_geometry.specs.Area.{GeoArea}
use Rattle.its_headers.specs.Fields.{area_in}
use Rattle.its_linkframe.specs.Frames.{link_header}
use Rattle.its_model.specs.Packet.{Transmission, relay}
use Rattle.its_duties.specs.declared.claims.Claims.{Claims}
use Rattle.its_duties.specs.declared.owed.OwedSearch.{OwedSearch}
use Rattle.its_duties.specs.declared.owed.RelaySeen.TheVariants as relays
use Rattle.its_duties.specs.declared.verdict.Verdict.TheVariants.{Fail}
use Rattle.its_duties.specs.declared.verdict.Breach.TheVariants as breaches
use Rattle.its_duties.specs.Seen.{Seen, IsUnread, is_heard, is_relay, last_sending, named_source}
use Rattle.its_duties.specs.Times.{Stretch, nanos, lies_in, wait, slack, begin_of, end_of}
use Rattle.its_duties.specs.Places.{is_surely_inside}
use Rattle.its_model.specs.Log.{distinct}
use Rattle.its_duties.specs.Heard.{has_room, sources_in, sources_of, may_be_relay}
use Rattle.its_duties.specs.Owed.{IsOwed, FailsForward, owed_verdict}
use Rattle.its_duties.specs.Wire.{IsPair, IsPlain, IsWire}
use Rattle.its_duties.proofs.Frames.{some_is}
use Rattle.its_duties.proofs.RowsOfBeacons.{mac, beacon_frame, seen_at, of_both}
use Rattle.its_duties.proofs.RowsOfRelays.{area, came, forwarded}
use Rattle.its_duties.proofs.RowsOfOwed.{sure}

abbrev wired : Claims
wired = record sure { until = Some 6000 }

abbrev tap : List Seen
tap = seen_at 4000 beacon_frame ∷ seen_at 5000 came ∷ seen_at 5001 forwarded ∷ []

of_three : (P : Seen → Type 0) (n : ℕ) (r : Seen) → slice_get tap n ≡ Some r
    → P (seen_at 4000 beacon_frame) → P (seen_at 5000 came) → P (seen_at 5001 forwarded) → P r
of_three P zero r e a b c = subst P (some_is _ r e) a
of_three P (suc zero) r e a b c = subst P (some_is _ r e) b
of_three P (suc (suc zero)) r e a b c = subst P (some_is _ r e) c
of_three P (suc (suc (suc n))) r e a b c = cc

read_one : (r : Seen) (t : Transmission) → r.frame ≡ Some t → IsUnread wired r → ⊥
read_one r t frame u = some (sym frame ∙ u.none)
  where
    some : Some t ≡ None → ⊥
    some e = cc

pair : IsPair wired (seen_at 5000 came) (seen_at 5001 forwarded)
unfolding link_header
pair = record { heard = refl; relay = refl; after = omega arith; soon = omega arith }

abbrev Apart : Seen → Seen → Type 0
Apart r s = IsPair wired r s ⊎ IsPair wired s r
    ⊎ (r.moment + 2 * wait wired + 4 * slack wired < s.moment)
    ⊎ (s.moment + 2 * wait wired + 4 * slack wired < r.moment)

both_are : (a b r s : Seen) → Some a ≡ Some r → Some b ≡ Some s → Apart a b → Apart r s
both_are a b r s e d h =
    subst (λ (x : Seen). Apart x s) (some_is a r e) (subst (Apart a) (some_is b s d) h)

are_apart : (i m : ℕ) (r s : Seen) → slice_get tap i ≡ Some r → slice_get tap m ≡ Some s → i ≢ m
    → Apart r s
are_apart zero zero r s e d differ = absurd (differ refl)
are_apart zero (suc zero) r s e d differ =
    both_are _ _ r s e d (inr (inr (inl (omega arith))))
are_apart zero (suc (suc zero)) r s e d differ =
    both_are _ _ r s e d (inr (inr (inl (omega arith))))
are_apart zero (suc (suc (suc m))) r s e d differ = cc
are_apart (suc zero) zero r s e d differ =
    both_are _ _ r s e d (inr (inr (inr (omega arith))))
are_apart (suc zero) (suc zero) r s e d differ = absurd (differ refl)
are_apart (suc zero) (suc (suc zero)) r s e d differ = both_are _ _ r s e d (inl pair)
are_apart (suc zero) (suc (suc (suc m))) r s e d differ = cc
are_apart (suc (suc zero)) zero r s e d differ =
    both_are _ _ r s e d (inr (inr (inr (omega arith))))
are_apart (suc (suc zero)) (suc zero) r s e d differ = both_are _ _ r s e d (inr (inl pair))
are_apart (suc (suc zero)) (suc (suc zero)) r s e d differ = absurd (differ refl)
are_apart (suc (suc zero)) (suc (suc (suc m))) r s e d differ = cc
are_apart (suc (suc (suc i))) m r s e d differ = cc

-- one source was heard at most
room_by : (b : Bool) → has_room (Some 64) (length (distinct (sources_of (cond b (seen_at 5000 came ∷ []) []))))
    ≡ true
room_by true = refl
room_by false = refl

room : (stretch : Stretch) → has_room wired.capacity (sources_in wired stretch tap) ≡ true
unfolding link_header
room stretch = room_by (lies_in stretch (seen_at 5000 came))

its_area : (t u : Transmission) (a : GeoArea) → Some t ≡ Some u → area_in t.pdu.body ≡ Some area
    → area_in u.pdu.body ≡ Some a → is_surely_inside wired a ≡ true
its_area t u a e d is =
    ap (is_surely_inside wired)
    (sym (some_is area a (sym d ∙ ap (λ (x : Transmission). area_in x.pdu.body) (some_is t u e) ∙ is)))

no_area : (t u : Transmission) (a : GeoArea) → Some t ≡ Some u → area_in t.pdu.body ≡ None
    → area_in u.pdu.body ≡ Some a → is_surely_inside wired a ≡ true
no_area t u a e d is =
    absurd (none (sym d ∙ ap (λ (x : Transmission). area_in x.pdu.body) (some_is t u e) ∙ is))
  where
    none : None ≡ Some a → ⊥
    none e = cc

it_is : IsWire wired tap
unfolding link_header named_source
it_is = record {
  sent = refl;
  received = refl;
  delivered = refl;
  fresh = refl;
  unlimited = refl;
  unbuffered = refl;
  steady = refl;
  simple = refl;
  queue = omega arith;
  plain = λ i r e. of_three IsPlain i r e
      (record { repeats = refl; first = refl; wired = refl; known_target = refl })
      (record { repeats = refl; first = refl; wired = refl; known_target = refl })
      (record { repeats = refl; first = refl; wired = refl; known_target = refl });
  read = λ i r e. of_three (λ (r : Seen). IsUnread wired r → ⊥) i r e
      (read_one (seen_at 4000 beacon_frame) beacon_frame refl)
      (read_one (seen_at 5000 came) came refl)
      (read_one (seen_at 5001 forwarded) forwarded refl);
  sent_read = λ i r e. of_three (λ (r : Seen). may_be_relay wired r ≡ true → ⊥) i r e
      (λ h. true≢false (sym h)) (λ h. true≢false (sym h)) (λ h. true≢false (sym h));
  room = room;
  inside = λ i r t a e. of_three (λ (r : Seen). r.frame ≡ Some t → area_in t.pdu.body ≡ Some a
      → is_surely_inside wired a ≡ true) i r e (λ frame. no_area beacon_frame t a frame refl)
      (λ frame. its_area came t a frame refl) (λ frame. its_area forwarded t a frame refl);
  begins = λ i r e. of_three (λ (r : Seen). is_heard wired r ≡ true
      → begin_of tap + 2 * wait wired + 4 * slack wired ≤ r.moment) i r e
      (λ h. absurd (true≢false (sym h))) (λ h. omega arith) (λ h. absurd (true≢false (sym h)));
  goes_on = λ i r e. of_three (λ (r : Seen). is_heard wired r ≡ true
      → r.moment + 3 * wait wired + 4 * slack wired ≤ end_of wired tap) i r e
      (λ h. absurd (true≢false (sym h))) (λ h. omega arith) (λ h. absurd (true≢false (sym h)));
  apart = are_apart;
}

-- ---- Without the last record the warning was owed, and is missing.

abbrev short_tap : List Seen
short_tap = seen_at 4000 beacon_frame ∷ seen_at 5000 came ∷ []

-- the warning is the only packet that was heard
one_heard : (m : ℕ) (s : Seen) → slice_get short_tap m ≡ Some s → is_heard wired s ≡ true → m ≡ 1
unfolding link_header
one_heard zero s at heard =
    absurd (true≢false (sym heard
    ∙ subst (λ (x : Seen). is_heard wired x ≡ false) (some_is (seen_at 4000 beacon_frame) s at) refl))
one_heard (suc zero) s at heard = refl
one_heard (suc (suc m)) s at heard = cc

none_forwarded : (m : ℕ) (s : Seen) → slice_get short_tap m ≡ Some s
    → (is_relay wired s || may_be_relay wired s) ≡ false
unfolding link_header named_source
none_forwarded m s at =
    of_both (λ (x : Seen). (is_relay wired x || may_be_relay wired x) ≡ false) _ _ m s at refl refl

neither : (a b : Bool) → (a || b) ≡ false → (a ≡ true → ⊥) × (b ≡ true → ⊥)
neither true b e = absurd (true≢false e)
neither false true e = absurd (true≢false e)
neither false false e = (λ h. true≢false (sym h), λ h. true≢false (sym h))

it_was_owed : IsOwed wired short_tap 1 (seen_at 5000 came) came 7
unfolding link_header
it_was_owed = record {
  at = refl;
  heard = refl;
  frame = refl;
  area = area;
  message = record { port = 2002; info = 0; payload = [] };
  broadcast = refl;
  sent = refl;
  received = refl;
  delivered = refl;
  unlimited = refl;
  unbuffered = refl;
  simple = refl;
  known_target = refl;
  hops = omega arith;
  late = omega arith;
  from = 0;
  known_from = inl (refl, refl);
  new = λ m s other lies. other.other (one_heard m s other.at other.heard);
  copies = λ m s u other lies frame. absurd (other.other (one_heard m s other.at other.heard));
  room = refl;
  steady = refl;
  inside = refl;
  all_read = λ m s at u lies. of_both (λ (r : Seen). IsUnread wired r → ⊥) _ _ m s at
      (read_one (seen_at 4000 beacon_frame) beacon_frame refl)
      (read_one (seen_at 5000 came) came refl) u;
}

it_is_missing : FailsForward wired short_tap 1
it_is_missing = record {
  seen = seen_at 5000 came;
  frame = came;
  number = 7;
  owed = it_was_owed;
  until = nanos 5052;
  until_is = λ m s at heard packet lies.
      (let same = some_is s (seen_at 5000 came)
      (sym at ∙ ap (slice_get short_tap) (one_heard m s at heard)) in
      subst (λ (r : Seen). last_sending r + wait wired + 2 * slack wired ≤ nanos 5052) (sym same)
      (omega arith));
  goes_on = omega arith;
  not_forwarded = λ j s at relays packet then.
      (neither (is_relay wired s) (may_be_relay wired s) (none_forwarded j s at)).0 relays;
  sent_read = λ j s at may then.
      (neither (is_relay wired s) (may_be_relay wired s) (none_forwarded j s at)).1 may;
}

-- And so says the verdict.
abbrev found : OwedSearch
found = record {
  relay = relays.NotSeen;
  known_target = true;
  late = true;
  known_from = true;
  new = true;
  copies = true;
  sources = 1;
  goes_on = true;
  all_read = true;
}

the_verdict : owed_verdict wired found came ≡ Some (Fail breaches.NotForwarded)
the_verdict = refl
