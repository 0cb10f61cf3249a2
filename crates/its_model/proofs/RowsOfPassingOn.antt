-- A small world in which a geoanycast comes to the first station inside its area, over one outside:
-- evaluated.
use Rattle.std.proofs.Common.{◌≡◌, ℕ, zero, suc, ◌+◌, List, [], ◌∷◌, ◌++◌}
use Rattle.std.proofs.Common.{Some, None, true, false, refl, sym, ap, subst, ◌∙◌, inl, inr, arith}
use Rattle.std.specs.Prelude.{pos, slice_get}
use Rattle.its_gnvalue.specs.Values.{broadcast}
use Rattle.its_geometry.specs.Area.{GeoArea, area_holds}
use Rattle.its_geometry.specs.Offsets.{squared_distance}
use Rattle.its_model.specs.Packet.{Transmission}
use Rattle.its_model.specs.Packet.AreaKind.{geoanycast}
use Rattle.its_model.specs.Packet.Body.{beacon, gac}
use Rattle.its_model.specs.History.{known}
use Rattle.its_model.specs.Stations.{stations_at}
use Rattle.its_model.specs.Decision.{decision}
use Rattle.its_model.specs.Calls.OwnCall.{SendGac}
use Rattle.its_model.specs.Calls.Answer.{Opened, Sent, Accepted}
use Rattle.its_model.specs.Station.{verdict, own_step, receive_step}
use Rattle.its_model.specs.World.{Config, Event, LogLine, What, WorldModel, frame_of}
use Rattle.its_model.specs.World.What.{Calls, Deliver}
use Rattle.its_model.specs.Log.{Origin, origins, place_of}
use Rattle.its_model.specs.Schedules.{Accepts}
use Rattle.its_model.specs.Reach.{AreaSend, HasOwnAddress, HasOwnNumber, FirstAccepts, ComesBy}
use Rattle.its_model.specs.Reach.{StandsInside, GivesTo, CameTo, PassesTo, IsPassedAlong}
use Rattle.its_model.specs.Reach.{AreReached, IsReached, is_open_at}
use Rattle.its_model.specs.Reach.ComesBy.{by_sending, by_accepting}
use Rattle.its_model.proofs.OwnNumbers.{numbers_are_own}
use Rattle.its_model.proofs.Ways.{passed_on_reaches}
use Rattle.its_model.proofs.Scenes.{place, mac, address, station, here, hi, circle, request}
use Rattle.its_model.proofs.Scenes.{open_port, tick, by, after}

-- three stations in a row, 40 m from one to the next, and an area that holds the third alone
abbrev second : Config
second = station 2 (place (pos 3593) (pos 0)) 64

abbrev third : Config
third = station 3 (place (pos 7186) (pos 0)) 64

abbrev row : List Config
row = station 1 here 64 ∷ second ∷ third ∷ []

abbrev area : GeoArea
area = circle (place (pos 7186) (pos 0)) 30

abbrev gac_there : What
gac_there = Calls (SendGac (record request { area = area }))

-- The first one hears the second's beacon, and so it sends to that one alone; the second knows of
-- none that is nearer, and relays to all.
abbrev happenings : List Event
happenings = by 2 0 open_port ∷ by 1 10 tick ∷ by 0 20 (Deliver 0) ∷ by 0 1000 gac_there
    ∷ by 1 1010 (Deliver 1) ∷ by 2 1020 (Deliver 2) ∷ []

abbrev world : WorldModel
world = after row happenings

-- its frames
abbrev heard : Transmission
heard =
    record {
      pdu = record {
        vector = record {
          address = address 2;
          timestamp = 0;
          place = place (pos 3593) (pos 0);
          accurate = false;
          speed = pos 0;
          heading = 0;
        };
        lifetime = 26;
        class = 0;
        mobile = true;
        max_hops = 1;
        body = beacon;
      };
      hops_left = 1;
      link_source = mac 2;
      link_target = broadcast;
    }

abbrev asking : ℕ → ℕ → ℕ → Transmission
asking giver hops target =
    record {
      pdu = record {
        vector = record {
          address = address 1;
          timestamp = 0;
          place = here;
          accurate = false;
          speed = pos 0;
          heading = 0;
        };
        lifetime = 26;
        class = 0;
        mobile = true;
        max_hops = 10;
        body = gac 0 area hi;
      };
      hops_left = hops;
      link_source = mac giver;
      link_target = target;
    }

-- its lines
abbrev opens : LogLine
opens = record { event = by 2 0 open_port; delivered = None; entry = Opened }

abbrev beacons : LogLine
beacons = record { event = by 1 10 tick; delivered = None; entry = Sent 0 }

abbrev hears : LogLine
hears =
    record { event = by 0 20 (Deliver 0); delivered = Some heard; entry = Accepted None None }

abbrev sends : LogLine
sends = record { event = by 0 1000 gac_there; delivered = None; entry = Sent 1 }

abbrev second_accepts : LogLine
second_accepts =
    record {
      event = by 1 1010 (Deliver 1);
      delivered = Some (asking 1 10 (mac 2));
      entry = Accepted None (Some 2);
    }

abbrev third_accepts : LogLine
third_accepts =
    record {
      event = by 2 1020 (Deliver 2);
      delivered = Some (asking 2 9 broadcast);
      entry = Accepted (Some hi) None;
    }

abbrev earlier : List LogLine
earlier = hears ∷ beacons ∷ opens ∷ []

abbrev lines : List LogLine
lines = third_accepts ∷ second_accepts ∷ sends ∷ earlier

log_is : world.log ≡ lines
unfolding own_step receive_step verdict known stations_at decision area_holds squared_distance
log_is = refl

first_frame : slice_get world.air 1 ≡ Some (asking 1 10 (mac 2))
unfolding own_step receive_step verdict known stations_at decision area_holds squared_distance
first_frame = refl

second_frame : slice_get world.air 2 ≡ Some (asking 2 9 broadcast)
unfolding own_step receive_step verdict known stations_at decision area_holds squared_distance
second_frame = refl

-- what it sent
abbrev sent : AreaSend geoanycast world
sent =
    record {
      later = third_accepts ∷ second_accepts ∷ [];
      line = sends;
      before = earlier;
      request = record request { area = area };
      frame = 1;
      split = log_is;
      call = refl;
      entry = refl;
    }

-- the beacon isn't of it
beacon_origin : slice_get (origins world.log) 0
    ≡ Some (record { event = by 1 10 tick; before = opens ∷ []; depth = 0 })
unfolding own_step receive_step verdict known stations_at decision area_holds squared_distance
    origins
beacon_origin = refl

-- ---- its premises, each of them
own_address : HasOwnAddress row 0
own_address zero own other a b same = refl
own_address (suc zero) own other a b same =
    let is_own : station 1 here 64 ≡ own = cc in
    let is_other : second ≡ other = cc in
    let equal : address 2 ≡ address 1 =
    ap (λ (c : Config). c.address) is_other ∙ same ∙ ap (λ (c : Config). c.address) (sym is_own) in
    absurd (omega (arith, equal))
own_address (suc (suc zero)) own other a b same =
    let is_own : station 1 here 64 ≡ own = cc in
    let is_other : third ≡ other = cc in
    let equal : address 3 ≡ address 1 =
    ap (λ (c : Config). c.address) is_other ∙ same ∙ ap (λ (c : Config). c.address) (sym is_own) in
    absurd (omega (arith, equal))
own_address (suc (suc (suc j))) own other a b same = cc

own_number : HasOwnNumber world sent
unfolding own_step receive_step verdict known stations_at decision area_holds squared_distance
own_number = numbers_are_own world geoanycast sent refl (omega arith)

-- what came by an acceptance
data IsAcceptance (i frame : ℕ) (line : LogLine) (before : List LogLine) : Type 0 where
  at_first : frame ≡ 0 → IsAcceptance i frame line before
  at_second : i ≡ 1 → line ≡ second_accepts → IsAcceptance i frame line before
  at_third : i ≡ 2 → line ≡ third_accepts → before ≡ second_accepts ∷ sends ∷ earlier
      → IsAcceptance i frame line before

none_empty : {X : Type 0} (later before : List X) (line : X) → [] ≡ later ++ line ∷ before → ⊥
none_empty [] before line e = cc
none_empty (x ∷ later) before line e = cc

which : (i k : ℕ) (t : Transmission) (later before : List LogLine) (line : LogLine)
    → lines ≡ later ++ line ∷ before → Accepts world line i k t → IsAcceptance i k line before
which i k t [] before line e a =
    let same : third_accepts ≡ line = cc in
    at_third (sym a.station ∙ ap (λ (x : LogLine). x.event.station) (sym same)) (sym same) (cc)
which i k t (x ∷ []) before line e a =
    let same : second_accepts ≡ line = cc in
    at_second (sym a.station ∙ ap (λ (x : LogLine). x.event.station) (sym same)) (sym same)
which i k t (x ∷ y ∷ []) before line e a =
    let same : sends ≡ line = cc in cc (a.entry, ap (λ (x : LogLine). x.entry) same)
which i k t (x ∷ y ∷ z ∷ []) before line e a =
    let same : hears ≡ line = cc in
    at_first (frame (sym a.delivery ∙ ap (λ (x : LogLine). x.event.what) (sym same)))
  where
    frame : Deliver k ≡ Deliver 0 → k ≡ 0
    frame h = cc
which i k t (x ∷ y ∷ z ∷ u ∷ []) before line e a =
    let same : beacons ≡ line = cc in cc (a.entry, ap (λ (x : LogLine). x.entry) same)
which i k t (x ∷ y ∷ z ∷ u ∷ v ∷ []) before line e a =
    let same : opens ≡ line = cc in cc (a.entry, ap (λ (x : LogLine). x.entry) same)
which i k t (x ∷ y ∷ z ∷ u ∷ v ∷ r ∷ later) before line e a =
    let rest : [] ≡ later ++ line ∷ before = cc in absurd (none_empty later before line rest)

-- by which line a station first accepted it
first_at : (i : ℕ) (line : LogLine) (before : List LogLine)
    (f : FirstAccepts world sent i line before) → IsAcceptance i f.frame line before
first_at i line before f =
    which i f.frame f.packet f.later before line (sym log_is ∙ f.split) f.accepts

-- not by the one of the beacon
not_the_beacon : (i : ℕ) (line : LogLine) (before : List LogLine)
    (f : FirstAccepts world sent i line before) → f.frame ≡ 0 → ⊥
not_the_beacon i line before f e =
    let there : Some (record { event = by 1 10 tick; before = opens ∷ []; depth = 0 })
    ≡ Some f.of_send.origin =
    sym beacon_origin ∙ ap (λ n. slice_get (origins world.log) n) (sym e) ∙ f.of_send.is in
    let same : record { event = by 1 10 tick; before = opens ∷ []; depth = 0 } ≡ f.of_send.origin =
    cc in
    absurd (omega (arith, ap (λ (o : Origin). place_of o) same, f.of_send.at_place))

-- the number of a frame that a line gave
same_number : (a b : ℕ) → Some a ≡ Some b → a ≡ b
same_number a b e = cc

-- the first one gave it to the second, to which it came
first_gives : GivesTo world sends second
first_gives =
    record {
      frame = 1;
      packet = asking 1 10 (mac 2);
      gives = refl;
      in_air = first_frame;
      is_for = inr refl;
    }

first_came : CameTo world 1 1 1010
first_came =
    record {
      later = third_accepts ∷ [];
      line = second_accepts;
      before = sends ∷ earlier;
      split = log_is;
      station = refl;
      delivers = record { delivery = refl; not_refused = λ r e. cc };
      in_time = omega arith;
    }

first_passes : PassesTo row world sent 10 0 1
first_passes =
    record {
      receiver = second;
      configured = refl;
      other = λ e. cc;
      passes = passes;
      comes = comes;
    }
  where
    passes : (line : LogLine) (before : List LogLine) → ComesBy world sent 0 line before
        → GivesTo world line second
    passes line before (by_sending a b d) =
        subst (λ (x : LogLine). GivesTo world x second) (sym b) first_gives
    passes line before (by_accepting f) =
        elim (first_at 0 line before f) [
          | at_first e ↦ absurd (not_the_beacon 0 line before f e)
          | at_second a b ↦ cc
          | at_third a b d ↦ cc
        ]

    comes : (line : LogLine) (before : List LogLine) (k : ℕ) → ComesBy world sent 0 line before
        → frame_of line.entry ≡ Some k → CameTo world 1 k (line.event.moment + 10)
    comes line before k (by_sending a b d) gives =
        subst (λ (x : LogLine). CameTo world 1 k (x.event.moment + 10)) (sym b)
        (subst (λ n. CameTo world 1 n 1010)
        (same_number 1 k (ap (λ (x : LogLine). frame_of x.entry) (sym b) ∙ gives)) first_came)
    comes line before k (by_accepting f) gives =
        elim (first_at 0 line before f) [
          | at_first e ↦ absurd (not_the_beacon 0 line before f e)
          | at_second a b ↦ cc
          | at_third a b d ↦ cc
        ]

-- and the second to all, and it came to the third
second_gives : GivesTo world second_accepts third
second_gives =
    record {
      frame = 2;
      packet = asking 2 9 broadcast;
      gives = refl;
      in_air = second_frame;
      is_for = inl refl;
    }

second_came : CameTo world 2 2 1020
second_came =
    record {
      later = [];
      line = third_accepts;
      before = second_accepts ∷ sends ∷ earlier;
      split = log_is;
      station = refl;
      delivers = record { delivery = refl; not_refused = λ r e. cc };
      in_time = omega arith;
    }

second_passes : PassesTo row world sent 10 1 2
second_passes =
    record {
      receiver = third;
      configured = refl;
      other = λ e. cc;
      passes = passes;
      comes = comes;
    }
  where
    passes : (line : LogLine) (before : List LogLine) → ComesBy world sent 1 line before
        → GivesTo world line third
    passes line before (by_sending a b d) = cc
    passes line before (by_accepting f) =
        elim (first_at 1 line before f) [
          | at_first e ↦ absurd (not_the_beacon 1 line before f e)
          | at_second a b ↦ subst (λ (x : LogLine). GivesTo world x third) (sym b) second_gives
          | at_third a b d ↦ cc
        ]

    comes : (line : LogLine) (before : List LogLine) (k : ℕ) → ComesBy world sent 1 line before
        → frame_of line.entry ≡ Some k → CameTo world 2 k (line.event.moment + 10)
    comes line before k (by_sending a b d) gives = cc
    comes line before k (by_accepting f) gives =
        elim (first_at 1 line before f) [
          | at_first e ↦ absurd (not_the_beacon 1 line before f e)
          | at_second a b ↦ subst (λ (x : LogLine). CameTo world 2 k (x.event.moment + 10)) (sym b)
              (subst (λ n. CameTo world 2 n 1020)
              (same_number 2 k (ap (λ (x : LogLine). frame_of x.entry) (sym b) ∙ gives))
              second_came)
          | at_third a b d ↦ cc
        ]

is_way : IsPassedAlong row world sent 10 0 (1 ∷ 2 ∷ [])
is_way = (first_passes, (second_passes, tt))

-- ---- so it comes to the third, which stands inside and hands it out
reached : AreReached row world sent 10 1000 (1 ∷ 2 ∷ [])
reached = passed_on_reaches row happenings geoanycast sent 10 (1 ∷ 2 ∷ []) own_address own_number
    is_way

third_inside : StandsInside row area 2 (second_accepts ∷ sends ∷ earlier)
unfolding area_holds squared_distance
third_inside = record { config = third; configured = refl; inside = refl }

handed_at_third : (r : IsReached row world sent 2 1020) → r.accepted.accepts.handed ≡ Some hi
handed_at_third r =
    elim (first_at 2 r.line r.before r.accepted) [
      | at_first e ↦ absurd (not_the_beacon 2 r.line r.before r.accepted e)
      | at_second a b ↦ cc
      | at_third a b d ↦ r.handed
          (subst (λ xs. StandsInside row area 2 xs) (sym d) third_inside)
          (ap (is_open_at 2 2002) d)
    ]
