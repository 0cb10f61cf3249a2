-- What is not true of contention: small worlds, evaluated.
use Rattle.std.proofs.Common.{◌≡◌, ℕ, List, [], ◌∷◌, Option, Some, true, not, ◌&&◌}
use Rattle.std.proofs.Common.{eqb, false, refl}
use Rattle.std.specs.Prelude.{pos, negsuc}
use Rattle.its_gnvalue.specs.Values.{broadcast}
use Rattle.its_geometry.specs.Area.{area_holds}
use Rattle.its_geometry.specs.Offsets.{squared_distance}
use Rattle.its_model.specs.History.{known}
use Rattle.its_model.specs.Stations.{stations_at}
use Rattle.its_model.specs.Decision.{decision}
use Rattle.its_model.specs.Calls.OwnCall.{SendGbc}
use Rattle.its_model.specs.Station.{verdict, own_step, receive_step}
use Rattle.its_model.specs.Contention.{ContentionRule, shorter, wait}
use Rattle.its_model.specs.World.{What, Config}
use Rattle.its_model.specs.World.What.{Calls, Deliver}
use Rattle.its_model.specs.Contended.{CopyTest, Lot, Happening, opening_with, contended_run}
use Rattle.its_model.specs.Contended.Lot.{SentAt, WaitsUntil, CancelledBy, DroppedAt}
use Rattle.its_model.specs.Contended.Happening.{Happens, Releases}
use Rattle.its_model.proofs.Scenes.{place, station, circle, request, here, move, restart, by}

-- In these worlds there is one packet, so its hops tell its frames apart. A copy is the very frame,
-- sent to all by another station.
abbrev same_frame : CopyTest
same_frame own held heard =
    eqb heard.link_target broadcast && not (eqb heard.link_source own)
    && eqb heard.hops_left held.hops_left

-- annex F.3: any copy of the packet is one
abbrev any_copy : CopyTest
any_copy own held heard = true

-- the default rule, with so many copies
abbrev rule : ℕ → Option ContentionRule
rule copies = Some (record { min_wait = 1; max_wait = 100; range = 1000; copies = copies })

-- a geobroadcast to 1000 m round (0, 0)
abbrev warning : What
warning = Calls (SendGbc (record request { area = circle here 1000 }))

abbrev at : ℕ → ℕ → What → Happening
at station moment what = Happens (by station moment what)

-- what became of each frame, where four stations contend
abbrev Become : CopyTest → ℕ → List Config → List Happening → List Lot → Type 0
Become test copies configs happenings lots =
    (contended_run test
    (opening_with configs (rule copies ∷ rule copies ∷ rule copies ∷ rule copies ∷ [])) happenings).lots
    ≡ lots

-- the sender, one 200 m north, one 250 m south and one 600 m north
abbrev rivals : List Config
rivals =
    station 1 here 64 ∷ station 2 (place (pos 17967) (pos 0)) 64
    ∷ station 3 (place (negsuc 22457) (pos 0)) 64 ∷ station 4 (place (pos 53899) (pos 0)) 64 ∷ []

-- The two that receive the warning wait, and the farther one sends first.
abbrev rival_sends : List Happening
rival_sends =
    at 0 0 (move here true) ∷ at 0 1000 warning ∷ at 1 1001 (Deliver 0) ∷ at 2 1001 (Deliver 0)
    ∷ Releases 2 1077 ∷ at 0 1078 (Deliver 2) ∷ at 1 1078 (Deliver 2) ∷ Releases 1 1082 ∷ []

-- With one copy the rival silences the only station that the fourth one hears.
one_rival_silences : Become same_frame 1 rivals rival_sends
    (SentAt 1000 ∷ CancelledBy (2 ∷ []) 1078 ∷ SentAt 1077 ∷ [])
unfolding own_step receive_step verdict known stations_at decision area_holds squared_distance
    shorter wait
one_rival_silences = refl

-- With two copies it takes two rivals. With one the frame goes out, after a later one, and the fourth
-- receives it. It does not know the sender, so its own address decides its wait.
one_rival_does_not : Become same_frame 2 rivals (
    at 0 0 (move here true) ∷ at 0 1000 warning ∷ at 1 1001 (Deliver 0) ∷ at 2 1001 (Deliver 0)
    ∷ Releases 2 1077 ∷ at 0 1078 (Deliver 2) ∷ at 1 1078 (Deliver 2) ∷ Releases 1 1082
    ∷ at 3 1083 (Deliver 1) ∷ [])
    (SentAt 1000 ∷ SentAt 1082 ∷ SentAt 1077 ∷ WaitsUntil 1177 ∷ [])
unfolding own_step receive_step verdict known stations_at decision area_holds squared_distance
    shorter wait
one_rival_does_not = refl

two_rivals_silence : Become same_frame 2
    (station 1 here 64 ∷ station 2 (place (pos 17967) (pos 0)) 64
    ∷ station 3 (place (negsuc 22457) (pos 0)) 64
    ∷ station 4 (place (negsuc 22457) (pos 100)) 64 ∷ []) (
    at 0 0 (move here true) ∷ at 0 1000 warning ∷ at 1 1001 (Deliver 0) ∷ at 2 1001 (Deliver 0)
    ∷ at 3 1001 (Deliver 0) ∷ Releases 2 1077 ∷ Releases 3 1077 ∷ at 1 1078 (Deliver 2)
    ∷ at 1 1078 (Deliver 3) ∷ [])
    (SentAt 1000 ∷ CancelledBy (3 ∷ 2 ∷ []) 1078 ∷ SentAt 1077 ∷ SentAt 1077 ∷ [])
unfolding own_step receive_step verdict known stations_at decision area_holds squared_distance
    shorter wait
two_rivals_silence = refl

-- two stations side by side, and one farther on that hears both of them and not the sender
abbrev twins : List Config
twins =
    station 1 here 64 ∷ station 2 (place (pos 35933) (pos 0)) 64
    ∷ station 3 (place (pos 35933) (pos 100)) 64 ∷ station 4 (place (pos 71866) (pos 0)) 64 ∷ []

abbrev twins_send : List Happening
twins_send =
    at 0 0 (move here true) ∷ at 0 1000 warning ∷ at 1 1001 (Deliver 0) ∷ at 2 1001 (Deliver 0)
    ∷ Releases 1 1062 ∷ Releases 2 1062 ∷ at 3 1063 (Deliver 1) ∷ at 3 1063 (Deliver 2)
    ∷ Releases 3 1157 ∷ []

-- The second twin's frame is no copy of the one that waits, which has a hop less.
twins_do_not_silence : Become same_frame 1 twins twins_send
    (SentAt 1000 ∷ SentAt 1062 ∷ SentAt 1062 ∷ SentAt 1157 ∷ [])
unfolding own_step receive_step verdict known stations_at decision area_holds squared_distance
    shorter wait
twins_do_not_silence = refl

-- Where any copy of the packet cancels, nobody sends it on.
any_copy_silences : Become any_copy 1 twins twins_send
    (SentAt 1000 ∷ SentAt 1062 ∷ SentAt 1062 ∷ CancelledBy (2 ∷ []) 1063 ∷ [])
unfolding own_step receive_step verdict known stations_at decision area_holds squared_distance
    shorter wait
any_copy_silences = refl

-- A frame waits longer than the greatest wait if nobody asks for it: up to a second after it is due,
-- and then it is dropped.
asked_late : (Become same_frame 2 rivals (
    at 0 0 (move here true) ∷ at 0 1000 warning ∷ at 1 1001 (Deliver 0) ∷ Releases 1 2082 ∷ [])
    (SentAt 1000 ∷ SentAt 2082 ∷ []))
    × Become same_frame 2 rivals (
    at 0 0 (move here true) ∷ at 0 1000 warning ∷ at 1 1001 (Deliver 0) ∷ Releases 1 1081
    ∷ Releases 1 2083 ∷ [])
    (SentAt 1000 ∷ DroppedAt 2083 ∷ [])
unfolding own_step receive_step verdict known stations_at decision area_holds squared_distance
    shorter wait
asked_late = (refl, refl)

-- a restart drops what waits, and one that is refused does not
restart_drops : (Become same_frame 2 rivals (
    at 0 0 (move here true) ∷ at 0 1000 warning ∷ at 1 1001 (Deliver 0) ∷ at 1 1010 (restart 0)
    ∷ Releases 1 1082 ∷ [])
    (SentAt 1000 ∷ DroppedAt 1010 ∷ []))
    × Become same_frame 2 rivals (
    at 0 0 (move here true) ∷ at 0 1000 warning ∷ at 1 1001 (Deliver 0) ∷ at 1 1000 (restart 0)
    ∷ Releases 1 1082 ∷ [])
    (SentAt 1000 ∷ SentAt 1082 ∷ [])
unfolding own_step receive_step verdict known stations_at decision area_holds squared_distance
    shorter wait
restart_drops = (refl, refl)

-- Outside the area it goes at once. (The sender's position is not accurate, so it is not dropped.)
outside_goes_at_once : Become same_frame 2
    (station 1 here 64 ∷ station 2 (place (pos 134748) (pos 0)) 64 ∷ []) (
    at 0 0 (move here false) ∷ at 0 1000 warning ∷ at 1 1001 (Deliver 0) ∷ [])
    (SentAt 1000 ∷ SentAt 1001 ∷ [])
unfolding own_step receive_step verdict known stations_at decision area_holds squared_distance
    shorter wait
outside_goes_at_once = refl
