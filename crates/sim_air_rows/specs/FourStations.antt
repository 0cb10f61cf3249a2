-- Four stations in a row, some 400 m from one to the next, that hear each other over 500 m: the
-- first one warns, for where the last one stands, and the last one has the port open. Two runs of
-- them, one without beacons and one with beacons.
use Rattle.std.specs.Prelude.{ℕ, ◌+◌, pos, List, [], ◌∷◌, Some, None, true, false}
use Rattle.its_gnvalue.specs.Values.{Position}
use Rattle.its_geometry.specs.declared.area.Shape.TheVariants.{Circle}
use Rattle.its_model.specs.Packet.{Message}
use Rattle.its_model.specs.Calls.{Answer, GbcRequest}
use Rattle.its_model.specs.Calls.OwnCall.{Open, Tick, SendGbc}
use Rattle.its_model.specs.Calls.Answer.{Opened, Sent, Ignored, Accepted}
use Rattle.its_model.specs.Calls.Why.{NotForMe, OwnSource, Duplicate}
use Rattle.its_model.specs.World.{Config, What}
use Rattle.its_model.specs.World.What.{Calls, Deliver}
use Rattle.sim_air_model.specs.Timetable.{Rules, Filed}
use Rattle.sim_air_model.specs.Timetable.Filed.{Happens}
use Rattle.sim_air_rows.specs.Lines.{Line}

-- so far north of (0, 0), in tenths of a microdegree
abbrev pub north : ℕ → Position
north latitude = record { latitude = pos latitude; longitude = pos 0 }

-- the station of this number, at this latitude, with the room and the memory that a scenario gives
-- where it says nothing of them
abbrev pub station : ℕ → ℕ → Config
station number latitude =
    record {
      address = 0x1400020000000000 + number;
      place = north latitude;
      capacity = 64;
      remember = 8;
    }

abbrev pub four : List Config
four = station 1 0 ∷ station 2 36000 ∷ station 3 72000 ∷ station 4 108000 ∷ []

-- hi, to port 2002
abbrev pub hi : Message
hi = record { port = 2002; info = 0; payload = 0x68 ∷ 0x69 ∷ [] }

-- it is for 100 m round the last station, over at most ten hops
abbrev pub warning : GbcRequest
warning =
    record {
      class = 0;
      lifetime = 26;
      max_hops = 10;
      area = record { shape = Circle; centre = north 108000; a = 100; b = 0; angle = 0 };
      message = hi;
    }

abbrev pub open_port : What
open_port = Calls (Open 2002)

abbrev pub warn : What
warn = Calls (SendGbc warning)

-- a line, as `sim` prints it: number, moment, station, what happens, and what is answered
abbrev pub line : ℕ → ℕ → ℕ → What → Answer ℕ → Line
line number moment station what entry =
    record {
      number = number;
      moment = moment;
      station = station;
      what = what;
      entry = entry;
    }

-- what the file has: the first two events of the run without beacons
abbrev pub file : List Filed
file =
    Happens (record { station = 3; moment = 0; what = open_port })
    ∷ Happens (record { station = 0; moment = 1000; what = warn })
    ∷ []

-- Nothing is lost, a frame comes a millisecond later, and all four are there.
abbrev pub rules_without : Rules
rules_without =
    record {
      range = 500;
      delay = 1;
      loss = 0;
      beacons = false;
      seed = 0;
      until = 5000;
      every = [];
      present = true ∷ true ∷ true ∷ true ∷ [];
    }

abbrev pub rules_with : Rules
rules_with = record rules_without { beacons = true; seed = 7; until = 3000 }

-- What is accepted and not delivered to a port, and nothing goes on; and what goes on as a frame.
abbrev pub accepted : Answer ℕ
accepted = Accepted None None

abbrev pub relayed : ℕ → Answer ℕ
relayed frame = Accepted None (Some frame)

-- the message is delivered, and goes on
abbrev pub delivered : ℕ → Answer ℕ
delivered frame = Accepted (Some hi) (Some frame)

-- Without beacons no station knows of another, so each sends to all.
abbrev pub lines_without : List Line
lines_without =
    line 0 0 3 open_port Opened
    ∷ line 1 1000 0 warn (Sent 0)
    ∷ line 2 1001 1 (Deliver 0) (relayed 1)
    ∷ line 3 1002 0 (Deliver 1) (Ignored OwnSource)
    ∷ line 4 1002 2 (Deliver 1) (relayed 2)
    ∷ line 5 1003 1 (Deliver 2) (Ignored Duplicate)
    ∷ line 6 1003 3 (Deliver 2) (delivered 3)
    ∷ line 7 1004 2 (Deliver 3) (Ignored Duplicate)
    ∷ []

-- With beacons each station sends to its neighbour nearest to the area, and the last one, inside of
-- it, to all.
abbrev pub lines_with : List Line
lines_with =
    line 0 0 3 open_port Opened
    ∷ line 1 93 3 (Calls (Tick 93)) (Sent 0)
    ∷ line 2 94 2 (Deliver 0) accepted
    ∷ line 3 137 0 (Calls (Tick 137)) (Sent 1)
    ∷ line 4 138 1 (Deliver 1) accepted
    ∷ line 5 724 1 (Calls (Tick 724)) (Sent 2)
    ∷ line 6 725 0 (Deliver 2) accepted
    ∷ line 7 725 2 (Deliver 2) accepted
    ∷ line 8 726 2 (Calls (Tick 726)) (Sent 3)
    ∷ line 9 727 1 (Deliver 3) accepted
    ∷ line 10 727 3 (Deliver 3) accepted
    ∷ line 11 1000 0 warn (Sent 4)
    ∷ line 12 1001 1 (Deliver 4) (relayed 5)
    ∷ line 13 1002 0 (Deliver 5) (Ignored NotForMe)
    ∷ line 14 1002 2 (Deliver 5) (relayed 6)
    ∷ line 15 1003 1 (Deliver 6) (Ignored NotForMe)
    ∷ line 16 1003 3 (Deliver 6) (delivered 7)
    ∷ line 17 1004 2 (Deliver 7) (Ignored Duplicate)
    ∷ []
