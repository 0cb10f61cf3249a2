-- What is asked of a station, and what it answers (EN 302 636-4-1 clauses 8 and 10, in this
-- profile).
use Rattle.std.specs.Prelude.{ℕ, ℤ, Bool, Option}
use Rattle.its_gnvalue.specs.Values.{Position}
use Rattle.its_geometry.specs.Area.{GeoArea}
use Rattle.its_model.specs.Packet.{Message, Transmission, AreaKind}
use Rattle.its_model.specs.Packet.AreaKind.{geobroadcast, geoanycast}
use Rattle.its_faults.specs.declared.frame.FrameFault.{FrameFault}
use Rattle.its_faults.specs.declared.secured.SecuredFault.{SecuredFault}

-- to be sent to all stations in reach
pub record ShbRequest : Type 0 where
  pub class : ℕ
  pub message : Message

-- to be sent to all stations in an area, or to any one of them
pub record GbcRequest : Type 0 where
  pub class : ℕ
  pub lifetime : ℕ
  pub max_hops : ℕ
  pub area : GeoArea
  pub message : Message

-- what a station's own applications ask of it
pub data OwnCall : Type 0 where
  Move : (place : Position) (accurate : Bool) (speed : ℤ) (heading : ℕ) → OwnCall
  Open : (port : ℕ) → OwnCall
  Close : (port : ℕ) → OwnCall
  Tick : (jitter : ℕ) → OwnCall
  SendShb : (request : ShbRequest) → OwnCall
  SendGbc : (request : GbcRequest) → OwnCall
  SendGac : (request : GbcRequest) → OwnCall
  Restart : (number : ℕ) → OwnCall

-- the call by which a packet of the kind is sent
abbrev pub area_call : AreaKind → GbcRequest → OwnCall
area_call geobroadcast request = SendGbc request
area_call geoanycast request = SendGac request

-- a call: one of its own, a frame that came, or octets that came and are no frame
pub data Call : Type 0 where
  Own : (call : OwnCall) → Call
  Receive : (frame : Transmission) → Call
  Junk : (fault : FrameFault) → Call

-- why a frame is ignored
pub data Why : Type 0 where
  NotForMe : Why
  OwnSource : Why
  SenderMismatch : Why
  Duplicate : Why

-- Why a call is refused. It then changes nothing.
pub data Refusal : Type 0 where
  MomentEarlier : Refusal  -- S1
  MomentTooLate : Refusal  -- S2
  JitterRange : Refusal  -- S9
  BadFrame : (fault : FrameFault) → Refusal  -- S3
  BadSecured : (fault : SecuredFault) → Refusal  -- S3, of a frame that came with its plain part
  AlreadyOpen : Refusal  -- S8 B2
  PortsFull : Refusal  -- S8 B3
  NotOpen : Refusal  -- S8 B4
  PayloadTooLong : Refusal  -- S6
  HopLimitZero : Refusal  -- S7
  TableFull : Refusal  -- S4
  NoSuchFrame : Refusal  -- M3, of a world
  NoSuchStation : Refusal  -- M4, of a world

-- What is answered. F is what stands for the frame that is given: the frame itself, or its number
-- in a world.
pub data Answer (F : Type 0) : Type 0 where
  Moved : Answer F
  Opened : Answer F
  Closed : Answer F
  Restarted : Answer F
  Quiet : Answer F
  Sent : (frame : F) → Answer F
  Ignored : (why : Why) → Answer F
  Accepted : (handed : Option Message) (relayed : Option F) → Answer F
  Refused : (refusal : Refusal) → Answer F
