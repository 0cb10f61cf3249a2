-- What the keys of a table, or of an object of another notation, say.
use Rattle.std.specs.Prelude.{◌≡◌, ℕ, Bool, List, codes, Result, Ok, Err}
use Rattle.its_geometry.specs.Area.{GeoArea}
use Rattle.its_geometry.specs.declared.area.Shape.{Shape}
use Rattle.its_geometry.specs.declared.area.Shape.TheVariants as shapes
use Rattle.its_words.specs.Fields.{AreOctets, FieldValues, IsNumber, IsPlace, IsText, IsTruth}
use Rattle.its_words.specs.Fields.{IsUntaken, IsWhole}
use Rattle.its_words.specs.Verbs.{verb_word}
use Rattle.its_words.specs.declared.keys.fault.KeyFault.TheVariants as key_faults
use Rattle.its_words.specs.declared.keys.fault.KeyFault.{KeyFault}
use Rattle.its_words.specs.declared.keys.key.Key.TheVariants as keys
use Rattle.its_words.specs.declared.keys.key.Key.{Key}
use Rattle.its_model.specs.Calls.{OwnCall, GbcRequest, ShbRequest}
use Rattle.its_model.specs.Calls.OwnCall.{Move, Open, Close, Tick, SendShb, SendGbc, SendGac}
use Rattle.its_model.specs.Calls.OwnCall.{Restart}
use Rattle.its_model.specs.Packet.{Message}
use Rattle.its_model.specs.World.{What}
use Rattle.its_model.specs.World.What.{Calls, Deliver}
use Rattle.its_words.specs.Verbs.{verb_of}

-- the word of a shape
abbrev pub shape_word : Shape → List ℕ
shape_word shapes.Circle = codes "circle"
shape_word shapes.Rectangle = codes "rectangle"
shape_word shapes.Ellipse = codes "ellipse"

-- the keys say this area: its shape, its centre and its measures
abbrev pub SaysArea : FieldValues → GeoArea → Type 0
SaysArea values area =
    IsText values keys.Shape (shape_word area.shape)
    × IsPlace values keys.Alat keys.Alon area.centre
    × IsNumber values keys.A area.a
    × IsNumber values keys.B area.b
    × IsNumber values keys.Angle area.angle

-- the keys say this message: its port, its port info and its octets
abbrev pub SaysMessage : FieldValues → Message → Type 0
SaysMessage values message =
    IsNumber values keys.Port message.port
    × IsNumber values keys.Info message.info
    × AreOctets values keys.Payload message.payload

-- the keys say this request for all in reach
abbrev pub SaysShb : FieldValues → ShbRequest → Type 0
SaysShb values request =
    IsNumber values keys.Tc request.class × SaysMessage values request.message

-- the keys say this request for an area
abbrev pub SaysGbc : FieldValues → GbcRequest → Type 0
SaysGbc values request =
    IsNumber values keys.Tc request.class
    × IsNumber values keys.Lt request.lifetime
    × IsNumber values keys.Hops request.max_hops
    × SaysArea values request.area
    × SaysMessage values request.message

-- the keys beside `do` say what this call of a station is made with
abbrev pub SaysOwn : FieldValues → OwnCall → Type 0
SaysOwn values (Move place accurate speed heading) =
    IsPlace values keys.Lat keys.Lon place
    × IsTruth values keys.Pai accurate
    × IsWhole values keys.Speed speed
    × IsNumber values keys.Heading heading
SaysOwn values (Open port) = IsNumber values keys.Port port
SaysOwn values (Close port) = IsNumber values keys.Port port
SaysOwn values (Tick jitter) = IsNumber values keys.Jitter jitter
SaysOwn values (SendShb request) = SaysShb values request
SaysOwn values (SendGbc request) = SaysGbc values request
SaysOwn values (SendGac request) = SaysGbc values request
SaysOwn values (Restart number) = IsNumber values keys.Number number

-- the same of what happens in a world
abbrev pub SaysKeys : FieldValues → What → Type 0
SaysKeys values (Calls call) = SaysOwn values call
SaysKeys values (Deliver frame) = IsNumber values keys.Frame frame

-- the keys say that this is done: its word stands under `do`, and its keys say the rest
abbrev pub SaysWhat : FieldValues → What → Type 0
SaysWhat values what =
    IsText values keys.Do (verb_word (verb_of what)) × SaysKeys values what

-- no measure of the shape that stands under `shape` stands under the key: of a circle that is 0
abbrev pub IsBadMeasure : FieldValues → Key → Type 0
IsBadMeasure values key =
    (IsText values keys.Shape (codes "circle") → ¬ IsNumber values key 0)
    × ((¬ IsText values keys.Shape (codes "circle")) → IsUntaken values key)

-- nothing that the key takes stands under it
abbrev pub IsBadAt : FieldValues → Key → Type 0
IsBadAt values keys.Do = (what : What) → ¬ IsText values keys.Do (verb_word (verb_of what))
IsBadAt values keys.Pai = (truth : Bool) → ¬ IsTruth values keys.Pai truth
IsBadAt values keys.Shape = (shape : Shape) → ¬ IsText values keys.Shape (shape_word shape)
IsBadAt values keys.Payload = (octets : List ℕ) → ¬ AreOctets values keys.Payload octets
IsBadAt values keys.B = IsBadMeasure values keys.B
IsBadAt values keys.Angle = IsBadMeasure values keys.Angle
IsBadAt values key = IsUntaken values key

-- the fault is that of a key under which nothing stands that it takes, if it is one of a key
abbrev pub IsBadOf : FieldValues → KeyFault → Type 0
IsBadOf values (key_faults.Refused key wrong) = IsBadAt values key
IsBadOf values key_faults.OutOfMemory = Unit {0}

-- nothing was read, and the fault is that of the word, if it is one of a key
abbrev pub IsBadWord : {T : Type 0} → Result T KeyFault → Type 0
IsBadWord (Ok x) = ⊥
IsBadWord (Err (key_faults.Refused key wrong)) = key ≡ keys.Do
IsBadWord (Err key_faults.OutOfMemory) = Unit {0}
