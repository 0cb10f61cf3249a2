-- What a line asks for.
use Rattle.std.specs.Prelude.{◌≡◌, ◌≢◌, ◌<◌, ◌≤◌, ◌^◌, ℕ, ℤ, pos, List, codes, length, unsigned_abs}
use Rattle.std.specs.Prelude.{Bool, IsTrue, IsFalse, ◌⊎◌, IsUtf8, Option, Some, None, IfNone, IfSome, IsSome, Ok}
use Rattle.std.specs.Prelude.{is_some}
use Rattle.std.specs.Option.{option_and_then}
use Rattle.std.specs.String.{string_bytes}
use Rattle.hex.specs.Hex.{decode_of, decode_sized}
use Rattle.serde_json.specs.Data.{Data}
use Rattle.serde_json.specs.Find.{get, as_bool, as_i64, as_number, as_object, as_str}
use Rattle.serde_json.specs.Read.{read}
use Rattle.its_words.specs.Fields.{FieldValues}
use Rattle.its_words.specs.declared.keys.fault.KeyFault.TheVariants as key_faults
use Rattle.its_words.specs.declared.keys.fault.KeyFault.{KeyFault}
use Rattle.its_words.specs.declared.keys.key.Key.TheVariants as keys
use Rattle.its_words.specs.declared.keys.key.Key.{Key}
use Rattle.its_model.specs.Calls.{ShbRequest}
use Rattle.its_model.specs.World.What.{Calls}
use Rattle.its_words.specs.Reading.{IsBadAt, SaysShb, SaysWhat}
use Rattle.its_station.specs.Requests.{owned_shb}
use Rattle.its_station.specs.Runs.{own_of}
use Rattle.its_station.specs.declared.call.Call.{Call}
use Rattle.its_station.specs.declared.call.Call.TheVariants as calls
use Rattle.its_station.specs.declared.call.OwnCall.{OwnCall}
use Rattle.its_lines.specs.Lines.{LineText, IsBlank}
use Rattle.its_lines.specs.declared.request.QueryKey.{QueryKey}
use Rattle.its_lines.specs.declared.request.QueryKey.TheVariants as query_keys
use Rattle.its_lines.specs.declared.request.Request.{Request}
use Rattle.its_lines.specs.declared.request.Request.TheVariants as asks
use Rattle.its_lines.specs.declared.request.Id.{Id}
use Rattle.its_lines.specs.declared.request.Id.TheVariants as ids
use Rattle.its_lines.specs.declared.request.LineFault.TheVariants as faults
use Rattle.its_lines.specs.declared.request.Query.{Query}
use Rattle.its_lines.specs.declared.request.Query.TheVariants as queries
use Rattle.its_lines.specs.Words.{line_word, query_key}
use Rattle.its_lines.specs.declared.word.LineWord.{LineWord}
use Rattle.its_lines.specs.declared.request.ShbWithMedia.{ShbWithMedia}
use Rattle.its_lines.specs.declared.request.VerifiedOctets.{VerifiedOctets}
use Rattle.its_lines.specs.declared.reading.OctetsFault.{OctetsFault}
use Rattle.its_lines.specs.declared.reading.OctetsFault.TheVariants as octets_faults
use Rattle.its_lines.specs.declared.reading.ReadFault.{ReadFault}
use Rattle.its_lines.specs.declared.reading.ReadFault.TheVariants as read_faults

-- the octets are UTF-8 and the text of one JSON object, this one
abbrev pub IsObject : List ℕ → Data → Type 0
IsObject octets members =
    IsUtf8 octets × (read octets ≡ Some members) × IsSome (as_object members)

-- the octets are UTF-8 and the text of one JSON object
abbrev pub IsJsonObject : List ℕ → Type 0
IsJsonObject octets = (members : Data) × IsObject octets members

-- the whole number under a word
abbrev pub integer_at : List ℕ → Data → Option ℤ
integer_at word members = option_and_then as_i64 (option_and_then as_number (get word members))

-- the text under a word
abbrev pub text_at : List ℕ → Data → Option (List ℕ)
text_at word members = option_and_then as_str (get word members)

-- what a bench calls the line by: nothing stands under `id`, or a text of at most 128 octets, or a
-- whole number between -2^53 and 2^53
abbrev pub IsId : Data → Option Id → Type 0
IsId members None = get (codes "id") members ≡ None
IsId members (Some (ids.Text text)) =
    (text_at (codes "id") members ≡ Some (string_bytes text)) × (length (string_bytes text) ≤ 128)
IsId members (Some (ids.Number number)) =
    (integer_at (codes "id") members ≡ Some number)
    × (unsigned_abs number < 2 ^ 53)

-- the moment under `at`, which is not below 0
abbrev pub IsMoment : Data → ℕ → Type 0
IsMoment members moment = integer_at (codes "at") members ≡ Some (pos moment)

-- the moment of a line: `now` where that is given, else the one under `at`
abbrev pub IsMomentOf : Option ℕ → Data → ℕ → Type 0
IsMomentOf None members moment = IsMoment members moment
IsMomentOf (Some now) members moment = moment ≡ now

-- the same of what may have none: then nothing stands under `at`
abbrev pub IsAskedAt : Option ℕ → Data → Option ℕ → Type 0
IsAskedAt (Some now) members at = at ≡ Some now
IsAskedAt None members (Some moment) = IsMoment members moment
IsAskedAt None members None = get (codes "at") members ≡ None

-- the word under `do`
abbrev pub IsWord : Data → List ℕ → Type 0
IsWord members word = text_at (codes "do") members ≡ Some word

-- What was found under `do`: the word of one of those that a line takes, or of none of them.
pub record IsWordUnder (members : Data) (found : Option LineWord) : Type 0 where
  pub word : IfSome found (λ word. IsWord members (line_word word))
  pub none : IfNone found ((word : LineWord) → ¬ IsWord members (line_word word))

-- the octets of the hexadecimal digits under a word
abbrev pub IsOctetsText : List ℕ → Data → List ℕ → Type 0
IsOctetsText word members octets =
    (digits : List ℕ) × (text_at word members ≡ Some digits) × (decode_of digits ≡ Ok octets)

-- so under `frame`
abbrev pub IsFrameText : Data → List ℕ → Type 0
IsFrameText members frame = IsOctetsText (codes "frame") members frame

-- a frame came with a key for the plain part that a security entity verified
abbrev pub ComesVerified : Data → Type 0
ComesVerified members =
    IsWord members (codes "receive") × IsSome (get (codes "plain") members)

-- the object asks that this frame be received with this plain part
abbrev pub AsksVerified : Data → VerifiedOctets → Type 0
AsksVerified members octets =
    ComesVerified members × IsFrameText members octets.frame.items
    × IsOctetsText (codes "plain") members octets.plain.items

-- the object is a single-hop broadcast with a key for its media-dependent data
abbrev pub BringsMedia : Data → Type 0
BringsMedia members = IsWord members (codes "shb") × IsSome (get (codes "media") members)

-- these four octets are the hexadecimal digits under `media`
abbrev pub IsMediaText : Data → List ℕ → Type 0
IsMediaText members media =
    (digits : List ℕ) × (text_at (codes "media") members ≡ Some digits)
    × (decode_sized digits 4 ≡ Ok media)

-- the answer may have a secured frame: its room has to be that of the longest
abbrev pub AsksSecuredIn : Data → Type 0
AsksSecuredIn members =
    IsWord members (codes "seal") ⊎ IsWord members (codes "release") ⊎ ComesVerified members

abbrev pub AsksSecured : LineText → Type 0
AsksSecured line =
    IsFalse line.longer × (¬ IsBlank line.octets) × (members : Data) × IsObject line.octets members
    × AsksSecuredIn members

-- the jitter under `jitter`
abbrev pub IsJitter : Data → ℕ → Type 0
IsJitter members jitter = integer_at (codes "jitter") members ≡ Some (pos jitter)

-- what stands under the words of an object
abbrev pub values_in : Data → FieldValues
values_in members =
    record {
      has = λ word. is_some (get word members);
      integer = λ word. integer_at word members;
      truth = λ word. option_and_then as_bool (get word members);
      text = λ word. text_at word members;
    }

-- the object says this call of a station's own applications: the word of it stands under `do`, and
-- what it is made with under the keys of that word
abbrev pub SaysCall : Data → OwnCall → Type 0
SaysCall members call = SaysWhat (values_in members) (Calls (own_of call))

-- the object asks for this single-hop broadcast with this media-dependent data
abbrev pub AsksShb : Data → ShbWithMedia → Type 0
AsksShb members shb =
    BringsMedia members × SaysShb (values_in members) (owned_shb shb.request)
    × IsMediaText members shb.media

-- the object asks for this call: by `receive` for a frame that came without a plain part, else by
-- the keys of a scenario's event
abbrev pub AsksCall : Data → Call → Type 0
AsksCall members (calls.Receive frame) =
    IsWord members (codes "receive") × (¬ ComesVerified members)
    × IsFrameText members frame.items
AsksCall members (calls.Own call) =
    (¬ IsWord members (codes "receive")) × (¬ IsWord members (codes "deliver"))
    × (¬ BringsMedia members) × SaysCall members call

-- the object asks this of what the station knows
abbrev pub AsksQuery : Data → Query → Type 0
AsksQuery members (queries.NextBeacon jitter) =
    IsWord members (codes "next_beacon") × IsJitter members jitter
AsksQuery members (queries.Neighbours after) = IsWord members (codes "neighbours")
AsksQuery members (queries.LookUp address) = IsWord members (codes "look_up")
AsksQuery members (queries.ReadFrame frame) =
    IsWord members (codes "read_frame") × IsFrameText members frame.items
AsksQuery members queries.Counts = IsWord members (codes "counts")
AsksQuery members queries.NextDue = IsWord members (codes "next_due")
AsksQuery members (queries.Seal frame message) =
    IsWord members (codes "seal") × IsFrameText members frame.items
    × IsOctetsText (codes "message") members message.items

-- the word asks for what the station knows
abbrev pub IsQueryWord : Data → Type 0
IsQueryWord members =
    IsWord members (codes "next_beacon") ⊎ IsWord members (codes "neighbours")
    ⊎ IsWord members (codes "look_up") ⊎ IsWord members (codes "read_frame")
    ⊎ IsWord members (codes "counts") ⊎ IsWord members (codes "seal")
    ⊎ IsWord members (codes "next_due")

-- the first bad key of a call is this one, where its moment is good: never that of the moment, and
-- one under which nothing stands that it takes
pub record IsBadCallKey (members : Data) (key : Key) : Type 0 where
  pub what : ¬ (key ≡ keys.At)
  pub own : (¬ IsWord members (codes "receive")) → (¬ IsWord members (codes "deliver"))
      → IsBadAt (values_in members) key
  pub deliver : IsWord members (codes "deliver") → key ≡ keys.Do
  pub frame : IsWord members (codes "receive")
      → (key ≡ keys.Frame) × ((frame : List ℕ) → ¬ IsFrameText members frame)

-- the object's first bad key is this one; if its word asks for what the station knows, only the
-- moment is one
pub record IsBadKey (now : Option ℕ) (members : Data) (key : Key) : Type 0 where
  pub asked : IsQueryWord members → key ≡ keys.At
  pub moment : ((moment : ℕ) → ¬ IsMomentOf now members moment) → key ≡ keys.At
  pub call : (moment : ℕ) → IsMomentOf now members moment → IsBadCallKey members key

-- the first bad key of those that are no call's is this one
abbrev pub IsBadAsked : Data → QueryKey → Type 0
IsBadAsked members query_keys.Plain =
    ComesVerified members × ((frame : List ℕ) × IsFrameText members frame)
    × ((plain : List ℕ) → ¬ IsOctetsText (codes "plain") members plain)
IsBadAsked members query_keys.Media =
    BringsMedia members × ((request : ShbRequest) × SaysShb (values_in members) request)
    × ((media : List ℕ) → ¬ IsMediaText members media)
IsBadAsked members key = IsQueryWord members

-- the members of an object ask for this: a call, what the station knows, or they have a bad key
abbrev pub AsksIn : Option ℕ → Data → Request → Type 0
AsksIn now members asks.Nothing = ⊥
AsksIn now members (asks.Call moment call) = IsMomentOf now members moment × AsksCall members call
AsksIn now members (asks.Verified moment octets) =
    IsMomentOf now members moment × AsksVerified members octets
AsksIn now members (asks.Shb moment shb) =
    IsMomentOf now members moment × AsksShb members shb
AsksIn now members (asks.Release moment) =
    IsMomentOf now members moment × IsWord members (codes "release")
AsksIn now members (asks.Query at query) = IsAskedAt now members at × AsksQuery members query
AsksIn now members (asks.Bad (faults.Key key wrong)) = IsBadKey now members key
AsksIn now members (asks.Bad (faults.Word meant)) = IsBadKey now members keys.Do
AsksIn now members (asks.Bad (faults.Query key wrong)) = IsBadAsked members key
AsksIn now members (asks.Bad fault) = ⊥

-- so, and they have this `id`: a bad one is told first
abbrev pub AsksOf : Option ℕ → Data → Option Id → Request → Type 0
AsksOf now members id (asks.Bad faults.Id) = (id ≡ None) × IsSome (get (codes "id") members)
AsksOf now members id asked = IsId members id × AsksIn now members asked

-- The line asks for this: nothing where it is blank; a longer line than is kept and one that is no
-- JSON object can't be read, and have no `id`.
abbrev pub Asks : Option ℕ → LineText → Option Id → Request → Type 0
Asks now line id asks.Nothing = (id ≡ None) × IsFalse line.longer × IsBlank line.octets
Asks now line id (asks.Bad faults.NotJson) =
    (id ≡ None) × (IsTrue line.longer ⊎ ((¬ IsBlank line.octets) × ¬ IsJsonObject line.octets))
Asks now line id asked =
    IsFalse line.longer × (¬ IsBlank line.octets) × (members : Data) × IsObject line.octets members
    × AsksOf now members id asked

-- a line of these octets, and whether there are more
abbrev pub line_of : List ℕ → Bool → LineText
line_of octets longer = record { octets = octets; longer = longer }

-- if a call is asked for, this holds of it
abbrev pub IsAskedIn : (Call → Type 0) → Request → Type 0
IsAskedIn P (asks.Call moment call) = P call
IsAskedIn P asked = Unit {0}

-- ---- words of private functions

-- the fault of a key as that of a line
abbrev pub read_fault_of : KeyFault → ReadFault
read_fault_of (key_faults.Refused key wrong) = read_faults.Bad (faults.Key key wrong)
read_fault_of key_faults.OutOfMemory = read_faults.OutOfMemory

-- the fault is that of the moment
abbrev pub IsMomentFault : KeyFault → Type 0
IsMomentFault (key_faults.Refused key wrong) = key ≡ keys.At
IsMomentFault key_faults.OutOfMemory = ⊥

-- the octets of no digits, unless an allocation failed
abbrev pub IsNoOctets : List ℕ → Data → OctetsFault → Type 0
IsNoOctets word members (octets_faults.Bad wrong) =
    (octets : List ℕ) → ¬ IsOctetsText word members octets
IsNoOctets word members octets_faults.OutOfMemory = Unit {0}

-- the fault is that of this key, under which no digits stand, unless an allocation failed
abbrev pub IsOfKey : QueryKey → Data → ReadFault → Type 0
IsOfKey key members (read_faults.Bad (faults.Query other wrong)) =
    (other ≡ key) × ((octets : List ℕ) → ¬ IsOctetsText (query_key key) members octets)
IsOfKey key members (read_faults.Bad fault) = ⊥
IsOfKey key members read_faults.OutOfMemory = Unit {0}

-- the fault is that of the first bad key of a frame that came verified, unless an allocation failed
abbrev pub IsVerifiedBad : Data → ReadFault → Type 0
IsVerifiedBad members (read_faults.Bad (faults.Key key wrong)) =
    (key ≡ keys.Frame) × ((frame : List ℕ) → ¬ IsFrameText members frame)
IsVerifiedBad members (read_faults.Bad (faults.Query key wrong)) =
    (key ≡ query_keys.Plain) × IsBadAsked members query_keys.Plain
IsVerifiedBad members (read_faults.Bad fault) = ⊥
IsVerifiedBad members read_faults.OutOfMemory = Unit {0}

-- the fault is that of the first bad key of a single-hop broadcast with media-dependent data, unless an
-- allocation failed
abbrev pub IsShbBad : Data → ReadFault → Type 0
IsShbBad members (read_faults.Bad (faults.Key key wrong)) =
    (¬ (key ≡ keys.At)) × IsBadAt (values_in members) key
IsShbBad members (read_faults.Bad (faults.Query key wrong)) =
    (key ≡ query_keys.Media) × IsBadAsked members query_keys.Media
IsShbBad members (read_faults.Bad fault) = ⊥
IsShbBad members read_faults.OutOfMemory = Unit {0}

-- the fault is that of `media`, under which no four octets stand
abbrev pub IsMediaFault : Data → ReadFault → Type 0
IsMediaFault members (read_faults.Bad (faults.Query key wrong)) =
    (key ≡ query_keys.Media) × ((media : List ℕ) → ¬ IsMediaText members media)
IsMediaFault members (read_faults.Bad fault) = ⊥
IsMediaFault members read_faults.OutOfMemory = ⊥

-- `seal` with this frame and message
abbrev pub AsksSeal : Data → Query → Type 0
AsksSeal members (queries.Seal frame message) =
    IsFrameText members frame.items × IsOctetsText (codes "message") members message.items
AsksSeal members query = ⊥

-- the fault is that of the frame
abbrev pub IsFrameKey : KeyFault → Type 0
IsFrameKey (key_faults.Refused key wrong) = key ≡ keys.Frame
IsFrameKey key_faults.OutOfMemory = ⊥

-- the fault is that of the `id`, which stands there
abbrev pub IsIdFault : Data → ReadFault → Type 0
IsIdFault members (read_faults.Bad faults.Id) = IsSome (get (codes "id") members)
IsIdFault members (read_faults.Bad fault) = ⊥
IsIdFault members read_faults.OutOfMemory = Unit {0}

-- the key is one of a query
abbrev pub IsOfQueries : QueryKey → Type 0
IsOfQueries query_keys.Plain = ⊥
IsOfQueries query_keys.Media = ⊥
IsOfQueries key = Unit {0}

-- the fault is that of a key of what is asked
abbrev pub IsOfQuery : ReadFault → Type 0
IsOfQuery (read_faults.Bad (faults.Query key wrong)) = IsOfQueries key
IsOfQuery (read_faults.Bad fault) = ⊥
IsOfQuery read_faults.OutOfMemory = Unit {0}

-- the same, where something is asked
abbrev pub IsQueryFault : Data → ReadFault → Type 0
IsQueryFault members fault = IsOfQuery fault × IsQueryWord members

-- the fault of a call is that of its first bad key
abbrev pub IsBadCallKeyOf : Data → KeyFault → Type 0
IsBadCallKeyOf members (key_faults.Refused key wrong) = IsBadCallKey members key
IsBadCallKeyOf members key_faults.OutOfMemory = Unit {0}

-- the fault of a key is told as itself, or where it is that of the word, with one that may be meant;
-- to look for that may need memory
abbrev pub IsToldAs : KeyFault → ReadFault → Type 0
IsToldAs key_faults.OutOfMemory told = told ≡ read_faults.OutOfMemory
IsToldAs (key_faults.Refused key wrong) (read_faults.Bad (faults.Key other told)) = other ≡ key
IsToldAs (key_faults.Refused key wrong) (read_faults.Bad (faults.Word meant)) = key ≡ keys.Do
IsToldAs (key_faults.Refused key wrong) (read_faults.Bad fault) = ⊥
IsToldAs (key_faults.Refused key wrong) read_faults.OutOfMemory = Unit {0}

-- the fault of the members is that of the first bad one
abbrev pub IsBadOf : Option ℕ → Data → ReadFault → Type 0
IsBadOf now members (read_faults.Bad fault) = AsksIn now members (asks.Bad fault)
IsBadOf now members read_faults.OutOfMemory = Unit {0}
