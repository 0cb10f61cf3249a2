-- What a line asks for, in short, and the right that it needs.
use Rattle.std.specs.Prelude.{◌<◌, ℕ, Option, Some, None, IfSome, length}
use Rattle.std.specs.Int.Bits.{bit_and}
use Rattle.its_station.specs.declared.call.Call.TheVariants as calls
use Rattle.its_station.specs.declared.call.OwnCall.{OwnCall}
use Rattle.its_station.specs.declared.call.OwnCall.TheVariants as own_calls
use Rattle.its_words.specs.declared.keys.verb.Verb.{Verb}
use Rattle.its_words.specs.declared.keys.verb.Verb.TheVariants as verbs
use Rattle.its_lines.specs.declared.asked.Asked.{Asked}
use Rattle.its_lines.specs.declared.asked.Right.{Right}
use Rattle.its_lines.specs.declared.asked.Right.TheVariants as rights
use Rattle.its_lines.specs.declared.asked.Rights.{Rights}
use Rattle.its_lines.specs.declared.request.Query.{Query}
use Rattle.its_lines.specs.declared.request.Query.TheVariants as queries
use Rattle.its_lines.specs.declared.request.Request.{Request}
use Rattle.its_lines.specs.declared.request.Request.TheVariants as asks
use Rattle.its_lines.specs.declared.word.LineWord.{LineWord}
use Rattle.its_lines.specs.declared.word.LineWord.TheVariants as line_words

-- the bit of a right
abbrev pub right_bit : Right → ℕ
right_bit rights.Send = 1
right_bit rights.Receive = 2
right_bit rights.Move = 4
right_bit rights.Ports = 8
right_bit rights.Restart = 16

-- the right that a call of the station's own applications needs
abbrev pub own_right : OwnCall → Right
own_right (own_calls.MoveTo place pai speed heading) = rights.Move
own_right (own_calls.Open port) = rights.Ports
own_right (own_calls.Close port) = rights.Ports
own_right (own_calls.Tick jitter) = rights.Send
own_right (own_calls.SendShb r) = rights.Send
own_right (own_calls.SendGeobroadcast r) = rights.Send
own_right (own_calls.SendGeoanycast r) = rights.Send
own_right (own_calls.Restart number) = rights.Restart

-- the right that a line needs, if it needs one
abbrev pub right_of : Request → Option Right
right_of asks.Nothing = None
right_of (asks.Call moment (calls.Own call)) = Some (own_right call)
right_of (asks.Call moment (calls.Receive frame)) = Some rights.Receive
right_of (asks.Verified moment octets) = Some rights.Receive
right_of (asks.Shb moment shb) = Some rights.Send
right_of (asks.Release moment) = None
right_of (asks.Query at query) = None
right_of (asks.Bad fault) = None

-- the line needs no right, or has the one that it needs
abbrev pub IsAllowed : Rights → Request → Type 0
IsAllowed given asked =
    IfSome (right_of asked) (λ right. 0 < bit_and given.bits (right_bit right))

-- the word of a call of the station's own applications
abbrev pub own_verb : OwnCall → Verb
own_verb (own_calls.MoveTo place pai speed heading) = verbs.Move
own_verb (own_calls.Open port) = verbs.Open
own_verb (own_calls.Close port) = verbs.Close
own_verb (own_calls.Tick jitter) = verbs.Tick
own_verb (own_calls.SendShb r) = verbs.Shb
own_verb (own_calls.SendGeobroadcast r) = verbs.Gbc
own_verb (own_calls.SendGeoanycast r) = verbs.Gac
own_verb (own_calls.Restart number) = verbs.Restart

-- the port that a call opens or closes, or to which it sends
abbrev pub own_port : OwnCall → Option ℕ
own_port (own_calls.MoveTo place pai speed heading) = None
own_port (own_calls.Open port) = Some port
own_port (own_calls.Close port) = Some port
own_port (own_calls.Tick jitter) = None
own_port (own_calls.SendShb r) = Some r.port
own_port (own_calls.SendGeobroadcast r) = Some r.port
own_port (own_calls.SendGeoanycast r) = Some r.port
own_port (own_calls.Restart number) = None

-- the length of the payload that a call sends
abbrev pub payload_length : OwnCall → ℕ
payload_length (own_calls.MoveTo place pai speed heading) = 0
payload_length (own_calls.Open port) = 0
payload_length (own_calls.Close port) = 0
payload_length (own_calls.Tick jitter) = 0
payload_length (own_calls.SendShb r) = length r.payload.items
payload_length (own_calls.SendGeobroadcast r) = length r.payload.items
payload_length (own_calls.SendGeoanycast r) = length r.payload.items
payload_length (own_calls.Restart number) = 0

-- the word of a query
abbrev pub query_word : Query → LineWord
query_word (queries.NextBeacon jitter) = line_words.NextBeacon
query_word (queries.Neighbours after) = line_words.Neighbours
query_word (queries.LookUp address) = line_words.LookUp
query_word (queries.ReadFrame frame) = line_words.ReadFrame
query_word queries.Counts = line_words.Counts
query_word queries.NextDue = line_words.NextDue
query_word (queries.Seal frame message) = line_words.Seal

-- what a line asks for, in short
abbrev pub asked_of : Request → Asked
asked_of asks.Nothing = record { word = None; port = None; payload_length = 0 }
asked_of (asks.Call moment (calls.Own call)) =
    record {
      word = Some (line_words.Own (own_verb call));
      port = own_port call;
      payload_length = payload_length call;
    }
asked_of (asks.Call moment (calls.Receive frame)) =
    record { word = Some line_words.Receive; port = None; payload_length = 0 }
asked_of (asks.Verified moment octets) =
    record { word = Some line_words.Receive; port = None; payload_length = 0 }
asked_of (asks.Shb moment shb) =
    record {
      word = Some (line_words.Own verbs.Shb);
      port = Some shb.request.port;
      payload_length = length shb.request.payload.items;
    }
asked_of (asks.Release moment) =
    record { word = Some line_words.Release; port = None; payload_length = 0 }
asked_of (asks.Query at query) =
    record { word = Some (query_word query); port = None; payload_length = 0 }
asked_of (asks.Bad fault) = record { word = None; port = None; payload_length = 0 }
