-- Files of records of any format, as they are read: what one call for the next step gives, and what
-- it leaves of the source.
use Rattle.std.specs.Prelude.{◌≡◌, ℕ, ◌+◌, ◌<◌, ◌≤◌, ◌↔◌, is_err, true, false, IsTrue, List, [], length, take}
use Rattle.std.specs.Prelude.{Option, Some, None, IfSome, MatchOption, Result, Ok, Err, if◌then◌else◌}
use Rattle.std.specs.Io.KnownBytes.{Consumes, Keeps}
use Rattle.std.specs.declared.io.traits.Read as reads
use Rattle.its_linkframe.specs.Captures.{IsCaptured, captured_at, record_octets}
use Rattle.its_linkframe.specs.Reading as captures
use Rattle.its_linkframe.specs.declared.record.CaptureFault.TheVariants as capture_faults
use Rattle.its_linkframe.specs.declared.record.TheConstants.{LONGEST_FRAME}
use Rattle.its_linkframe.specs.declared.source.Source as sources_of
use Rattle.cap_pcap.specs.Formats.{IsFormat, IsGzip}
use Rattle.cap_pcap.specs.Pcap as classic
use Rattle.cap_pcap.specs.Pcapng as blocks
use Rattle.cap_pcap.specs.Reading.{is_io}
use Rattle.cap_pcap.specs.declared.fault.OpenFault.{OpenFault}
use Rattle.cap_pcap.specs.declared.fault.OpenFault.TheVariants as open_faults
use Rattle.cap_pcap.specs.declared.fault.SourceFault.{SourceFault}
use Rattle.cap_pcap.specs.declared.fault.SourceFault.TheVariants as faults
use Rattle.cap_pcap.specs.declared.info.InterfaceInfo.{InterfaceInfo}
use Rattle.cap_pcap.specs.declared.format.Format.{Format}
use Rattle.cap_pcap.specs.declared.format.Format.TheVariants as formats
use Rattle.cap_linklayers.specs.declared.link.LinkLayer.{LinkLayer}
use Rattle.cap_linklayers.specs.declared.link.LinkLayer.TheVariants as layers
use Rattle.cap_pcap.specs.declared.pcap.Stage.TheVariants as classic_stages
use Rattle.cap_pcap.specs.declared.pcapng.Stage.TheVariants as block_stages
use Rattle.cap_pcap.specs.declared.record.Step.{Step}
use Rattle.cap_pcap.specs.declared.record.Step.TheVariants as steps
use Rattle.cap_pcap.specs.declared.source.AnySource.{AnySource}
use Rattle.cap_pcap.specs.declared.source.AnySource.TheVariants as sources

-- ---- a step of each format

-- A step of a capture: a record went, which is a whole bare frame; or the end was met, or a
-- fault. It has no part without a record.
abbrev pub StepsCapture : captures.Reading → captures.Reading → List ℕ → Result Step SourceFault
    → Type 0
StepsCapture was now frame (Ok (steps.Record h)) =
    (h.captured ≡ length frame) × (h.wire ≡ length frame) × (h.layer ≡ Some layers.Bare)
    × (h.fine ≡ record { nanos = 0; finer = false; ticks = Some h.moment }) × (h.interface ≡ 0)
    × IsCaptured (captured_at h.moment frame)
    × Consumes was.rest now.rest (record_octets (captured_at h.moment frame))
StepsCapture was now frame (Ok steps.Interface) = ⊥
StepsCapture was now frame (Ok steps.Passed) = ⊥
StepsCapture was now frame (Ok steps.End) =
    captures.MeetsEnd was.rest now.rest × (now.ended ≡ true)
StepsCapture was now frame (Err (faults.Capture f)) =
    captures.IsReadFault was.rest now.rest f × (now.failed ≡ true)
StepsCapture was now frame (Err faults.CutFile) = ⊥
StepsCapture was now frame (Err faults.Malformed) = ⊥
StepsCapture was now frame (Err faults.LinkType) = ⊥

-- Such a step; but after the end the end is answered, and after a fault C5, and nothing is read. C5
-- comes only then, and the end is met, or a fault, exactly where it is answered.
abbrev pub GivesCaptured : captures.Reading → captures.Reading → List ℕ → Result Step SourceFault
    → Type 0
GivesCaptured was now frame r =
    StepsCapture was now frame r
    × (IsTrue was.ended → (r ≡ Ok steps.End) × (now ≡ was))
    × (IsTrue was.failed → (r ≡ Err (faults.Capture capture_faults.Failed)) × (now ≡ was))
    × (r ≡ Err (faults.Capture capture_faults.Failed) → IsTrue was.failed)
    × (now.failed ≡ is_err r) × ((r ≡ Ok steps.End) ↔ IsTrue now.ended)
    × (now.failures ≡ was.failures + (if is_io r then 1 else 0))

abbrev pub GivesClassic : classic.Reading → classic.Reading → List ℕ → Result Step SourceFault
    → Type 0
GivesClassic was now frame r =
    classic.IsAnswer was.stage now.stage was.keep frame was.rest now.rest r
    × (now.keep ≡ was.keep) × (now.failures ≡ was.failures + (if is_io r then 1 else 0))

abbrev pub GivesBlock : blocks.PcapngReading → blocks.PcapngReading → List ℕ
    → Result Step SourceFault → Type 0
GivesBlock was now frame r =
    blocks.IsAnswer was now frame r
    × (now.keep ≡ was.keep) × (now.failures ≡ was.failures + (if is_io r then 1 else 0))

-- ---- where a step takes memory

-- What a call that answers C4 says of a capture, where the buffer had room for so many octets: that
-- was too little for the longest frame.
abbrev pub LacksCaptured : captures.Reading → captures.Reading → ℕ → Type 0
LacksCaptured was now room = room < LONGEST_FRAME

-- The same of classic pcap: it was too little for what is kept of a frame.
abbrev pub LacksClassic : classic.Reading → classic.Reading → ℕ → Type 0
LacksClassic was now room = room < was.keep

-- The same of pcapng: it was, or the block that was read is an interface, which the list of them
-- can't take.
abbrev pub LacksBlock : blocks.PcapngReading → blocks.PcapngReading → ℕ → Type 0
LacksBlock was now room = was.keep ≤ room → blocks.ReadsInterfaceAt was.stage was now

-- ---- a file of any format

-- the format of a file
abbrev pub format_of_source :
    {S : Type 0} {s : sources_of.Ghosts S} {r : reads.Ghosts S} → AnySource S s r → Format
format_of_source (sources.Capture _) = formats.Capture
format_of_source (sources.Pcap _) = formats.Pcap
format_of_source (sources.Pcapng _) = formats.Pcapng

-- the link layer of its records, where the file says one for all of them
abbrev pub layer_of_source :
    {S : Type 0} {s : sources_of.Ghosts S} {r : reads.Ghosts S} → AnySource S s r
    → Option LinkLayer
layer_of_source (sources.Capture _) = None
layer_of_source (sources.Pcap reader) = classic.layer_at reader.stage
layer_of_source (sources.Pcapng _) = None

-- what it says of the interface that began last
abbrev pub newest_of_source :
    {S : Type 0} {s : sources_of.Ghosts S} {r : reads.Ghosts S} → AnySource S s r
    → Option InterfaceInfo
newest_of_source (sources.Capture _) = None
newest_of_source (sources.Pcap reader) = classic.info_at reader.stage
newest_of_source (sources.Pcapng reader) = blocks.newest_in reader.interfaces

-- one call, which leaves the file one of its format
abbrev pub Gives :
    {S : Type 0} {s : sources_of.Ghosts S} {r : reads.Ghosts S} → AnySource S s r → AnySource S s r
    → List ℕ → Result Step SourceFault → Type 0
Gives (sources.Capture was) (sources.Capture now) frame r = GivesCaptured was now frame r
Gives (sources.Pcap was) (sources.Pcap now) frame r = GivesClassic was now frame r
Gives (sources.Pcapng was) (sources.Pcapng now) frame r = GivesBlock was now frame r
Gives (sources.Capture was) (sources.Pcap now) frame r = ⊥
Gives (sources.Capture was) (sources.Pcapng now) frame r = ⊥
Gives (sources.Pcap was) (sources.Capture now) frame r = ⊥
Gives (sources.Pcap was) (sources.Pcapng now) frame r = ⊥
Gives (sources.Pcapng was) (sources.Capture now) frame r = ⊥
Gives (sources.Pcapng was) (sources.Pcap now) frame r = ⊥

-- where one call takes memory
abbrev pub Lacks :
    {S : Type 0} {s : sources_of.Ghosts S} {r : reads.Ghosts S} → AnySource S s r → AnySource S s r
    → ℕ → Type 0
Lacks (sources.Capture was) (sources.Capture now) room = LacksCaptured was now room
Lacks (sources.Pcap was) (sources.Pcap now) room = LacksClassic was now room
Lacks (sources.Pcapng was) (sources.Pcapng now) room = LacksBlock was now room
Lacks (sources.Capture was) (sources.Pcap now) room = ⊥
Lacks (sources.Capture was) (sources.Pcapng now) room = ⊥
Lacks (sources.Pcap was) (sources.Capture now) room = ⊥
Lacks (sources.Pcap was) (sources.Pcapng now) room = ⊥
Lacks (sources.Pcapng was) (sources.Capture now) room = ⊥
Lacks (sources.Pcapng was) (sources.Pcap now) room = ⊥

-- A file of which nothing was read: so many octets of a frame are kept (of a capture, all), these
-- its source has, and so many calls of the source failed.
abbrev pub IsAtStart :
    {S : Type 0} {s : sources_of.Ghosts S} {r : reads.Ghosts S} → ℕ → Option (List ℕ) → ℕ
    → AnySource S s r → Type 0
IsAtStart keep rest failures (sources.Capture r) =
    r ≡ record { failed = false; ended = false; rest = rest; failures = failures }
IsAtStart keep rest failures (sources.Pcap r) =
    r ≡ record { stage = classic_stages.Start; keep = keep; rest = rest; failures = failures }
IsAtStart keep rest failures (sources.Pcapng r) =
    r ≡ record {
      stage = block_stages.Start;
      interfaces = [];
      next = 0;
      keep = keep;
      rest = rest;
      failures = failures;
    }

-- The format that is given, or else the one that the first four octets say.
abbrev pub HasFormat : Option Format → Option (List ℕ) → Format → Type 0
HasFormat given octets format =
    MatchOption given (IfSome octets (λ w. IsFormat (take 4 w) format)) (λ f. format ≡ f)

-- why a file with these octets is not opened
abbrev pub IsOpenFault : Option (List ℕ) → OpenFault → Type 0
IsOpenFault octets open_faults.Io = Unit {0}
IsOpenFault octets open_faults.Gzip = IfSome octets (λ w. IsGzip (take 4 w))

-- A file that is opened of a source with these octets: all of them are read, those that were looked
-- at too.
abbrev pub IsOpened :
    {S : Type 0} {s : sources_of.Ghosts S} {r : reads.Ghosts S} → Option Format → ℕ
    → Option (List ℕ) → ℕ → AnySource S s r → Type 0
IsOpened given keep octets failures file =
    HasFormat given octets (format_of_source file)
    × (rest : Option (List ℕ)) × Keeps octets rest × IsAtStart keep rest failures file
