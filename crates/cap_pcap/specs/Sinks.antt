-- The file behind a writer of any of the formats.
use Rattle.cap_pcap.specs.declared.sink.AnySink.{AnySink}
use Rattle.cap_pcap.specs.declared.sink.AnySink.TheVariants as sinks
use Rattle.cap_pcap.specs.RecordFiles.{RecordFile, capture_file, pcap_file, pcapng_file}

abbrev pub file_of_sink :
    {S : Type 0} → AnySink S → RecordFile
file_of_sink (sinks.Capture w) = capture_file w
file_of_sink (sinks.Pcap w) = pcap_file w
file_of_sink (sinks.Pcapng w) = pcapng_file w
