use Rattle.cap_pcap.specs.Sinks.{file_of_sink}
use Rattle.cmd_reporting.specs.FrameFiles.{AddsInterfaces}
use Rattle.cmd_reporting.proofs.frame_file.FrameFile.start.Given as goal

abbrev pub invariant-loop-station : goal.invariant-loop-station
invariant-loop-station g l =
    AddsInterfaces l.station-counter (file_of_sink l.initial.sink) (file_of_sink l.sink)
