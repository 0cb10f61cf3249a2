use Rattle.std.proofs.Common.{◌≡◌, ℕ, ◌+◌, suc, Result, Ok, rules, refl, subst, arith}
use Rattle.cap_pcap.specs.declared.put_fault.PutFault.{PutFault}
use Rattle.cap_pcap.specs.RecordFiles.{RecordFile, Starts, AddsInterface}
use Rattle.cap_pcap.specs.Sinks.{file_of_sink}
use Rattle.cmd_reporting.specs.FrameFiles.{AddsInterfaces, fresh}
use Rattle.cmd_reporting.proofs.frame_file.FrameFile.start.Goals as goal

pub returns : goal.returns
returns g c =
    let before = file_of_sink c.new-sink.result in
    let begun = file_of_sink c.start.new.self in
    let format = c.args.format in
    let is_fresh : before ≡ fresh format (g.W.Write.contents c.args.writer) = search rules in
    let is_ok : c.start.result ≡ Ok tt = search rules in
    let started : Starts before.format before begun (Ok tt) =
    subst (λ (r : Result (Unit {0}) PutFault). Starts before.format before begun r) is_ok
    c.start.ensures in
    let all : c.loop-station.station-counter ≡ c.args.stations = search rules in (
      begun,
      subst (λ (f : RecordFile). Starts f.format f begun (Ok tt)) is_fresh started,
      subst (λ (n : ℕ). AddsInterfaces n begun (file_of_sink c.loop-station.sink)) all
          c.loop-station.invariant,
      refl,
      refl,
      refl,
    )

pub loop-station-preserved : goal.loop-station-preserved
loop-station-preserved g c =
    let between = file_of_sink c.loop-station.sink in
    let next = file_of_sink c.add_interface.new.self in
    let name = c.as_str.result.now in
    let is_ok : c.add_interface.result ≡ Ok tt = search rules in
    let added : AddsInterface between.format name between next (Ok tt) =
    subst (λ (r : Result (Unit {0}) PutFault). AddsInterface between.format name between next r)
    is_ok c.add_interface.ensures in
    let more : suc c.loop-station.station-counter ≡ c.loop-station.station-counter + 1 =
    omega arith in
    subst (λ (n : ℕ). AddsInterfaces n (file_of_sink c.start.new.self) next) more
    (between, c.loop-station.invariant, name, added)
