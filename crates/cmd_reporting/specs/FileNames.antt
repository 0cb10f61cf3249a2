-- What the name of a file that is written says.
use Rattle.std.specs.Prelude.{ℕ, ◌-◌, ◌||◌, Bool, List, Option, Some, None, length, drop, codes}
use Rattle.std.specs.Prelude.{if◌then◌else◌}
use Rattle.std.specs.Str.{bytes_eq, str_eq_ignore_ascii_case}
use Rattle.cap_pcap.specs.declared.format.Format.{Format}
use Rattle.cap_pcap.specs.declared.format.Format.TheVariants.{Capture, Pcap, Pcapng}

-- whether the name is that of standard output
abbrev pub is_standard : List ℕ → Bool
is_standard name = bytes_eq name (codes "-")

-- whether these letters stand at its very end, each in either case
abbrev pub ends_in : List ℕ → List ℕ → Bool
ends_in name ending = str_eq_ignore_ascii_case (drop (length name - length ending) name) ending

-- the format that a name says, if it says one: that of standard output is a capture
abbrev pub format_of_name : List ℕ → Option Format
format_of_name name =
    if ends_in name (codes ".pcapng") then Some Pcapng
    else if ends_in name (codes ".pcap") then Some Pcap
    else if ends_in name (codes ".cap") || is_standard name then Some Capture
    else None

-- the format of a file that is written: the one that is given, else what its name says
abbrev pub format_of_output : Option Format → List ℕ → Option Format
format_of_output (Some format) name = Some format
format_of_output None name = format_of_name name

-- the same of a file that is no standard output
abbrev pub format_of_file : Option Format → List ℕ → Option Format
format_of_file to name = if is_standard name then None else format_of_output to name
