-- The message of a secured packet, as far as it is read: its plain part, and what its header info
-- says.
use Rattle.std.specs.Prelude.{◌≡◌, ℕ, ◌+◌, ◌/◌, ◌%◌, ◌==◌, ◌&&◌, ◌||◌, List, length, drop, take}
use Rattle.std.specs.Prelude.{◌≤◌, Bool, true, Option, Some, None, Result, nat_lt, if◌then◌else◌}
use Rattle.its_formats.specs.Format as formats
use Rattle.its_formats.specs.Format.{Faults, ends, number, octets, after, value_of}
use Rattle.cap_records.specs.declared.messages.fault.MessageFault.{MessageFault}
use Rattle.cap_records.specs.declared.messages.fault.MessageFault.TheVariants.{Octet, Short}
use Rattle.cap_records.specs.declared.messages.message.HeaderInfo.{HeaderInfo}

-- what is read of a message: where the plain part begins in it, the plain part, and the header info
-- of signed data
pub record SaidMessage : Type 0 where
  pub start : ℕ
  pub plain : List ℕ
  pub info : Option HeaderInfo

-- the plain part is these octets of the message, behind three others at least
pub record LiesIn (w : List ℕ) (m : SaidMessage) : Type 0 where
  pub behind : 3 ≤ m.start
  pub inside : m.start + length m.plain ≤ length w
  pub octets : m.plain ≡ take (length m.plain) (drop m.start w)

-- a field is wrong in one way only
abbrev pub Format : Type 0 → Type 0
Format A = formats.Format (Unit {0}) A

-- The message begins behind 4 octets of the packet: E2 at the packet's length, E1 at an octet.
abbrev pub message_faults : Faults (Unit {0}) MessageFault
message_faults = record {
  truncated = λ length. Short (length + 4);
  wrong = λ at _. Octet (at + 4);
}

-- what the octets from a place on say, and where that ends, or the first fault
abbrev pub walk : {A : Type 0} → Format A → ℕ → List ℕ → Result (A × ℕ) MessageFault
walk f at w = formats.walk message_faults f at w

-- the number of so many octets at a place
abbrev pub number_at : ℕ → ℕ → List ℕ → Result ℕ MessageFault
number_at n at w = formats.number_at message_faults n at w

-- so many octets at a place
abbrev pub octets_at : ℕ → ℕ → List ℕ → Result (List ℕ) MessageFault
octets_at n at w = formats.octets_at message_faults n at w

-- a number that is never wrong
abbrev pub any_number : {A : Type 0} → ℕ → (ℕ → Format A) → Format A
any_number n next = number n tt (λ _. true) next

-- one octet, which has to be such a one
unfoldable pub octet_that : (ℕ → Bool) → Format (Unit {0})
octet_that is_right = number 1 tt is_right λ _. ends tt

-- the first octets of lengths: a length below 128, 129 before one octet, or 130 before two
abbrev pub begins_length : ℕ → Bool
begins_length first = nat_lt first 128 || first == 129 || first == 130

-- a length that begins with this octet: how many octets it takes, and what it says
abbrev pub length_from : ℕ → Format (ℕ × ℕ)
length_from first =
    if nat_lt first 128 then ends (1, first)
    else if first == 129 then any_number 1 (λ n. ends (2, n))
    else any_number 2 (λ n. ends (3, n))

-- a length
unfoldable pub length_format : Format (ℕ × ℕ)
length_format = number 1 tt begins_length length_from

-- octets after their length: how many octets that takes, and these
unfoldable pub data_format : Format (ℕ × List ℕ)
data_format = after length_format λ found. octets found.1 λ bytes. ends (found.0, bytes)

-- the generation time, if a flag says that it is there
unfoldable pub time_format : Bool → Format (Option ℕ)
time_format is_there =
    if is_there then any_number 8 (λ time. ends (Some time)) else ends None

-- whether a PSID has so many octets
abbrev pub is_psid_length : ℕ → Bool
is_psid_length n = nat_lt 0 n && nat_lt n 5

-- the PSID, behind its length, and the generation time
unfoldable pub psid_format : Bool → Format HeaderInfo
psid_format is_timed =
    number 1 tt is_psid_length λ count.
    any_number count λ psid.
    after (time_format is_timed) λ time.
    ends (record { psid = psid; generated = time })

-- the header info: flags, of which bit 6 says that there is a generation time, and the PSID
unfoldable pub info_format : Format HeaderInfo
info_format = any_number 1 λ flags. psid_format (flags / 64 % 2 == 1)

-- unsecured data: octets behind their length
unfoldable pub unsecured_format : Format SaidMessage
unsecured_format =
    after data_format λ found.
    ends (record { start = 2 + found.0; plain = found.1; info = None })

-- what signed data begins with: a hash algorithm, the flag that data is there, and the head of
-- unsecured data
unfoldable pub signed_head : Format (Unit {0})
signed_head =
    after (octet_that λ octet. nat_lt octet 128) λ _.
    after (octet_that λ octet. octet == 64) λ _.
    after (octet_that λ octet. octet == 3) λ _.
    octet_that λ octet. octet == 128

-- signed data: the plain part and the header info
unfoldable pub signed_format : Format SaidMessage
signed_format =
    after signed_head λ _.
    after data_format λ found.
    after info_format λ info.
    ends (record { start = 6 + found.0; plain = found.1; info = Some info })

-- a message: its version, and unsecured or signed data
abbrev pub message_format : Format SaidMessage
message_format =
    after (octet_that λ octet. octet == 3) λ _.
    number 1 tt (λ content. content == 128 || content == 129) λ content.
    if content == 128 then unsecured_format else signed_format

-- what a message says, or its first fault
unfoldable pub message_in : List ℕ → Result SaidMessage MessageFault
message_in w = value_of (walk message_format 0 w)
