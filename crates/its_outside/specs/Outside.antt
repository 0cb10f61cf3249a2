-- What reading of packets outside the profile answers.
use Rattle.std.specs.Prelude.{◌≡◌, ℕ, List, length, drop, ◌++◌, Option, Some, None, nat_lt}
use Rattle.std.specs.Prelude.{if◌then◌else◌}
use Rattle.byteorder.specs.Endian.{big_number}
use Rattle.its_model.specs.Packet.{Pdu}
use Rattle.its_headers.specs.Encoding.{Encodes}
use Rattle.its_outside.specs.declared.outside.NotOutside.{NotOutside}
use Rattle.its_outside.specs.declared.outside.NotOutside.TheVariants as reasons
use Rattle.its_outside.specs.declared.btp.BtpHeader.{BtpHeader}
use Rattle.its_outside.specs.declared.btp.BtpHeader.TheVariants as btp
use Rattle.its_outside.specs.declared.fields.NextHeader.{NextHeader}
use Rattle.its_outside.specs.declared.fields.NextHeader.TheVariants as nexts
use Rattle.its_outside.specs.StandardFault.{StandardFault}

-- a packet of the profile begins the octets
pub record BeginsInProfile (w : List ℕ) : Type 0 where
  pub pdu : Pdu
  pub left : ℕ
  pub encoded : List ℕ
  pub rest : List ℕ
  pub encodes : Encodes pdu left encoded
  pub is : w ≡ encoded ++ rest

-- why the octets are no packet outside the profile
abbrev pub IsReason : List ℕ → NotOutside → Type 0
IsReason w reasons.InProfile = BeginsInProfile w
IsReason w (reasons.Refused f) = StandardFault w f

-- the header of BTP with which a payload begins: of at least four octets, after such a next header
abbrev pub btp_of : NextHeader → List ℕ → Option BtpHeader
btp_of nexts.Unspecified w = None
btp_of nexts.BtpA w =
    if nat_lt (length w) 4
    then None else Some (btp.A (big_number 2 w) (big_number 2 (drop 2 w)))
btp_of nexts.BtpB w =
    if nat_lt (length w) 4
    then None else Some (btp.B (big_number 2 w) (big_number 2 (drop 2 w)))
btp_of nexts.Ipv6 w = None
