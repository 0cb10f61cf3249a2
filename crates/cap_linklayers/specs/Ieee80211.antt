-- Data frames of IEEE 802.11 with LLC and SNAP (IEEE 802) before the type.
use Rattle.std.specs.Prelude.{◌≡◌, ℕ, ◌+◌, ◌-◌, ◌*◌, ◌/◌, ◌%◌, Bool, false, not, ◌&&◌, ◌||◌}
use Rattle.std.specs.Prelude.{◌==◌, if◌then◌else◌, List, ◌++◌, take, drop, Result, Ok, Err}
use Rattle.its_formats.specs.Format as formats
use Rattle.its_formats.specs.Format.{ends, number, octets}
use Rattle.cap_linklayers.specs.LinkFormats.{Format, link_faults, any_number, skipped, check}
use Rattle.cap_linklayers.specs.declared.ieee80211.DataHeader.{DataHeader}
use Rattle.cap_linklayers.specs.declared.link.LinkFault.{LinkFault}

-- the bit of this value is set
abbrev pub has_bit : ℕ → ℕ → Bool
has_bit value bits = bits / value % 2 == 1

-- ---- the frame control: an octet with version, type and subtype, and one with flags

-- the bits to and from the distribution system
abbrev pub to_ds : ℕ → Bool
to_ds control = has_bit 1 control

abbrev pub from_ds : ℕ → Bool
from_ds control = has_bit 2 control

-- version 0, type 2 and subtype 8: data with QoS control
abbrev pub is_qos : ℕ → Bool
is_qos control = control / 256 == 136

-- The frame control of a data frame: version 0, type 2, subtype 0 or 8; no more fragments (04) and
-- not protected (40).
abbrev pub is_data : ℕ → Bool
is_data control =
    (control / 256 == 8 || is_qos control) && (not (has_bit 4 control) && not (has_bit 64 control))

-- ---- the widths of fields that not each header has

-- the fourth address, of frames to and from the distribution system
abbrev pub fourth_octets : ℕ → ℕ
fourth_octets control = if to_ds control && from_ds control then 6 else 0

abbrev pub qos_octets : ℕ → ℕ
qos_octets control = if is_qos control then 2 else 0

-- HT control, if the order bit (80) is set in data with QoS control
abbrev pub ht_octets : ℕ → ℕ
ht_octets control = if is_qos control && has_bit 128 control then 4 else 0

abbrev pub header_octets : ℕ → ℕ
header_octets control =
    24 + (fourth_octets control + (qos_octets control + ht_octets control))

-- what fills a header up to a multiple of 4 octets
abbrev pub filling_octets : Bool → ℕ → ℕ
filling_octets filled control =
    if filled then (header_octets control + 3) / 4 * 4 - header_octets control else 0

-- ---- what fields say

-- The addresses by the bits to and from the distribution system: of the target the third where the
-- frame goes to the system, else the first; of the source the second where it doesn't come from it,
-- else the third, or the fourth where it goes there too.
abbrev pub target_of : {A : Type 0} → ℕ → A → A → A
target_of control first third = if to_ds control then third else first

abbrev pub source_of : {A : Type 0} → ℕ → A → A → A → A
source_of control second third fourth =
    if from_ds control then (if to_ds control then fourth else third) else second

-- the bit of A-MSDU in QoS control, of frames that are gathered
abbrev pub is_gathered : ℕ → Bool
is_gathered qos = has_bit 32768 qos

-- aaaa03, and an organization of 000000
abbrev pub snap_number : ℕ
snap_number = 187647171493888

-- ---- the frame

-- Frame control, duration, three addresses, sequence control, a fourth address, QoS control, HT
-- control, filling, LLC with SNAP, and the type. The format says target, source and type.
unfoldable pub data_format : Bool → Format (List ℕ)
data_format filled =
    number 2 tt is_data λ control.
    skipped 2 (octets 6 λ first.
    octets 6 λ second.
    octets 6 λ third.
    skipped 2 (octets (fourth_octets control) λ fourth.
    any_number (qos_octets control) λ qos.
    skipped (ht_octets control) (skipped (filling_octets filled control) (any_number 6 λ snap.
    octets 2 λ kind.
    check (not (is_gathered qos) && (snap == snap_number)) (ends (
    (target_of control first third ++ source_of control second third fourth) ++ kind
    ))))))

-- what the octets from a place on say, and where that ends, or the first fault
abbrev pub data_at : Bool → List ℕ → ℕ → Result (List ℕ × ℕ) LinkFault
data_at filled w at = formats.walk link_faults (data_format filled) at w

-- the first octets of a frame: target, source and type, from where a header says that they are
abbrev pub front_of : DataHeader → List ℕ → List ℕ
front_of h w = (take 6 (drop h.target w) ++ take 6 (drop h.source w)) ++ take 2 (drop h.kind w)

-- target and source, and the type with what follows it
abbrev pub joined : DataHeader → List ℕ → List ℕ
joined h w = (take 6 (drop h.target w) ++ take 6 (drop h.source w)) ++ drop h.kind w

abbrev pub IsHeader : Bool → List ℕ → ℕ → DataHeader → Type 0
IsHeader filled w at h = data_at filled w at ≡ Ok (front_of h w, h.kind + 2)

-- The first rule that doesn't hold: the record ends before the octets that it needs, or they are of
-- another kind.
abbrev pub IsHeaderFault : Bool → List ℕ → ℕ → LinkFault → Type 0
IsHeaderFault filled w at fault = data_at filled w at ≡ Err fault

-- ---- the retry bit

unfoldable pub retry_format : Format Bool
retry_format = any_number 2 λ control. ends (has_bit 8 control)

-- what was read, or no
abbrev pub or_no : {E : Type 0} → Result (Bool × ℕ) E → Bool
or_no (Ok (said, end)) = said
or_no (Err e) = false

-- whether the frame control that begins there has the retry bit
abbrev pub is_retry_at : List ℕ → ℕ → Bool
is_retry_at w at = or_no (formats.walk link_faults retry_format at w)
