-- What reading of packets outside the profile answers.
use Rattle.std.proofs.Common.{◌≡◌, ℕ, List, take, drop, sym, Option, Some, None}
use Rattle.std.proofs.lemmas.List.{take-append-drop}
use Rattle.its_faults.specs.declared.packet.Fault.{Fault}
use Rattle.its_model.specs.Packet.{Pdu}
use Rattle.its_headers.specs.Encoding.{Encodes}
use Rattle.its_outside.specs.Outside.{BeginsInProfile}

pub begins_in_profile : (p : Pdu) (left n : ℕ) (w : List ℕ) → Encodes p left (take n w)
    → BeginsInProfile w
begins_in_profile p left n w e = record {
  pdu = p;
  left = left;
  encoded = take n w;
  rest = drop n w;
  encodes = e;
  is = sym (take-append-drop n w);
}

abbrev given : Fault → Option Fault
given f = Some f

pub not_none : (f : Fault) → given f ≡ None → ⊥
not_none f h = cc
