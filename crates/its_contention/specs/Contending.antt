-- What a station that contends does with a frame that it would send, and with one that came.
use Rattle.std.specs.Prelude.{◌≡◌, ℕ, Bool, true, false, List, Some}
use Rattle.its_model.specs.Packet.{Transmission}
use Rattle.its_model.specs.Station.{StationModel}
use Rattle.its_model.specs.Contention.{Fate, fate, contends_for}
use Rattle.its_linkframe.specs.Copies.{is_copy}
use Rattle.its_contention.specs.Buffer.{Buffer, with_frame, with_full, after_hearing}
use Rattle.its_contention.specs.Waiting.{Waiting}
use Rattle.its_contention.specs.declared.fate.RelayFate.{RelayFate}

-- after an acceptance, by whether its frame contends, and its fate: one that contends goes at once
-- if no place is free, and that is counted
abbrev pub by_fate : Bool → Buffer Waiting → Waiting → Fate → Buffer Waiting
by_fate contends b frame (Fate.Waits due) = with_frame b frame due
by_fate true b frame Fate.Goes = with_full b
by_fate false b frame Fate.Goes = b
by_fate contends b frame Fate.Stays = b

-- after a packet was accepted at a time whose relay is this one, and its frame this
abbrev pub after_acceptance : Buffer Waiting → StationModel → ℕ → Transmission → Transmission
    → Waiting → Buffer Waiting
after_acceptance b s now t relay frame =
    by_fate (contends_for s t.pdu.body) b frame (fate b.rule s now b.held t (Some relay))

-- what is said of the fate of a frame
abbrev pub told_fate : Waiting → Fate → RelayFate
told_fate frame (Fate.Waits due) = RelayFate.Waits due
told_fate frame Fate.Goes = RelayFate.Goes frame
told_fate frame Fate.Stays = RelayFate.Goes frame

-- a frame that goes at once is this one
abbrev pub GoesAsItIs : Waiting → RelayFate → Type 0
GoesAsItIs frame (RelayFate.Goes sent) = sent ≡ frame
GoesAsItIs frame (RelayFate.Waits due) = Unit {0}

-- after a frame with these octets from this sender, which is a duplicate
abbrev pub after_duplicate : Buffer Waiting → ℕ → List ℕ → ℕ → Buffer Waiting
after_duplicate b own octets sender =
    after_hearing b (λ held. is_copy own held.octets octets) sender
