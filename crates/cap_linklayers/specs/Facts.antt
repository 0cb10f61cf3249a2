-- What the headers of a link layer say of a record beside its frame.
use Rattle.std.specs.Prelude.{◌≡◌, ℕ, List, None, Ok, false}
use Rattle.cap_linklayers.specs.Ethernet.{identifier_in}
use Rattle.cap_linklayers.specs.Ieee80211.{is_retry_at}
use Rattle.cap_linklayers.specs.Radiotap.{IsRate, IsRetryBehind, IsSignal}
use Rattle.cap_linklayers.specs.declared.facts.LinkFacts.{LinkFacts}
use Rattle.cap_linklayers.specs.declared.link.LinkLayer.{LinkLayer}
use Rattle.cap_linklayers.specs.declared.link.LinkLayer.TheVariants as layers

-- a tag of Ethernet
abbrev pub AreTagged : List ℕ → LinkFacts → Type 0
AreTagged w facts =
    (identifier_in w ≡ Ok facts.vlan) × (facts.signal ≡ None) × (facts.rate ≡ None)
    × (facts.retry ≡ false)

-- fields of radiotap, and the retry bit of the header behind it
abbrev pub AreReceived : List ℕ → LinkFacts → Type 0
AreReceived w facts = (facts.vlan ≡ None) × IsSignal w facts.signal × IsRate w facts.rate
    × IsRetryBehind w facts.retry

-- the retry bit of IEEE 802.11
abbrev pub AreSent : List ℕ → LinkFacts → Type 0
AreSent w facts = (facts.vlan ≡ None) × (facts.signal ≡ None) × (facts.rate ≡ None)
    × (facts.retry ≡ is_retry_at w 0)

-- nothing
abbrev pub AreNone : LinkFacts → Type 0
AreNone facts = (facts.vlan ≡ None) × (facts.signal ≡ None) × (facts.rate ≡ None)
    × (facts.retry ≡ false)

abbrev pub AreFacts : LinkLayer → List ℕ → LinkFacts → Type 0
AreFacts layers.Bare w facts = AreNone facts
AreFacts layers.Ethernet w facts = AreTagged w facts
AreFacts layers.Ieee80211 w facts = AreSent w facts
AreFacts layers.Radiotap w facts = AreReceived w facts
AreFacts layers.Sll w facts = AreNone facts
AreFacts layers.Sll2 w facts = AreNone facts
