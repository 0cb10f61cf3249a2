use Rattle.std.proofs.Common.{rules, sym, ap, ◌∙◌, ℕ}
use Rattle.cap_linklayers.specs.Ieee80211.{is_retry_at}
use Rattle.cap_linklayers.proofs.RadiotapHeaders.{retry_there, retry_absent}
use Rattle.cap_linklayers.proofs.radiotap.is_retry_behind.Goals as goal

pub returns-in-Some : goal.returns-in-Some
returns-in-Some c =
    c.is_retry.ensures ∙ ap (λ (at : ℕ). is_retry_at c.args.octets.now at) c.in-Some.ensures.there.1
    ∙ sym (retry_there c.args.octets.now c.in-Some.ensures.there.0)

pub returns-in-None : goal.returns-in-None
returns-in-None c = sym (retry_absent c.args.octets.now (search rules))
