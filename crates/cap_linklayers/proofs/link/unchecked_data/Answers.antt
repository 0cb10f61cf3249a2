use Rattle.std.proofs.Common.{rules, ◌+◌}
use Rattle.cap_linklayers.specs.Ieee80211.{front_of, joined}
use Rattle.cap_linklayers.proofs.DataHeaders.{joined_is}
use Rattle.cap_linklayers.proofs.link.unchecked_data.Goals as goal

pub returns-clause-frame : goal.returns-clause-frame
returns-clause-frame c =
    let h = c.in_ok-header.header in
    let w = c.args.octets.now.items in (
      joined h w,
      record { front = front_of h w; end = h.kind + 2; reading = search rules; frame = joined_is h w },
      search rules,
    )
