use Rattle.std.proofs.Common.{rules, ◌+◌}
use Rattle.cap_linklayers.proofs.DataHeaders.{data_none, data_other, data_cut, data_gathered}
use Rattle.cap_linklayers.proofs.DataHeaders.{data_other_snap, data_read, BeginsData}
use Rattle.cap_linklayers.proofs.ieee80211.read_header.Goals as goal
use Rattle.cap_linklayers.proofs.ieee80211.read_header.Goals.{then-is_gathered-via-then-is_gathered}
use Rattle.cap_linklayers.proofs.ieee80211.read_header.Goals.{then-is_gathered-via-else-is_gathered+then-not-is_snap}

pub returns-then-octets-at-clause-fault : goal.returns-then-octets-at-clause-fault
returns-then-octets-at-clause-fault c =
    data_none c.args.filled c.args.octets.now c.args.at (search rules)

pub returns-then-not-is_data-clause-fault : goal.returns-then-not-is_data-clause-fault
returns-then-not-is_data-clause-fault c =
    data_other c.args.filled c.args.octets.now c.args.at c.control_in-control.result (search rules)
    (search rules) (search rules)

pub returns-then-octets-llc-clause-fault : goal.returns-then-octets-llc-clause-fault
returns-then-octets-llc-clause-fault c =
    let w = c.args.octets.now in
    let begins : BeginsData c.args.filled w c.args.at c.control_in-control.result (c.args.at + c.llc_of.result) =
    (search rules, search rules, search rules, search rules) in
    data_cut c.args.filled w c.args.at c.control_in-control.result _ begins (search rules)

pub returns-then-is_gathered-clause-fault : goal.returns-then-is_gathered-clause-fault
returns-then-is_gathered-clause-fault c =
    let w = c.args.octets.now in
    let begins : BeginsData c.args.filled w c.args.at c.control_in-control.result (c.args.at + c.llc_of.result) =
    (search rules, search rules, search rules, search rules) in
    elim c.then-is_gathered.branch [
      | then-is_gathered-via-then-is_gathered b ↦
          data_gathered c.args.filled w c.args.at c.control_in-control.result _ begins (search rules) (search rules)
      | then-is_gathered-via-else-is_gathered+then-not-is_snap b ↦
          data_other_snap c.args.filled w c.args.at c.control_in-control.result _ begins (search rules) (search rules)
    ]

pub returns-clause-header : goal.returns-clause-header
returns-clause-header c =
    let w = c.args.octets.now in
    let begins : BeginsData c.args.filled w c.args.at c.control_in-control.result (c.args.at + c.llc_of.result) =
    (search rules, search rules, search rules, search rules) in
    rw (c.target_of.ensures.place, c.source_of.ensures.place)
    (data_read c.args.filled w c.args.at c.control_in-control.result _ begins (search rules) (search rules)
    (search rules))
