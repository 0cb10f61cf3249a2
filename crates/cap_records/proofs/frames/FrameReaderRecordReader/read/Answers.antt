use Rattle.std.proofs.Common.{◌≡◌, IfOk, List, None, false, rules, subst, sym, true, ℕ}
use Rattle.cap_records.proofs.FoundRecords.{placed_found, reads_found, selected}
use Rattle.cap_records.specs.FoundFrames.{IsChosenBy, IsThere}
use Rattle.cap_records.proofs.frames.FrameReaderRecordReader.read.Goals as goal

pub has-requires : goal.has-requires
has-requires c =
    let selection = c.args.selection.now in
    let found = c.find-frame.result in
    subst (λ (w : List ℕ). IfOk found (IsThere w)) (sym c.as_slice-2.ensures.value)
    (placed_found selection.choice.all_kinds selection.signed c.args.head.now
    c.args.octets.now.items c.find-frame.new.octets.items found c.find-frame.ensures)

pub returns-then-has : goal.returns-then-has
returns-then-has c =
    let selection = c.args.selection.now in
    let after = c.find-frame.new.octets.items in
    let found = c.find-frame.result in
    let chosen : c.has.result ≡ true = search rules in
    let by = subst (λ (w : List ℕ). IsChosenBy selection.choice c.args.head.now.moment w found true)
    c.as_slice-2.ensures.value (rw chosen at c.has.ensures) in
    reads_found selection c.args.head.now c.args.octets.now.items after
    (record { link = c.link_facts-link.result; known = None; frame = found }) c.find-frame.ensures by

pub returns-else-has : goal.returns-else-has
returns-else-has c =
    let selection = c.args.selection.now in
    let after = c.find-frame.new.octets.items in
    let found = c.find-frame.result in
    let passed : c.has.result ≡ false = search rules in
    let by = subst (λ (w : List ℕ). IsChosenBy selection.choice c.args.head.now.moment w found false)
    c.as_slice-2.ensures.value (rw passed at c.has.ensures) in
    λ _. selected selection.choice selection.signed c.args.head.now c.args.octets.now.items after
    found false c.find-frame.ensures by
