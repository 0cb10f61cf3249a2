use Rattle.std.proofs.Common.{◌≡◌, true, false, List, ℕ, refl, rules, subst, take}
use Rattle.cap_linklayers.specs.declared.link.TheConstants.{LONGEST_RECORD}
use Rattle.cap_records.specs.Selections.{Chooses}
use Rattle.cmd_captures.specs.Conversions.{kept}
use Rattle.cmd_captures.proofs.converting.WholeRecordsRecordReader.read.Goals as goal

pub returns-then-branch : goal.returns-then-branch
returns-then-branch c =
    let choice = c.args.selection.now.choice in
    let signed = c.args.selection.now.signed in
    let head = c.args.head.now in
    let said = subst
    (λ (v : List ℕ). Chooses choice signed head (take LONGEST_RECORD v) c.in_ok-has_record.field-0)
    c.as_slice.ensures.value c.in_ok-has_record.ensures in
    let taken : c.in_ok-has_record.field-0 ≡ true = search rules in
    (refl, subst (Chooses choice signed head (kept c.args.octets.now.items)) taken said)

pub returns-else-branch : goal.returns-else-branch
returns-else-branch c =
    let choice = c.args.selection.now.choice in
    let signed = c.args.selection.now.signed in
    let head = c.args.head.now in
    let said = subst
    (λ (v : List ℕ). Chooses choice signed head (take LONGEST_RECORD v) c.in_ok-has_record.field-0)
    c.as_slice.ensures.value c.in_ok-has_record.ensures in
    let passed : c.in_ok-has_record.field-0 ≡ false = search rules in
    (refl, subst (Chooses choice signed head (kept c.args.octets.now.items)) passed said)
