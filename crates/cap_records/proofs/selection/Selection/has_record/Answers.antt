use Rattle.std.proofs.Common.{◌≡◌, ◌∙◌, ◌++◌, List, ℕ, ap, subst, take}
use Rattle.cap_linklayers.specs.declared.link.TheConstants.{LONGEST_RECORD}
use Rattle.cap_records.proofs.Chosen.{take_most}
use Rattle.cap_records.proofs.FoundRecords.{selected}
use Rattle.cap_records.specs.FoundFrames.{IsChosenBy, IsFoundOf}
use Rattle.cap_records.proofs.selection.Selection.has_record.Goals as goal

pub returns : goal.returns
returns c =
    let w = c.args.octets.now in
    let head = c.args.head.now in
    let selection = c.args.self.now in
    let found = c.find-found.result in
    let after = c.find-found.new.octets.items in
    let kept : c.extend_from_slice.new.self.items ≡ take LONGEST_RECORD w =
    c.in_ok-extend_from_slice.ensures.items
    ∙ ap (λ (v : List ℕ). v ++ take c.min.result w) c.clear.ensures.items
    ∙ take_most w LONGEST_RECORD c.min.result c.min.ensures in
    let is = subst
    (λ (v : List ℕ). IsFoundOf selection.choice.all_kinds selection.signed head v after found)
    kept c.find-found.ensures in
    let by = subst (λ (v : List ℕ). IsChosenBy selection.choice head.moment v found c.has.result)
    c.as_slice.ensures.value c.has.ensures in
    selected selection.choice selection.signed head (take LONGEST_RECORD w) after found c.has.result
    is by
