use Rattle.std.proofs.Common.{◌≡◌, ◌-◌, List, ℕ, length, drop, take, sym, subst, ap, ◌∙◌, arith}
use Rattle.std.proofs.lemmas.List.{drop-take}
use Rattle.std.proofs.lemmas.Slice.{between_to_end}
use Rattle.cap_linklayers.specs.Ieee80211.{joined}
use Rattle.cap_linklayers.specs.LinkLayers.{IsUnchecked}
use Rattle.cap_linklayers.proofs.link.join_unchecked.Goals as goal

pub returns-clause-frame : goal.returns-clause-frame
returns-clause-frame c =
    let start = c.join-start.result in
    let end = c.unchecked_end-end.result in
    let items = c.join-start.new.octets.items in
    let all = c.deref.result.now in
    let frame = joined c.args.header c.args.octets.now.items in
    let whole : take (length all - start) (drop start all) ≡ frame =
    between_to_end all start (length all) (omega arith)
    ∙ ap (drop start) c.deref.ensures.value ∙ c.join-start.ensures.frame in
    let kept : drop start c.truncate.new.self.items ≡ take end frame =
    ap (drop start) c.truncate.ensures.items ∙ drop-take start end items ∙ ap (take end) c.join-start.ensures.frame in
    subst (λ (l : List ℕ). IsUnchecked frame l) (sym kept)
    (subst (λ (l : List ℕ). IsUnchecked l (take end l)) whole c.unchecked_end-end.ensures.frame)
