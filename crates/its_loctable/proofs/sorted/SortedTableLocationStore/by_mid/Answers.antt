use Rattle.std.proofs.Common.{◌≡◌, ◌&&◌, find, ltb, ap, sym, ◌∙◌, rules}
use Rattle.std.specs.Option.{option_map, option_copied}
use Rattle.its_loctable.specs.declared.sorted.slot.SortedSlot.{SortedSlot}
use Rattle.its_loctable.specs.Heard.{shown}
use Rattle.its_model.specs.Stations.{has_mid}
use Rattle.its_loctable.specs.Sorted.{known_by, bare_known, bare, addresses_of}
use Rattle.its_loctable.proofs.EagerLemmas.{rising-true}
use Rattle.its_loctable.proofs.SortedLemmas.{find-stations_at}
use Rattle.its_loctable.specs.Kept.{numbers_of}
use Rattle.its_loctable.proofs.sorted.SortedTableLocationStore.by_mid.Goals as goal

pub live_with_mid-requires : goal.live_with_mid-requires
live_with_mid-requires c = c.deref.ensures.value ∙ c.args.self.now.column
    ∙ ap addresses_of (sym c.deref-2.ensures.value)

pub returns : goal.returns
returns c = λ history rep.
    let table = c.args.self.now in
    let of = numbers_of table in
    let xs = c.args.self.now.slots.items in
    let p = λ (s : SortedSlot). ltb c.args.now s.until && has_mid c.args.mid (bare_known s) in
    let is : c.map.result
    ≡ option_map shown (option_map (known_by of) (option_copied c.live_with_mid.result)) =
    search rules in
    is ∙ ap (λ o. option_map shown (option_map (known_by of) o))
    (c.live_with_mid.ensures ∙ ap (find p) c.deref-2.ensures.value)
    ∙ ap (option_map shown)
    (find-stations_at of c.args.self.now.remembered (has_mid c.args.mid) xs history c.args.now
    c.requires (rising-true (bare xs) c.args.self.now.rising) rep)
