use Rattle.std.proofs.Common.{ℕ, List, fold, IfSome, IsTrue, subst, sym, ◌≡◌, Option, Some, None}
use Rattle.std.proofs.Common.{◌&&◌, refl, ap, ◌∙◌, rules}
use Rattle.std.proofs.lemmas.Bool.{and_parts}
use Rattle.std.specs.Option.{option_map}
use Rattle.its_loctable.specs.declared.heard.Known.{Known as Shown}
use Rattle.its_model.specs.History.{Known}
use Rattle.its_loctable.specs.Heard.{shown}
use Rattle.its_model.specs.Stations.{is_next_neighbour, is_above}
use Rattle.its_gnvalue.specs.Values.{PositionVector}
use Rattle.its_loctable.specs.Content.{Entry}
use Rattle.its_loctable.specs.Wanted.{better}
use Rattle.its_loctable.specs.Ordered.{contained}
use Rattle.its_loctable.proofs.OrderedLemmas.{apart-contained}
use Rattle.its_loctable.proofs.LeastLemmas.{walked, found_passes}
use Rattle.its_loctable.proofs.ordered.OrderedTableLocationStore.next_neighbour.Goals as goal

vector-known : (o : Option Known) → option_map (λ (k : Shown). k.vector) (option_map shown o)
    ≡ option_map (λ (s : Known). s.vector) o
vector-known None = refl
vector-known (Some s) = refl

-- what is found lies above the address
above : (after : Option ℕ) (now : ℕ) (es : List Entry) (o : Option Shown) → o
    ≡ option_map shown (fold (better (is_next_neighbour after) now) None es)
    → IfSome (option_map (λ (k : Shown). k.vector) o)
    (λ (v : PositionVector). IsTrue (is_above after v.address))
above after now es None e = tt
above after now es (Some known) e =
    (and_parts known.neighbour (is_above after known.vector.address)
    (found_passes (λ (k : Shown). k.neighbour && is_above after k.vector.address) now es known
    e)).1

pub returns-clause-next : goal.returns-clause-next
returns-clause-next c = λ history rep.
    let is : c.map.result ≡ option_map (λ (k : Shown). k.vector) c.least.result = search rules in
    is ∙ ap (option_map (λ (k : Shown). k.vector)) (c.least.ensures.least
    ∙ ap (option_map shown)
    (walked (is_next_neighbour c.args.after) c.args.self.now.remembered
    (contained c.args.self.now.slots.entries) history c.args.now c.requires
    (apart-contained c.args.self.now.slots.entries c.least.ensures.unique) rep))
    ∙ vector-known _

pub returns-clause-above : goal.returns-clause-above
returns-clause-above c =
    let is : c.map.result ≡ option_map (λ (k : Shown). k.vector) c.least.result = search rules in
    subst (λ r. IfSome r (λ (v : PositionVector). IsTrue (is_above c.args.after v.address)))
    (sym is)
    (above c.args.after c.args.now (contained c.args.self.now.slots.entries) c.least.result
    c.least.ensures.least)
