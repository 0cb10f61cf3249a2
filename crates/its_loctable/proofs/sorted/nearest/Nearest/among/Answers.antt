use Rattle.std.proofs.Common.{◌≡◌, true, All, take, subst, refl, ◌∙◌, arith}
use Rattle.std.proofs.lemmas.List.{take_all}
use Rattle.std.proofs.lemmas.List.Elements.{All-more, All-weaker}
use Rattle.its_loctable.specs.declared.sorted.slot.SortedSlot.{SortedSlot}
use Rattle.its_loctable.specs.Bound.{is_not_below}
use Rattle.its_loctable.proofs.sorted.nearest.Nearest.among.Goals as goal

pub loop-i-init : goal.loop-i-init
loop-i-init c = record { bound = λ k d within. absurd (omega arith); since = refl; place = refl }

pub loop-i-preserved : goal.loop-i-preserved
loop-i-preserved c =
    record {
      bound =
          All-more (λ (s : SortedSlot). is_not_below c.meet.new.self s ≡ true) c.args.slots.now
          c.loop-i.i c.index-slots-i.result c.loop-i-test.true
          (All-weaker (λ (s : SortedSlot). is_not_below c.loop-i.nearest s ≡ true)
          (λ (s : SortedSlot). is_not_below c.meet.new.self s ≡ true) c.meet.ensures.lower
          (take c.loop-i.i c.args.slots.now) c.loop-i.invariant.bound)
          (subst (λ (s : SortedSlot). is_not_below c.meet.new.self s ≡ true) c.index-slots-i.is
          c.meet.ensures.within);
      since = c.meet.ensures.since ∙ c.loop-i.invariant.since;
      place = c.meet.ensures.place ∙ c.loop-i.invariant.place;
    }

pub returns-clause-bound : goal.returns-clause-bound
returns-clause-bound c =
    subst (All (λ (s : SortedSlot). is_not_below c.loop-i.nearest s ≡ true))
    (take_all c.loop-i.i c.args.slots.now c.loop-i-test.false) c.loop-i.invariant.bound
