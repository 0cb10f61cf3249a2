use Rattle.std.proofs.Common.{◌≡◌, ◌∷◌, true, sym, ap, subst, ◌∙◌, None, is_some}
use Rattle.its_loctable.specs.Content.{entry_at, Represents}
use Rattle.its_loctable.specs.Heard.{reception}
use Rattle.its_loctable.specs.Ordered.{contained}
use Rattle.its_loctable.proofs.Accepted.{Represents-cons}
use Rattle.its_loctable.proofs.ContentLemmas.{none_from}
use Rattle.its_loctable.proofs.VerdictLemmas.{verdict-duplicate, verdict-live, is_live-none}
use Rattle.its_loctable.proofs.OrderedLemmas.{owed-full, owed-room}
use Rattle.its_loctable.proofs.ordered.OrderedTableLocationStore.accept.Goals as goal

pub returns-then-is_repeated-clause-answer : goal.returns-then-is_repeated-clause-answer
returns-then-is_repeated-clause-answer c = λ history rep _.
    sym (verdict-duplicate c.args.self.now.remembered (contained c.args.self.now.slots.entries)
    history c.args.now c.args.self.now.capacity c.args.h.now c.requires rep
    (sym c.is_repeated.ensures ∙ c.if-is_repeated.true))

pub returns-then-is_live-clause-answer : goal.returns-then-is_live-clause-answer
returns-then-is_live-clause-answer c = λ history rep _.
    let es = contained c.args.self.now.slots.entries in
    let live : is_some (entry_at es c.args.h.now.vector.address c.args.now) ≡ true =
    ap (λ a. is_some (entry_at es a c.args.now)) (sym c.address.ensures) ∙ sym c.is_live.ensures
    ∙ c.if-is_live.true in
    sym (verdict-live c.args.self.now.remembered es history c.args.now c.args.self.now.capacity
    c.args.h.now c.requires rep (sym c.is_repeated.ensures ∙ c.if-is_repeated.false) live)

pub returns-then-is_live-clause-accepted : goal.returns-then-is_live-clause-accepted
returns-then-is_live-clause-accepted c = λ history rep _.
    subst (λ n. Represents n (contained c.refresh.new.self.slots.entries)
    (reception c.args.now c.args.h.now ∷ history) c.args.now) (sym c.refresh.ensures.remembered)
    (Represents-cons c.args.self.now.remembered (contained c.args.self.now.slots.entries)
    (contained c.refresh.new.self.slots.entries) history (reception c.args.now c.args.h.now)
    c.requires rep c.refresh.ensures.hears)

pub returns-then-not-has_place-clause-answer : goal.returns-then-not-has_place-clause-answer
returns-then-not-has_place-clause-answer c = λ history rep _.
    let es = c.args.self.now.slots.entries in
    let none : entry_at (contained es) c.args.h.now.vector.address c.args.now ≡ None =
    none_from _ (ap (λ a. is_some (entry_at (contained es) a c.args.now)) (sym c.address.ensures)
    ∙ sym c.is_live.ensures ∙ c.if-is_live.false) in
    sym (owed-full c.args.self.now.remembered es history c.args.now c.args.self.now.capacity
    c.args.h.now c.requires rep c.has_place.ensures.unique
    (sym c.is_repeated.ensures ∙ c.if-is_repeated.false) none
    (sym c.has_place.ensures.place ∙ c.if-not-has_place.true))

pub returns-clause-answer : goal.returns-clause-answer
returns-clause-answer c = λ history rep _.
    let es = c.args.self.now.slots.entries in
    let none : entry_at (contained es) c.args.h.now.vector.address c.args.now ≡ None =
    none_from _ (ap (λ a. is_some (entry_at (contained es) a c.args.now)) (sym c.address.ensures)
    ∙ sym c.is_live.ensures ∙ c.if-is_live.false) in
    sym (owed-room c.args.self.now.remembered es history c.args.now c.args.self.now.capacity
    c.args.h.now c.requires rep c.has_place.ensures.unique
    (sym c.is_repeated.ensures ∙ c.if-is_repeated.false) none
    (sym c.has_place.ensures.place ∙ c.if-not-has_place.false))

pub returns-clause-accepted : goal.returns-clause-accepted
returns-clause-accepted c = λ history rep _.
    subst (λ n. Represents n (contained c.enter.new.self.slots.entries)
    (reception c.args.now c.args.h.now ∷ history) c.args.now) (sym c.enter.ensures.remembered)
    (Represents-cons c.args.self.now.remembered (contained c.args.self.now.slots.entries)
    (contained c.enter.new.self.slots.entries) history (reception c.args.now c.args.h.now)
    c.requires rep c.in_ok-enter.ensures.hears)

pub returns-in_err-enter-clause-memory : goal.returns-in_err-enter-clause-memory
returns-in_err-enter-clause-memory c = λ history rep _.
    let es = c.args.self.now.slots.entries in
    let none : entry_at (contained es) c.args.h.now.vector.address c.args.now ≡ None =
    none_from _ (ap (λ a. is_some (entry_at (contained es) a c.args.now)) (sym c.address.ensures)
    ∙ sym c.is_live.ensures ∙ c.if-is_live.false) in (
      owed-room c.args.self.now.remembered es history c.args.now c.args.self.now.capacity
          c.args.h.now c.requires rep c.has_place.ensures.unique
          (sym c.is_repeated.ensures ∙ c.if-is_repeated.false) none
          (sym c.has_place.ensures.place ∙ c.if-not-has_place.false),
      is_live-none c.args.self.now.remembered (contained es) history c.args.now
          c.args.self.now.capacity c.args.h.now c.requires rep none,
    )
