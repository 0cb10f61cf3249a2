use Rattle.std.proofs.Common.{◌≡◌, ◌+◌, ◌*◌, ◌<◌, ℕ, Bool, true, false, cond, List, length, is_le}
use Rattle.std.proofs.Common.{nat_cmp, refl, sym, subst, ◌∙◌, arith}
use Rattle.std.proofs.lemmas.Bool.{ltb-true}
use Rattle.std.proofs.lemmas.Bool.Decides.{nat_tests}
use Rattle.its_loctable.specs.Sorted.{AreAbove}
use Rattle.its_loctable.proofs.AddressLemmas.{above_from, above_later}
use Rattle.its_loctable.proofs.sorted.binary_search.halve.Goals as goal

le-false : (m n : ℕ) → is_le (nat_cmp m n) ≡ false → n < m
le-false m n e = grind (arith, nat_tests)

chosen : (xs : List ℕ) (a last half : ℕ) (b : Bool) → AreAbove xs a (last + 2 * half)
    → (b ≡ false → AreAbove xs a (last + half)) → AreAbove xs a (cond b (last + half) last + half)
chosen xs a last half true above rest =
    above_later xs a (last + 2 * half) (last + half + half) (omega arith) above
chosen xs a last half false above rest = rest refl

pub returns-clause-above : goal.returns-clause-above
returns-clause-above c =
    let xs = c.args.addresses.now in
    let a = c.args.address in
    let middle = c.args.last + c.args.half in
    let found = c.in-Some.found.now in
    let within = ltb-true middle (length xs) (sym c.in-Some.ensures.lookup.0) in
    let after : c.le.result ≡ false → a < found = (λ e. le-false found a (sym c.le.ensures ∙ e)) in
    subst (λ n. AreAbove xs a (n + c.args.half)) (sym c.select_unpredictable.ensures)
    (chosen xs a c.args.last c.args.half c.le.result c.requires.above
    (λ e. above_from xs a middle middle found c.requires.rising within
    c.in-Some.ensures.lookup.1 (after e) (omega arith)))
