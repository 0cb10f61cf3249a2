use Rattle.std.proofs.Common.{◌≡◌, ◌<◌, ℕ, true, length, is_lt, nat_cmp, sym, ◌∙◌}
use Rattle.std.proofs.Common.{arith}
use Rattle.std.proofs.lemmas.Bool.{eqb-true, ltb-true}
use Rattle.std.proofs.lemmas.Bool.Decides.{nat_tests}
use Rattle.std.proofs.lemmas.List.{get_or_default}
use Rattle.its_loctable.proofs.AddressLemmas.{found_at, gap_behind, searched}
use Rattle.its_loctable.proofs.sorted.binary_search.search.Goals as goal

lt-true : (m n : ℕ) → is_lt (nat_cmp m n) ≡ true → m < n
lt-true m n e = grind (arith, nat_tests)

pub returns-then-addresses-gt-MOST_ADDRESSES-clause-found :
    goal.returns-then-addresses-gt-MOST_ADDRESSES-clause-found
returns-then-addresses-gt-MOST_ADDRESSES-clause-found c =
    (searched c.args.addresses.now c.args.address c.binary_search.result c.requires
    c.binary_search.ensures.bound c.binary_search.ensures.position).0

pub returns-then-addresses-gt-MOST_ADDRESSES-clause-absent :
    goal.returns-then-addresses-gt-MOST_ADDRESSES-clause-absent
returns-then-addresses-gt-MOST_ADDRESSES-clause-absent c =
    (searched c.args.addresses.now c.args.address c.binary_search.result c.requires
    c.binary_search.ensures.bound c.binary_search.ensures.position).1

pub returns-then-eq-clause-found : goal.returns-then-eq-clause-found
returns-then-eq-clause-found c =
    let xs = c.args.addresses.now in
    let last = c.last_up_to-last.result in
    let within = ltb-true last (length xs) (sym c.in-Some.ensures.lookup.0) in
    let same = eqb-true _ _ (sym c.if-eq.ensures) in (
      found_at xs c.args.address last within
          (λ d. get_or_default xs last d c.in-Some.found.now within
          ∙ sym c.in-Some.ensures.lookup.1 ∙ same),
      within,
    )

pub returns-then-lt-clause-absent : goal.returns-then-lt-clause-absent
returns-then-lt-clause-absent c =
    let xs = c.args.addresses.now in
    let last = c.last_up_to-last.result in
    let found = c.in-Some.found.now in
    let within = ltb-true last (length xs) (sym c.in-Some.ensures.lookup.0) in
    let before : found < c.args.address =
    lt-true found c.args.address (sym c.lt.ensures ∙ c.if-lt.true) in (
      gap_behind xs c.args.address last found c.requires within
          c.in-Some.ensures.lookup.1 before c.last_up_to-last.ensures.above,
      omega (arith, within),
    )
