use Rattle.std.proofs.Common.{◌≡◌, ◌+◌, ◌<◌, ◌≤◌, ◌∙◌, ℕ, List, Option, Some, refl, ap}
use Rattle.std.proofs.Common.{sym, subst, arith, rules, length, map}
use Rattle.std.proofs.lemmas.List.{length-map}
use Rattle.std.proofs.lemmas.Option.{slice_get-map, slice_get_read}
use Rattle.std.specs.Option.{option_map}
use Rattle.std.specs.Prelude.{slice_get}
use Rattle.its_words.specs.Nearest.{changes}
use Rattle.its_words.proofs.Near.{IsSoFar, nearer, no_nearer, some_nearest, none_near}
use Rattle.its_words.proofs.keys.meant.nearest_place.Goals as goal
use Rattle.its_words.proofs.keys.meant.nearest_place.Goals.{then-changes-fewest, else-changes-fewest}

pub loop-place-init : goal.loop-place-init
loop-place-init g c = (λ k w lt is. absurd (omega (arith, lt)), refl)

pub loop-place-preserved : goal.loop-place-preserved
loop-place-preserved g c =
    let word : List ℕ = c.args.word.now in
    let spelling = g.T.Spelled.spelling_of in
    let known : List (List ℕ) = map spelling c.args.known.now in
    let n : ℕ = c.loop-place.place in
    let one = c.index-known-place.result in
    let meant : List ℕ = spelling one in
    let is : slice_get known n ≡ Some meant =
    slice_get-map spelling c.args.known.now n
    ∙ ap (option_map spelling)
    (slice_get_read c.args.known.now (length c.args.known.now) n one refl c.loop-place-test.true
    c.index-known-place.is) in
    let apart : c.in_ok-changes.changes ≡ changes word meant =
    c.in_ok-changes.ensures.value ∙ ap (changes word) c.spelling.ensures in
    elim c.if-changes-fewest.branch [
      | then-changes-fewest w ↦
          subst (λ (o : Option ℕ). IsSoFar (n + 1) word known o c.if-changes-fewest.fewest)
          (sym w.found-is)
          (subst (λ (k : ℕ). IsSoFar (n + 1) word known (Some n) k) (sym (w.fewest-is ∙ apart))
          (nearer word known n c.loop-place.fewest c.loop-place.found meant is
          (subst (λ (k : ℕ). k < c.loop-place.fewest) apart w.if-changes-fewest.true)
          c.loop-place.invariant))
      | else-changes-fewest w ↦
          subst (λ (o : Option ℕ). IsSoFar (n + 1) word known o c.if-changes-fewest.fewest)
          (sym w.found-is)
          (subst (λ (k : ℕ). IsSoFar (n + 1) word known c.loop-place.found k) (sym w.fewest-is)
          (no_nearer word known n c.loop-place.fewest c.loop-place.found meant is
          (subst (λ (k : ℕ). c.loop-place.fewest ≤ k) apart w.if-changes-fewest.false)
          c.loop-place.invariant))
    ]

pub returns-clause-some : goal.returns-clause-some
returns-clause-some g c =
    let known = c.args.known.now in
    let spelling = g.T.Spelled.spelling_of in
    let all : c.loop-place.place ≡ length known = search rules in
    some_nearest c.loop-place.place c.loop-place.fewest c.args.word.now (map spelling known)
    c.loop-place.found (all ∙ sym (length-map known spelling)) c.loop-place.invariant

pub returns-clause-none : goal.returns-clause-none
returns-clause-none g c =
    let known = c.args.known.now in
    let spelling = g.T.Spelled.spelling_of in
    let all : c.loop-place.place ≡ length known = search rules in
    none_near c.loop-place.place c.loop-place.fewest c.args.word.now (map spelling known)
    c.loop-place.found (all ∙ sym (length-map known spelling)) c.loop-place.invariant
