use Rattle.std.proofs.Common.{◌≡◌, ◌≢◌, ℕ, All, take, length, rules, arith, ap, ◌∙◌, sym}
use Rattle.std.proofs.lemmas.Grind.{common_steps}
use Rattle.cmd_page.specs.Inside.{spelled}
use Rattle.cmd_page.proofs.Plain.{plain}
use Rattle.cmd_page.proofs.inside.first_piece.Goals as goal

pub returns-in-Some-clause-spelled : goal.returns-in-Some-clause-spelled
returns-in-Some-clause-spelled c =
    let octets = take c.in-Some.count c.args.octets.now in
    let none : All (λ (octet : ℕ). octet ≢ 60) octets = grind (arith, common_steps) in
    plain octets none

pub returns-in-None-clause-spelled : goal.returns-in-None-clause-spelled
returns-in-None-clause-spelled c =
    let octets = c.args.octets.now in
    let none : All (λ (octet : ℕ). octet ≢ 60) octets = search rules in
    let all : take (length octets) octets ≡ octets = grind (arith, common_steps) in
    plain octets none ∙ ap spelled (sym all)
