use Rattle.std.proofs.Common.{◌≡◌, ◌+◌, ◌-◌, ◌++◌, ℕ, length, drop, sym, ap, ◌∙◌, arith}
use Rattle.std.proofs.Math.Seq.{drop-append-add}
use Rattle.std.proofs.lemmas.List.{take_rest}
use Rattle.its_headers.proofs.wire.octets.Octets.behind.Goals as goal

pub returns : goal.returns
returns g c =
    let front = g.H.Head.octets c.self.inside.head in
    let rest = c.self.inside.rest.now in
    let size : length front ≡ g.H.Head.SIZE = g.met.H.Head.size c.self.inside.head in
    let k = c.args.at - c.SIZE.result in
    let at : length front + k ≡ c.args.at =
    omega (arith, size, c.SIZE.ensures, c.requires.start) in
    take_rest rest k
    ∙ sym (drop-append-add front rest k)
    ∙ ap (λ (n : ℕ). drop n (front ++ rest)) at
    ∙ ap (drop c.args.at) c.self.view_is
