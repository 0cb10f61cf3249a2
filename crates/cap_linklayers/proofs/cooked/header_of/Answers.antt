use Rattle.std.proofs.Common.{◌≡◌, ◌∙◌, ◌++◌, ◌∷◌, [], List, ℕ, length, take, drop, ap, rules}
use Rattle.std.proofs.lemmas.List.{take_at, drop_at, append-nil}
use Rattle.cap_linklayers.specs.Cooked.{target_of}
use Rattle.cap_linklayers.proofs.cooked.header_of.Goals as goal

pub returns : goal.returns
returns c =
    let x = c.copy_from_slice.new.self in
    let zeros : List ℕ = 0 ∷ 0 ∷ [] in
    let type = c.copy_from_slice-2.new.self in
    let addresses = target_of c.args.shared ++ take 6 (drop c.args.source c.args.octets.now) in
    let long : length x ≡ 12 = search rules in
    let front : x ≡ addresses = search rules in
    let back : type ≡ take 2 (drop c.args.kind c.args.octets.now) = search rules in
    ap (λ (l : List ℕ). l ++ (type ++ drop 2 (drop 12 (x ++ zeros)))) (take_at x zeros 12 long)
    ∙ ap (λ (l : List ℕ). x ++ (type ++ drop 2 l)) (drop_at x zeros 12 long)
    ∙ ap (λ (l : List ℕ). x ++ l) (append-nil type) ∙ ap (λ (l : List ℕ). l ++ type) front
    ∙ ap (λ (l : List ℕ). addresses ++ l) back
