-- Words of an option, and the ports of which they are the numbers.
use Rattle.std.proofs.Common.{◌≡◌, ℕ, ◌+◌, ◌<◌, List, [], ◌∷◌, ◌++◌, length, take, get_or, map}
use Rattle.std.proofs.Common.{rules, sym, subst, Result, Ok, Err, MatchResult, false}
use Rattle.std.specs.Result.{is_err}
use Rattle.std.proofs.lemmas.List.{take_more}
use Rattle.std.specs.Borrow.{Bor}
use Rattle.cmd_arguments.specs.Options.{ArePorts, IsWhole}

-- the texts of words
abbrev pub texts_of : List (Bor (List ℕ)) → List (List ℕ)
texts_of words = map (λ (word : Bor (List ℕ)). word.now) words

-- one more word at the end
pub port_push : (words : List (Bor (List ℕ))) (w : Bor (List ℕ)) (ports : List ℕ) (port : ℕ)
    → ArePorts (texts_of words) ports → IsWhole 16 w.now port
    → ArePorts (texts_of (words ++ w ∷ [])) (ports ++ port ∷ [])
port_push [] w [] port all one = (one, tt)
port_push [] w (y ∷ ys) port all one = absurd all
port_push (v ∷ vs) w [] port all one = absurd all
port_push (v ∷ vs) w (y ∷ ys) port all one = (all.0, port_push vs w ys port all.1 one)

-- one more of the first words
pub port_more : (words : List (Bor (List ℕ))) (i : ℕ) (other : Bor (List ℕ)) (ports : List ℕ)
    (port : ℕ) → i < length words → ArePorts (texts_of (take i words)) ports
    → IsWhole 16 (get_or words i other).now port
    → ArePorts (texts_of (take (i + 1) words)) (ports ++ port ∷ [])
port_more words i other ports port lt all one =
    subst (λ (l : List (Bor (List ℕ))). ArePorts (texts_of l) (ports ++ port ∷ []))
    (sym (take_more words i other lt))
    (port_push (take i words) (get_or words i other) ports port all one)

-- what holds of a call that didn't fail
pub done : {T E : Type 0} (A : T → Type 0) (B : E → Type 0) (r : Result T E) → is_err r ≡ false
    → MatchResult r A B → (x : T) × A x
done A B (Ok x) passed holds = (x, holds)
done A B (Err e) passed holds = absurd (search rules)
