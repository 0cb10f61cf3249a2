-- What is given again of octets that were looked at.
use Rattle.std.proofs.Common.{◌≡◌, ℕ, ◌+◌, List, ◌++◌, length, take, drop, sym, ap, ◌∙◌}
use Rattle.std.proofs.lemmas.List.{drop-drop, take_at, take-append-drop}

-- those that are left are those that are given, and those that are left then
pub given-parts : (n a : ℕ) (given first rest : List ℕ) → length given ≡ n
    → given ≡ take n (drop a first)
    → drop a first ≡ take n (given ++ rest) ++ drop (a + n) first
given-parts n a given first rest size e =
    sym (take-append-drop n (drop a first))
    ∙ ap (λ l. l ++ drop n (drop a first)) (sym e ∙ sym (take_at given rest n size))
    ∙ ap (λ l. take n (given ++ rest) ++ l) (drop-drop n a first)
