-- Items of an array, and what was read of each.
use Rattle.std.proofs.Common.{◌≡◌, ℕ, ◌+◌, ◌<◌, List, [], ◌∷◌, ◌++◌, length, take, get_or}
use Rattle.std.proofs.Common.{sym, ap, subst, ◌∙◌}
use Rattle.std.proofs.lemmas.List.{take_more}
use Rattle.its_words.specs.Fields.{FieldValues}
use Rattle.sim_settings.specs.Items.{EachItem, SayItems, SaysItem}
use Rattle.toml.specs.Data.{Data}
use Rattle.toml.specs.View.{items_view, view}
use Rattle.toml.specs.declared.value.Value.{Value}

-- one more item at the end
pub each_push : {X : Type 0} (IsOf : Data → X → Type 0) (items : List Value) (v : Value)
    (xs : List X) (x : X) → EachItem IsOf (items_view items) xs → IsOf (view v) x
    → EachItem IsOf (items_view (items ++ v ∷ [])) (xs ++ x ∷ [])
each_push IsOf [] v [] x all one = (one, tt)
each_push IsOf [] v (y ∷ ys) x all one = absurd all
each_push IsOf (w ∷ ws) v [] x all one = absurd all
each_push IsOf (w ∷ ws) v (y ∷ ys) x all one = (all.0, each_push IsOf ws v ys x all.1 one)

-- one more of the first items
pub each_more : {X : Type 0} (IsOf : Data → X → Type 0) (items : List Value) (i : ℕ)
    (v : Value) (xs : List X) (x : X) → i < length items → v ≡ get_or items i v
    → EachItem IsOf (items_view (take i items)) xs → IsOf (view v) x
    → EachItem IsOf (items_view (take (i + 1) items)) (xs ++ x ∷ [])
each_more IsOf items i v xs x lt is all one =
    subst (λ (l : List Value). EachItem IsOf (items_view l) (xs ++ x ∷ []))
    (ap (λ z. take i items ++ z ∷ []) is ∙ sym (take_more items i v lt))
    (each_push IsOf (take i items) v xs x all one)

-- one more table among the first items
pub say_more : {X : Type 0} (Says : FieldValues → X → Type 0) (items : List Value) (i : ℕ)
    (v : Value) (xs : List X) (x : X) → i < length items → v ≡ get_or items i v
    → SayItems Says (items_view (take i items)) xs → SaysItem Says (view v) x
    → SayItems Says (items_view (take (i + 1) items)) (xs ++ x ∷ [])
say_more Says items i v xs x lt is all one =
    each_more (SaysItem Says) items i v xs x lt is all one
