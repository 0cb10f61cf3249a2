-- The bucket of a source, by its newest frame in a ring of two parts.
use Rattle.std.proofs.Common.{◌≡◌, ℕ, Bool, true, false, cond, eqb, List, [], ◌∷◌, ◌++◌, Option}
use Rattle.std.proofs.Common.{Some, None, refl, sym, ap, ◌∙◌}
use Rattle.std.proofs.lemmas.Option.{none-some, same_Some}
use Rattle.its_governor.specs.declared.bucket.Bucket.{Bucket}
use Rattle.its_governor.specs.declared.rate.Rate.{Rate}
use Rattle.its_governor.specs.declared.sources.SourceDraw.{SourceDraw}
use Rattle.its_governor.specs.Bucket.{full}
use Rattle.its_governor.specs.Sources.{SourceState, bucket_of, bucket_after, latest}

step_some : (t : Bool) (y x r : Bucket) (rest : Option Bucket) → (rest ≡ Some x → r ≡ x)
    → cond t (Some y) rest ≡ Some x → cond t y r ≡ x
step_some true y x r rest f e = same_Some y x e
step_some false y x r rest f e = f e

step_none : (t : Bool) (y r r' : Bucket) (rest : Option Bucket) → (rest ≡ None → r ≡ r')
    → cond t (Some y) rest ≡ None → cond t y r ≡ r'
step_none true y r r' rest f e = absurd (none-some y (sym e))
step_none false y r r' rest f e = f e

-- the newest frame of the source is in the first part
pub some_front : (rate : Rate) (source : ℕ) (a b : List SourceDraw) (x : Bucket)
    → latest rate source a ≡ Some x → bucket_of rate source (a ++ b) ≡ x
some_front rate source [] b x e = absurd (none-some x e)
some_front rate source (d ∷ a) b x e =
    step_some (eqb d.source source) (bucket_after rate d) x (bucket_of rate source (a ++ b)) (latest rate source a)
    (some_front rate source a b x) e

-- it isn't
pub none_front : (rate : Rate) (source : ℕ) (a b : List SourceDraw)
    → latest rate source a ≡ None → bucket_of rate source (a ++ b) ≡ bucket_of rate source b
none_front rate source [] b e = refl
none_front rate source (d ∷ a) b e =
    step_none (eqb d.source source) (bucket_after rate d) (bucket_of rate source (a ++ b))
    (bucket_of rate source b) (latest rate source a) (none_front rate source a b) e

-- it is in neither
pub none_of : (rate : Rate) (source : ℕ) (b : List SourceDraw)
    → latest rate source b ≡ None → bucket_of rate source b ≡ full rate
none_of rate source [] e = refl
none_of rate source (d ∷ b) e =
    step_none (eqb d.source source) (bucket_after rate d) (bucket_of rate source b)
    (full rate) (latest rate source b) (none_of rate source b) e

pub ring_front : (s : SourceState) (source : ℕ) (a b : List SourceDraw) (x : Bucket)
    → a ++ b ≡ s.draws → Some x ≡ latest s.rate source a → x ≡ bucket_of s.rate source s.draws
ring_front s source a b x is e =
    sym (some_front s.rate source a b x (sym e)) ∙ ap (bucket_of s.rate source) is

pub ring_back : (s : SourceState) (source : ℕ) (a b : List SourceDraw) (x : Bucket)
    → a ++ b ≡ s.draws → None ≡ latest s.rate source a → Some x ≡ latest s.rate source b
    → x ≡ bucket_of s.rate source s.draws
ring_back s source a b x is none e =
    sym (some_front s.rate source b [] x (sym e)) ∙ ap (bucket_of s.rate source) (nil b)
    ∙ sym (none_front s.rate source a b (sym none)) ∙ ap (bucket_of s.rate source) is
  where
    nil : (b : List SourceDraw) → b ++ [] ≡ b
    nil [] = refl
    nil (d ∷ b) = ap (λ (l : List SourceDraw). d ∷ l) (nil b)

pub ring_none : (s : SourceState) (source : ℕ) (a b : List SourceDraw)
    → a ++ b ≡ s.draws → None ≡ latest s.rate source a → None ≡ latest s.rate source b
    → full s.rate ≡ bucket_of s.rate source s.draws
ring_none s source a b is none e =
    sym (none_of s.rate source b (sym e))
    ∙ sym (none_front s.rate source a b (sym none)) ∙ ap (bucket_of s.rate source) is
