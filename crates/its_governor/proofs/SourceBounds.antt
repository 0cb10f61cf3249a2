-- Frames that pass the buckets of their sources are bounded.
use Rattle.std.proofs.Common.{◌≡◌, ℕ, suc, zero, ◌+◌, ◌≤◌, Bool, true, false, cond, eqb}
use Rattle.std.proofs.Common.{List, [], ◌∷◌, ◌++◌, length, take, drop, Some, refl, sym}
use Rattle.std.proofs.Common.{ap, ◌∙◌, subst, arith}
use Rattle.std.proofs.lemmas.Bool.{eqb-true, false≢true}
use Rattle.std.proofs.lemmas.List.{take-append-drop}
use Rattle.its_governor.specs.declared.bucket.Bucket.{Bucket}
use Rattle.its_governor.specs.declared.rate.Rate.{Rate}
use Rattle.its_governor.specs.declared.sources.SourceDraw.{SourceDraw}
use Rattle.its_governor.specs.Bucket.{has_room, drawn, MayPass, IsBounded}
use Rattle.its_governor.specs.Sources.{SourceState, Forwarded, bucket_of, bucket_after, draw_of}
use Rattle.its_governor.specs.Sources.{with_draw, drawn_by, latest, SourcesMayPass, times_from}
use Rattle.its_governor.specs.Sources.{SourcesAreBounded}
use Rattle.its_governor.proofs.Bounds.{bounded}
use Rattle.its_governor.proofs.Buckets.{some_front}

-- each bucket is of the rate
of_rate : (rate : Rate) (source : ℕ) (draws : List SourceDraw)
    → (bucket_of rate source draws).rate ≡ rate
of_rate rate source [] = refl
of_rate rate source (d ∷ draws) = by (eqb d.source source) (of_rate rate source draws)
  where
    by : (t : Bool) → (bucket_of rate source draws).rate ≡ rate
        → (cond t (bucket_after rate d) (bucket_of rate source draws)).rate ≡ rate
    by true e = refl
    by false e = e

-- a front of a front
take_shorter : (j n : ℕ) (xs : List SourceDraw) → j ≤ n → take j (take n xs) ≡ take j xs
take_shorter zero n xs le = refl
take_shorter (suc j) zero xs le = absurd (omega (arith, le))
take_shorter (suc j) (suc n) [] le = refl
take_shorter (suc j) (suc n) (x ∷ xs) le =
    ap (λ (l : List SourceDraw). x ∷ l) (take_shorter j n xs (omega (arith, le)))

-- the bucket that is found in a front is that of all
found : (s : SourceState) (source j : ℕ) (b : Bucket)
    → latest s.rate source (take j s.draws) ≡ Some b → bucket_of s.rate source s.draws ≡ b
found s source j b e =
    ap (bucket_of s.rate source) (sym (take-append-drop j s.draws))
    ∙ some_front s.rate source (take j s.draws) (drop j s.draws) b e

-- after one more frame it is found one place later, if the frame is of another source
later : (s : SourceState) (source other time j : ℕ) (b : Bucket) → j + 1 ≤ s.limit
    → eqb other source ≡ false → latest s.rate source (take j s.draws) ≡ Some b
    → latest s.rate source (take (suc j) (with_draw other time s).draws) ≡ Some b
later s source other time j b fits apart e =
    ap (latest s.rate source)
    (take_shorter (suc j) s.limit (draw_of other (drawn (bucket_of s.rate other s.draws) time) ∷ s.draws)
    (omega (arith, fits)))
    ∙ by (eqb other source) apart
  where
    by : (t : Bool) → t ≡ false
        → cond t
        (Some (bucket_after s.rate (draw_of other (drawn (bucket_of s.rate other s.draws) time))))
        (latest s.rate source (take j s.draws)) ≡ Some b
    by true f = absurd (false≢true (sym f))
    by false f = e

-- after a frame of the source it is found at the front
newest : (s : SourceState) (source other time : ℕ) → 1 ≤ s.limit → eqb other source ≡ true
    → latest s.rate source (take 1 (with_draw other time s).draws)
    ≡ Some (drawn (bucket_of s.rate other s.draws) time)
newest s source other time fits same =
    ap (latest s.rate source)
    (take_shorter 1 s.limit (draw_of other (drawn (bucket_of s.rate other s.draws) time) ∷ s.draws) fits)
    ∙ by (eqb other source) same
  where
    rated : bucket_after s.rate (draw_of other (drawn (bucket_of s.rate other s.draws) time))
        ≡ drawn (bucket_of s.rate other s.draws) time
    rated = ap (λ (r : Rate). record {
      rate = r;
      parts = (drawn (bucket_of s.rate other s.draws) time).parts;
      since = time;
    }) (sym (of_rate s.rate other s.draws))

    by : (t : Bool) → t ≡ true
        → cond t
        (Some (bucket_after s.rate (draw_of other (drawn (bucket_of s.rate other s.draws) time))))
        (latest s.rate source (take 0 s.draws))
        ≡ Some (drawn (bucket_of s.rate other s.draws) time)
    by true f = ap (λ (d : Bucket). Some d) rated
    by false f = absurd (false≢true f)

-- by whether a frame is of the source: once one of it is kept
held_by : (s : SourceState) (source j : ℕ) (b : Bucket) (f : Forwarded) (frames : List Forwarded)
    → latest s.rate source (take j s.draws) ≡ Some b
    → has_room (bucket_of s.rate f.source s.draws) f.time ≡ true
    → (eqb f.source source ≡ true → MayPass (drawn (bucket_of s.rate f.source s.draws) f.time)
    (times_from source frames))
    → (eqb f.source source ≡ false → MayPass b (times_from source frames))
    → (t : Bool) → eqb f.source source ≡ t
    → MayPass b (cond t (f.time ∷ times_from source frames) (times_from source frames))
held_by s source j b f frames is room same apart true e =
    let here : bucket_of s.rate f.source s.draws ≡ b =
    ap (λ (n : ℕ). bucket_of s.rate n s.draws) (eqb-true f.source source e)
    ∙ found s source j b is in (
      subst (λ (c : Bucket). has_room c f.time ≡ true) here room,
      subst (λ (c : Bucket). MayPass (drawn c f.time) (times_from source frames)) here (same e),
    )
held_by s source j b f frames is room same apart false e = apart e

held : (s : SourceState) (source j : ℕ) (b : Bucket) (frames : List Forwarded)
    → latest s.rate source (take j s.draws) ≡ Some b → j + length frames ≤ s.limit
    → SourcesMayPass s frames → MayPass b (times_from source frames)
held s source j b [] is fits pass = tt
held s source j b (f ∷ frames) is fits pass =
    held_by s source j b f frames is pass.0
    (λ e. held (with_draw f.source f.time s) source 1
    (drawn (bucket_of s.rate f.source s.draws) f.time) frames
    (newest s source f.source f.time (omega (arith, fits)) e) (some_room j fits) pass.1)
    (λ e. held (with_draw f.source f.time s) source (suc j) b frames
    (later s source f.source f.time j b (omega (arith, fits)) e is) (omega (arith, fits)) pass.1)
    (eqb f.source source) refl
  where
    some_room : (k : ℕ) → k + suc (length frames) ≤ s.limit → 1 + length frames ≤ s.limit
    some_room k h = omega (arith, h)

-- a bucket of the rate that these frames pass
pub record Passes (rate : Rate) (times : List ℕ) : Type 0 where
  pub bucket : Bucket
  pub is : bucket.rate ≡ rate
  pub pass : MayPass bucket times

-- by whether a frame is of the source: before any of it is kept
first_by : (s : SourceState) (source : ℕ) (f : Forwarded) (frames : List Forwarded)
    → has_room (bucket_of s.rate f.source s.draws) f.time ≡ true
    → (eqb f.source source ≡ true → MayPass (drawn (bucket_of s.rate f.source s.draws) f.time)
    (times_from source frames))
    → Passes s.rate (times_from source frames)
    → (t : Bool) → eqb f.source source ≡ t
    → Passes s.rate (cond t (f.time ∷ times_from source frames) (times_from source frames))
first_by s source f frames room same rest true e = record {
  bucket = bucket_of s.rate f.source s.draws;
  is = of_rate s.rate f.source s.draws;
  pass = (room, same e);
}
first_by s source f frames room same rest false e = rest

first : (s : SourceState) (source : ℕ) (frames : List Forwarded) → length frames ≤ s.limit
    → SourcesMayPass s frames → Passes s.rate (times_from source frames)
first s source [] fits pass =
    record { bucket = bucket_of s.rate source []; is = refl; pass = tt }
first s source (f ∷ frames) fits pass =
    first_by s source f frames pass.0
    (λ e. held (with_draw f.source f.time s) source 1
    (drawn (bucket_of s.rate f.source s.draws) f.time) frames
    (newest s source f.source f.time (omega (arith, fits)) e) (omega (arith, fits)) pass.1)
    (first (with_draw f.source f.time s) source frames (omega (arith, fits)) pass.1)
    (eqb f.source source) refl

pub sources_bounded : (s : SourceState) (frames : List Forwarded) → SourcesMayPass s frames
    → SourcesAreBounded s frames
sources_bounded s frames pass fits source =
    let p = first s source frames fits pass in
    subst (λ (r : Rate). IsBounded r (times_from source frames)) p.is
    (bounded p.bucket (times_from source frames) p.pass)

-- one more frame after others
pub sources_more : (s : SourceState) (frames : List Forwarded) (f : Forwarded)
    → SourcesMayPass s frames
    → has_room (bucket_of (drawn_by s frames).rate f.source (drawn_by s frames).draws) f.time
    ≡ true → SourcesMayPass s (frames ++ f ∷ [])
sources_more s [] f pass room = (room, tt)
sources_more s (g ∷ frames) f pass room =
    (pass.0, sources_more (with_draw g.source g.time s) frames f pass.1 room)

pub drawn_by-more : (s : SourceState) (frames : List Forwarded) (f : Forwarded)
    → drawn_by s (frames ++ f ∷ []) ≡ with_draw f.source f.time (drawn_by s frames)
drawn_by-more s [] f = refl
drawn_by-more s (g ∷ frames) f = drawn_by-more (with_draw g.source g.time s) frames f
