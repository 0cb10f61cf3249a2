use Rattle.std.proofs.Common.{◌≡◌, ◌∙◌, subst}
use Rattle.its_governor.specs.Sources.{SourceState, bucket_of}
use Rattle.its_governor.proofs.Buckets.{ring_front, ring_back, ring_none}
use Rattle.its_governor.proofs.sources.SourceBuckets.bucket_of.Goals as goal

pub returns-in-Some : goal.returns-in-Some
returns-in-Some c =
    let inside : SourceState = record {
      rate = c.self.inside.rate;
      draws = c.self.inside.draws.items;
      limit = c.self.inside.draws.capacity;
    } in
    subst (λ (s : SourceState). c.in-Some.bucket ≡ bucket_of s.rate c.args.source s.draws)
    c.self.view_is
    (ring_front inside c.args.source c.as_slices.result.0.now c.as_slices.result.1.now
    c.in-Some.bucket c.as_slices.ensures c.in-Some.ensures)

pub returns-in-Some-latest : goal.returns-in-Some-latest
returns-in-Some-latest c =
    let inside : SourceState = record {
      rate = c.self.inside.rate;
      draws = c.self.inside.draws.items;
      limit = c.self.inside.draws.capacity;
    } in
    subst (λ (s : SourceState). c.in-Some-latest.bucket ≡ bucket_of s.rate c.args.source s.draws)
    c.self.view_is
    (ring_back inside c.args.source c.as_slices.result.0.now c.as_slices.result.1.now
    c.in-Some-latest.bucket c.as_slices.ensures c.in-None.ensures c.in-Some-latest.ensures)

pub returns-in-None-latest : goal.returns-in-None-latest
returns-in-None-latest c =
    let inside : SourceState = record {
      rate = c.self.inside.rate;
      draws = c.self.inside.draws.items;
      limit = c.self.inside.draws.capacity;
    } in
    subst (λ (s : SourceState). c.new.result ≡ bucket_of s.rate c.args.source s.draws)
    c.self.view_is
    (c.new.ensures
    ∙ ring_none inside c.args.source c.as_slices.result.0.now c.as_slices.result.1.now
    c.as_slices.ensures c.in-None.ensures c.in-None-latest.ensures)
