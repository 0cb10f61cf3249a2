use Rattle.std.proofs.Common.{◌≤◌, ℕ, List, drop, arith, sym, subst}
use Rattle.std.specs.Prelude.{Vec}
use Rattle.std.specs.declared.alloc.Global.{Global}
use Rattle.its_world.specs.State.{WorldState, RepresentsWorld}
use Rattle.its_world.specs.Frames.{AreFrames}
use Rattle.its_world.proofs.Worlds.{count_kept, kept_left}
use Rattle.its_world.proofs.world.World.release.Goals as goal

pub returns-clause-stands : goal.returns-clause-stands
returns-clause-stands c = λ w h. (
    let here = subst (λ (x : WorldState). RepresentsWorld x w) (sym c.self.view_is) h in
    let old = c.self.inside.air in
    let now = c.release.new.self in
    let all = count_kept old.released old.kept.items w.air here.released here.frames in
    let more : old.released ≤ now.released = omega (arith, c.release.ensures.released) in
    record {
      stations = here.stations;
      released = omega (arith, c.release.ensures.released, here.released, all);
      frames = subst (λ (xs : List (Vec ℕ Global)). AreFrames xs (drop now.released w.air))
          (sym c.release.ensures.kept)
          (kept_left old.released now.released old.kept.items w.air more here.frames);
    })
