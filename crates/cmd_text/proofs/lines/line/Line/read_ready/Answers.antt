use Rattle.std.proofs.Common.{◌+◌, rules, arith, take, length, subst, take_all, le_refl}
use Rattle.std.specs.Io.KnownBytes.{Consumes}
use Rattle.std.specs.Io.BufRead.{FillKeeps}
use Rattle.std.proofs.BufReadLemmas.{Consumes_shown}
use Rattle.cmd_text.proofs.Pieces.{before_feed, without_feed}
use Rattle.cmd_text.proofs.lines.line.Line.read_ready.Goals as goal

pub returns-in-Some-clause-piece : goal.returns-in-Some-clause-piece
returns-in-Some-clause-piece g c =
    let (within, none, more) = before_feed c.in-Ok.ready.now c.in-Some.end (search rules) in
    let rested = c.fill_buf.follows.lender-at-none in
    let filled = subst (FillKeeps _ (g.R.Read.remaining rested) (g.R.BufRead.consumable_len rested))
    c.in-Ok.is c.fill_buf.follows.holds-at-none in
    let gave = Consumes_shown _ _ _ _ c.in-Ok.ready.now (c.in-Some.end + 1) (omega (arith, within))
    c.in-Ok.ensures.front c.in-Ok.ensures.end filled.0 filled.1 c.consume.ensures.bytes in
    record {
      piece = take c.in-Some.end c.in-Ok.ready.now;
      no_end = none;
      gives = subst (Consumes _ _) more gave.0;
      adds = c.add.ensures.adds;
    }

pub returns-in-None-clause-piece : goal.returns-in-None-clause-piece
returns-in-None-clause-piece g c =
    let rested = c.fill_buf.follows.lender-at-none in
    let filled = subst (FillKeeps _ (g.R.Read.remaining rested) (g.R.BufRead.consumable_len rested))
    c.in-Ok.is c.fill_buf.follows.holds-at-none in
    let gave = Consumes_shown _ _ _ _ c.in-Ok.ready.now (length c.in-Ok.ready.now) (le_refl _)
    c.in-Ok.ensures.front c.in-Ok.ensures.end filled.0 filled.1 c.consume-in-None.ensures.bytes in
    record {
      piece = c.in-Ok.ready.now;
      no_end = without_feed c.in-Ok.ready.now (search rules);
      gives = subst (Consumes (g.R.Read.remaining c.args.reader.now)
          (g.R.Read.remaining c.consume-in-None.new.self))
          (take_all (length c.in-Ok.ready.now) c.in-Ok.ready.now (le_refl _)) gave.0;
      adds = c.add-in-None.ensures.adds;
    }
