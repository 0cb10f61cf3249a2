use Rattle.std.proofs.Common.{rules, codes}
use Rattle.serde_json.specs.View.{view}
use Rattle.its_lines.specs.Requests.{IsWord}
use Rattle.its_lines.specs.declared.word.LineWord.TheVariants as line_words
use Rattle.its_lines.proofs.Own.{not_word}
use Rattle.its_lines.proofs.Secured.{not_secured}
use Rattle.its_lines.proofs.reading.asks_secured.Goals as goal

pub returns-in_default-2 : goal.returns-in_default-2
returns-in_default-2 c =
    let seal : ¬ IsWord (view c.args.members.now.0.now) (codes "seal") =
    not_word (view c.args.members.now.0.now) c.args.word line_words.Seal
    c.requires.none (λ some. search rules) in
    let receive : ¬ IsWord (view c.args.members.now.0.now) (codes "receive") =
    not_word (view c.args.members.now.0.now) c.args.word line_words.Receive
    c.requires.none (λ some. search rules) in
    let release : ¬ IsWord (view c.args.members.now.0.now) (codes "release") =
    not_word (view c.args.members.now.0.now) c.args.word line_words.Release
    c.requires.none (λ some. search rules) in
    not_secured (view c.args.members.now.0.now) seal release receive
