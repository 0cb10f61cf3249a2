use Rattle.std.proofs.Common.{rules, codes}
use Rattle.serde_json.specs.View.{view}
use Rattle.its_lines.specs.Requests.{IsWord}
use Rattle.its_lines.specs.declared.word.LineWord.TheVariants as line_words
use Rattle.its_lines.proofs.Own.{not_word}
use Rattle.its_lines.proofs.Secured.{not_verified}
use Rattle.its_lines.proofs.reading.comes_verified.Goals as goal

pub returns-in_default-2 : goal.returns-in_default-2
returns-in_default-2 c =
    let receive : ¬ IsWord (view c.args.members.now.0.now) (codes "receive") =
    not_word (view c.args.members.now.0.now) c.args.word line_words.Receive
    c.requires.none (λ some. search rules) in
    not_verified (view c.args.members.now.0.now) receive
