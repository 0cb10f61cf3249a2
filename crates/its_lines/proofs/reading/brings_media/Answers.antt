use Rattle.std.proofs.Common.{rules, codes}
use Rattle.serde_json.specs.View.{view}
use Rattle.its_words.specs.declared.keys.verb.Verb.TheVariants as verbs
use Rattle.its_lines.specs.Requests.{IsWord}
use Rattle.its_lines.specs.declared.word.LineWord.TheVariants as line_words
use Rattle.its_lines.proofs.Media.{brings_none}
use Rattle.its_lines.proofs.Own.{not_word}
use Rattle.its_lines.proofs.reading.brings_media.Goals as goal

pub returns-in_default-2 : goal.returns-in_default-2
returns-in_default-2 c =
    let shb : ¬ IsWord (view c.args.members.now.0.now) (codes "shb") =
    not_word (view c.args.members.now.0.now) c.args.word (line_words.Own verbs.Shb)
    c.requires.none (λ some. search rules) in
    brings_none (view c.args.members.now.0.now) shb

pub returns-in_default-3 : goal.returns-in_default-3
returns-in_default-3 c =
    let shb : ¬ IsWord (view c.args.members.now.0.now) (codes "shb") =
    not_word (view c.args.members.now.0.now) c.args.word (line_words.Own verbs.Shb)
    c.requires.none (λ some. search rules) in
    brings_none (view c.args.members.now.0.now) shb
