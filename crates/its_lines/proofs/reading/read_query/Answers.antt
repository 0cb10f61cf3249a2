use Rattle.std.proofs.Common.{rules, codes}
use Rattle.serde_json.specs.View.{view}
use Rattle.its_lines.specs.Requests.{IsWord}
use Rattle.its_lines.specs.declared.word.LineWord.TheVariants as line_words
use Rattle.its_lines.proofs.Own.{not_word}
use Rattle.its_lines.proofs.Read.{not_query}
use Rattle.its_lines.proofs.reading.read_query.Goals as goal

pub returns-in_default-clause-none : goal.returns-in_default-clause-none
returns-in_default-clause-none c =
    let next_beacon : ¬ IsWord (view c.args.members.now.0.now) (codes "next_beacon") =
    not_word (view c.args.members.now.0.now) c.args.word line_words.NextBeacon
    c.requires.none (λ some. search rules) in
    let neighbours : ¬ IsWord (view c.args.members.now.0.now) (codes "neighbours") =
    not_word (view c.args.members.now.0.now) c.args.word line_words.Neighbours
    c.requires.none (λ some. search rules) in
    let look_up : ¬ IsWord (view c.args.members.now.0.now) (codes "look_up") =
    not_word (view c.args.members.now.0.now) c.args.word line_words.LookUp
    c.requires.none (λ some. search rules) in
    let read_frame : ¬ IsWord (view c.args.members.now.0.now) (codes "read_frame") =
    not_word (view c.args.members.now.0.now) c.args.word line_words.ReadFrame
    c.requires.none (λ some. search rules) in
    let counts : ¬ IsWord (view c.args.members.now.0.now) (codes "counts") =
    not_word (view c.args.members.now.0.now) c.args.word line_words.Counts
    c.requires.none (λ some. search rules) in
    let seal : ¬ IsWord (view c.args.members.now.0.now) (codes "seal") =
    not_word (view c.args.members.now.0.now) c.args.word line_words.Seal
    c.requires.none (λ some. search rules) in
    let next_due : ¬ IsWord (view c.args.members.now.0.now) (codes "next_due") =
    not_word (view c.args.members.now.0.now) c.args.word line_words.NextDue
    c.requires.none (λ some. search rules) in
    not_query (view c.args.members.now.0.now) next_beacon neighbours look_up read_frame counts seal
    next_due
