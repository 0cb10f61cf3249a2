use Rattle.std.proofs.Common.{rules, codes}
use Rattle.serde_json.specs.View.{view}
use Rattle.its_lines.specs.Requests.{IsWord}
use Rattle.its_lines.specs.declared.word.LineWord.TheVariants as line_words
use Rattle.its_lines.proofs.Own.{asks_own, bad_call, not_word}
use Rattle.its_lines.proofs.reading.read_call.Goals as goal

pub returns-in_err-read_call-in_default-clause-fault : goal.returns-in_err-read_call-in_default-clause-fault
returns-in_err-read_call-in_default-clause-fault c =
    let members = view c.args.members.now.0.now in
    let receive : ¬ IsWord members (codes "receive") =
    not_word members c.args.word line_words.Receive c.requires.word.none (λ some. search rules) in
    let bad = bad_call members c.read_call.result receive c.read_call.ensures.fault
    c.read_call.ensures.bad c.read_call.ensures.deliver in
    search rules

pub returns-in_ok-read_call-in_default-clause-call : goal.returns-in_ok-read_call-in_default-clause-call
returns-in_ok-read_call-in_default-clause-call c =
    let members = view c.args.members.now.0.now in
    let receive : ¬ IsWord members (codes "receive") =
    not_word members c.args.word line_words.Receive c.requires.word.none (λ some. search rules) in
    let read = c.in_ok-read_call-in_default in
    asks_own members read.field-0 receive read.ensures.deliver c.requires.media read.ensures.says
