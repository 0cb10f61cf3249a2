-- The words that a line takes under `do`.
use Rattle.std.specs.Prelude.{ℕ, List, codes}
use Rattle.its_words.specs.Verbs.{verb_word}
use Rattle.its_lines.specs.declared.request.QueryKey.{QueryKey}
use Rattle.its_lines.specs.declared.request.QueryKey.TheVariants as query_keys
use Rattle.its_lines.specs.declared.word.LineWord.{LineWord}
use Rattle.its_lines.specs.declared.word.LineWord.TheVariants as line_words

-- the word of each
abbrev pub line_word : LineWord → List ℕ
line_word (line_words.Own verb) = verb_word verb
line_word line_words.Receive = codes "receive"
line_word line_words.NextBeacon = codes "next_beacon"
line_word line_words.Neighbours = codes "neighbours"
line_word line_words.LookUp = codes "look_up"
line_word line_words.ReadFrame = codes "read_frame"
line_word line_words.Counts = codes "counts"
line_word line_words.Seal = codes "seal"
line_word line_words.Release = codes "release"
line_word line_words.NextDue = codes "next_due"

-- the word of a key of what is asked
abbrev pub query_key : QueryKey → List ℕ
query_key query_keys.Jitter = codes "jitter"
query_key query_keys.After = codes "after"
query_key query_keys.Address = codes "address"
query_key query_keys.Frame = codes "frame"
query_key query_keys.Plain = codes "plain"
query_key query_keys.Message = codes "message"
query_key query_keys.Media = codes "media"
