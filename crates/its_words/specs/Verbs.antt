-- The words for what a station does.
use Rattle.std.specs.Prelude.{ℕ, List, codes}
use Rattle.its_model.specs.Calls.{OwnCall}
use Rattle.its_model.specs.Calls.OwnCall.{Move, Open, Close, Tick, SendShb, SendGbc, SendGac}
use Rattle.its_model.specs.Calls.OwnCall.{Restart}
use Rattle.its_model.specs.World.{What}
use Rattle.its_model.specs.World.What.{Calls, Deliver}
use Rattle.its_words.specs.declared.keys.verb.Verb.{Verb}
use Rattle.its_words.specs.declared.keys.verb.Verb.TheVariants as verbs

-- the word of each
abbrev pub verb_word : Verb → List ℕ
verb_word verbs.Deliver = codes "deliver"
verb_word verbs.Move = codes "move"
verb_word verbs.Open = codes "open"
verb_word verbs.Close = codes "close"
verb_word verbs.Tick = codes "tick"
verb_word verbs.Shb = codes "shb"
verb_word verbs.Gbc = codes "gbc"
verb_word verbs.Gac = codes "gac"
verb_word verbs.Restart = codes "restart"
verb_word verbs.Leave = codes "leave"

-- the word of what a station's own applications ask of it
abbrev pub own_verb : OwnCall → Verb
own_verb (Move place accurate speed heading) = verbs.Move
own_verb (Open port) = verbs.Open
own_verb (Close port) = verbs.Close
own_verb (Tick jitter) = verbs.Tick
own_verb (SendShb request) = verbs.Shb
own_verb (SendGbc request) = verbs.Gbc
own_verb (SendGac request) = verbs.Gac
own_verb (Restart number) = verbs.Restart

-- the word of what happens in a world
abbrev pub verb_of : What → Verb
verb_of (Calls call) = own_verb call
verb_of (Deliver frame) = verbs.Deliver
