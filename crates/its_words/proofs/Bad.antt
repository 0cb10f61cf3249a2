-- Keys under which nothing stands that they take.
use Rattle.std.proofs.Common.{◌≡◌, ℕ, false, List, codes, nat_eq, refl, sym, ap, subst, ◌∙◌}
use Rattle.std.proofs.lemmas.Bool.{false≢true}
use Rattle.std.proofs.lemmas.Option.{same_Some}
use Rattle.std.specs.Prelude.{◌≢◌, Err}
use Rattle.std.specs.Cmp.Lexicographic.{pointwise}
use Rattle.its_words.specs.Faults.{IsFaultOf}
use Rattle.its_words.specs.Fields.{FieldValues, IsNumber, IsText, IsUntaken}
use Rattle.its_words.specs.Verbs.{verb_word}
use Rattle.its_words.specs.declared.keys.fault.KeyFault.TheVariants as key_faults
use Rattle.its_words.specs.declared.keys.fault.KeyFault.{KeyFault}
use Rattle.its_words.specs.declared.keys.key.Key.TheVariants as keys
use Rattle.its_words.specs.declared.keys.key.Key.{Key}
use Rattle.its_words.specs.declared.keys.verb.Verb.{Verb}
use Rattle.its_words.specs.declared.keys.verb.Verb.TheVariants as verbs
use Rattle.its_model.specs.Calls.OwnCall.{Move, Open, Close, Tick, SendShb, SendGbc, SendGac}
use Rattle.its_model.specs.Calls.OwnCall.{Restart}
use Rattle.its_model.specs.World.{What}
use Rattle.its_model.specs.World.What.{Calls, Deliver}
use Rattle.its_words.specs.Reading.{IsBadAt, IsBadOf}
use Rattle.its_words.specs.Reading.{IsBadMeasure, IsBadWord}
use Rattle.its_words.specs.Verbs.{verb_of}

-- the fault of a bad key
pub bad_of : (values : FieldValues) (key : Key) (fault : KeyFault) → IsFaultOf key fault
    → IsBadAt values key → IsBadOf values fault
bad_of values key (key_faults.Refused bad wrong) is at = subst (IsBadAt values) (sym is) at
bad_of values key key_faults.OutOfMemory is at = tt

-- a measure of a circle
pub bad_of_circle : (values : FieldValues) (key : Key) → IsText values keys.Shape (codes "circle")
    → (¬ IsNumber values key 0) → IsBadMeasure values key
bad_of_circle values key circle bad = (λ _. bad, λ not. absurd (not circle))

-- a measure of another shape
pub bad_of_rectangle : (values : FieldValues) (key : Key)
    → IsText values keys.Shape (codes "rectangle") → IsUntaken values key → IsBadMeasure values key
bad_of_rectangle values key is bad = (λ circle. absurd (cc), λ _. bad)

pub bad_of_ellipse : (values : FieldValues) (key : Key)
    → IsText values keys.Shape (codes "ellipse") → IsUntaken values key → IsBadMeasure values key
bad_of_ellipse values key is bad = (λ circle. absurd (cc), λ _. bad)

-- a word for what a station does that is none
pub bad_word : (values : FieldValues) (word : List ℕ) → IsText values keys.Do word
    → ((verb : Verb) → ¬ (word ≡ verb_word verb)) → IsBadAt values keys.Do
bad_word values word is none = λ what says. none (verb_of what) (cc)

-- another word than that for a leave
differ : (word : List ℕ) → pointwise nat_eq (codes "leave") word ≡ false → ¬ (codes "leave" ≡ word)
differ word unlike e = false≢true (sym unlike ∙ sym (ap (pointwise nat_eq (codes "leave")) e))

-- nothing that happens in a world has the word for a leave
never_leaves : (what : What) → ¬ (codes "leave" ≡ verb_word (verb_of what))
never_leaves (Calls (Move place accurate speed heading)) = differ _ refl
never_leaves (Calls (Open port)) = differ _ refl
never_leaves (Calls (Close port)) = differ _ refl
never_leaves (Calls (Tick jitter)) = differ _ refl
never_leaves (Calls (SendShb request)) = differ _ refl
never_leaves (Calls (SendGbc request)) = differ _ refl
never_leaves (Calls (SendGac request)) = differ _ refl
never_leaves (Calls (Restart number)) = differ _ refl
never_leaves (Deliver frame) = differ _ refl

pub bad_leave : (values : FieldValues) (word : List ℕ) → IsText values keys.Do word
    → word ≡ codes "leave" → IsBadAt values keys.Do
bad_leave values word is leave = λ what says. never_leaves what (cc)

-- the fault of the word
pub bad_word_of : (T : Type 0) (fault : KeyFault) → IsFaultOf keys.Do fault
    → IsBadWord {T = T} (Err fault)
bad_word_of T (key_faults.Refused key wrong) is = is
bad_word_of T key_faults.OutOfMemory is = tt

-- the verb whose word stands there, if the word for a delivery is that of no other
other_word : (values : FieldValues) (word : List ℕ) → IsText values keys.Do word
    → IsText values keys.Do (codes "deliver") → pointwise nat_eq (codes "deliver") word ≡ false → ⊥
other_word values word is deliver unlike =
    false≢true (sym unlike ∙ sym (ap (pointwise nat_eq (codes "deliver")) (same_Some (codes "deliver") word (sym deliver ∙ is))))

-- the word for a delivery is that of no other
pub is_deliver : (values : FieldValues) (verb : Verb) → IsText values keys.Do (verb_word verb)
    → IsText values keys.Do (codes "deliver") → verb ≡ verbs.Deliver
is_deliver values verbs.Deliver is deliver = refl
is_deliver values verbs.Move is deliver = absurd (other_word values _ is deliver refl)
is_deliver values verbs.Open is deliver = absurd (other_word values _ is deliver refl)
is_deliver values verbs.Close is deliver = absurd (other_word values _ is deliver refl)
is_deliver values verbs.Tick is deliver = absurd (other_word values _ is deliver refl)
is_deliver values verbs.Shb is deliver = absurd (other_word values _ is deliver refl)
is_deliver values verbs.Gbc is deliver = absurd (other_word values _ is deliver refl)
is_deliver values verbs.Gac is deliver = absurd (other_word values _ is deliver refl)
is_deliver values verbs.Restart is deliver = absurd (other_word values _ is deliver refl)
is_deliver values verbs.Leave is deliver = absurd (other_word values _ is deliver refl)

pub no_deliver : (values : FieldValues) (verb : Verb) → IsText values keys.Do (verb_word verb)
    → (¬ IsText values keys.Do (codes "deliver")) → verb ≢ verbs.Deliver
no_deliver values verb is not same =
    not (subst (λ (v : Verb). IsText values keys.Do (verb_word v)) same is)
