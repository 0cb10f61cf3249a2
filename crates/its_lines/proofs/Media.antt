-- Single-hop broadcasts with media-dependent data of their own.
use Rattle.std.proofs.Common.{◌≡◌, ◌↔◌, ℕ, List, Option, Some, codes, false, nat_eq}
use Rattle.std.proofs.Common.{IsTrue, ap, refl, subst, sym, ◌∙◌}
use Rattle.std.proofs.lemmas.Bool.{false≢true}
use Rattle.std.proofs.lemmas.Option.{same_Some}
use Rattle.std.specs.Cmp.Lexicographic.{pointwise}
use Rattle.serde_json.specs.Data.{Data}
use Rattle.its_model.specs.Calls.{ShbRequest}
use Rattle.its_words.specs.Faults.{IsWhatFault}
use Rattle.its_words.specs.Reading.{IsBadOf as IsBadKeyOf, SaysShb}
use Rattle.its_words.specs.declared.keys.fault.KeyFault.TheVariants as key_faults
use Rattle.its_words.specs.declared.keys.fault.KeyFault.{KeyFault}
use Rattle.its_lines.specs.Requests.{BringsMedia, IsBadAsked, IsBadOf, IsMediaFault, IsMomentOf}
use Rattle.its_lines.specs.Requests.{IsQueryWord, IsShbBad, IsWord, read_fault_of, text_at}
use Rattle.its_lines.specs.Requests.{values_in}
use Rattle.its_lines.specs.declared.reading.ReadFault.{ReadFault}
use Rattle.its_lines.specs.declared.reading.ReadFault.TheVariants as read_faults
use Rattle.its_lines.specs.declared.request.LineFault.TheVariants as faults
use Rattle.its_lines.proofs.Read.{bad_call}

-- another word
pub brings_none : (members : Data) → (¬ IsWord members (codes "shb"))
    → IsTrue false ↔ BringsMedia members
brings_none members shb = (λ is. absurd (cc is), λ brings. absurd (shb brings.0))

differ : (word : List ℕ) → pointwise nat_eq (codes "shb") word ≡ false → ¬ (codes "shb" ≡ word)
differ word unlike e = false≢true (sym unlike ∙ sym (ap (pointwise nat_eq (codes "shb")) e))

-- one word is no other
no_delivery : (word : Option (List ℕ)) → word ≡ Some (codes "shb") → word ≡ Some (codes "deliver")
    → ⊥
no_delivery word is other =
    differ (codes "deliver") refl (same_Some (codes "shb") (codes "deliver") (sym is ∙ other))

no_frame : (word : Option (List ℕ)) → word ≡ Some (codes "shb") → word ≡ Some (codes "receive")
    → ⊥
no_frame word is other =
    differ (codes "receive") refl (same_Some (codes "shb") (codes "receive") (sym is ∙ other))

-- the first bad key of such a broadcast
pub bad_shb : (now : Option ℕ) (members : Data) (moment : ℕ) (fault : ReadFault)
    → (¬ IsQueryWord members) → IsMomentOf now members moment → BringsMedia members
    → IsShbBad members fault → IsBadOf now members fault
bad_shb now members moment (read_faults.Bad (faults.Key key wrong)) calls is brings bad =
    let word : IsWord members (codes "shb") = brings.0 in
    bad_call now members moment key calls is (record {
      what = bad.0;
      own = λ _ _. bad.1;
      deliver = λ other. absurd (no_delivery (text_at (codes "do") members) word other);
      frame = λ other. absurd (no_frame (text_at (codes "do") members) word other);
    })
bad_shb now members moment (read_faults.Bad (faults.Query key wrong)) calls is brings bad =
    subst (IsBadAsked members) (sym bad.0) bad.1
bad_shb now members moment (read_faults.Bad faults.NotJson) calls is brings bad = absurd bad
bad_shb now members moment (read_faults.Bad faults.Id) calls is brings bad = absurd bad
bad_shb now members moment (read_faults.Bad (faults.Word meant)) calls is brings bad = absurd bad
bad_shb now members moment read_faults.OutOfMemory calls is brings bad = tt

-- the fault of a key of the request
pub keys_bad : (members : Data) (fault : KeyFault) (told : ReadFault) → told ≡ read_fault_of fault
    → IsWhatFault fault → IsBadKeyOf (values_in members) fault → IsShbBad members told
keys_bad members (key_faults.Refused key wrong) told is what bad =
    subst (IsShbBad members) (sym is) (what, bad)
keys_bad members key_faults.OutOfMemory told is what bad = subst (IsShbBad members) (sym is) tt

-- the fault of the media-dependent data of a broadcast whose other keys are read
pub media_bad : (members : Data) (fault : ReadFault) (request : ShbRequest) → BringsMedia members
    → SaysShb (values_in members) request → IsMediaFault members fault → IsShbBad members fault
media_bad members (read_faults.Bad (faults.Query key wrong)) request brings says bad =
    (bad.0, (brings, (request, says), bad.1))
media_bad members (read_faults.Bad faults.NotJson) request brings says bad = absurd bad
media_bad members (read_faults.Bad faults.Id) request brings says bad = absurd bad
media_bad members (read_faults.Bad (faults.Key key wrong)) request brings says bad = absurd bad
media_bad members (read_faults.Bad (faults.Word meant)) request brings says bad = absurd bad
media_bad members read_faults.OutOfMemory request brings says bad = absurd bad
