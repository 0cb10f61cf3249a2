-- Lines whose answer may have a secured frame.
use Rattle.std.proofs.Common.{◌≡◌, ◌↔◌, ℕ, List, Ok, Err, Option, Some, codes, inl, inr, refl, sym}
use Rattle.std.proofs.Common.{subst, IsTrue, false, ◌∙◌, ap, nat_eq}
use Rattle.std.proofs.lemmas.Bool.{false≢true}
use Rattle.std.specs.Cmp.Lexicographic.{pointwise}
use Rattle.std.proofs.lemmas.Option.{same_Some}
use Rattle.std.specs.Prelude.{Result, IfOk, IsFalse}
use Rattle.std.specs.declared.alloc.AllocError.{AllocError}
use Rattle.serde_json.specs.Data.{Data}
use Rattle.its_words.specs.declared.keys.key.Key.TheVariants as keys
use Rattle.its_words.specs.declared.keys.key.Key.{Key}
use Rattle.its_words.specs.declared.keys.wrong.Wrong.{Wrong}
use Rattle.its_lines.specs.Lines.{IsBlank, LineText}
use Rattle.its_lines.specs.Requests.{AsksSecured, AsksSecuredIn, ComesVerified, IsBadAsked, IsBadOf}
use Rattle.its_lines.specs.Requests.{IsFrameText, text_at}
use Rattle.its_lines.specs.Requests.{IsMomentOf, IsNoOctets, IsObject, IsOctetsText, IsOfKey}
use Rattle.its_lines.specs.Requests.{IsQueryWord, IsVerifiedBad, IsWord}
use Rattle.its_lines.specs.Words.{query_key}
use Rattle.its_lines.specs.declared.reading.OctetsFault.{OctetsFault}
use Rattle.its_lines.specs.declared.reading.OctetsFault.TheVariants as octets_faults
use Rattle.its_lines.specs.declared.reading.ReadFault.{ReadFault}
use Rattle.its_lines.specs.declared.reading.ReadFault.TheVariants as read_faults
use Rattle.its_lines.specs.declared.request.LineFault.TheVariants as faults
use Rattle.its_lines.specs.declared.request.LineRequest.{LineRequest}
use Rattle.its_lines.specs.declared.request.QueryKey.{QueryKey}
use Rattle.its_lines.specs.declared.request.QueryKey.TheVariants as query_keys
use Rattle.its_lines.proofs.Read.{bad_call}

-- a word that is neither of those
pub not_secured : (members : Data) → (¬ IsWord members (codes "seal"))
    → (¬ IsWord members (codes "release")) → (¬ IsWord members (codes "receive"))
    → IsTrue false ↔ AsksSecuredIn members
not_secured members seal release receive = (λ is. absurd (cc is), λ asks. absurd (never asks))
  where
    never : AsksSecuredIn members → ⊥
    never (inl is) = seal is
    never (inr (inl is)) = release is
    never (inr (inr is)) = receive is.0

pub not_verified : (members : Data) → (¬ IsWord members (codes "receive"))
    → IsTrue false ↔ ComesVerified members
not_verified members receive = (λ is. absurd (cc is), λ comes. absurd (receive comes.0))

-- the object of a line is one
pub secured_members : (r : Result LineRequest AllocError) (line : LineText) (members : Data)
    → IfOk r (λ q. IsTrue q.secured ↔ AsksSecuredIn members) → IsFalse line.longer
    → ¬ IsBlank line.octets → IsObject line.octets members
    → IfOk r (λ q. IsTrue q.secured ↔ AsksSecured line)
secured_members (Err e) line members asks short some is = tt
secured_members (Ok q) line members asks short some is = (
  λ secured. (short, some, members, is, asks.0 secured),
  λ other.
      asks.1 (subst AsksSecuredIn (same_Some other.2 members (sym other.3.1 ∙ is.1)) other.4),
)

-- what isn't read under a key is its fault
pub of_key : (key : QueryKey) (word : List ℕ) (members : Data) (fault : OctetsFault) (wrong : Wrong)
    (told : ReadFault) → word ≡ query_key key → fault ≡ octets_faults.Bad wrong
    → IsNoOctets word members fault → told ≡ read_faults.Bad (faults.Query key wrong)
    → IsOfKey key members told
of_key key word members fault wrong told named is none told_is =
    let no : (octets : List ℕ) → ¬ IsOctetsText word members octets =
    subst (IsNoOctets word members) is none in
    subst (IsOfKey key members) (sym told_is)
    (refl, subst (λ (w : List ℕ). (octets : List ℕ) → ¬ IsOctetsText w members octets) named no)

no_moment : (key : Key) → key ≡ keys.Frame → key ≡ keys.At → ⊥
no_moment key is at = absurd (cc)

differ : (word : List ℕ) → pointwise nat_eq (codes "receive") word ≡ false
    → ¬ (codes "receive" ≡ word)
differ word unlike e = false≢true (sym unlike ∙ sym (ap (pointwise nat_eq (codes "receive")) e))

-- one word is no other
not_both : (word : Option (List ℕ)) → word ≡ Some (codes "receive") → word ≡ Some (codes "deliver")
    → ⊥
not_both word is other =
    differ (codes "deliver") refl (same_Some (codes "receive") (codes "deliver") (sym is ∙ other))

-- the first bad key of a frame that came verified
pub bad_verified : (now : Option ℕ) (members : Data) (moment : ℕ) (fault : ReadFault)
    → (¬ IsQueryWord members) → IsMomentOf now members moment → ComesVerified members
    → IsVerifiedBad members fault → IsBadOf now members fault
bad_verified now members moment (read_faults.Bad (faults.Key key wrong)) calls is comes bad =
    let word : IsWord members (codes "receive") = comes.0 in
    let frame : key ≡ keys.Frame = bad.0 in
    bad_call now members moment key calls is (record {
      what = λ at. absurd (no_moment key frame at);
      own = λ not. absurd (not word);
      deliver = λ other. absurd (not_both (text_at (codes "do") members) word other);
      frame = λ _. bad;
    })
bad_verified now members moment (read_faults.Bad (faults.Query key wrong)) calls is comes bad =
    subst (IsBadAsked members) (sym bad.0) bad.1
bad_verified now members moment (read_faults.Bad faults.NotJson) calls is comes bad = absurd bad
bad_verified now members moment (read_faults.Bad faults.Id) calls is comes bad = absurd bad
bad_verified now members moment (read_faults.Bad (faults.Word meant)) calls is comes bad =
    absurd bad
bad_verified now members moment read_faults.OutOfMemory calls is comes bad = tt

-- the fault of a plain part whose frame is read
pub plain_bad : (members : Data) (fault : ReadFault) (frame : List ℕ) → ComesVerified members
    → IsFrameText members frame → IsOfKey query_keys.Plain members fault
    → IsVerifiedBad members fault
plain_bad members (read_faults.Bad (faults.Query other wrong)) frame comes is bad =
    (bad.0, (comes, (frame, is), bad.1))
plain_bad members (read_faults.Bad faults.NotJson) frame comes is bad = absurd bad
plain_bad members (read_faults.Bad faults.Id) frame comes is bad = absurd bad
plain_bad members (read_faults.Bad (faults.Key key wrong)) frame comes is bad = absurd bad
plain_bad members (read_faults.Bad (faults.Word meant)) frame comes is bad = absurd bad
plain_bad members read_faults.OutOfMemory frame comes is bad = tt
