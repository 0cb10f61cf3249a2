-- What a line asks for by the members of its object.
use Rattle.std.proofs.Common.{ℕ, Ok, Err, Option, None, codes, inl, inr, refl, sym, subst}
use Rattle.std.specs.Prelude.{Result, IfOk, IsFalse}
use Rattle.std.specs.declared.alloc.AllocError.{AllocError}
use Rattle.serde_json.specs.Data.{Data}
use Rattle.its_words.specs.declared.keys.fault.KeyFault.TheVariants as key_faults
use Rattle.its_words.specs.declared.keys.fault.KeyFault.{KeyFault}
use Rattle.its_words.specs.declared.keys.key.Key.TheVariants as keys
use Rattle.its_words.specs.declared.keys.key.Key.{Key}
use Rattle.its_lines.specs.Requests.{Asks, AsksIn, AsksOf, IsBadCallKey, IsBadKey, IsBadOf, IsId}
use Rattle.its_lines.specs.Requests.{IsIdFault, IsMomentOf, IsObject, IsQueryFault, IsQueryWord}
use Rattle.its_lines.specs.Requests.{IsBadCallKeyOf, IsToldAs, IsWord}
use Rattle.its_lines.specs.Lines.{IsBlank, LineText}
use Rattle.its_lines.specs.declared.reading.ReadFault.{ReadFault}
use Rattle.its_lines.specs.declared.reading.ReadFault.TheVariants as read_faults
use Rattle.its_lines.specs.declared.request.Request.{Request}
use Rattle.its_lines.specs.declared.request.Request.TheVariants as asked_by
use Rattle.its_lines.specs.declared.request.Id.{Id}
use Rattle.its_lines.specs.declared.request.LineFault.{LineFault}
use Rattle.its_lines.specs.declared.request.LineFault.TheVariants as faults
use Rattle.its_lines.specs.declared.request.LineRequest.{LineRequest}
use Rattle.its_lines.specs.declared.request.QueryKey.TheVariants as query_keys

-- what is asked for, beside an `id` that is read
pub asks_of : (now : Option ℕ) (members : Data) (id : Option Id) (asked : Request)
    → IsId members id → AsksIn now members asked → AsksOf now members id asked
asks_of now members id asked_by.Nothing is asks = absurd asks
asks_of now members id (asked_by.Call moment call) is asks = (is, asks)
asks_of now members id (asked_by.Verified moment octets) is asks = (is, asks)
asks_of now members id (asked_by.Shb moment shb) is asks = (is, asks)
asks_of now members id (asked_by.Release moment) is asks = (is, asks)
asks_of now members id (asked_by.Query at query) is asks = (is, asks)
asks_of now members id (asked_by.Bad faults.NotJson) is asks = absurd asks
asks_of now members id (asked_by.Bad faults.Id) is asks = absurd asks
asks_of now members id (asked_by.Bad (faults.Key key wrong)) is asks = (is, asks)
asks_of now members id (asked_by.Bad (faults.Word meant)) is asks = (is, asks)
asks_of now members id (asked_by.Bad (faults.Query key wrong)) is asks = (is, asks)

-- a bad `id`
pub asks_no_id : (now : Option ℕ) (members : Data) (fault : LineFault)
    → IsIdFault members (read_faults.Bad fault)
    → AsksOf now members None (asked_by.Bad fault)
asks_no_id now members faults.NotJson is = absurd is
asks_no_id now members faults.Id is = (refl, is)
asks_no_id now members (faults.Key key wrong) is = absurd is
asks_no_id now members (faults.Word meant) is = absurd is
asks_no_id now members (faults.Query key wrong) is = absurd is

asks_whole : (now : Option ℕ) (line : LineText) (members : Data) (id : Option Id) (asked : Request)
    → AsksOf now members id asked → IsFalse line.longer → ¬ IsBlank line.octets
    → IsObject line.octets members → Asks now line id asked
asks_whole now line members id asked_by.Nothing asks short some is = absurd asks.1
asks_whole now line members id (asked_by.Call moment call) asks short some is =
    (short, some, members, is, asks)
asks_whole now line members id (asked_by.Verified moment octets) asks short some is =
    (short, some, members, is, asks)
asks_whole now line members id (asked_by.Shb moment shb) asks short some is =
    (short, some, members, is, asks)
asks_whole now line members id (asked_by.Release moment) asks short some is =
    (short, some, members, is, asks)
asks_whole now line members id (asked_by.Query at query) asks short some is =
    (short, some, members, is, asks)
asks_whole now line members id (asked_by.Bad faults.NotJson) asks short some is = absurd asks.1
asks_whole now line members id (asked_by.Bad faults.Id) asks short some is =
    (short, some, members, is, asks)
asks_whole now line members id (asked_by.Bad (faults.Key key wrong)) asks short some is =
    (short, some, members, is, asks)
asks_whole now line members id (asked_by.Bad (faults.Word meant)) asks short some is =
    (short, some, members, is, asks)
asks_whole now line members id (asked_by.Bad (faults.Query key wrong)) asks short some is =
    (short, some, members, is, asks)

pub asks_members : (r : Result LineRequest AllocError) (now : Option ℕ) (line : LineText)
    (members : Data) → IfOk r (λ q. AsksOf now members q.id q.request) → IsFalse line.longer
    → ¬ IsBlank line.octets → IsObject line.octets members → IfOk r (λ q. Asks now line q.id q.request)
asks_members (Err e) now line members asks short some is = tt
asks_members (Ok q) now line members asks short some is =
    asks_whole now line members q.id q.request asks short some is

-- where there is no moment, the first bad key is that
pub bad_moment : (now : Option ℕ) (members : Data)
    → ((moment : ℕ) → ¬ IsMomentOf now members moment) → IsBadKey now members keys.At
bad_moment now members none =
    record {
      asked = λ _. refl;
      moment = λ _. refl;
      call = λ moment is. absurd (none moment is);
    }

-- a word that is none of those asks nothing of what the station knows
pub not_query : (members : Data) → (¬ IsWord members (codes "next_beacon"))
    → (¬ IsWord members (codes "neighbours")) → (¬ IsWord members (codes "look_up"))
    → (¬ IsWord members (codes "read_frame")) → (¬ IsWord members (codes "counts"))
    → (¬ IsWord members (codes "seal")) → (¬ IsWord members (codes "next_due"))
    → IsQueryWord members → ⊥
not_query members beacon neighbours look_up read counts seal due (inl is) = beacon is
not_query members beacon neighbours look_up read counts seal due (inr (inl is)) = neighbours is
not_query members beacon neighbours look_up read counts seal due (inr (inr (inl is))) = look_up is
not_query members beacon neighbours look_up read counts seal due (inr (inr (inr (inl is)))) = read is
not_query members beacon neighbours look_up read counts seal due
    (inr (inr (inr (inr (inl is))))) = counts is
not_query members beacon neighbours look_up read counts seal due
    (inr (inr (inr (inr (inr (inl is)))))) = seal is
not_query members beacon neighbours look_up read counts seal due
    (inr (inr (inr (inr (inr (inr is)))))) = due is

-- where there is one, it is that of the call
pub bad_call : (now : Option ℕ) (members : Data) (moment : ℕ) (key : Key)
    → (¬ IsQueryWord members) → IsMomentOf now members moment → IsBadCallKey members key
    → IsBadKey now members key
bad_call now members moment key calls is bad =
    record {
      asked = λ asks. absurd (calls asks);
      moment = λ none. absurd (none moment is);
      call = λ _ _. bad;
    }

-- so, told with a word that may be meant
pub bad_told : (now : Option ℕ) (members : Data) (moment : ℕ) (fault : KeyFault) (told : ReadFault)
    → (¬ IsQueryWord members) → IsMomentOf now members moment → IsBadCallKeyOf members fault
    → IsToldAs fault told → IsBadOf now members told
bad_told now members moment key_faults.OutOfMemory told calls is bad like =
    subst (IsBadOf now members) (sym like) tt
bad_told now members moment (key_faults.Refused key wrong) (read_faults.Bad (faults.Key other w))
    calls is bad like =
    bad_call now members moment other calls is (subst (IsBadCallKey members) (sym like) bad)
bad_told now members moment (key_faults.Refused key wrong) (read_faults.Bad (faults.Word meant))
    calls is bad like =
    bad_call now members moment keys.Do calls is (subst (IsBadCallKey members) like bad)
bad_told now members moment (key_faults.Refused key wrong) (read_faults.Bad faults.NotJson)
    calls is bad like = absurd like
bad_told now members moment (key_faults.Refused key wrong) (read_faults.Bad faults.Id) calls is bad like =
    absurd like
bad_told now members moment (key_faults.Refused key wrong)
    (read_faults.Bad (faults.Query other w)) calls is bad like = absurd like
bad_told now members moment (key_faults.Refused key wrong) read_faults.OutOfMemory calls is bad like = tt

-- the fault of a key of what is asked
pub bad_query : (now : Option ℕ) (members : Data) (fault : ReadFault)
    → IsQueryFault members fault → IsBadOf now members fault
bad_query now members (read_faults.Bad faults.NotJson) is = absurd is.0
bad_query now members (read_faults.Bad faults.Id) is = absurd is.0
bad_query now members (read_faults.Bad (faults.Key key wrong)) is = absurd is.0
bad_query now members (read_faults.Bad (faults.Word meant)) is = absurd is.0
bad_query now members (read_faults.Bad (faults.Query query_keys.Plain wrong)) is = absurd is.0
bad_query now members (read_faults.Bad (faults.Query query_keys.Media wrong)) is = absurd is.0
bad_query now members (read_faults.Bad (faults.Query query_keys.Jitter wrong)) is = is.1
bad_query now members (read_faults.Bad (faults.Query query_keys.After wrong)) is = is.1
bad_query now members (read_faults.Bad (faults.Query query_keys.Address wrong)) is = is.1
bad_query now members (read_faults.Bad (faults.Query query_keys.Frame wrong)) is = is.1
bad_query now members (read_faults.Bad (faults.Query query_keys.Message wrong)) is = is.1
bad_query now members read_faults.OutOfMemory is = tt
