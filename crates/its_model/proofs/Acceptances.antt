-- What a station accepted of one source, read off the log.
use Rattle.std.proofs.Common.{◌≡◌, ◌⊎◌, ℕ, zero, suc, ◌+◌, ◌<◌, ◌≤◌, List, [], ◌∷◌, ◌++◌, length}
use Rattle.std.proofs.Common.{take, append_assoc, Option, Some, None, Bool, true, false}
use Rattle.std.proofs.Common.{cond, eqb, ◌&&◌, ◌||◌, refl, sym, ap, subst, ◌∙◌, inl, inr, ⊎_elim}
use Rattle.std.proofs.Common.{arith}
use Rattle.std.specs.Prelude.{slice_get}
use Rattle.its_model.specs.Packet.{AreaKind, Message, Transmission, number_in}
use Rattle.its_model.specs.History.{Reception, is_among, is_remembered, numbers_of, of_source}
use Rattle.its_model.specs.History.{unbroken, with_number, entry_life}
use Rattle.its_model.specs.Calls.{Answer}
use Rattle.its_model.specs.Calls.Why.{Duplicate}
use Rattle.its_model.specs.Calls.Answer.{Accepted, Closed, Ignored, Moved, Opened, Quiet, Refused}
use Rattle.its_model.specs.Calls.Answer.{Restarted, Sent}
use Rattle.its_model.specs.Station.{is_repeated, reception}
use Rattle.its_model.specs.World.{Config, LogLine, WorldModel}
use Rattle.its_model.specs.Log.{Forgotten, IsBroken, IsOutlived, has_restarted, heard_at, heard_in}
use Rattle.its_model.specs.Log.{is_restart, is_restart_of, receptions_at, sequence_number_at}
use Rattle.its_model.specs.Schedules.{AcceptedAgainByDefault, AcceptedAgainWasForgotten, Accepts}
use Rattle.its_model.specs.Schedules.{DuplicateWasAccepted, IsOfSend, WasAccepted}
use Rattle.its_model.proofs.Sound.{AcceptedFact, DuplicateFact, LineFact, EachLine, Sound}
use Rattle.its_model.proofs.NumberTests.{lt_test, eq_test, eqb_same, and_false, false_or_true}
use Rattle.its_model.proofs.NumberTests.{or_false}
use Rattle.its_model.proofs.Sessions.{EachWasNew, IsNewIn, forgotten, too_few}
use Rattle.its_model.proofs.Theorems.{fact_at, accepted_at, area_number}
use Rattle.its_model.proofs.Theorems.{frames_have_number_and_hops}

-- what a station heard of one source
abbrev pub ours : ℕ → ℕ → List LogLine → List Reception
ours j s log = of_source s (receptions_at j log)

-- the entry accepted a packet of this source
pub record IsHeard (j s : ℕ) (entry : Answer ℕ) (delivered : Option Transmission) : Type 0 where
  pub packet : Transmission
  pub is : delivered ≡ Some packet
  pub accepted : (handed : Option Message) × (relayed : Option ℕ)
      × (entry ≡ Accepted handed relayed)
  pub source : packet.pdu.vector.address ≡ s

-- the entry says nothing of the source
record IsSilent (s moment : ℕ) (entry : Answer ℕ) (delivered : Option Transmission) : Type 0 where
  pub calm : is_restart entry ≡ false
  pub same : (xs : List Reception)
      → of_source s (heard_in entry delivered moment xs) ≡ of_source s xs

-- the entry is that of a restart
record IsRestart (moment : ℕ) (entry : Answer ℕ) (delivered : Option Transmission) : Type 0 where
  pub is : is_restart entry ≡ true
  pub none : (xs : List Reception) → heard_in entry delivered moment xs ≡ []

-- an entry says nothing of the source to the station, or it is an acceptance, or a restart
view_in : (entry : Answer ℕ) (delivered : Option Transmission) (j s moment : ℕ)
    → IsSilent s moment entry delivered
    ⊎ (((h : IsHeard j s entry delivered)
    × ((xs : List Reception)
    → of_source s (heard_in entry delivered moment xs) ≡ reception moment h.packet
    ∷ of_source s xs))
    ⊎ IsRestart moment entry delivered)
view_in Moved delivered j s moment = inl (record { calm = refl; same = λ xs. refl })
view_in Opened delivered j s moment = inl (record { calm = refl; same = λ xs. refl })
view_in Closed delivered j s moment = inl (record { calm = refl; same = λ xs. refl })
view_in Restarted delivered j s moment = inr (inr (record { is = refl; none = λ xs. refl }))
view_in Quiet delivered j s moment = inl (record { calm = refl; same = λ xs. refl })
view_in (Sent k) delivered j s moment = inl (record { calm = refl; same = λ xs. refl })
view_in (Ignored why) delivered j s moment = inl (record { calm = refl; same = λ xs. refl })
view_in (Refused r) delivered j s moment = inl (record { calm = refl; same = λ xs. refl })
view_in (Accepted handed given) None j s moment = inl (record { calm = refl; same = λ xs. refl })
view_in (Accepted handed given) (Some t) j s moment =
    elim (eq_test t.pdu.vector.address s) [
      | inl e ↦ inr
          (inl (
            record { packet = t; is = refl; accepted = (handed, given, refl); source = e.1 },
            λ xs. ap (λ b. cond b (reception moment t ∷ of_source s xs) (of_source s xs)) e.0,
          ))
      | inr e ↦ inl (record {
        calm = refl;
        same =
            λ xs. ap (λ b. cond b (reception moment t ∷ of_source s xs) (of_source s xs)) e.0;
      })
    ]

-- station j accepted this packet by this line
pub record Took (line : LogLine) (j : ℕ) (t : Transmission) : Type 0 where
  pub station : line.event.station ≡ j
  pub delivered : line.delivered ≡ Some t
  pub accepted : (handed : Option Message) × (relayed : Option ℕ)
      × (line.entry ≡ Accepted handed relayed)

-- an acceptance is no restart
calm_of : (line : LogLine) (j : ℕ) → is_restart line.entry ≡ false → is_restart_of j line ≡ false
calm_of line j h = ap (λ b. eqb line.event.station j && b) h ∙ and_false (eqb line.event.station j)

-- by this line station j accepted a packet of the source, so it is put before the others
pub record Heard (j s : ℕ) (line : LogLine) : Type 0 where
  pub packet : Transmission
  pub accepts : Took line j packet
  pub source : packet.pdu.vector.address ≡ s
  pub more : (xs : List Reception)
      → of_source s (heard_at j line xs) ≡ reception line.event.moment packet ∷ of_source s xs

-- by this line station j accepted nothing of the source, and didn't restart
pub record Silent (j s : ℕ) (line : LogLine) : Type 0 where
  pub calm : is_restart_of j line ≡ false
  pub same : (xs : List Reception) → of_source s (heard_at j line xs) ≡ of_source s xs

-- by this line station j restarted, so it has heard nothing
pub record Restarts (j : ℕ) (line : LogLine) : Type 0 where
  pub is : is_restart_of j line ≡ true
  pub none : (xs : List Reception) → heard_at j line xs ≡ []

-- each line is one of these
pub view : (j s : ℕ) (line : LogLine) → Silent j s line ⊎ (Heard j s line ⊎ Restarts j line)
view j s line =
    elim (eq_test line.event.station j) [
      | inl e ↦ elim (view_in line.entry line.delivered j s line.event.moment) [
        | inl v ↦ inl (record {
          calm = calm_of line j v.calm;
          same = λ xs.
              ap (λ b. of_source s
              (cond b (heard_in line.entry line.delivered line.event.moment xs) xs)) e.0
              ∙ v.same xs;
        })
        | inr other ↦ elim other [
          | inl v ↦ inr (inl (record {
            packet = v.0.packet;
            accepts = record { station = e.1; delivered = v.0.is; accepted = v.0.accepted };
            source = v.0.source;
            more = λ xs.
                ap (λ b. of_source s
                (cond b (heard_in line.entry line.delivered line.event.moment xs) xs)) e.0 ∙ v.1 xs;
          }))
          | inr v ↦ inr (inr (record {
            is = ap (λ b. b && is_restart line.entry) e.0 ∙ v.is;
            none = λ xs.
                ap (λ b. cond b (heard_in line.entry line.delivered line.event.moment xs) xs) e.0
                ∙ v.none xs;
          }))
        ]
      ]
      | inr e ↦ inl (record {
        calm = ap (λ b. b && is_restart line.entry) e.0;
        same = λ xs.
            ap (λ b. of_source s
            (cond b (heard_in line.entry line.delivered line.event.moment xs) xs)) e.0;
      })
    ]

-- an acceptance isn't a restart
took_calm : (line : LogLine) (j : ℕ) (t : Transmission) → Took line j t
    → is_restart_of j line ≡ false
took_calm line j t a = calm_of line j (ap is_restart a.accepted.2)

-- what was accepted by lines without a restart, and by lines behind them
pub ours_append : (between rest : List LogLine) (j s : ℕ) → has_restarted j between ≡ false
    → ours j s (between ++ rest) ≡ ours j s between ++ ours j s rest
ours_append [] rest j s calm = refl
ours_append (line ∷ between) rest j s calm =
    let none = or_false (is_restart_of j line) (has_restarted j between) calm in
    let h = ours_append between rest j s none.1 in
    elim (view j s line) [
      | inl v ↦ v.same (receptions_at j (between ++ rest)) ∙ h
          ∙ ap (λ xs. xs ++ ours j s rest) (sym (v.same (receptions_at j between)))
      | inr other ↦ elim other [
        | inl v ↦ v.more (receptions_at j (between ++ rest))
            ∙ ap (λ xs. reception line.event.moment v.packet ∷ xs) h
            ∙ ap (λ xs. xs ++ ours j s rest) (sym (v.more (receptions_at j between)))
        | inr v ↦ cc (v.is, none.0)
      ]
    ]

-- an acceptance is heard
pub accepts_heard : (line : LogLine) (j : ℕ) (t : Transmission) (xs : List Reception)
    → Took line j t
    → of_source t.pdu.vector.address (heard_at j line xs) ≡ reception line.event.moment t
    ∷ of_source t.pdu.vector.address xs
accepts_heard line j t xs a =
    let s = t.pdu.vector.address in
    let one : heard_at j line xs ≡ reception line.event.moment t ∷ xs =
    ap (λ b. cond b (heard_in line.entry line.delivered line.event.moment xs) xs)
    (ap (λ i. eqb i j) a.station ∙ eqb_same j)
    ∙ ap (λ x. heard_in x line.delivered line.event.moment xs) a.accepted.2
    ∙ ap (λ d. heard_in (Accepted a.accepted.0 a.accepted.1) d line.event.moment xs) a.delivered in
    ap (of_source s) one
    ∙ ap (λ b. cond b (reception line.event.moment t ∷ of_source s xs) (of_source s xs))
    (eqb_same s)

-- what isn't repeated is new among what came of its source
new_in : (remember : ℕ) (o : Option ℕ) (s moment : ℕ) (history : List Reception)
    → is_repeated remember o s moment history ≡ false
    → IsNewIn remember o moment (of_source s history)
new_in remember None s moment history h = tt
new_in remember (Some n) s moment history h = h

-- a packet that was accepted was new then
line_new : (configs : List Config) (air : List Transmission) (line : LogLine)
    (before : List LogLine) (j : ℕ) (config : Config) (t : Transmission)
    → slice_get configs j ≡ Some config
    → LineFact line.entry configs air line.event line.delivered before → Took line j t
    → IsNewIn config.remember (number_in t.pdu.body) line.event.moment
    (ours j t.pdu.vector.address before)
line_new configs air line before j config t is_config fact a =
    let f : AcceptedFact configs air line.event before line.delivered a.accepted.0 a.accepted.1 =
    subst (λ (x : Answer ℕ).
    LineFact x configs air line.event line.delivered before) a.accepted.2 fact in
    let is : f.packet ≡ t = cc (f.delivered_is, a.delivered) in
    let receiver : slice_get configs j ≡ Some f.config =
    ap (slice_get configs) (sym a.station) ∙ f.receiver in
    let config_is : f.config ≡ config = cc (receiver, is_config) in
    subst (λ (c : Config).
    IsNewIn c.remember (number_in t.pdu.body) line.event.moment
    (ours j t.pdu.vector.address before)) config_is
    (subst (λ (x : Transmission).
    IsNewIn f.config.remember (number_in x.pdu.body) line.event.moment
    (ours j x.pdu.vector.address before)) is
    (subst (λ (i : ℕ).
    IsNewIn f.config.remember (number_in f.packet.pdu.body) line.event.moment
    (ours i f.packet.pdu.vector.address before)) a.station
    (new_in f.config.remember
    (number_in f.packet.pdu.body) f.packet.pdu.vector.address line.event.moment
    (receptions_at line.event.station before) f.is_new)))

-- all that a station accepted of a source was new when it came
pub each_was_new : (log : List LogLine) (configs : List Config) (air : List Transmission) (j s : ℕ)
    (config : Config)
    → slice_get configs j ≡ Some config → EachLine configs air log
    → EachWasNew config.remember (ours j s log)
each_was_new [] configs air j s config is_config h = tt
each_was_new (line ∷ before) configs air j s config is_config h =
    let rest = each_was_new before configs air j s config is_config h.1 in
    elim (view j s line) [
      | inl v ↦ subst (EachWasNew config.remember) (sym (v.same (receptions_at j before))) rest
      | inr other ↦ elim other [
        | inl v ↦ subst (EachWasNew config.remember) (sym (v.more (receptions_at j before))) (
          subst (λ (x : ℕ).
              IsNewIn config.remember (number_in v.packet.pdu.body) line.event.moment
              (ours j x before)) v.source
              (line_new configs air line before j config v.packet is_config h.0 v.accepts),
          rest,
        )
        | inr v ↦ subst (λ (xs : List Reception). EachWasNew config.remember (of_source s xs))
            (sym (v.none (receptions_at j before))) tt
      ]
    ]

-- the lines from one on
pub lines_from : (later : List LogLine) (configs : List Config) (air : List Transmission)
    (rest : List LogLine) → EachLine configs air (later ++ rest) → EachLine configs air rest
lines_from [] configs air rest h = h
lines_from (x ∷ later) configs air rest h = lines_from later configs air rest h.1

-- the packet of an acceptance is what was delivered by its line
took : (configs : List Config) (w : WorldModel) (later before : List LogLine) (line : LogLine)
    (j k : ℕ) (t : Transmission)
    → Sound configs w → w.log ≡ later ++ line ∷ before → Accepts w line j k t → Took line j t
took configs w later before line j k t h e a =
    let f = accepted_at configs w later before line a.handed a.relayed h e a.entry in
    let k_is : f.frame ≡ k = cc (f.what, a.delivery) in
    let t_is : f.packet ≡ t = cc (k_is, f.in_air, a.packet) in
    record {
      station = a.station;
      delivered = f.delivered_is ∙ ap Some t_is;
      accepted = (a.handed, a.relayed, a.entry);
    }

-- and the other way round
accepts : (configs : List Config) (w : WorldModel) (later before : List LogLine) (line : LogLine)
    (j : ℕ) (t : Transmission)
    → Sound configs w → w.log ≡ later ++ line ∷ before → Took line j t
    → (k : ℕ) × Accepts w line j k t
accepts configs w later before line j t h e a =
    let f = accepted_at configs w later before line a.accepted.0 a.accepted.1 h e a.accepted.2 in
    let t_is : f.packet ≡ t = cc (f.delivered_is, a.delivered) in (
      f.frame,
      record {
        handed = a.accepted.0;
        relayed = a.accepted.1;
        station = a.station;
        delivery =
            f.what;
        packet = f.in_air ∙ ap Some t_is;
        entry = a.accepted.2;
      },
    )

-- for two acceptances of packets that are the same, where the station didn't restart between
outlived_between : (configs : List Config) (air : List Transmission) (between older : List LogLine)
    (first second : LogLine) (j number : ℕ) (config : Config) (t u : Transmission)
    → slice_get configs j ≡ Some config → has_restarted j between ≡ false
    → EachLine configs air (second ∷ (between ++ first ∷ older)) → Took first j t → Took second j u
    → t.pdu ≡ u.pdu → number_in t.pdu.body ≡ Some number
    → IsOutlived config.remember j t.pdu.vector.address number first between second
outlived_between configs air between older first second j number config t u is_config calm lines a b
    same number_is =
    let s = t.pdu.vector.address in
    let remember = config.remember in
    let now = second.event.moment in
    let r = reception first.event.moment t in
    let split : ours j s (between ++ first ∷ older) ≡ ours j s between ++ r ∷ ours j s older =
    ours_append between (first ∷ older) j s calm
    ∙ ap (λ xs. ours j s between ++ xs) (accepts_heard first j t (receptions_at j older) a) in
    let new : IsNewIn remember (number_in u.pdu.body) now
    (ours j u.pdu.vector.address (between ++ first ∷ older)) =
    line_new configs air second (between ++ first ∷ older) j config u is_config lines.0 b in
    let new_t : IsNewIn remember (number_in t.pdu.body) now (ours j s (between ++ first ∷ older)) =
    subst (λ p.
    IsNewIn remember (number_in p.body) now
    (ours j p.vector.address (between ++ first ∷ older))) (sym same) new in
    let new_n : IsNewIn remember (Some number) now (ours j s between ++ r ∷ ours j s older) =
    subst (λ xs. IsNewIn remember (Some number) now xs) split
    (subst (λ o.
    IsNewIn remember o now (ours j s (between ++ first ∷ older))) number_is new_t) in
    forgotten remember (ours j s between) now number r (ours j s older)
    (subst (EachWasNew remember) split
    (each_was_new (between ++ first
    ∷ older) configs air j s config is_config lines.1)) number_is new_n

-- whether it restarted or not
forgotten_between : (configs : List Config) (air : List Transmission) (between older : List LogLine)
    (first second : LogLine) (j number : ℕ) (config : Config) (t u : Transmission)
    → slice_get configs j ≡ Some config → EachLine configs air (second ∷ (between ++ first ∷ older))
    → Took first j t → Took second j u → t.pdu ≡ u.pdu → number_in t.pdu.body ≡ Some number
    → Forgotten config.remember j t.pdu.vector.address number first between second
forgotten_between configs air between older first second j number config t u is_config lines a b
    same number_is =
    elim (false_or_true (has_restarted j between)) [
      | inl calm ↦ inr
          (outlived_between configs air between older first second j number config t u is_config
          calm lines a b same number_is)
      | inr restarted ↦ inl restarted
    ]

-- frames of one packet for an area have its number
send_number : (configs : List Config) (w : WorldModel) (kind : AreaKind) (place k : ℕ)
    (t : Transmission) → Sound configs w → IsOfSend w kind place k → slice_get w.air k ≡ Some t
    → (n : ℕ) × (number_in t.pdu.body ≡ Some n)
send_number configs w kind place k t h s at =
    let f = frames_have_number_and_hops configs w h kind k t s.origin s.request at s.is s.sent in
    let n = sequence_number_at s.origin.event.station s.origin.before in
    (n, ap number_in f.body ∙ area_number kind n s.request.area s.request.message)

-- the config of a station that accepted
receiver_of : (configs : List Config) (w : WorldModel) (later before : List LogLine)
    (line : LogLine) (j k : ℕ) (t : Transmission)
    → Sound configs w → w.log ≡ later ++ line ∷ before → Accepts w line j k t
    → (c : Config) × (slice_get configs j ≡ Some c)
receiver_of configs w later before line j k t h e a =
    let f = accepted_at configs w later before line a.handed a.relayed h e a.entry in
    (f.config, ap (slice_get configs) (sym a.station) ∙ f.receiver)

-- of two acceptances of one packet for an area
pub accepted_again_was_forgotten : (configs : List Config) (w : WorldModel) → Sound configs w
    → AcceptedAgainWasForgotten configs w
accepted_again_was_forgotten configs w h kind later between older first second j k m place t u e a b
    of_k of_m =
    let at_first : w.log ≡ (later ++ second ∷ between) ++ first ∷ older =
    e ∙ sym (append_assoc later (second ∷ between) (first ∷ older)) in
    let same = h.frames.same k m t u of_k.origin of_m.origin a.packet b.packet of_k.is of_m.is
    (of_k.at_place ∙ sym of_m.at_place) in
    let n = send_number configs w kind place k t h of_k a.packet in
    let c = receiver_of configs w later (between ++ first ∷ older) second j m u h e b in
    record {
      receiver = c.0;
      is_receiver = c.1;
      number = n.0;
      number_is = n.1;
      forgotten = forgotten_between configs w.air between older first second j n.0 c.0 t u c.1
          (lines_from later configs w.air (second ∷ (between ++ first ∷ older))
          (subst (EachLine configs w.air) e h.lines))
          (took configs w (later ++ second ∷ between) older first j k t h at_first a)
          (took configs w later (between ++ first ∷ older) second j m u h e b) same n.1;
    }

-- where eight numbers are remembered, and the station didn't restart
pub accepted_again_by_default : (configs : List Config) (w : WorldModel) → Sound configs w
    → AcceptedAgainByDefault configs w
accepted_again_by_default configs w h kind later between older first second j k m place t u receiver
    e a b of_k of_m is_receiver eight calm =
    let f = accepted_again_was_forgotten configs w h kind later between older first second j k m
    place t u e a b of_k of_m in
    let receiver_is : f.receiver ≡ receiver = cc (f.is_receiver, is_receiver) in
    let count : f.receiver.remember ≡ 8 = ap (λ c. c.remember) receiver_is ∙ eight in
    record {
      number = f.number;
      number_is = f.number_is;
      outlived = ⊎_elim (λ (r : has_restarted j between ≡ true). cc (r, calm))
          (λ (o : IsOutlived f.receiver.remember j t.pdu.vector.address f.number first between
          second). subst
          (λ (n : ℕ).
          IsOutlived n j t.pdu.vector.address f.number first between second) count o)
          f.forgotten;
    }

-- What is remembered was accepted.
pub record Found (j s n now k : ℕ) (log : List LogLine) : Type 0 where
  pub between : List LogLine
  pub older : List LogLine
  pub first : LogLine
  pub packet : Transmission
  pub is : log ≡ between ++ first ∷ older
  pub accepts : Took first j packet
  pub source : packet.pdu.vector.address ≡ s
  pub number : number_in packet.pdu.body ≡ Some n
  pub unbroken : IsBroken now (ours j s between) first.event.moment → ⊥
  pub few : length (numbers_of (ours j s between)) < k
  pub calm : has_restarted j between ≡ false

-- nothing is among none
none_among : (k n : ℕ) → is_among n (take k []) ≡ true → ⊥
none_among zero n h = cc
none_among (suc k) n h = cc

-- behind one more line
skip : (line : LogLine) (log : List LogLine) (j s n now before k l : ℕ) (front : List Reception
    → List Reception)
    → is_restart_of j line ≡ false
    → ((xs : List Reception) → of_source s (heard_at j line xs) ≡ front (of_source s xs))
    → ((xs : List Reception) (first : ℕ) → IsBroken now (front xs) first → IsBroken before xs first)
    → ((xs : List Reception) → length (numbers_of xs) < k → length (numbers_of (front xs)) < l)
    → Found j s n before k log → Found j s n now l (line ∷ log)
skip line log j s n now before k l front calm more break count f =
    record {
      between = line ∷ f.between;
      older = f.older;
      first = f.first;
      packet = f.packet;
      is = ap (λ xs. line ∷ xs) f.is;
      accepts = f.accepts;
      source = f.source;
      number = f.number;
      unbroken = λ b.
          f.unbroken (break (ours j s f.between) f.first.event.moment
          (subst (λ (xs : List Reception). IsBroken now xs f.first.event.moment)
          (more (receptions_at j f.between)) b));
      few = subst (λ (xs : List Reception). length (numbers_of xs) < l)
          (sym (more (receptions_at j f.between))) (count (ours j s f.between) f.few);
      calm = ap (λ b. b || has_restarted j f.between) calm ∙ f.calm;
    }

-- it is the number of this line, or one of those behind
among : (o : Option ℕ) (line : LogLine) (log : List LogLine) (j s n now k : ℕ) (v : Heard j s line)
    → number_in v.packet.pdu.body ≡ o → now < line.event.moment + entry_life
    → ((l : ℕ) → is_among n (take l (numbers_of (unbroken line.event.moment (ours j s log)))) ≡ true
    → Found j s n line.event.moment l log)
    → is_among n (take k (with_number o (numbers_of (unbroken line.event.moment (ours j s log)))))
    ≡ true → Found j s n now k (line ∷ log)
among None line log j s n now k v is near more h =
    skip line log j s n now line.event.moment k k (λ xs. reception line.event.moment v.packet ∷ xs)
    (took_calm line j v.packet v.accepts) v.more
    (λ xs first b.
    ⊎_elim (λ (g : line.event.moment + entry_life ≤ now). absurd (omega arith))
    (λ (g : IsBroken line.event.moment xs first). g) b)
    (λ xs c. subst (λ (o : Option ℕ). length (with_number o (numbers_of xs)) < k) (sym is) c)
    (more k h)
among (Some m) line log j s n now zero v is near more h = cc
among (Some m) line log j s n now (suc k) v is near more h =
    elim (eq_test m n) [
      | inl e ↦ record {
        between = [];
        older = log;
        first = line;
        packet = v.packet;
        is = refl;
        accepts = v.accepts;
        source = v.source;
        number = is ∙ ap Some e.1;
        unbroken = λ b. omega arith;
        few = omega arith;
        calm = refl;
      }
      | inr e ↦ skip line log j s n now line.event.moment k (suc k)
          (λ xs. reception line.event.moment v.packet ∷ xs)
          (took_calm line j v.packet v.accepts) v.more
          (λ xs first b.
          ⊎_elim (λ (g : line.event.moment + entry_life ≤ now). absurd (omega arith))
          (λ (g : IsBroken line.event.moment xs first). g) b)
          (λ xs c. subst (λ (o : Option ℕ). length (with_number o (numbers_of xs)) < suc k) (sym is)
          (omega arith))
          (more k (subst
          (λ (b : Bool).
          (b || is_among n (take k (numbers_of (unbroken line.event.moment (ours j s log)))))
          ≡ true) e.0 h))
    ]

-- a number that is remembered has its line
pub find_it : (log : List LogLine) (j s n now k : ℕ)
    → is_among n (take k (numbers_of (unbroken now (ours j s log)))) ≡ true → Found j s n now k log
find_it [] j s n now k h = absurd (none_among k n h)
find_it (line ∷ log) j s n now k h =
    elim (view j s line) [
      | inl v ↦ skip line log j s n now now k k (λ xs. xs) v.calm v.same (λ xs first b. b)
          (λ xs c. c)
          (find_it log j s n now k
          (subst (λ (xs : List Reception). is_among n (take k (numbers_of (unbroken now xs)))
          ≡ true) (v.same (receptions_at j log)) h))
      | inr other ↦ elim other [
        | inl v ↦ (
            let g : is_among n
            (take k (numbers_of
            (unbroken now (reception line.event.moment v.packet ∷ ours j s log)))) ≡ true =
            subst (λ (xs : List Reception). is_among n (take k (numbers_of (unbroken now xs)))
            ≡ true) (v.more (receptions_at j log)) h in
            elim (lt_test now (line.event.moment + entry_life)) [
              | inl e ↦ among (number_in v.packet.pdu.body) line log j s n now k v refl e.1
                  (λ l. find_it log j s n line.event.moment l)
                  (subst (λ (b : Bool).
                  is_among n (take k
                  (numbers_of
                  (cond b (reception line.event.moment v.packet
                  ∷ unbroken line.event.moment (ours j s log)) []))) ≡ true) e.0 g)
              | inr e ↦ absurd
                  (none_among k n
                  (subst (λ (b : Bool).
                  is_among n (take k
                  (numbers_of
                  (cond b (reception line.event.moment v.packet
                  ∷ unbroken line.event.moment (ours j s log)) []))) ≡ true) e.0 g))
            ])
        | inr v ↦ absurd
            (none_among k n
            (subst (λ (xs : List Reception).
            is_among n (take k (numbers_of (unbroken now (of_source s xs)))) ≡ true)
            (v.none (receptions_at j log)) h))
      ]
    ]

-- the fact of a line whose frame was ignored as a duplicate
duplicate_at : (configs : List Config) (w : WorldModel) (later before : List LogLine)
    (line : LogLine)
    → Sound configs w → w.log ≡ later ++ line ∷ before → line.entry ≡ Ignored Duplicate
    → DuplicateFact configs w.air line.event before
duplicate_at configs w later before line h e is =
    subst (λ (x : Answer ℕ). LineFact x configs w.air line.event line.delivered before) is
    (fact_at configs w later before line h e)

-- the line that was found is an acceptance of a frame of the world
found_accepts : (configs : List Config) (w : WorldModel) (later before : List LogLine)
    (line : LogLine) (j s n now k : ℕ)
    → Sound configs w → w.log ≡ later ++ line ∷ before → (f : Found j s n now k before)
    → (m : ℕ) × Accepts w f.first j m f.packet
found_accepts configs w later before line j s n now k h e f =
    let at_first : w.log ≡ (later ++ line ∷ f.between) ++ f.first ∷ f.older =
    subst (λ (xs : List LogLine). w.log ≡ xs)
    (sym (append_assoc later (line ∷ f.between) (f.first ∷ f.older)))
    (subst (λ (xs : List LogLine). w.log ≡ later ++ line ∷ xs) f.is e) in
    accepts configs w (later ++ line ∷ f.between) f.older f.first j f.packet h at_first f.accepts

-- what is to be said of a duplicate, by the line that was found
was_accepted : (configs : List Config) (w : WorldModel) (before : List LogLine) (line : LogLine)
    (config : Config) (t : Transmission) (n : ℕ)
    → slice_get configs line.event.station ≡ Some config → number_in t.pdu.body ≡ Some n
    → (f : Found line.event.station t.pdu.vector.address n line.event.moment config.remember before)
    → (m : ℕ) → Accepts w f.first line.event.station m f.packet
    → WasAccepted configs w before line t
was_accepted configs w before line config t n is_config number f m a =
    record {
      between = f.between;
      older = f.older;
      first = f.first;
      frame = m;
      packet = f.packet;
      number = n;
      receiver = config;
      is_receiver = is_config;
      split = f.is;
      accepts = a;
      same_source = f.source;
      number_is = number;
      same_number = f.number;
      not_forgotten =
          λ x. ⊎_elim (λ (r : has_restarted line.event.station f.between ≡ true). cc (r, f.calm))
          (λ (o : IsOutlived config.remember line.event.station t.pdu.vector.address n f.first
          f.between line).
          ⊎_elim f.unbroken
          (too_few config.remember n
          (ours line.event.station t.pdu.vector.address f.between) f.few) o) x;
    }

-- of a frame that was ignored as a duplicate
pub duplicate_was_accepted : (configs : List Config) (w : WorldModel) → Sound configs w
    → DuplicateWasAccepted configs w
duplicate_was_accepted configs w h later before line k t e what at entry =
    let d = duplicate_at configs w later before line h e entry in
    let k_is : d.frame ≡ k = cc (d.what, what) in
    let t_is : d.packet ≡ t = cc (k_is, d.in_air, at) in
    let remember = d.config.remember in
    let remembered =
    subst (λ (x : Transmission).
    is_remembered remember x.pdu.vector.address d.number line.event.moment
    (receptions_at line.event.station before) ≡ true) t_is d.remembered in
    let number =
    subst (λ (x : Transmission). number_in x.pdu.body ≡ Some d.number) t_is d.number_is in
    let f = find_it before line.event.station t.pdu.vector.address d.number line.event.moment
    remember remembered in
    let a = found_accepts configs w later before line line.event.station t.pdu.vector.address
    d.number line.event.moment remember h e f in
    was_accepted configs w before line d.config t d.number d.receiver number f a.0 a.1
