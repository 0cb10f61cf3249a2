-- The frames of others leave no trace.
use Rattle.std.proofs.Common.{◌≡◌, ◌≢◌, ◌⊎◌, ℕ, ◌+◌, ◌^◌, ◌≤◌, List, [], ◌∷◌, ◌++◌, length, take}
use Rattle.std.proofs.Common.{is_some, Option, Some, None, Bool, true, false, cond}
use Rattle.std.proofs.Common.{eqb, not, ◌&&◌, refl, sym, ap, subst, ◌∙◌, inl, inr, arith}
use Rattle.std.specs.Prelude.{nat_lt, nat_le}
use Rattle.std.specs.List.{filter_map, cons_option}
use Rattle.std.proofs.lemmas.Bool.Decides.{nat_tests}
use Rattle.its_model.specs.Packet.{Body, Transmission, number_in}
use Rattle.its_model.specs.Packet.Body.{beacon, gac, gbc, shb}
use Rattle.its_model.specs.History.{Reception, Known, is_from, of_source, unbroken, known}
use Rattle.its_model.specs.History.{known_after, is_among, numbers_of}
use Rattle.its_model.specs.Stations.{put, sources, stations_at, by_address, is_full}
use Rattle.its_model.specs.Calls.{Call, OwnCall, Refusal}
use Rattle.its_model.specs.Calls.OwnCall.{Close, Move, Open, Restart, SendGac, SendGbc, SendShb}
use Rattle.its_model.specs.Calls.OwnCall.{Tick}
use Rattle.its_model.specs.Calls.Call.{Junk, Own, Receive}
use Rattle.its_model.specs.Calls.Why.{Duplicate, NotForMe, OwnSource, SenderMismatch}
use Rattle.its_model.specs.Calls.Refusal.{MomentEarlier, MomentTooLate, TableFull}
use Rattle.its_model.specs.Calls.Answer.{Accepted, Quiet, Refused, Sent}
use Rattle.its_model.specs.Station.{StationModel, Step, Verdict, after_sending, beacon_of, first}
use Rattle.its_model.specs.Station.{handing, is_repeated, is_sender_wrong, junk_step_by}
use Rattle.its_model.specs.Station.{moment_refusal, new_station, or_else, own_refusal, own_step}
use Rattle.its_model.specs.Station.{own_step_by, performed, receive_step, receive_step_by}
use Rattle.its_model.specs.Station.{reception, station_step, verdict, is_for}
use Rattle.its_model.specs.Station.Verdict.{Accept, Ignore, Refuse}
use Rattle.its_faults.specs.declared.frame.FrameFault.{FrameFault}
use Rattle.its_model.specs.Isolation.{IsNeverFull, NeverFalls, SourcesAreIsolated, TimedCall}
use Rattle.its_model.specs.Isolation.{answers_for, answers_of, calls_for, concerns, seen}
use Rattle.its_model.specs.Isolation.{station_run}
use Rattle.its_model.proofs.NumberTests.{eq_test}
use Rattle.its_model.proofs.StationLemmas.{by_address-stations_at}

-- the same station, that heard these alone
abbrev pub like : StationModel → ℕ → List Reception → StationModel
like a clock history =
    record {
      address = a.address;
      capacity = a.capacity;
      remember = a.remember;
      clock = clock;
      vector = a.vector;
      mobile = a.mobile;
      next_number = a.next_number;
      ports = a.ports;
      beacon_from =
          a.beacon_from;
      history = history;
    }

-- What one source's session says is in what came of it.
twice : (s : ℕ) (history : List Reception) → of_source s (of_source s history) ≡ of_source s history
twice s [] = refl
twice s (r ∷ history) = one (is_from s r) refl (twice s history)
  where
    one : (b : Bool) → is_from s r ≡ b → of_source s (of_source s history) ≡ of_source s history
        → of_source s (cond b (r ∷ of_source s history) (of_source s history))
        ≡ cond b (r ∷ of_source s history) (of_source s history)
    one true e h = rw e (ap (λ xs. r ∷ xs) h)
    one false e h = h

-- whether a packet is repeated is told by its own source's packets
repeated_same : (remember : ℕ) (o : Option ℕ) (s moment : ℕ) (history : List Reception)
    → is_repeated remember o s moment (of_source s history)
    ≡ is_repeated remember o s moment history
repeated_same remember None s moment history = refl
repeated_same remember (Some n) s moment history =
    ap (λ xs. is_among n (take remember (numbers_of (unbroken moment xs)))) (twice s history)

-- Where one source alone was heard, it is the only station, so there is room for it.
sources_of_one : (s : ℕ) (history : List Reception)
    → (sources (of_source s history) ≡ []) ⊎ (sources (of_source s history) ≡ s ∷ [])
sources_of_one s [] = inl refl
sources_of_one s (r ∷ history) =
    let rest = sources_of_one s history in
    elim (eq_test r.vector.address s) [
      | inl e ↦ inr (ap (λ b. sources (cond b (r ∷ of_source s history) (of_source s history))) e.0
          ∙ elim rest [
            | inl none ↦ ap (put r.vector.address) none ∙ ap (λ n. n ∷ []) e.1
            | inr one ↦ ap (put r.vector.address) one ∙ ap (λ n. put n (s ∷ [])) e.1 ∙ again s
          ])
      | inr e ↦ subst (λ (xs : List Reception). (sources xs ≡ []) ⊎ (sources xs ≡ s ∷ []))
          (sym (ap (λ b. cond b (r ∷ of_source s history) (of_source s history)) e.0)) rest
    ]
  where
    again : (n : ℕ) → put n (n ∷ []) ≡ n ∷ []
    again n = grind (arith, nat_tests)

-- what came of one source makes it the only station, or none
few_stations : (remember s moment : ℕ) (history : List Reception)
    → (stations_at remember moment (of_source s history) ≡ []) ⊎
    (is_some (by_address s (stations_at remember moment (of_source s history))) ≡ true)
unfolding stations_at
few_stations remember s moment history =
    elim (sources_of_one s history) [
      | inl none ↦ inl (ap (filter_map (λ x. known remember x moment (of_source s history))) none)
      | inr one ↦ elim (known_or_not (known remember s moment (of_source s history)) refl) [
        | inl off ↦ inl (ap (filter_map (λ x. known remember x moment (of_source s history))) one
            ∙ ap (λ o. cons_option o []) off)
        | inr on ↦ inr
            (ap (λ o. is_some o) (by_address-stations_at remember moment (of_source s history) s)
            ∙ on)
      ]
    ]
  where
    known_or_not : (o : Option Known) → known remember s moment (of_source s history) ≡ o
        → (known remember s moment (of_source s history) ≡ None) ⊎
        (is_some (known remember s moment (of_source s history)) ≡ true)
    known_or_not None e = inl e
    known_or_not (Some k) e = inr (ap (λ o. is_some o) e)

-- what is known of a source is told by its own packets
known_same : (remember s moment : ℕ) (history : List Reception)
    → known remember s moment (of_source s history) ≡ known remember s moment history
unfolding known
known_same remember s moment history =
    ap (λ xs. known_after remember (unbroken moment xs)) (twice s history)

-- a capacity above some number isn't 0
not_above : (n m : ℕ) → nat_le n m ≡ false → nat_le n 0 ≡ false
not_above n m h = grind (arith, nat_tests)

-- where there is no station among its own packets, it isn't live among the others' either
not_live : (remember s moment : ℕ) (history : List Reception)
    → stations_at remember moment (of_source s history) ≡ []
    → is_some (by_address s (stations_at remember moment history)) ≡ false
not_live remember s moment history none =
    ap (λ o. is_some o) (by_address-stations_at remember moment history s
    ∙ sym (known_same remember s moment history)
    ∙ sym (by_address-stations_at remember moment (of_source s history) s))
    ∙ ap (λ xs. is_some (by_address s xs)) none

-- where there was room for it among the others, there is room for it alone
room_alone : (remember capacity s moment : ℕ) (history : List Reception)
    → is_full capacity s (stations_at remember moment history) ≡ false
    → is_full capacity s (stations_at remember moment (of_source s history)) ≡ false
room_alone remember capacity s moment history room =
    let stations = stations_at remember moment history in
    elim (few_stations remember s moment history) [
      | inl none ↦ ap (is_full capacity s) none
          ∙ not_above capacity (length stations)
          (subst (λ (b : Bool). (not b && nat_le capacity (length stations)) ≡ false)
          (not_live remember s moment history none) room)
      | inr there ↦ ap
          (λ b. not b && nat_le capacity
          (length (stations_at remember moment (of_source s history)))) there
    ]

-- A moment that isn't early is judged alike.
abbrev late : ℕ → Option Refusal
late moment = cond (nat_lt (2 ^ 62) moment) (Some MomentTooLate) None

-- a moment that isn't before
not_early : (a b : ℕ) → a ≤ b → nat_lt b a ≡ false
not_early a b h = grind (arith, nat_tests)

-- a moment that isn't early is refused only where it is too late
moment_is : (a : StationModel) (moment : ℕ) → a.clock ≤ moment
    → moment_refusal a moment ≡ late moment
moment_is a moment le =
    ap (λ b. cond b (Some MomentEarlier) (late moment)) (not_early a.clock moment le)

-- What a call of the source or of the station itself leaves alike: the answer as it is seen, and
-- the station but for its clock and what it heard of others.
record Alike (s moment : ℕ) (call : Call) (full only : Step) : Type 0 where
  pub clock : ℕ
  pub answer : seen full.answer call ≡ seen only.answer call
  pub station : only.station ≡ like full.station clock (of_source s full.station.history)
  pub early : clock ≤ moment
  pub full_early : full.station.clock ≤ moment

-- a call of its own is refused alike
refusal_same : (call : OwnCall) (a : StationModel) (c : ℕ) (h : List Reception)
    → own_refusal (like a c h) call ≡ own_refusal a call
refusal_same (Move place accurate speed heading) a c h = refl
refusal_same (Open port) a c h = refl
refusal_same (Close port) a c h = refl
refusal_same (Tick jitter) a c h = refl
refusal_same (SendShb r) a c h = refl
refusal_same (SendGbc r) a c h = refl
refusal_same (SendGac r) a c h = refl
refusal_same (Restart number) a c h = refl

-- the station's own calls
refused_alike : (r : Refusal) (call : Call) (s moment : ℕ) (a : StationModel) (c : ℕ)
    → a.clock ≤ moment → c ≤ moment
    → Alike s moment call (record { answer = Refused r; station = a }) (record {
      answer = Refused r;
      station = like a c (of_source s a.history);
    })
refused_alike r call s moment a c le le' =
    record { clock = c; answer = refl; station = refl; early = le'; full_early = le }

-- a tick, due or not
tick_alike : (b : Bool) (jitter s moment : ℕ) (a : StationModel) (c : ℕ)
    → Alike s moment (Own (Tick jitter))
    (cond b (record { answer = Sent (beacon_of a); station = after_sending a moment }) (record {
      answer = Quiet;
      station = record a { clock = moment };
    }))
    (cond b (record {
      answer = Sent (beacon_of a);
      station =
          after_sending (like a c (of_source s a.history)) moment;
    }) (record {
      answer = Quiet;
      station = record (like a c (of_source s a.history)) { clock = moment };
    }))
tick_alike true jitter s moment a c =
    record {
      clock = moment;
      answer = refl;
      station = refl;
      early = omega arith;
      full_early = omega arith;
    }
tick_alike false jitter s moment a c =
    record {
      clock = moment;
      answer = refl;
      station = refl;
      early = omega arith;
      full_early = omega arith;
    }

-- a call of its own that isn't refused
performed_alike : (call : OwnCall) (s moment : ℕ) (a : StationModel) (c : ℕ)
    → Alike s moment (Own call) (performed a moment call)
    (performed (like a c (of_source s a.history)) moment call)
performed_alike (Move place accurate speed heading) s moment a c =
    record {
      clock = moment;
      answer = refl;
      station = refl;
      early = omega arith;
      full_early = omega arith;
    }
performed_alike (Open port) s moment a c =
    record {
      clock = moment;
      answer = refl;
      station = refl;
      early = omega arith;
      full_early = omega arith;
    }
performed_alike (Close port) s moment a c =
    record {
      clock = moment;
      answer = refl;
      station = refl;
      early = omega arith;
      full_early = omega arith;
    }
performed_alike (Tick jitter) s moment a c =
    tick_alike (nat_le (a.beacon_from + jitter) moment) jitter s moment a c
performed_alike (SendShb r) s moment a c =
    record {
      clock = moment;
      answer = refl;
      station = refl;
      early = omega arith;
      full_early = omega arith;
    }
performed_alike (SendGbc r) s moment a c =
    record {
      clock = moment;
      answer = refl;
      station = refl;
      early = omega arith;
      full_early = omega arith;
    }
performed_alike (SendGac r) s moment a c =
    record {
      clock = moment;
      answer = refl;
      station = refl;
      early = omega arith;
      full_early = omega arith;
    }
performed_alike (Restart number) s moment a c =
    record {
      clock = moment;
      answer = refl;
      station = refl;
      early = omega arith;
      full_early = omega arith;
    }

-- a call of its own by its judgement
own_alike_by : (o : Option Refusal) (call : OwnCall) (s moment : ℕ) (a : StationModel) (c : ℕ)
    → a.clock ≤ moment → c ≤ moment
    → Alike s moment (Own call) (own_step_by a moment call o)
    (own_step_by (like a c (of_source s a.history)) moment call o)
own_alike_by (Some r) call s moment a c le le' = refused_alike r (Own call) s moment a c le le'
own_alike_by None call s moment a c le le' = performed_alike call s moment a c

-- a call of its own
own_alike : (call : OwnCall) (s moment : ℕ) (a : StationModel) (c : ℕ) → a.clock ≤ moment
    → c ≤ moment
    → Alike s moment (Own call) (own_step a moment call)
    (own_step (like a c (of_source s a.history)) moment call)
unfolding own_step
own_alike call s moment a c le le' =
    let b = like a c (of_source s a.history) in
    let full : first (moment_refusal a moment) (own_refusal a call)
    ≡ first (late moment) (own_refusal a call) =
    ap (λ m. first m (own_refusal a call)) (moment_is a moment le) in
    let only : first (moment_refusal b moment) (own_refusal b call)
    ≡ first (late moment) (own_refusal a call) =
    ap (λ m. first m (own_refusal b call)) (moment_is b moment le')
    ∙ ap (first (late moment)) (refusal_same call a c (of_source s a.history)) in
    subst (λ (o : Option Refusal).
    Alike s moment (Own call) (own_step_by a moment call o) (own_step b moment call)) (sym full)
    (subst (λ (o : Option Refusal).
    Alike s moment (Own call)
    (own_step_by a moment call (first (late moment) (own_refusal a call)))
    (own_step_by b moment call o)) (sym only)
    (own_alike_by (first (late moment) (own_refusal a call)) call s moment a c le le'))

-- the frames of the source
abbrev judged : Option Refusal → Bool → Bool → Bool → Bool → Bool → Verdict
judged m a b c d f =
    or_else m (cond (not a) (Ignore NotForMe)
    (cond b (Ignore OwnSource)
    (cond c (Ignore SenderMismatch)
    (cond d (Ignore Duplicate) (cond f (Refuse TableFull) Accept)))))

-- where the answer isn't that the table is full, it is the same with no less room
where_room : (m : Option Refusal) (a b c d f g : Bool) → judged m a b c d f ≢ Refuse TableFull
    → (f ≡ false → g ≡ false) → judged m a b c d g ≡ judged m a b c d f
where_room (Some r) a b c d f g h k = refl
where_room None false b c d f g h k = refl
where_room None true true c d f g h k = refl
where_room None true false true d f g h k = refl
where_room None true false false true f g h k = refl
where_room None true false false false true g h k = absurd (h refl)
where_room None true false false false false g h k =
    ap (λ x. cond x (Refuse TableFull) Accept) (k refl)

-- what is handed out doesn't depend on what others sent
handing_same : (body : Body) (a : StationModel) (c : ℕ) (h : List Reception)
    → handing a body ≡ handing (like a c h) body
handing_same beacon a c h = refl
handing_same (shb media m) a c h = refl
handing_same (gbc number area m) a c h = refl
handing_same (gac number area m) a c h = refl

-- a frame of the source by the verdict on it
receive_alike_by : (v : Verdict) (s moment : ℕ) (t : Transmission) (a : StationModel) (c : ℕ)
    → a.clock ≤ moment → c ≤ moment → eqb t.pdu.vector.address s ≡ true
    → Alike s moment (Receive t) (receive_step_by a moment t v)
    (receive_step_by (like a c (of_source s a.history)) moment t v)
receive_alike_by (Refuse r) s moment t a c le le' is =
    refused_alike r (Receive t) s moment a c le le'
receive_alike_by (Ignore why) s moment t a c le le' is =
    record {
      clock = moment;
      answer = refl;
      station = refl;
      early = omega arith;
      full_early = omega arith;
    }
receive_alike_by Accept s moment t a c le le' is =
    record {
      clock = moment;
      answer = ap (λ x. Accepted x None) (handing_same t.pdu.body a c (of_source s a.history));
      station = ap
          (λ b. like a moment
          (cond b (reception moment t ∷ of_source s a.history) (of_source s a.history))) (sym is);
      early = omega arith;
      full_early = omega arith;
    }

-- the verdict on a frame of the source
verdict_full : (a : StationModel) (moment : ℕ) (t : Transmission) → a.clock ≤ moment
    → verdict a moment t ≡ judged (late moment) (is_for a t) (eqb t.pdu.vector.address a.address)
    (is_sender_wrong t t.pdu.body)
    (is_repeated a.remember (number_in t.pdu.body) t.pdu.vector.address moment a.history)
    (is_full a.capacity t.pdu.vector.address (stations_at a.remember moment a.history))
unfolding verdict
verdict_full a moment t le =
    ap (λ m. judged m (is_for a t) (eqb t.pdu.vector.address a.address)
    (is_sender_wrong t t.pdu.body)
    (is_repeated a.remember (number_in t.pdu.body) t.pdu.vector.address moment a.history)
    (is_full a.capacity t.pdu.vector.address (stations_at a.remember moment a.history)))
    (moment_is a moment le)

-- the verdict on a frame of the source, without what others sent
verdict_same : (a : StationModel) (c moment s : ℕ) (t : Transmission) → a.clock ≤ moment
    → c ≤ moment → t.pdu.vector.address ≡ s → verdict a moment t ≢ Refuse TableFull
    → verdict (like a c (of_source s a.history)) moment t ≡ verdict a moment t
verdict_same a c moment s t le le' is room_left =
    let mine = is_for a t in
    let own = eqb t.pdu.vector.address a.address in
    let another = is_sender_wrong t t.pdu.body in
    let source = t.pdu.vector.address in
    let number = number_in t.pdu.body in
    let repeated = is_repeated a.remember number source moment a.history in
    let full = is_full a.capacity source (stations_at a.remember moment a.history) in
    let full_alone =
    is_full a.capacity source (stations_at a.remember moment (of_source s a.history)) in
    let e : verdict a moment t ≡ judged (late moment) mine own another repeated full =
    verdict_full a moment t le in
    let same : is_repeated a.remember number source moment (of_source s a.history) ≡ repeated =
    subst (λ (x : ℕ). is_repeated a.remember number source moment (of_source x a.history)
    ≡ repeated) is (repeated_same a.remember number source moment a.history) in
    let no_less : full ≡ false → full_alone ≡ false =
    subst (λ (x : ℕ). full ≡ false
    → is_full a.capacity source (stations_at a.remember moment (of_source x a.history))
    ≡ false) is (room_alone a.remember a.capacity source moment a.history) in
    verdict_full (like a c (of_source s a.history)) moment t le'
    ∙ ap (λ d. judged (late moment) mine own another d full_alone) same
    ∙ where_room (late moment) mine own another repeated full full_alone
    (λ g. room_left (e ∙ g)) no_less ∙ sym e

-- where the answer isn't that the table is full, the verdict isn't
not_full_verdict : (v : Verdict) (a : StationModel) (moment : ℕ) (t : Transmission)
    → (receive_step_by a moment t v).answer ≢ Refused TableFull → v ≢ Refuse TableFull
not_full_verdict (Refuse r) a moment t h e = h (ap Refused (refusal_is r e))
  where
    refusal_is : (r : Refusal) → Refuse r ≡ Refuse TableFull → r ≡ TableFull
    refusal_is r e = cc
not_full_verdict (Ignore why) a moment t h e = cc
not_full_verdict Accept a moment t h e = cc

-- a frame of the source
receive_alike : (t : Transmission) (s moment : ℕ) (a : StationModel) (c : ℕ) → a.clock ≤ moment
    → c ≤ moment → eqb t.pdu.vector.address s ≡ true → t.pdu.vector.address ≡ s
    → (receive_step a moment t).answer ≢ Refused TableFull
    → Alike s moment (Receive t) (receive_step a moment t)
    (receive_step (like a c (of_source s a.history)) moment t)
unfolding receive_step
receive_alike t s moment a c le le' test is room_left =
    subst (λ (v : Verdict).
    Alike s moment (Receive t) (receive_step a moment t)
    (receive_step_by (like a c (of_source s a.history)) moment t v))
    (sym (verdict_same a c moment s t le le' is
    (not_full_verdict (verdict a moment t) a moment t room_left)))
    (receive_alike_by (verdict a moment t) s moment t a c le le' test)

-- Frames of others, and what is no frame, change nothing of this.
record Unchanged (s moment : ℕ) (a : StationModel) (full : Step) : Type 0 where
  pub station : (c : ℕ)
      → like a c (of_source s a.history) ≡ like full.station c (of_source s full.station.history)
  pub full_early : full.station.clock ≤ moment

-- a frame of another source by the verdict on it
receive_unchanged_by : (v : Verdict) (s moment : ℕ) (t : Transmission) (a : StationModel)
    → a.clock ≤ moment → eqb t.pdu.vector.address s ≡ false
    → Unchanged s moment a (receive_step_by a moment t v)
receive_unchanged_by (Refuse r) s moment t a le off =
    record { station = λ c. refl; full_early = le }
receive_unchanged_by (Ignore why) s moment t a le off =
    record { station = λ c. refl; full_early = omega arith }
receive_unchanged_by Accept s moment t a le off =
    record {
      station = λ c.
          ap (λ b. like a c
          (cond b (reception moment t ∷ of_source s a.history) (of_source s a.history))) (sym off);
      full_early = omega arith;
    }

-- what is no frame
junk_unchanged_by : (o : Option Refusal) (s moment : ℕ) (fault : FrameFault) (a : StationModel)
    → a.clock ≤ moment → Unchanged s moment a (junk_step_by a fault o)
junk_unchanged_by (Some r) s moment fault a le = record { station = λ c. refl; full_early = le }
junk_unchanged_by None s moment fault a le = record { station = λ c. refl; full_early = le }

-- one call
abbrev Effect : Bool → ℕ → ℕ → StationModel → ℕ → Call → Type 0
Effect true s moment a c call =
    Alike s moment call (station_step a moment call)
    (station_step (like a c (of_source s a.history)) moment call)
Effect false s moment a c call = Unchanged s moment a (station_step a moment call)

-- each call
effect : (call : Call) (s moment : ℕ) (a : StationModel) (c : ℕ) → a.clock ≤ moment → c ≤ moment
    → (station_step a moment call).answer ≢ Refused TableFull
    → Effect (concerns s call) s moment a c call
unfolding receive_step
effect (Own call) s moment a c le le' h = own_alike call s moment a c le le'
effect (Junk fault) s moment a c le le' h =
    junk_unchanged_by (moment_refusal a moment) s moment fault a le
effect (Receive t) s moment a c le le' h =
    elim (eq_test t.pdu.vector.address s) [
      | inl e ↦ subst (λ (b : Bool). Effect b s moment a c (Receive t)) (sym e.0)
          (receive_alike t s moment a c le le' e.0 e.1 h)
      | inr e ↦ subst (λ (b : Bool). Effect b s moment a c (Receive t)) (sym e.0)
          (receive_unchanged_by (verdict a moment t) s moment t a le e.0)
    ]

-- all calls
answers_alike : (calls : List TimedCall) (s moment : ℕ) (a : StationModel) (c : ℕ)
    → a.clock ≤ moment → c ≤ moment → NeverFalls moment calls → IsNeverFull (answers_of a calls)
    → answers_for s calls (answers_of a calls)
    ≡ answers_for s (calls_for s calls)
    (answers_of (like a c (of_source s a.history)) (calls_for s calls))
answers_alike [] s moment a c le le' falls full = refl
answers_alike (x ∷ calls) s moment a c le le' falls full =
    one (concerns s x.call) refl
    (effect x.call s x.moment a c (omega (arith, falls.0)) (omega (arith, falls.0)) full.0)
    (λ d early full_early.
    answers_alike calls s x.moment
    (station_step a x.moment x.call).station d full_early early falls.1 full.1)
  where
    one : (b : Bool) → concerns s x.call ≡ b → Effect b s x.moment a c x.call
        → ((d : ℕ) → d ≤ x.moment → (station_step a x.moment x.call).station.clock ≤ x.moment
        → answers_for s calls (answers_of (station_step a x.moment x.call).station calls)
        ≡ answers_for s (calls_for s calls)
        (answers_of
        (like (station_step a x.moment x.call).station d
        (of_source s (station_step a x.moment x.call).station.history)) (calls_for s calls)))
        → cond b (seen (station_step a x.moment x.call).answer x.call
        ∷ answers_for s calls (answers_of (station_step a x.moment x.call).station calls))
        (answers_for s calls (answers_of (station_step a x.moment x.call).station calls))
        ≡ answers_for s (cond b (x ∷ calls_for s calls) (calls_for s calls))
        (answers_of (like a c (of_source s a.history))
        (cond b (x ∷ calls_for s calls) (calls_for s calls)))
    one true is e ih =
        let L = answers_for s calls (answers_of (station_step a x.moment x.call).station calls) in
        let B = seen
        (station_step (like a c (of_source s a.history)) x.moment x.call).answer x.call in
        let b = (station_step (like a c (of_source s a.history)) x.moment x.call).station in
        ap (λ z. z ∷ L) e.answer
        ∙ ap (λ zs. B ∷ zs) (ih e.clock e.early e.full_early)
        ∙ ap (λ y. B ∷ answers_for s (calls_for s calls) (answers_of y (calls_for s calls)))
        (sym e.station)
        ∙ ap (λ t. cond t (B ∷ answers_for s (calls_for s calls) (answers_of b (calls_for s calls)))
        (answers_for s (calls_for s calls) (answers_of b (calls_for s calls)))) (sym is)
    one false is e ih =
        ih c (omega (arith, falls.0)) e.full_early
        ∙ ap (λ y. answers_for s (calls_for s calls) (answers_of y (calls_for s calls)))
        (sym (e.station c))

-- all calls, behind others
later_alike : (past done : List TimedCall) (s moment : ℕ) (a : StationModel) (c : ℕ)
    → a.clock ≤ moment → c ≤ moment → NeverFalls moment (past ++ done)
    → IsNeverFull (answers_of a (past ++ done))
    → answers_for s done (answers_of (station_run a past) done)
    ≡ answers_for s (calls_for s done)
    (answers_of (station_run (like a c (of_source s a.history)) (calls_for s past))
    (calls_for s done))
later_alike [] done s moment a c le le' falls full =
    answers_alike done s moment a c le le' falls full
later_alike (x ∷ past) done s moment a c le le' falls full =
    one (concerns s x.call) refl
    (effect x.call s x.moment a c (omega (arith, falls.0)) (omega (arith, falls.0)) full.0)
    (λ d early full_early.
    later_alike past done s x.moment
    (station_step a x.moment x.call).station d full_early early falls.1 full.1)
  where
    one : (b : Bool) → concerns s x.call ≡ b → Effect b s x.moment a c x.call
        → ((d : ℕ) → d ≤ x.moment → (station_step a x.moment x.call).station.clock ≤ x.moment
        → answers_for s done
        (answers_of (station_run (station_step a x.moment x.call).station past) done)
        ≡ answers_for s (calls_for s done)
        (answers_of
        (station_run
        (like (station_step a x.moment x.call).station d
        (of_source s (station_step a x.moment x.call).station.history)) (calls_for s past))
        (calls_for s done)))
        → answers_for s done
        (answers_of (station_run (station_step a x.moment x.call).station past) done)
        ≡ answers_for s (calls_for s done)
        (answers_of
        (station_run (like a c (of_source s a.history))
        (cond b (x ∷ calls_for s past) (calls_for s past))) (calls_for s done))
    one true is e ih =
        ih e.clock e.early e.full_early
        ∙ ap (λ y. answers_for s (calls_for s done)
        (answers_of (station_run y (calls_for s past)) (calls_for s done))) (sym e.station)
    one false is e ih =
        ih c (omega (arith, falls.0)) e.full_early
        ∙ ap (λ y. answers_for s (calls_for s done)
        (answers_of (station_run y (calls_for s past)) (calls_for s done))) (sym (e.station c))

-- all calls of a new station
pub sources_are_isolated : SourcesAreIsolated
sources_are_isolated address place capacity remember mobile past done source falls full =
    later_alike past done source 0
    (record (new_station address place capacity remember) { mobile = mobile }) 0 (omega arith)
    (omega arith) falls full
