-- What a tally has counted, with one frame, packet or delivery more.
use Rattle.std.proofs.Common.{◌≡◌, ℕ, zero, suc, ◌+◌, ◌-◌, ◌<◌, ◌≤◌, List, [], ◌∷◌, ◌++◌, length}
use Rattle.std.proofs.Common.{drop, Bool, true, false, cond, refl, sym, ap, ◌∙◌, subst, arith, not}
use Rattle.std.proofs.Common.{◌||◌}
use Rattle.std.proofs.lemmas.List.{length-append, drop-append-le, drop-drop, length-drop}
use Rattle.std.specs.HashSet.{contains}
use Rattle.std.specs.List.{list_any}
use Rattle.std.specs.Prelude.{max, min, Option, Some, None, slice_get, Result, Ok, Err, OnOk}
use Rattle.its_model.specs.World.{Event, What, with_one_more}
use Rattle.its_model.specs.World.What.{Calls, Deliver}
use Rattle.its_station.specs.declared.requests.OwnedGbcRequest.{OwnedGbcRequest}
use Rattle.its_world.specs.Events.{what_of}
use Rattle.its_world.specs.Entries.{Entry}
use Rattle.its_station.specs.declared.call.OwnCall.{OwnCall}
use Rattle.its_station.specs.declared.call.OwnCall.TheVariants as own_calls
use Rattle.its_world.specs.declared.event.What as world
use Rattle.its_world.specs.declared.event.What.TheVariants as whats
use Rattle.sim_simulation.proofs.Counts.{length_more}
use Rattle.sim_simulation.proofs.Summaries.{told_relay, told_packet, told_delivery, as_many}
use Rattle.sim_simulation.specs.Totals.{is_area_send}
use Rattle.sim_simulation.specs.declared.tally.summary.SendSummary.{SendSummary}
use Rattle.sim_simulation.specs.declared.tally.tally.CarriedPacket.{CarriedPacket}
use Rattle.sim_simulation.specs.declared.tally.tally.Tally.{Tally}
use Rattle.sim_simulation.specs.Packets.{Packet, Delivery, Frames, Line, IsSummary, AreSummaries}
use Rattle.sim_simulation.specs.Packets.{CarryThese, AreOfThese, IsOneOf, AreKept, HasCounted, deeper}
use Rattle.sim_simulation.specs.Packets.{own_of, updated, delivered_to, with_frame_of, was_at, same_pair}
use Rattle.sim_simulation.specs.Packets.{looked_up, delivered_by, lines_on, sent_by}

-- ---- what frames carry

-- one frame more
pub kept_more : (kept fs : Frames) (released : ℕ) (x : Option CarriedPacket)
    → AreKept kept released fs → AreKept (kept ++ x ∷ []) released (fs ++ x ∷ [])
kept_more kept fs released x is =
    record {
      within = omega (arith, is.within, length-append fs (x ∷ []));
      rest = ap (λ (ys : Frames). ys ++ x ∷ []) is.rest
          ∙ sym (drop-append-le released fs (x ∷ []) is.within);
    }

-- the first ones are forgotten
pub kept_fewer : (kept less fs : Frames) (released gone given : ℕ) → AreKept kept released fs
    → gone ≡ max released (min given (released + length kept))
    → less ≡ drop (gone - released) kept → AreKept less gone fs
kept_fewer kept less fs released gone given is so_many rest =
    let size : length kept ≡ length fs - released = ap length is.rest ∙ length-drop released fs in
    let inside = is.within in
    let more : released + (gone - released) ≡ gone = omega (arith, so_many) in
    record {
      within = omega (arith, so_many, size, inside);
      rest = rest ∙ ap (λ (ys : Frames). drop (gone - released) ys) is.rest
          ∙ drop-drop (gone - released) released fs
          ∙ ap (λ (n : ℕ). drop n fs) more;
    }

get_in_rest : {X : Type 0} (xs : List X) (n k : ℕ) → slice_get (drop n xs) k ≡ slice_get xs (n + k)
get_in_rest [] zero k = refl
get_in_rest [] (suc n) k = refl
get_in_rest (x ∷ xs) zero k =
    let same : k ≡ zero + k = omega arith in
    ap (λ (m : ℕ). slice_get (x ∷ xs) m) same
get_in_rest (x ∷ xs) (suc n) k =
    let next : suc (n + k) ≡ suc n + k = omega arith in
    get_in_rest xs n k ∙ ap (λ (m : ℕ). slice_get (x ∷ xs) m) next

-- a frame that is kept
pub kept_lookup : (kept fs : Frames) (released place k : ℕ) → AreKept kept released fs
    → k ≡ released + place → looked_up (slice_get kept place) ≡ looked_up (slice_get fs k)
kept_lookup kept fs released place k is at =
    ap (λ (ys : Frames). looked_up (slice_get ys place)) is.rest
    ∙ ap looked_up (get_in_rest fs released place)
    ∙ ap (λ (m : ℕ). looked_up (slice_get fs m)) (sym at)

one_of_at : (n : ℕ) (fs : Frames) (k : ℕ) → CarryThese n fs → IsOneOf n (looked_up (slice_get fs k))
one_of_at n [] k these = tt
one_of_at n (x ∷ fs) zero these = these.0
one_of_at n (x ∷ fs) (suc k) these = one_of_at n fs k these.1

-- what is delivered carries a packet that was sent
pub one_of_these : (n : ℕ) (fs : Frames) (what : What) → CarryThese n fs
    → IsOneOf n (delivered_by what fs)
one_of_these n fs (Calls call) these = tt
one_of_these n fs (Deliver k) these = one_of_at n fs k these

deeper_of : (n : ℕ) (x : Option CarriedPacket) → IsOneOf n x → IsOneOf n (deeper x)
deeper_of n None is = tt
deeper_of n (Some c) is = is

carry_more : (n : ℕ) (fs : Frames) (x : Option CarriedPacket) → CarryThese n fs → IsOneOf n x
    → CarryThese n (fs ++ x ∷ [])
carry_more n [] x these is = (is, tt)
carry_more n (y ∷ fs) x these is = (these.0, carry_more n fs x these.1 is)

one_of_more : (n m : ℕ) (x : Option CarriedPacket) → n ≤ m → IsOneOf n x → IsOneOf m x
one_of_more n m None le is = tt
one_of_more n m (Some c) le is = omega (arith, le, is)

carry_later : (n m : ℕ) (fs : Frames) → n ≤ m → CarryThese n fs → CarryThese m fs
carry_later n m [] le these = tt
carry_later n m (x ∷ fs) le these =
    (one_of_more n m x le these.0, carry_later n m fs le these.1)

of_later : (n m : ℕ) (ds : List Delivery) → n ≤ m → AreOfThese n ds → AreOfThese m ds
of_later n m [] le these = tt
of_later n m (d ∷ ds) le these = (omega (arith, le, these.0), of_later n m ds le these.1)

-- ---- tallies

-- one with the same counts
pub same_tally : (t u : Tally) (ps : List Packet) (fs : Frames) (ds : List Delivery)
    → u.sends.items ≡ t.sends.items → u.carried.items ≡ t.carried.items
    → u.released ≡ t.released → u.delivered ≡ t.delivered
    → HasCounted t ps fs ds → HasCounted u ps fs ds
same_tally t u ps fs ds sends carried released delivered has =
    record {
      summaries = subst (λ (ss : List SendSummary). AreSummaries 0 ss ps fs ds) (sym sends)
          has.summaries;
      kept = subst (λ (r : ℕ). AreKept u.carried.items r fs) (sym released)
          (subst (λ (ys : Frames). AreKept ys t.released fs) (sym carried) has.kept);
      places = λ i station. ap (λ s. contains same_pair s (i, station)) delivered
          ∙ has.places i station;
      of_frames = has.of_frames;
      of_deliveries = has.of_deliveries;
    }

-- one that has forgotten the first frames
pub fewer_kept : (t u : Tally) (given : ℕ) (ps : List Packet) (fs : Frames) (ds : List Delivery)
    → u.sends ≡ t.sends
    → u.released ≡ max t.released (min given (t.released + length t.carried.items))
    → u.carried.items ≡ drop (u.released - t.released) t.carried.items
    → u.delivered ≡ t.delivered
    → HasCounted t ps fs ds → HasCounted u ps fs ds
fewer_kept t u given ps fs ds sends released carried delivered has =
    record {
      summaries = subst (λ (ss : List SendSummary). AreSummaries 0 ss ps fs ds)
          (sym (ap (λ s. s.items) sends)) has.summaries;
      kept = kept_fewer t.carried.items u.carried.items fs t.released u.released given has.kept
          released carried;
      places = λ i station. ap (λ s. contains same_pair s (i, station)) delivered
          ∙ has.places i station;
      of_frames = has.of_frames;
      of_deliveries = has.of_deliveries;
    }

-- one relay more
pub relay_more : (t u : Tally) (x : Option CarriedPacket) (ps : List Packet) (fs : Frames)
    (ds : List Delivery) → u.sends.items ≡ with_frame_of x t.sends.items
    → u.carried.items ≡ t.carried.items ++ deeper x ∷ [] → u.released ≡ t.released
    → u.delivered ≡ t.delivered → IsOneOf (length ps) x
    → HasCounted t ps fs ds → HasCounted u ps (fs ++ deeper x ∷ []) ds
relay_more t u x ps fs ds sends carried released delivered one has =
    let gs = fs ++ deeper x ∷ [] in
    record {
      summaries = subst (λ (ss : List SendSummary). AreSummaries 0 ss ps gs ds) (sym sends)
          (told_relay x fs ds t.sends.items ps has.summaries);
      kept = subst (λ (r : ℕ). AreKept u.carried.items r gs) (sym released)
          (subst (λ (ys : Frames). AreKept ys t.released gs) (sym carried)
          (kept_more t.carried.items fs t.released (deeper x) has.kept));
      places = λ i station. ap (λ s. contains same_pair s (i, station)) delivered
          ∙ has.places i station;
      of_frames = carry_more (length ps) fs (deeper x) has.of_frames
          (deeper_of (length ps) x one);
      of_deliveries = has.of_deliveries;
    }

-- one packet more, with its own frame
pub packet_more : (t u : Tally) (s : SendSummary) (p : Packet) (ps : List Packet) (fs : Frames)
    (ds : List Delivery) → u.sends.items ≡ t.sends.items ++ s ∷ []
    → u.carried.items ≡ t.carried.items ++ own_of (length t.sends.items) true ∷ []
    → u.released ≡ t.released → u.delivered ≡ t.delivered
    → IsSummary (length ps) s p (own_of (length ps) true ∷ []) []
    → HasCounted t ps fs ds
    → HasCounted u (ps ++ p ∷ []) (fs ++ own_of (length ps) true ∷ []) ds
packet_more t u s p ps fs ds sends carried released delivered is has =
    let n = length ps in
    let own = own_of n true in
    let gs = fs ++ own ∷ [] in
    let size : length t.sends.items ≡ n = as_many fs ds 0 t.sends.items ps has.summaries in
    let more : length (ps ++ p ∷ []) ≡ n + 1 = length_more ps p in
    let given : u.carried.items ≡ t.carried.items ++ own ∷ [] =
    carried ∙ ap (λ (m : ℕ). t.carried.items ++ own_of m true ∷ []) size in
    record {
      summaries = subst (λ (ss : List SendSummary). AreSummaries 0 ss (ps ++ p ∷ []) gs ds)
          (sym sends) (told_packet s p fs ds t.sends.items ps has.of_frames has.of_deliveries is
          has.summaries);
      kept = subst (λ (r : ℕ). AreKept u.carried.items r gs) (sym released)
          (subst (λ (ys : Frames). AreKept ys t.released gs) (sym given)
          (kept_more t.carried.items fs t.released own has.kept));
      places = λ i station. ap (λ s. contains same_pair s (i, station)) delivered
          ∙ has.places i station;
      of_frames = carry_more (length (ps ++ p ∷ [])) fs own
          (carry_later n (length (ps ++ p ∷ [])) fs (omega (arith, more)) has.of_frames)
          (omega (arith, more));
      of_deliveries = of_later n (length (ps ++ p ∷ [])) ds (omega (arith, more))
          has.of_deliveries;
    }

or_is : (x y : Bool) → cond x true y ≡ (x || y)
or_is true y = refl
or_is false y = refl

-- one delivery more
pub delivery_more : (t u : Tally) (d : Delivery) (first : Bool) (ps : List Packet) (fs : Frames)
    (ds : List Delivery)
    → u.sends.items ≡ updated d.send 0 (delivered_to d.hops first d.moment) t.sends.items
    → u.carried.items ≡ t.carried.items → u.released ≡ t.released
    → first ≡ not (contains same_pair t.delivered (d.send, d.station))
    → ((q : ℕ × ℕ) → contains same_pair u.delivered q
    ≡ cond (same_pair (d.send, d.station) q) true (contains same_pair t.delivered q))
    → d.send < length ps → HasCounted t ps fs ds → HasCounted u ps fs (d ∷ ds)
delivery_more t u d first ps fs ds sends carried released is updates one has =
    let new : first ≡ not (list_any (was_at d.send d.station) ds) =
    is ∙ ap not (has.places d.send d.station) in
    record {
      summaries = subst (λ (ss : List SendSummary). AreSummaries 0 ss ps fs (d ∷ ds)) (sym sends)
          (told_delivery d fs ds t.sends.items ps first new has.summaries);
      kept = subst (λ (r : ℕ). AreKept u.carried.items r fs) (sym released)
          (subst (λ (ys : Frames). AreKept ys t.released fs) (sym carried) has.kept);
      places = λ i station. updates (i, station)
          ∙ ap (λ (b : Bool). cond (same_pair (d.send, d.station) (i, station)) true b)
          (has.places i station)
          ∙ or_is (same_pair (d.send, d.station) (i, station)) (list_any (was_at i station) ds);
      of_frames = has.of_frames;
      of_deliveries = (one, has.of_deliveries);
    }

-- ---- calls that send no packet for an area

pub is_plain : (w : world.What)
    → ((r : OwnedGbcRequest) → w ≡ whats.Call (own_calls.SendGeobroadcast r) → ⊥)
    → ((r : OwnedGbcRequest) → w ≡ whats.Call (own_calls.SendGeoanycast r) → ⊥) → (n : ℕ) (e : Event)
    → (is_area_send (what_of w) ≡ false) × (sent_by n e (what_of w) ≡ None)
is_plain (whats.Call (own_calls.MoveTo place pai speed heading)) one two n e = (refl, refl)
is_plain (whats.Call (own_calls.Open port)) one two n e = (refl, refl)
is_plain (whats.Call (own_calls.Close port)) one two n e = (refl, refl)
is_plain (whats.Call (own_calls.Tick jitter)) one two n e = (refl, refl)
is_plain (whats.Call (own_calls.SendShb r)) one two n e = (refl, refl)
is_plain (whats.Call (own_calls.SendGeobroadcast r)) one two n e = absurd (one r refl)
is_plain (whats.Call (own_calls.SendGeoanycast r)) one two n e = absurd (two r refl)
is_plain (whats.Call (own_calls.Restart number)) one two n e = (refl, refl)
is_plain (whats.Deliver k) one two n e = (refl, refl)

-- another call than the one that is made
pub other_call : (w : world.What) (call other : OwnCall) → w ≡ whats.Call call → (call ≡ other → ⊥)
    → w ≡ whats.Call other → ⊥
other_call w call other is differ made = differ (cc)

-- a frame that carries no packet for an area adds no summary
pub plain_sends : (old new : Tally) (w : What) → is_area_send w ≡ false → new.sends ≡ old.sends
    → length new.sends.items ≡ length old.sends.items + cond (is_area_send w) 1 0
plain_sends old new w plain same =
    let size = length old.sends.items in
    let none : size ≡ size + cond false 1 0 = omega arith in
    ap (λ s. length s.items) same ∙ none ∙ ap (λ (b : Bool). size + cond b 1 0) (sym plain)

-- and is counted
pub plain_counts : (old new : Tally) (ps : List Packet) (fs : Frames) (ds : List Delivery)
    (w : What) (sent : Option Packet) → is_area_send w ≡ false → sent ≡ None
    → new.sends ≡ old.sends → new.carried.items ≡ old.carried.items ++ None ∷ []
    → new.released ≡ old.released → new.delivered ≡ old.delivered → HasCounted old ps fs ds
    → HasCounted new (with_one_more ps sent) (fs ++ own_of (length ps) (is_area_send w) ∷ []) ds
plain_counts old new ps fs ds w sent plain none sends carried released delivered has =
    subst (λ (o : Option Packet). HasCounted new (with_one_more ps o)
    (fs ++ own_of (length ps) (is_area_send w) ∷ []) ds) (sym none)
    (subst (λ (b : Bool). HasCounted new ps (fs ++ own_of (length ps) b ∷ []) ds) (sym plain)
    (relay_more old new None ps fs ds (ap (λ s. s.items) sends) carried released delivered tt has))

-- ---- lines

-- one event more
pub lines_more : (before : List Line) (events : List Event) (log : List Entry) (e : Event)
    (entry : Entry) → length events ≡ length log
    → lines_on before (events ++ e ∷ []) (log ++ entry ∷ [])
    ≡ record { event = e; entry = entry } ∷ lines_on before events log
lines_more before [] [] e entry same = refl
lines_more before [] (b ∷ log) e entry same = absurd (omega (arith, same))
lines_more before (a ∷ events) [] e entry same = absurd (omega (arith, same))
lines_more before (a ∷ events) (b ∷ log) e entry same =
    lines_more (record { event = a; entry = b } ∷ before) events log e entry (omega (arith, same))

-- so many lines as entries
pub lines_size : (before : List Line) (events : List Event) (log : List Entry)
    → length events ≡ length log
    → length (lines_on before events log) ≡ length before + length log
lines_size before [] [] same = omega arith
lines_size before [] (b ∷ log) same = absurd (omega (arith, same))
lines_size before (a ∷ events) [] same = absurd (omega (arith, same))
lines_size before (a ∷ events) (b ∷ log) same =
    let rest = lines_size (record { event = a; entry = b } ∷ before) events log
    (omega (arith, same)) in
    omega (arith, rest)

-- ---- what a call says where it succeeds

-- a fact under a condition
pub under_ok : {T E : Type 0} (r : Result T E) (P Q : Type 0) → (P → OnOk r Q) → OnOk r (P → Q)
under_ok (Ok x) P Q is = is
under_ok (Err e) P Q is = tt
