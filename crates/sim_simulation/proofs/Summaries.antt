-- What is counted of one packet, with one frame or one delivery more.
use Rattle.std.proofs.Common.{◌≡◌, ℕ, zero, suc, ◌+◌, ◌-◌, ◌<◌, ◌≤◌, List, [], ◌∷◌, ◌++◌}
use Rattle.std.proofs.Common.{length, get_or, set, Bool, true, false, cond, eq-eqb, refl, sym, ap}
use Rattle.std.proofs.Common.{◌∙◌, subst, arith, not}
use Rattle.std.specs.Prelude.{nat_eq, count_by, filter, map, max, Option, Some, None}
use Rattle.std.specs.List.{list_any}
use Rattle.its_model.proofs.NumberTests.{count_snoc, count_no, eqb_other}
use Rattle.sim_simulation.proofs.Counts.{by_one}
use Rattle.sim_simulation.specs.Totals.{capped}
use Rattle.sim_simulation.specs.declared.tally.summary.SendSummary.{SendSummary}
use Rattle.sim_simulation.specs.declared.tally.tally.CarriedPacket.{CarriedPacket}
use Rattle.sim_simulation.specs.Packets.{Packet, Delivery, Frames, IsSummary, AreSummaries, CarryThese}
use Rattle.sim_simulation.specs.Packets.{AreOfThese, carries_packet, deeper, own_of, updated, firsts}
use Rattle.sim_simulation.specs.Packets.{with_one_frame, delivered_to, is_of, was_at, greatest}
use Rattle.sim_simulation.specs.Packets.{with_frame_of}

-- ---- one element that changes

-- one before these
updated_below : {X : Type 0} (at from : ℕ) (f : X → X) (xs : List X) → at < from
    → updated at from f xs ≡ xs
updated_below at from f [] lt = refl
updated_below at from f (x ∷ xs) lt =
    let other : nat_eq at from ≡ false = eqb_other from at (omega (arith, lt)) in
    ap (λ (b : Bool). cond b (f x) x ∷ updated at (from + 1) f xs) other
    ∙ ap (λ ys. x ∷ ys) (updated_below at (from + 1) f xs (omega (arith, lt)))

-- one past these
pub updated_past : {X : Type 0} (at from : ℕ) (f : X → X) (xs : List X) → from + length xs ≤ at
    → updated at from f xs ≡ xs
updated_past at from f [] past = refl
updated_past at from f (x ∷ xs) past =
    let other : nat_eq at from ≡ false = eqb_other from at (omega (arith, past)) in
    ap (λ (b : Bool). cond b (f x) x ∷ updated at (from + 1) f xs) other
    ∙ ap (λ ys. x ∷ ys) (updated_past at (from + 1) f xs (omega (arith, past)))

-- one of these
updated_at : {X : Type 0} (k at from : ℕ) (f : X → X) (xs : List X) (x : X) → at ≡ from + k
    → k < length xs → x ≡ get_or xs k x → set xs k (f x) ≡ updated at from f xs
updated_at k at from f [] x is lt here = absurd (omega (arith, lt))
updated_at zero at from f (y ∷ ys) x is lt here =
    let same : nat_eq at from ≡ true = eq-eqb at from (omega (arith, is)) in
    ap (λ z. f z ∷ ys) here
    ∙ ap (λ zs. f y ∷ zs) (sym (updated_below at (from + 1) f ys (omega (arith, is))))
    ∙ ap (λ (b : Bool). cond b (f y) y ∷ updated at (from + 1) f ys) (sym same)
updated_at (suc k) at from f (y ∷ ys) x is lt here =
    let other : nat_eq at from ≡ false = eqb_other from at (omega (arith, is)) in
    let next : at ≡ from + 1 + k = omega (arith, is) in
    ap (λ zs. y ∷ zs) (updated_at k at (from + 1) f ys x next (omega (arith, lt)) here)
    ∙ ap (λ (b : Bool). cond b (f y) y ∷ updated at (from + 1) f ys) (sym other)

pub updated_is : {X : Type 0} (k : ℕ) (f : X → X) (xs : List X) (x : X) → k < length xs
    → x ≡ get_or xs k x → set xs k (f x) ≡ updated k 0 f xs
updated_is k f xs x lt here = updated_at k k 0 f xs x (omega arith) lt here

-- ---- all summaries

-- one summary changes
pub told_step : (fs gs : Frames) (ds es : List Delivery) (at : ℕ) (f : SendSummary → SendSummary)
    → ((i : ℕ) (s : SendSummary) (p : Packet) → IsSummary i s p fs ds
    → IsSummary i (cond (nat_eq at i) (f s) s) p gs es)
    → (i : ℕ) (ss : List SendSummary) (ps : List Packet) → AreSummaries i ss ps fs ds
    → AreSummaries i (updated at i f ss) ps gs es
told_step fs gs ds es at f step i [] [] are = tt
told_step fs gs ds es at f step i [] (p ∷ ps) are = absurd are
told_step fs gs ds es at f step i (s ∷ ss) [] are = absurd are
told_step fs gs ds es at f step i (s ∷ ss) (p ∷ ps) are =
    (step i s p are.0, told_step fs gs ds es at f step (i + 1) ss ps are.1)

-- none changes
pub told_more : (fs gs : Frames) (ds es : List Delivery) (n : ℕ)
    → ((i : ℕ) (s : SendSummary) (p : Packet) → i < n → IsSummary i s p fs ds
    → IsSummary i s p gs es)
    → (i : ℕ) (ss : List SendSummary) (ps : List Packet) → i + length ps ≤ n
    → AreSummaries i ss ps fs ds → AreSummaries i ss ps gs es
told_more fs gs ds es n step i [] [] below are = tt
told_more fs gs ds es n step i [] (p ∷ ps) below are = absurd are
told_more fs gs ds es n step i (s ∷ ss) [] below are = absurd are
told_more fs gs ds es n step i (s ∷ ss) (p ∷ ps) below are = (
  step i s p (omega (arith, below)) are.0,
  told_more fs gs ds es n step (i + 1) ss ps (omega (arith, below)) are.1,
)

-- one packet more
pub told_push : (fs : Frames) (ds : List Delivery) (s : SendSummary) (p : Packet) (n i : ℕ)
    (ss : List SendSummary) (ps : List Packet) → n ≡ i + length ps → IsSummary n s p fs ds
    → AreSummaries i ss ps fs ds → AreSummaries i (ss ++ s ∷ []) (ps ++ p ∷ []) fs ds
told_push fs ds s p n i [] [] at is are =
    (subst (λ (m : ℕ). IsSummary m s p fs ds) (omega (arith, at)) is, tt)
told_push fs ds s p n i [] (q ∷ ps) at is are = absurd are
told_push fs ds s p n i (t ∷ ss) [] at is are = absurd are
told_push fs ds s p n i (t ∷ ss) (q ∷ ps) at is are =
    (are.0, told_push fs ds s p n (i + 1) ss ps (omega (arith, at)) is are.1)

-- so many summaries as packets
pub as_many : (fs : Frames) (ds : List Delivery) (i : ℕ) (ss : List SendSummary)
    (ps : List Packet) → AreSummaries i ss ps fs ds → length ss ≡ length ps
as_many fs ds i [] [] are = refl
as_many fs ds i [] (p ∷ ps) are = absurd are
as_many fs ds i (s ∷ ss) [] are = absurd are
as_many fs ds i (s ∷ ss) (p ∷ ps) are = ap suc (as_many fs ds (i + 1) ss ps are.1)

-- ---- one frame more

-- a frame that carries another packet, or none
pub other_frame : (i : ℕ) (s : SendSummary) (p : Packet) (fs : Frames) (ds : List Delivery)
    (x : Option CarriedPacket) → carries_packet i x ≡ false → IsSummary i s p fs ds
    → IsSummary i s p (fs ++ x ∷ []) ds
other_frame i s p fs ds x other is =
    let before = count_by (carries_packet i) fs in
    record {
      send = is.send;
      moment = is.moment;
      station = is.station;
      kind = is.kind;
      port = is.port;
      frames = by_one false s.frames before (count_by (carries_packet i) (fs ++ x ∷ [])) is.frames
          (count_snoc (carries_packet i) fs x
          ∙ ap (λ (b : Bool). cond b 1 0 + before) other);
      delivered = is.delivered;
      hops = is.hops;
      last = is.last;
    }

-- a frame that carries it
same_frame : (i : ℕ) (s : SendSummary) (p : Packet) (fs : Frames) (ds : List Delivery)
    (x : Option CarriedPacket) → carries_packet i x ≡ true → IsSummary i s p fs ds
    → IsSummary i (with_one_frame s) p (fs ++ x ∷ []) ds
same_frame i s p fs ds x same is =
    let before = count_by (carries_packet i) fs in
    record {
      send = is.send;
      moment = is.moment;
      station = is.station;
      kind = is.kind;
      port = is.port;
      frames = by_one true s.frames before (count_by (carries_packet i) (fs ++ x ∷ [])) is.frames
          (count_snoc (carries_packet i) fs x
          ∙ ap (λ (b : Bool). cond b 1 0 + before) same);
      delivered = is.delivered;
      hops = is.hops;
      last = is.last;
    }

relay_by : (b : Bool) (c : CarriedPacket) (fs : Frames) (ds : List Delivery) (i : ℕ)
    (s : SendSummary) (p : Packet) → nat_eq c.send i ≡ b → IsSummary i s p fs ds
    → IsSummary i (cond b (with_one_frame s) s) p (fs ++ deeper (Some c) ∷ []) ds
relay_by true c fs ds i s p same is = same_frame i s p fs ds (deeper (Some c)) same is
relay_by false c fs ds i s p same is = other_frame i s p fs ds (deeper (Some c)) same is

-- all summaries, with one relay more
pub told_relay : (x : Option CarriedPacket) (fs : Frames) (ds : List Delivery)
    (ss : List SendSummary) (ps : List Packet) → AreSummaries 0 ss ps fs ds
    → AreSummaries 0 (with_frame_of x ss) ps (fs ++ deeper x ∷ []) ds
told_relay None fs ds ss ps are =
    told_more fs (fs ++ None ∷ []) ds ds (length ps)
    (λ i s p lt is. other_frame i s p fs ds None refl is) 0 ss ps (omega arith) are
told_relay (Some c) fs ds ss ps are =
    told_step fs (fs ++ deeper (Some c) ∷ []) ds ds c.send with_one_frame
    (λ i s p is. relay_by (nat_eq c.send i) c fs ds i s p refl is) 0 ss ps are

-- ---- one packet more

-- of a packet that wasn't sent yet there are no frames
none_carry : (n : ℕ) (fs : Frames) → CarryThese n fs → count_by (carries_packet n) fs ≡ 0
none_carry n [] these = refl
none_carry n (None ∷ fs) these = count_no (carries_packet n) None fs refl ∙ none_carry n fs these.1
none_carry n (Some c ∷ fs) these =
    let other : nat_eq c.send n ≡ false = eqb_other n c.send (omega (arith, these.0)) in
    count_no (carries_packet n) (Some c) fs other ∙ none_carry n fs these.1

-- nor deliveries
none_of : (n : ℕ) (ds : List Delivery) → AreOfThese n ds → filter (is_of n) ds ≡ []
none_of n [] these = refl
none_of n (d ∷ ds) these =
    let other : nat_eq d.send n ≡ false = eqb_other n d.send (omega (arith, these.0)) in
    ap (λ (b : Bool). cond b (d ∷ filter (is_of n) ds) (filter (is_of n) ds)) other
    ∙ none_of n ds these.1

these_if : (n : ℕ) (b : Bool) (xs ys : List Delivery) → AreOfThese n xs → AreOfThese n ys
    → AreOfThese n (cond b xs ys)
these_if n true xs ys one two = one
these_if n false xs ys one two = two

firsts_these : (n : ℕ) (ds : List Delivery) → AreOfThese n ds → AreOfThese n (firsts ds)
firsts_these n [] these = tt
firsts_these n (d ∷ ds) these =
    let rest = firsts_these n ds these.1 in
    these_if n (list_any (was_at d.send d.station) ds) (firsts ds) (d ∷ firsts ds) rest
    (these.0, rest)

-- the summary of a new packet
new_summary : (n : ℕ) (s : SendSummary) (p : Packet) (fs : Frames) (ds : List Delivery)
    → CarryThese n fs → AreOfThese n ds → IsSummary n s p (own_of n true ∷ []) []
    → IsSummary n s p (fs ++ own_of n true ∷ []) ds
new_summary n s p fs ds carry these is =
    let own = own_of n true in
    let none : filter (is_of n) ds ≡ [] = none_of n ds these in
    let first : filter (is_of n) (firsts ds) ≡ [] =
    none_of n (firsts ds) (firsts_these n ds these) in
    let count : count_by (carries_packet n) (fs ++ own ∷ [])
    ≡ count_by (carries_packet n) (own ∷ []) =
    count_snoc (carries_packet n) fs own
    ∙ ap (λ (m : ℕ). cond (carries_packet n own) 1 0 + m) (none_carry n fs carry)
    ∙ sym (count_snoc (carries_packet n) [] own) in
    record {
      send = is.send;
      moment = is.moment;
      station = is.station;
      kind = is.kind;
      port = is.port;
      frames = is.frames ∙ ap capped (sym count);
      delivered = is.delivered ∙ ap (λ (xs : List Delivery). capped (length xs)) (sym first);
      hops = is.hops ∙ ap (λ (xs : List Delivery). greatest (map (λ d. d.hops) xs)) (sym none);
      last = is.last
          ∙ ap (λ (xs : List Delivery). greatest (map (λ d. d.moment - p.moment) xs)) (sym first);
    }

-- all summaries, with one packet more
pub told_packet : (s : SendSummary) (p : Packet) (fs : Frames) (ds : List Delivery)
    (ss : List SendSummary) (ps : List Packet) → CarryThese (length ps) fs
    → AreOfThese (length ps) ds → IsSummary (length ps) s p (own_of (length ps) true ∷ []) []
    → AreSummaries 0 ss ps fs ds
    → AreSummaries 0 (ss ++ s ∷ []) (ps ++ p ∷ []) (fs ++ own_of (length ps) true ∷ []) ds
told_packet s p fs ds ss ps carry these is are =
    let n = length ps in
    let gs = fs ++ own_of n true ∷ [] in
    told_push gs ds s p n 0 ss ps (omega arith) (new_summary n s p fs ds carry these is)
    (told_more fs gs ds ds n
    (λ i t q lt told.
    other_frame i t q fs ds (own_of n true) (eqb_other i n (omega (arith, lt))) told)
    0 ss ps (omega arith) are)

-- ---- one delivery more

-- the first deliveries of a packet, with one delivery more
kept_firsts : (i : ℕ) (d : Delivery) (ds : List Delivery) (a b : Bool)
    → list_any (was_at d.send d.station) ds ≡ a → nat_eq d.send i ≡ b
    → filter (is_of i) (firsts (d ∷ ds))
    ≡ cond a (filter (is_of i) (firsts ds))
    (cond b (d ∷ filter (is_of i) (firsts ds)) (filter (is_of i) (firsts ds)))
kept_firsts i d ds true b any of =
    ap (λ (c : Bool). filter (is_of i) (cond c (firsts ds) (d ∷ firsts ds))) any
kept_firsts i d ds false b any of =
    ap (λ (c : Bool). filter (is_of i) (cond c (firsts ds) (d ∷ firsts ds))) any
    ∙ ap (λ (c : Bool). cond c (d ∷ filter (is_of i) (firsts ds)) (filter (is_of i) (firsts ds))) of

kept_all : (i : ℕ) (d : Delivery) (ds : List Delivery) (b : Bool) → nat_eq d.send i ≡ b
    → filter (is_of i) (d ∷ ds) ≡ cond b (d ∷ filter (is_of i) ds) (filter (is_of i) ds)
kept_all i d ds b of =
    ap (λ (c : Bool). cond c (d ∷ filter (is_of i) ds) (filter (is_of i) ds)) of

-- a summary of the same counts
same_counts : (i : ℕ) (s : SendSummary) (p : Packet) (fs : Frames) (ds es : List Delivery)
    → filter (is_of i) es ≡ filter (is_of i) ds
    → filter (is_of i) (firsts es) ≡ filter (is_of i) (firsts ds)
    → IsSummary i s p fs ds → IsSummary i s p fs es
same_counts i s p fs ds es all first is =
    record {
      send = is.send;
      moment = is.moment;
      station = is.station;
      kind = is.kind;
      port = is.port;
      frames = is.frames;
      delivered = is.delivered ∙ ap (λ (xs : List Delivery). capped (length xs)) (sym first);
      hops = is.hops ∙ ap (λ (xs : List Delivery). greatest (map (λ d. d.hops) xs)) (sym all);
      last = is.last
          ∙ ap (λ (xs : List Delivery). greatest (map (λ d. d.moment - p.moment) xs)) (sym first);
    }

max_turned : (a b : ℕ) → max a b ≡ max b a
max_turned a b = omega arith

-- a delivery of it at a station where there was one, or at another one
delivery_of_it : (a : Bool) (d : Delivery) (i : ℕ) (s : SendSummary) (p : Packet) (fs : Frames)
    (ds : List Delivery) → list_any (was_at d.send d.station) ds ≡ a → nat_eq d.send i ≡ true
    → IsSummary i s p fs ds
    → IsSummary i (delivered_to d.hops (not a) d.moment s) p fs (d ∷ ds)
delivery_of_it true d i s p fs ds any of is =
    let all = kept_all i d ds true of in
    let first = kept_firsts i d ds true true any of in
    record {
      send = is.send;
      moment = is.moment;
      station = is.station;
      kind = is.kind;
      port = is.port;
      frames = is.frames;
      delivered = is.delivered ∙ ap (λ (xs : List Delivery). capped (length xs)) (sym first);
      hops = max_turned s.hops d.hops ∙ ap (λ (n : ℕ). max d.hops n) is.hops
          ∙ ap (λ (xs : List Delivery). greatest (map (λ d. d.hops) xs)) (sym all);
      last = is.last
          ∙ ap (λ (xs : List Delivery). greatest (map (λ d. d.moment - p.moment) xs)) (sym first);
    }
delivery_of_it false d i s p fs ds any of is =
    let all = kept_all i d ds true of in
    let first = kept_firsts i d ds false true any of in
    let before = filter (is_of i) (firsts ds) in
    record {
      send = is.send;
      moment = is.moment;
      station = is.station;
      kind = is.kind;
      port = is.port;
      frames = is.frames;
      delivered = by_one true s.delivered (length before) (length (d ∷ before)) is.delivered
          (omega arith)
          ∙ ap (λ (xs : List Delivery). capped (length xs)) (sym first);
      hops = max_turned s.hops d.hops ∙ ap (λ (n : ℕ). max d.hops n) is.hops
          ∙ ap (λ (xs : List Delivery). greatest (map (λ d. d.hops) xs)) (sym all);
      last = max_turned s.last (d.moment - s.moment)
          ∙ ap (λ (n : ℕ). max (d.moment - s.moment) n) is.last
          ∙ ap (λ (m : ℕ). max (d.moment - m)
          (greatest (map (λ d. d.moment - p.moment) before))) is.moment
          ∙ ap (λ (xs : List Delivery). greatest (map (λ d. d.moment - p.moment) xs)) (sym first);
    }

-- a delivery of another
delivery_of_other : (a : Bool) (d : Delivery) (i : ℕ) (s : SendSummary) (p : Packet) (fs : Frames)
    (ds : List Delivery) → list_any (was_at d.send d.station) ds ≡ a → nat_eq d.send i ≡ false
    → IsSummary i s p fs ds → IsSummary i s p fs (d ∷ ds)
delivery_of_other true d i s p fs ds any of is =
    same_counts i s p fs ds (d ∷ ds) (kept_all i d ds false of)
    (kept_firsts i d ds true false any of) is
delivery_of_other false d i s p fs ds any of is =
    same_counts i s p fs ds (d ∷ ds) (kept_all i d ds false of)
    (kept_firsts i d ds false false any of) is

delivery_by : (b a : Bool) (d : Delivery) (i : ℕ) (s : SendSummary) (p : Packet) (fs : Frames)
    (ds : List Delivery) → list_any (was_at d.send d.station) ds ≡ a → nat_eq d.send i ≡ b
    → IsSummary i s p fs ds
    → IsSummary i (cond b (delivered_to d.hops (not a) d.moment s) s) p fs (d ∷ ds)
delivery_by true a d i s p fs ds any of is = delivery_of_it a d i s p fs ds any of is
delivery_by false a d i s p fs ds any of is = delivery_of_other a d i s p fs ds any of is

-- all summaries, with one delivery more
pub told_delivery : (d : Delivery) (fs : Frames) (ds : List Delivery) (ss : List SendSummary)
    (ps : List Packet) (first : Bool) → first ≡ not (list_any (was_at d.send d.station) ds)
    → AreSummaries 0 ss ps fs ds
    → AreSummaries 0 (updated d.send 0 (delivered_to d.hops first d.moment) ss) ps fs (d ∷ ds)
told_delivery d fs ds ss ps first is are =
    let a = list_any (was_at d.send d.station) ds in
    subst (λ (b : Bool). AreSummaries 0 (updated d.send 0 (delivered_to d.hops b d.moment) ss) ps fs
    (d ∷ ds)) (sym is)
    (told_step fs fs ds (d ∷ ds) d.send (delivered_to d.hops (not a) d.moment)
    (λ i s p told. delivery_by (nat_eq d.send i) a d i s p fs ds refl refl told) 0 ss ps are)

updated_size : {X : Type 0} (at from : ℕ) (f : X → X) (xs : List X)
    → length (updated at from f xs) ≡ length xs
updated_size at from f [] = refl
updated_size at from f (x ∷ xs) = ap suc (updated_size at (from + 1) f xs)

-- no summary more
pub frames_size : (x : Option CarriedPacket) (ss : List SendSummary)
    → length (with_frame_of x ss) ≡ length ss
frames_size None ss = refl
frames_size (Some c) ss = updated_size c.send 0 with_one_frame ss
