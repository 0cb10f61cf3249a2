-- What cancels a frame, and that somebody sends it.
use Rattle.std.proofs.Common.{◌≡◌, ℕ, ◌≤◌, List, [], ◌∷◌, ◌++◌, Option}
use Rattle.std.proofs.Common.{Some, refl, ap, subst, ◌∙◌, arith, append_assoc}
use Rattle.std.specs.Prelude.{slice_get}
use Rattle.its_model.specs.Packet.{Transmission}
use Rattle.its_model.specs.Stations.{AreDistinct}
use Rattle.its_model.specs.World.{Config, What}
use Rattle.its_model.specs.World.What.{Deliver}
use Rattle.its_model.specs.Contention.{ContentionRule}
use Rattle.its_model.specs.Contended.{Lot, ContendedWorld, CopyTest, Happening, opening_with, rule_at}
use Rattle.its_model.specs.Contended.{contended_step, contended_run, IsCarriedBy, IsCarriedAt}
use Rattle.its_model.specs.Contended.{IsCarried}
use Rattle.its_model.specs.Contended.Lot.{SentAt, WaitsUntil, CancelledBy, DroppedAt}
use Rattle.its_model.specs.Contended.Happening.{Happens, Releases}
use Rattle.its_model.specs.Overheard.{IsSentAgain, TestsCopies, IsCancelledBy, HadLot, WentOut}
use Rattle.its_model.specs.Overheard.{CancelledByTheSameFrame, IsSentBySomebody, SomebodySends}
use Rattle.its_gnvalue.specs.Values.{mid_of}
use Rattle.its_model.proofs.Lists.{get_at, get_within}
use Rattle.its_model.proofs.SoundRuns.{opening_sound}
use Rattle.its_model.proofs.ContendedLots.{IsLeftAt, Counting, AreCounted, AreCopiesIn}
use Rattle.its_model.proofs.ContendedLots.{as_many}
use Rattle.its_model.proofs.ContendedSteps.{IsAllowed, AreAllowed, RulesAreEnough}
use Rattle.its_model.proofs.ContendedSteps.{contended_sound, opening_is_known}
use Rattle.its_model.proofs.ContendedLinks.{air_stays, copy_at, some_copy, left_as, lots_sound}

-- ---- what is counted

-- so many copies are enough for the rule of the station with this link address
record IsEnoughHere (configs : List Config) (cw : ContendedWorld) (own n : ℕ) : Type 0 where
  pub station : ℕ
  pub config : Config
  pub configured : slice_get configs station ≡ Some config
  pub its_own : own ≡ mid_of config.address
  pub rule : ContentionRule
  pub has_rule : rule_at cw station ≡ Some rule
  pub enough : rule.copies ≤ n

-- what is counted in a run, where this is known of each frame that is delivered
abbrev counting : CopyTest → List Config → ContendedWorld → (ℕ → Type 0) → Counting
counting test configs cw Was =
    record { test = test; Was = Was; IsEnough = IsEnoughHere configs cw }

all_enough : (test : CopyTest) (configs : List Config) (cw : ContendedWorld) (Was : ℕ → Type 0)
    → RulesAreEnough (counting test configs cw Was) configs cw
all_enough test configs cw Was j config configured r n is le =
    record {
      station = j;
      config = config;
      configured = configured;
      its_own = refl;
      rule = r;
      has_rule = is;
      enough = le;
    }

-- what cancelled a frame, at any time of a run
cancelled_in_run : (test : CopyTest) (configs : List Config) (rules : List (Option ContentionRule))
    (happenings : List Happening) (Was : ℕ → Type 0) (k moment : ℕ) (frames : List ℕ)
    → let cw = opening_with configs rules in
    AreAllowed (counting test configs cw Was) happenings
    → (had : HadLot test cw happenings k (CancelledBy frames moment))
    → AreCopiesIn (counting test configs cw Was) (contended_run test cw had.early).world.air k frames
cancelled_in_run test configs rules happenings Was k moment frames allowed had =
    let cw = opening_with configs rules in
    let scope = counting test configs cw Was in
    (contended_sound had.early scope configs cw (opening_sound configs)
    (λ early h later split. allowed early h (later ++ had.later)
    (had.split ∙ ap (λ xs. xs ++ had.later) split ∙ append_assoc early (h ∷ later) had.later))
    (all_enough test configs cw Was) (opening_is_known scope configs rules)).lots k frames moment had.was

-- with nothing known of what is delivered
nothing_known : (h : Happening) (test : CopyTest) (configs : List Config) (cw : ContendedWorld)
    → IsAllowed (counting test configs cw (λ k. Unit {0})) h
nothing_known (Happens e) test configs cw = λ k is. tt
nothing_known (Releases j now) test configs cw = tt

-- ---- where each link carries what was sent

-- each delivery is
carried_at : (early : List Happening) (test : CopyTest) (cw : ContendedWorld) (h : Happening)
    (later : List Happening)
    → IsCarried test cw (early ++ h ∷ later) → IsCarriedAt (contended_run test cw early) h
carried_at [] test cw h later carried = carried.0
carried_at (x ∷ early) test cw h later carried =
    carried_at early test (contended_step test cw x) h later carried.1

-- what is delivered went out
were_sent : (h : Happening) (test : CopyTest) (configs : List Config) (cw : ContendedWorld)
    (happenings early later : List Happening)
    → IsCarried test cw happenings → happenings ≡ early ++ h ∷ later
    → IsAllowed (counting test configs cw (λ k. WentOut test cw happenings k)) h
were_sent (Releases j now) test configs cw happenings early later carried split = tt
were_sent (Happens e) test configs cw happenings early later carried split = λ k is. (
    let lots = (contended_run test cw early).lots in
    let here : IsCarriedBy lots e.moment e.what =
    carried_at early test cw (Happens e) later
    (subst (λ (xs : List Happening). IsCarried test cw xs) split carried) in
    let sent : IsCarriedBy lots e.moment (Deliver k) =
    subst (λ (x : What). IsCarriedBy lots e.moment x) is here in
    record {
      moment = sent.0;
      sent = record {
        early = early;
        later = Happens e ∷ later;
        split = split;
        was = sent.1;
      };
    })

-- ---- what cancels a frame

-- the senders differ
senders_differ : (senders frames : List ℕ) (scope : Counting) (own : ℕ) (air : List Transmission)
    (t : Transmission) → AreCounted scope own air t senders frames → AreDistinct senders
senders_differ [] frames scope own air t all = tt
senders_differ (sender ∷ senders) [] scope own air t all = absurd all
senders_differ (sender ∷ senders) (k ∷ frames) scope own air t all =
    (all.1, senders_differ senders frames scope own air t all.2)

cancelled_by : (test : CopyTest) (configs : List Config) (rules : List (Option ContentionRule))
    (happenings : List Happening) (k moment : ℕ) (frames : List ℕ)
    → let cw = opening_with configs rules in
    let air = (contended_run test cw happenings).world.air in
    TestsCopies test air → HadLot test cw happenings k (CancelledBy frames moment)
    → IsCancelledBy configs cw air k frames
cancelled_by test configs rules happenings k moment frames tests had =
    let cw = opening_with configs rules in
    let scope = counting test configs cw (λ k. Unit {0}) in
    let c = cancelled_in_run test configs rules happenings (λ k. Unit {0}) k moment frames
    (λ early h later split. nothing_known h test configs cw) had in
    let at : slice_get (contended_run test cw happenings).world.air k ≡ Some c.packet =
    air_stays test cw happenings had.early had.later k c.packet had.split c.in_air in
    record {
      held = c.packet;
      in_air = at;
      senders = c.senders;
      distinct = senders_differ c.senders frames scope c.own
          (contended_run test cw had.early).world.air c.packet c.copies;
      as_many = as_many c.senders frames scope c.own (contended_run test cw had.early).world.air c.packet
          c.copies;
      station = c.enough.station;
      config = c.enough.config;
      configured = c.enough.configured;
      its_own = c.its_own ∙ c.enough.its_own;
      rule = c.enough.rule;
      has_rule = c.enough.has_rule;
      enough = c.enough.enough;
      each = λ n m sender is who. (
          let one = copy_at c.senders frames n m sender scope c.own
          (contended_run test cw had.early).world.air c.packet c.copies is who in
          let there : slice_get (contended_run test cw happenings).world.air m ≡ Some one.copy =
          air_stays test cw happenings had.early had.later m one.copy had.split one.in_air in
          record {
            heard = one.copy;
            in_air = there;
            again = subst (λ (own : ℕ). IsSentAgain own c.packet one.copy) c.enough.its_own
                (tests c.own k m c.packet one.copy at there one.tested);
            from_sender = one.from_sender;
          });
    }

went_out : (test : CopyTest) (configs : List Config) (rules : List (Option ContentionRule))
    (happenings : List Happening) (k moment : ℕ) (frames : List ℕ) (n m : ℕ)
    → let cw = opening_with configs rules in
    IsCarried test cw happenings → HadLot test cw happenings k (CancelledBy frames moment)
    → slice_get frames n ≡ Some m → WentOut test cw happenings m
went_out test configs rules happenings k moment frames n m carried had is =
    let cw = opening_with configs rules in
    let Was = λ (i : ℕ). WentOut test cw happenings i in
    let c = cancelled_in_run test configs rules happenings Was k moment frames
    (λ early h later split. were_sent h test configs cw happenings early later carried split) had in
    (some_copy c.senders frames n m (counting test configs cw Was) c.own
    (contended_run test cw had.early).world.air c.packet c.copies is).1.was

pub cancelled_by_the_same_frame : (test : CopyTest) (configs : List Config)
    (rules : List (Option ContentionRule)) (happenings : List Happening)
    → CancelledByTheSameFrame test configs rules happenings
cancelled_by_the_same_frame test configs rules happenings =
    record {
      copies = λ tests k moment frames had. cancelled_by test configs rules happenings k moment
          frames tests had;
      went_out = λ carried k moment frames n m had is. went_out test configs rules happenings k
          moment frames n m carried had is;
    }

-- ---- that somebody sends

-- a frame with a lot is in the world
has_packet : (test : CopyTest) (configs : List Config) (rules : List (Option ContentionRule))
    (happenings : List Happening) (k : ℕ) (lot : Lot)
    → let cw = opening_with configs rules in
    HadLot test cw happenings k lot
    → (t : Transmission) × (slice_get (contended_run test cw happenings).world.air k ≡ Some t)
has_packet test configs rules happenings k lot had =
    let cw = opening_with configs rules in
    let old = contended_run test cw had.early in
    let even = (lots_sound test configs rules had.early).even in
    let there = get_at old.world.air k (omega (arith, even, get_within old.lots k lot had.was)) in (
      there.0,
      air_stays test cw happenings had.early had.later k there.0 had.split there.1,
    )

-- by how it left its buffer
sent_by_lot : (lot : Lot) (test : CopyTest) (configs : List Config)
    (rules : List (Option ContentionRule)) (happenings : List Happening) (k moment : ℕ)
    → let cw = opening_with configs rules in
    ((j : ℕ) (r : ContentionRule) → rule_at cw j ≡ Some r → 1 ≤ r.copies)
    → TestsCopies test (contended_run test cw happenings).world.air
    → IsCarried test cw happenings
    → ((m moment : ℕ) → HadLot test cw happenings m (DroppedAt moment) → ⊥)
    → HadLot test cw happenings k lot → IsLeftAt moment lot
    → IsSentBySomebody test cw happenings k
sent_by_lot (SentAt m) test configs rules happenings k moment some tests carried none had left =
    let there = has_packet test configs rules happenings k (SentAt m) had in
    record {
      frame = k;
      held = there.0;
      heard = there.0;
      in_air = there.1;
      sent_is = there.1;
      same = refl;
      went_out = record { moment = m; sent = had };
    }
sent_by_lot (WaitsUntil due) test configs rules happenings k moment some tests carried none had
    left = absurd left
sent_by_lot (DroppedAt m) test configs rules happenings k moment some tests carried none had left =
    absurd (none k m had)
sent_by_lot (CancelledBy frames m) test configs rules happenings k moment some tests carried none
    had left =
    let c = cancelled_by test configs rules happenings k m frames tests had in
    let one = get_at frames 0 (omega (arith, c.enough, some c.station c.rule c.has_rule)) in
    let who = get_at c.senders 0
    (omega (arith, c.as_many, c.enough, some c.station c.rule c.has_rule)) in
    let copy = c.each 0 one.0 who.0 one.1 who.1 in
    record {
      frame = one.0;
      held = c.held;
      heard = copy.heard;
      in_air = c.in_air;
      sent_is = copy.in_air;
      same = copy.again.same;
      went_out = went_out test configs rules happenings k m frames 0 one.0 carried had one.1;
    }

pub somebody_sends : (test : CopyTest) (configs : List Config)
    (rules : List (Option ContentionRule)) (happenings : List Happening)
    → SomebodySends test configs rules happenings
somebody_sends test configs rules happenings late k due some tests carried served none had =
    let l = left_as test configs rules happenings late k due
    (served had.early had.later k due had.split had.was) in
    sent_by_lot l.lot test configs rules happenings k l.moment some tests carried none l.had l.left
