-- Further steps of a file after others.
use Rattle.std.proofs.Common.{◌≡◌, ℕ, ◌+◌, ◌-◌, ◌^◌, List, [], ◌∷◌, ◌++◌, length, refl, sym, ap, subst, ◌∙◌}
use Rattle.std.proofs.Common.{arith, inl, inr, ◌⊎◌, length-append, true}
use Rattle.std.specs.Prelude.{Bool, Result, Ok, Err, Option, None, Some}
use Rattle.std.proofs.lemmas.List.{append_assoc, append-nil}
use Rattle.cap_records.specs.Pulls.{Given, IsNext, IsSkipped, Passes, Skips, records_in, records_of}
use Rattle.cap_records.specs.declared.choosing.Choice.{Choice}
use Rattle.cap_records.specs.declared.counts.RecordCounts.{RecordCounts}
use Rattle.cap_records.specs.declared.records.Pulled.TheVariants as pulls
use Rattle.cap_records.specs.declared.selection.Selection.{Selection}
use Rattle.cap_pcap.specs.declared.fault.SourceFault.{SourceFault}
use Rattle.cap_pcap.specs.declared.record.RecordHeader.{RecordHeader}
use Rattle.cap_pcap.specs.declared.record.Step.{Step}
use Rattle.cap_pcap.specs.declared.record.Step.TheVariants as steps
use Rattle.cmd_stats.specs.OnAir.{AnswersChoice, IsOnAir}
use Rattle.cmd_stats.specs.Listening.{Listening, Represents, moved}
use Rattle.cmd_stats.specs.Replays.{AreCounts, EndsFile, IsHeard, IsReplayed, IsReplayedWhole}
use Rattle.cmd_stats.specs.Replays.{IsReplaying, ReadsAir, TellsStep, TellsSteps}
use Rattle.cmd_stats.specs.Replays.{fault_first, fault_in, fault_of_step}
use Rattle.cmd_stats.specs.declared.replay.heard.Heard.{Heard}
use Rattle.cmd_stats.specs.declared.replay.listener.Listener.{Listener}
use Rattle.cmd_stats.specs.declared.replay.listener.Rules.{Rules}
use Rattle.cmd_stats.specs.declared.replay.on_air.OnAir.{OnAir}

-- ---- what is told of steps

-- some steps, and then others
steps_more : {S : Type 0} (gives : S → S → List ℕ → Result Step SourceFault → Type 0)
    (choice : Choice) (signed : Bool) (rules : Rules) (file : S) (s : Listening)
    (given : List Given)
    (told : List Heard) (left : S) (end : Listening) (others : List Given) (new : List Heard)
    (then : S) (next : Listening)
    → TellsSteps gives choice signed rules file s given told left end
    → TellsSteps gives choice signed rules left end others new then next
    → TellsSteps gives choice signed rules file s (given ++ others) (told ++ new) then next
steps_more gives choice signed rules file s [] told left end others new then next before after =
    let from = subst (λ f. TellsSteps gives choice signed rules f end others new then next)
    before.1 after in
    let from = subst (λ (m : Listening). TellsSteps gives choice signed rules file m others
    new then next)
    before.2 from in
    subst (λ (l : List Heard). TellsSteps gives choice signed rules file s others (l ++ new) then
    next)
    (sym before.0) from
steps_more gives choice signed rules file s (g ∷ gs) told left end others new then next before
    after =
    let (first, rest, mid, m, is, was, tell, more) = before in (
      first,
      rest ++ new,
      mid,
      m,
      ap (λ k. k ++ new) is ∙ append_assoc first rest new,
      was,
      tell,
      steps_more gives choice signed rules mid m gs rest left end others new then next more after,
    )

-- one step
steps_one : {S : Type 0} (gives : S → S → List ℕ → Result Step SourceFault → Type 0)
    (choice : Choice) (signed : Bool) (rules : Rules) (file : S) (s : Listening)
    (one : Given)
    (new : List Heard) (then : S) (next : Listening)
    → gives file then one.octets one.step
    → TellsStep choice signed rules one.octets one.step s new next
    → TellsSteps gives choice signed rules file s (one ∷ []) new then next
steps_one gives choice signed rules file s one new then next gave tells =
    (new, [], then, next, sym (append-nil new), gave, tells, (refl, refl, refl))

-- nothing is told of a step that is skipped
skipped_tells : (selection : Selection) (rules : Rules) (w : List ℕ)
    (step : Result Step SourceFault)
    (after : List ℕ) (s : Listening) → IsSkipped ReadsAir selection w step after
    → TellsStep selection.choice selection.signed rules w step s [] s
skipped_tells selection rules w (Ok (steps.Record head)) after s p =
    inl (record { air = p.0; on_air = p.1; passed = p.2; told_is = refl; next_is = refl })
skipped_tells selection rules w (Ok steps.Interface) after s p = absurd p
skipped_tells selection rules w (Ok steps.Passed) after s p = (refl, refl)
skipped_tells selection rules w (Ok steps.End) after s p = absurd p
skipped_tells selection rules w (Err fault) after s p = absurd p

passes_tell : {S : Type 0} (gives : S → S → List ℕ → Result Step SourceFault → Type 0)
    (selection : Selection) (rules : Rules) (file : S) (s : Listening)
    (skipped : List Given) (then : S)
    → Passes gives ReadsAir selection file skipped then
    → TellsSteps gives selection.choice selection.signed rules file s skipped [] then s
passes_tell gives selection rules file s [] then p = (refl, p, refl)
passes_tell gives selection rules file s (g ∷ gs) then p =
    let (mid, after, gave, skips, more) = p in (
      [],
      [],
      mid,
      s,
      refl,
      gave,
      skipped_tells selection rules g.octets g.step after s skips,
      passes_tell gives selection rules mid s gs then more,
    )

-- ---- counts

records_more : (given others : List Given)
    → records_in (given ++ others) ≡ records_in given + records_in others
records_more [] others = omega arith
records_more (g ∷ gs) others = omega (arith, records_more gs others)

fault_more : (a b c : Option SourceFault)
    → fault_first a (fault_first b c) ≡ fault_first (fault_first a b) c
fault_more None b c = refl
fault_more (Some a) b c = refl

faults_more : (given others : List Given)
    → fault_in (given ++ others) ≡ fault_first (fault_in given) (fault_in others)
faults_more [] others = refl
faults_more (g ∷ gs) others =
    ap (fault_first (fault_of_step g.step)) (faults_more gs others)
    ∙ fault_more (fault_of_step g.step) (fault_in gs) (fault_in others)

fault_alone : (fault : Option SourceFault) → fault_first fault None ≡ fault
fault_alone None = refl
fault_alone (Some fault) = refl

no_fault : (selection : Selection) (w : List ℕ) (step : Result Step SourceFault)
    (after : List ℕ) → IsSkipped ReadsAir selection w step after → fault_of_step step ≡ None
no_fault selection w (Ok step) after p = refl
no_fault selection w (Err fault) after p = absurd p

no_faults : {S : Type 0} (gives : S → S → List ℕ → Result Step SourceFault → Type 0)
    (selection : Selection) (file : S) (skipped : List Given) (then : S)
    → Passes gives ReadsAir selection file skipped then → fault_in skipped ≡ None
no_faults gives selection file [] then p = refl
no_faults gives selection file (g ∷ gs) then p =
    let (mid, after, gave, skips, more) = p in
    ap (λ f. fault_first f (fault_in gs)) (no_fault selection g.octets g.step after skips)
    ∙ no_faults gives selection mid gs then more

-- what the counts of others, and the first fault, are after those of steps without a fault
counts_more : (counts next : RecordCounts) (given others : List Given) (told new : List Heard)
    (fault : Option SourceFault)
    → AreCounts counts None given told → next.read ≡ counts.read + records_in others
    → next.chosen ≡ counts.chosen + length new → fault_in others ≡ fault
    → AreCounts next fault (given ++ others) (told ++ new)
counts_more counts next given others told new fault are read chosen is =
    record {
      read = omega (arith, are.read, records_more given others, read);
      chosen = omega (arith, are.chosen, length-append told new, chosen);
      fault_is = sym (faults_more given others
          ∙ ap (λ f. fault_first f (fault_in others)) (sym are.fault_is) ∙ is);
    }

-- ---- a file

-- no step yet
pub replaying_none : {S : Type 0} (gives : S → S → List ℕ → Result Step SourceFault → Type 0)
    (selection : Selection) (rules : Rules) (file : S) (s : Listening)
    (station : Listener)
    (Took : List Heard → Type 0) (counts : RecordCounts)
    → (counts.read ≡ 0) × (counts.chosen ≡ 0) × (counts.left ≡ 2 ^ 64 - 1)
    → Represents station s → Took []
    → IsReplaying gives selection rules file s file station counts Took
replaying_none gives selection rules file s station Took counts are rep took = (
  record {
    given = [];
    told = [];
    end = s;
    counted = record { read = are.0; chosen = are.1; fault_is = refl };
    tells = (refl, refl, refl);
    took = took;
    stands = rep;
  },
  omega (arith, are.2),
)

-- further steps that were skipped
pub replaying_skips : {S : Type 0} (gives : S → S → List ℕ → Result Step SourceFault → Type 0)
    (selection : Selection) (rules : Rules) (file : S) (s : Listening) (left : S)
    (station : Listener)
    (counts : RecordCounts) (Took : List Heard → Type 0) (then : S) (next : RecordCounts)
    → IsReplaying gives selection rules file s left station counts Took
    → Skips gives ReadsAir selection left counts then next
    → IsReplaying gives selection rules file s then station next Took
replaying_skips gives selection rules file s left station counts Took then next (before, gone)
    skips = (
      record {
        given = before.given ++ skips.skipped;
        told = before.told ++ [];
        end = before.end;
        counted = counts_more counts next before.given skips.skipped before.told [] None before.counted
            skips.read (omega (arith, skips.chosen))
            (no_faults gives selection left skips.skipped then skips.passes);
        tells = steps_more gives selection.choice selection.signed rules file s before.given
            before.told left
            before.end skips.skipped [] then before.end before.tells
            (passes_tell gives selection rules left before.end skips.skipped then skips.passes);
        took = subst Took (sym (append-nil before.told)) before.took;
        stands = before.stands;
      },
      omega (arith, gone, length-append before.given skips.skipped, skips.left),
    )

-- one more step
replayed_more : {S : Type 0} (gives : S → S → List ℕ → Result Step SourceFault → Type 0)
    (choice : Choice) (signed : Bool) (rules : Rules) (file : S) (s : Listening)
    (left then : S)
    (station : Listener) (later : Listener) (counts next : RecordCounts)
    (fault : Option SourceFault) (Took Later : List Heard → Type 0) (one : Given)
    (new : List Heard) (end : Listening)
    (before : IsReplayed gives choice signed rules file s left station counts None Took)
    → gives left then one.octets one.step
    → TellsStep choice signed rules one.octets one.step before.end new end
    → next.read ≡ counts.read + records_of one.step → next.chosen ≡ counts.chosen + length new
    → fault_of_step one.step ≡ fault → Later (before.told ++ new) → Represents later end
    → IsReplayed gives choice signed rules file s then later next fault Later
replayed_more gives choice signed rules file s left then station later counts next fault Took
    Later one new
    end before gave tells read chosen is took stands =
    record {
      given = before.given ++ one ∷ [];
      told = before.told ++ new;
      end = end;
      counted = counts_more counts next before.given (one ∷ []) before.told new fault before.counted
          (omega (arith, read)) chosen (fault_alone (fault_of_step one.step) ∙ is);
      tells = steps_more gives choice signed rules file s before.given before.told left before.end
          (one ∷ []) new then end before.tells
          (steps_one gives choice signed rules left before.end one new then end gave tells);
      took = took;
      stands = stands;
    }

-- one more step, which isn't the last
replaying_more : {S : Type 0} (gives : S → S → List ℕ → Result Step SourceFault → Type 0)
    (selection : Selection) (rules : Rules) (file : S) (s : Listening) (left then : S)
    (station later : Listener) (counts next : RecordCounts) (Took Later : List Heard → Type 0)
    (one : Given) (new : List Heard) (end : Listening)
    (k : IsReplaying gives selection rules file s left station counts Took)
    → gives left then one.octets one.step
    → TellsStep selection.choice selection.signed rules one.octets one.step k.0.end new end
    → next.read ≡ counts.read + records_of one.step → next.chosen ≡ counts.chosen + length new
    → next.left + 1 ≡ counts.left → fault_of_step one.step ≡ None → Later (k.0.told ++ new)
    → Represents later end
    → IsReplaying gives selection rules file s then later next Later
unfolding replayed_more
replaying_more gives selection rules file s left then station later counts next Took Later one
    new end k
    gave tells read chosen fewer is took stands = (
      replayed_more gives selection.choice selection.signed rules file s left then station later
          counts next
          None Took Later one new end k.0 gave tells read chosen is took stands,
      omega (arith, k.1, length-append k.0.given (one ∷ []), fewer),
    )

-- a record that comes next, and is heard
pub replaying_chosen : {S : Type 0} (gives : S → S → List ℕ → Result Step SourceFault → Type 0)
    (selection : Selection) (rules : Rules) (file : S) (s : Listening) (left then : S)
    (station later : Listener) (counts next : RecordCounts) (Took Later : List Heard → Type 0)
    (after : List ℕ) (head : RecordHeader) (air : OnAir)
    → IsReplaying gives selection rules file s left station counts Took
    → IsNext gives ReadsAir selection left counts then after next (pulls.Chosen head air)
    → ((end : Listening) (log : List Heard) → Represents station end → Took log
    → IsHeard rules air head.moment end log later Later)
    → IsReplaying gives selection rules file s then later next Later
replaying_chosen gives selection rules file s left then station later counts next Took Later
    after head air
    before comes hears =
    let k = replaying_skips gives selection rules file s left station counts Took comes.mid
    comes.between
    before comes.skips in
    let heard = hears k.0.end k.0.told k.0.stands k.0.took in
    let end : Listening = record {
      unit = heard.after;
      moves = (moved head.moment k.0.end).moves;
    } in
    elim comes.ends [
      | inl one ↦
          let (is, reads) = one.meets in
          let tells : TellsStep selection.choice selection.signed rules one.given.octets
          (Ok (steps.Record head)) k.0.end (heard.heard ∷ []) end = inr (record {
            air = air;
            on_air = reads.0;
            chosen = reads.1;
            heard = heard.heard;
            after = heard.after;
            told_is = refl;
            tells = heard.tells;
            next_is = refl;
          }) in
          replaying_more gives selection rules file s comes.mid then station later comes.between
          next Took
          Later one.given (heard.heard ∷ []) end k one.gave
          (subst (λ (step : Result Step SourceFault). TellsStep selection.choice selection.signed
          rules
          one.given.octets step k.0.end (heard.heard ∷ []) end) (sym is) tells)
          one.read one.chosen one.left (ap fault_of_step is) heard.took heard.stands
      | inr stopped ↦ absurd stopped.none
    ]

-- the start of an interface that comes next
pub replaying_interface : {S : Type 0} (gives : S → S → List ℕ → Result Step SourceFault → Type 0)
    (selection : Selection) (rules : Rules) (file : S) (s : Listening) (left then : S)
    (station : Listener) (counts next : RecordCounts) (Took : List Heard → Type 0)
    (after : List ℕ)
    → IsReplaying gives selection rules file s left station counts Took
    → IsNext gives ReadsAir selection left counts then after next pulls.Interface
    → IsReplaying gives selection rules file s then station next Took
replaying_interface gives selection rules file s left then station counts next Took after before
    comes =
    let k = replaying_skips gives selection rules file s left station counts Took comes.mid
    comes.between
    before comes.skips in
    elim comes.ends [
      | inl one ↦ replaying_more gives selection rules file s comes.mid then station station
          comes.between
          next Took Took one.given [] k.0.end k one.gave
          (subst (λ (step : Result Step SourceFault). TellsStep selection.choice selection.signed
          rules
          one.given.octets step k.0.end [] k.0.end) (sym one.meets) (refl, refl))
          one.read one.chosen one.left (ap fault_of_step one.meets)
          (subst Took (sym (append-nil k.0.told)) k.0.took) k.0.stands
      | inr stopped ↦ absurd stopped.none
    ]

-- no step is made: as many records are chosen as are wanted, or no step is left
replayed_stopped : {S : Type 0} (gives : S → S → List ℕ → Result Step SourceFault → Type 0)
    (selection : Selection) (rules : Rules) (file : S) (s : Listening) (left : S)
    (station : Listener)
    (counts : RecordCounts) (Took : List Heard → Type 0)
    → IsReplaying gives selection rules file s left station counts Took
    → (selection.count ≡ Some counts.chosen) ⊎ (counts.left ≡ 0)
    → IsReplayedWhole gives selection.choice selection.count selection.signed rules file s
    station counts
    None Took
replayed_stopped gives selection rules file s left station counts Took k why =
    record {
      left = left;
      replayed = k.0;
      ended = elim why [
        | inl full ↦ inr (inr (inl full))
        | inr none ↦ inr (inr (inr (omega (arith, k.1, none))))
      ];
    }

-- the end that comes next, or the fault of the file
pub replayed_end : {S : Type 0} (gives : S → S → List ℕ → Result Step SourceFault → Type 0)
    (selection : Selection) (rules : Rules) (file : S) (s : Listening) (left then : S)
    (station : Listener) (counts next : RecordCounts) (Took : List Heard → Type 0)
    (after : List ℕ) (fault : Option SourceFault)
    → IsReplaying gives selection rules file s left station counts Took
    → IsNext gives ReadsAir selection left counts then after next (pulls.End fault)
    → IsReplayedWhole gives selection.choice selection.count selection.signed rules file s
    station next
    fault Took
unfolding replayed_more
replayed_end gives selection rules file s left then station counts next Took after None before
    comes =
    let k = replaying_skips gives selection rules file s left station counts Took comes.mid
    comes.between
    before comes.skips in
    elim comes.ends [
      | inl one ↦ record {
        left = then;
        replayed = replayed_more gives selection.choice selection.signed rules file s comes.mid
            then station
            station comes.between next None Took Took one.given [] k.0.end k.0 one.gave
            (subst (λ (step : Result Step SourceFault). TellsStep selection.choice selection.signed
            rules
            one.given.octets step k.0.end [] k.0.end) (sym one.meets) (refl, refl))
            one.read one.chosen (ap fault_of_step one.meets)
            (subst Took (sym (append-nil k.0.told)) k.0.took) k.0.stands;
        ended = inr (inl (k.0.given, one.given, refl, one.meets));
      }
      | inr stopped ↦ subst
          (λ (c : RecordCounts). IsReplayedWhole gives selection.choice selection.count
          selection.signed rules file s station c None Took) (sym stopped.next_is)
          (replayed_stopped gives selection rules file s comes.mid station comes.between Took k
          stopped.why)
    ]
replayed_end gives selection rules file s left then station counts next Took after (Some fault)
    before comes =
    let k = replaying_skips gives selection rules file s left station counts Took comes.mid
    comes.between
    before comes.skips in
    elim comes.ends [
      | inl one ↦ record {
        left = then;
        replayed = replayed_more gives selection.choice selection.signed rules file s comes.mid
            then station
            station comes.between next (Some fault) Took Took one.given [] k.0.end k.0 one.gave
            (subst (λ (step : Result Step SourceFault). TellsStep selection.choice selection.signed
            rules
            one.given.octets step k.0.end [] k.0.end) (sym one.meets) (refl, refl))
            one.read one.chosen (ap fault_of_step one.meets)
            (subst Took (sym (append-nil k.0.told)) k.0.took) k.0.stands;
        ended = inl refl;
      }
      | inr stopped ↦ absurd stopped.none
    ]
