-- One more line after others.
use Rattle.std.proofs.Common.{◌≡◌, ℕ, List, [], ◌∷◌, ◌++◌, ◌+◌, length, Ok, Err, None}
use Rattle.std.proofs.Common.{refl, sym, ap, subst, ◌∙◌, arith, length-append}
use Rattle.std.specs.Prelude.{Option, Result, IfOk, OnOk}
use Rattle.std.proofs.lemmas.List.{append_assoc, append-nil}
use Rattle.cmd_reporting.specs.declared.status.Status.{Status}
use Rattle.cmd_reporting.specs.declared.status.Status.TheVariants as statuses
use Rattle.its_unit.specs.Unit.{RepresentsUnit, UnitModel, UnitState}
use Rattle.its_lines.specs.Lines.{LineText}
use Rattle.cmd_pipe.specs.Lines.{AreLines}
use Rattle.cmd_pipe.proofs.InputLines.{AreBefore, before_none}
use Rattle.cmd_pipe.specs.Serving.{CountedUnit, IsCounted, IsServed, IsServedLine, TellsLines}
use Rattle.cmd_pipe.specs.Serving.{TellsOne, ended_of, then_ended, told_in}
use Rattle.its_lines.specs.Within.{TellsLine}
use Rattle.its_lines.specs.declared.response.Response.{Response}
use Rattle.its_lines.specs.declared.response.Response.TheVariants as responses

lines_last : (s : CountedUnit) (n : ℕ) (lines : List LineText) (told : List Response)
    (mid : CountedUnit) (line : LineText) (new : List Response) (end : CountedUnit)
    → TellsLines s n lines told mid → TellsOne mid (n + length lines) line new end
    → TellsLines s n (lines ++ line ∷ []) (told ++ new) end
lines_last s n [] told mid line new end before last = (
  new,
  [],
  end,
  ap (λ l. l ++ new) before.0 ∙ sym (append-nil new),
  subst (λ (m : CountedUnit). TellsOne m n line new end) before.1
      (subst (λ (k : ℕ). TellsOne mid k line new end) (omega arith) last),
  (refl, refl),
)
lines_last s n (l ∷ ls) told mid line new end before last =
    let (first, rest, m, is, one, more) = before in (
      first,
      rest ++ new,
      m,
      ap (λ k. k ++ new) is ∙ append_assoc first rest new,
      one,
      lines_last m (n + 1) ls rest mid line new end more
          (subst (λ (k : ℕ). TellsOne mid k line new end) (omega arith) last),
    )

-- how a station ends after one more
pub ended_last : (log : List Response) (t : Response)
    → ended_of (log ++ t ∷ []) ≡ then_ended (ended_of log) t
ended_last [] (responses.Reply id at source due cancelled reply) = refl
ended_last [] (responses.Released id at frame) = refl
ended_last [] (responses.Repeated id at) = refl
ended_last [] (responses.OverRate id at) = refl
ended_last [] (responses.NotAllowed id at) = refl
ended_last [] (responses.Known id at known) = refl
ended_last [] (responses.Fault id line fault) = refl
ended_last (responses.Reply a b c d e f ∷ log) t = ended_last log t
ended_last (responses.Released a b c ∷ log) t = ended_last log t
ended_last (responses.Repeated a b ∷ log) t = ended_last log t
ended_last (responses.OverRate a b ∷ log) t = ended_last log t
ended_last (responses.NotAllowed a b ∷ log) t = ended_last log t
ended_last (responses.Known a b c ∷ log) t = ended_last log t
ended_last (responses.Fault a b c ∷ log) (responses.Reply id at source due cancelled reply) = refl
ended_last (responses.Fault a b c ∷ log) (responses.Released id at frame) = refl
ended_last (responses.Fault a b c ∷ log) (responses.Repeated id at) = refl
ended_last (responses.Fault a b c ∷ log) (responses.OverRate id at) = refl
ended_last (responses.Fault a b c ∷ log) (responses.NotAllowed id at) = refl
ended_last (responses.Fault a b c ∷ log) (responses.Known id at known) = refl
ended_last (responses.Fault a b c ∷ log) (responses.Fault id line fault) = refl

-- the answer to one line
pub one_told : (s : CountedUnit) (n : ℕ) (line same : LineText) (answer : Option Response)
    (old new : UnitState) → line ≡ same → IsCounted old s
    → ((u : UnitModel) → RepresentsUnit old u → TellsLine None u n line old answer new)
    → ((u : UnitModel) → RepresentsUnit old u → (x : UnitModel) × RepresentsUnit new x)
    → (next : CountedUnit) × TellsOne s n same (told_in answer) next × IsCounted new next
one_told s n line same answer old new is rep tells reps =
    let x = reps s.unit rep.0 in
    let stands : IsCounted new (record { unit = x.0; counts = new.counts }) = (x.1, refl) in (
      record { unit = x.0; counts = new.counts },
      record {
        before = old;
        was = rep;
        answer = answer;
        told_is = refl;
        after = new;
        tells = subst (λ (l : LineText). TellsLine None s.unit n l old answer new) is
            (tells s.unit rep.0);
        stands = stands;
      },
      stands,
    )

-- of a line something was told
pub line_told : {E : Type 0} (r : Result Status E) (s : CountedUnit) (n : ℕ) (line : LineText)
    (log : List Response) (t : Response) (st : UnitState) (before : Status)
    (Took : List Response → Type 0)
    → (next : CountedUnit) × TellsOne s n line (t ∷ []) next × IsCounted st next
    → before ≡ ended_of log → OnOk r (Took (log ++ t ∷ []))
    → IfOk r (λ ended. ended ≡ then_ended before t)
    → IfOk r (λ ended. IsServedLine s n line log st ended Took)
line_told (Err e) s n line log t st before Took tells was took is = tt
line_told (Ok ended) s n line log t st before Took tells was took is =
    record {
      told = t ∷ [];
      after = tells.0;
      tells = tells.1;
      took = took;
      ended_is = is ∙ ap (λ x. then_ended x t) was ∙ sym (ended_last log t);
      stands = tells.2;
    }

-- of a line nothing was told
pub line_quiet : (s : CountedUnit) (n : ℕ) (line : LineText) (log : List Response)
    (st : UnitState) (ended : Status) (Took : List Response → Type 0)
    → (next : CountedUnit) × TellsOne s n line [] next × IsCounted st next
    → ended ≡ ended_of log → Took log → IsServedLine s n line log st ended Took
line_quiet s n line log st ended Took tells was took =
    record {
      told = [];
      after = tells.0;
      tells = tells.1;
      took = subst Took (sym (append-nil log)) took;
      ended_is = was ∙ ap ended_of (sym (append-nil log));
      stands = tells.2;
    }

-- so many lines were served, and the next is line n
pub record Serving (s : CountedUnit) (n : ℕ) (st : UnitState) (ended : Status)
    (Took : List Response → Type 0) (input left : Option (List ℕ)) : Type 0 where
  pub served : IsServed s st ended Took None
  pub count : 1 + length served.lines ≡ n
  pub so_far : AreBefore input left served.lines

pub serving_none : (s : CountedUnit) (st : UnitState)
    (Took : List Response → Type 0) (input : Option (List ℕ))
    → IsCounted st s → Took []
    → Serving s 1 st statuses.Done Took input input
serving_none s st Took input rep took =
    record {
      served = record {
        lines = [];
        lines_are = tt;
        told = [];
        after = s;
        tells = (refl, refl);
        took = took;
        ended_is = refl;
        stands = rep;
      };
      count = refl;
      so_far = before_none input;
    }

pub serving_more : (s : CountedUnit) (n : ℕ) (st next : UnitState)
    (ended then : Status) (Took TookThen : List Response → Type 0) (line : LineText)
    (input left rest : Option (List ℕ)) (serving : Serving s n st ended Took input left)
    → (AreBefore input left serving.served.lines
    → AreBefore input rest (serving.served.lines ++ line ∷ []))
    → IsServedLine serving.served.after n line serving.served.told next then TookThen
    → Serving s (n + 1) next then TookThen input rest
serving_more s n st next ended then Took TookThen line input left rest serving
    more one =
    let served = serving.served in
    record {
      served = record {
        lines = served.lines ++ line ∷ [];
        lines_are = tt;
        told = served.told ++ one.told;
        after = one.after;
        tells = lines_last s 1 served.lines served.told served.after line one.told one.after
            served.tells
            (subst (λ (k : ℕ). TellsOne served.after k line one.told one.after)
            (sym serving.count) one.tells);
        took = one.took;
        ended_is = one.ended_is;
        stands = one.stands;
      };
      count = omega (arith, length-append served.lines (line ∷ []), serving.count);
      so_far = more serving.so_far;
    }

-- the input has no further line
pub serving_all : (s : CountedUnit) (n : ℕ) (st : UnitState) (ended : Status)
    (Took : List Response → Type 0) (input left : Option (List ℕ))
    (serving : Serving s n st ended Took input left)
    → (AreBefore input left serving.served.lines → AreLines input serving.served.lines)
    → IsServed s st ended Took input
serving_all s n st ended Took input left serving all =
    let served = serving.served in
    record {
      lines = served.lines;
      lines_are = all serving.so_far;
      told = served.told;
      after = served.after;
      tells = served.tells;
      took = served.took;
      ended_is = served.ended_is;
      stands = served.stands;
    }
