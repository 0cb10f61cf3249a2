-- The run of an air is one.
use Rattle.std.proofs.Common.{◌≡◌, ℕ, zero, suc, ◌<◌, ◌≤◌, List, [], ◌∷◌, refl, sym, ap, ◌∙◌, arith}
use Rattle.std.proofs.Common.{Bool, cond, ◌⊎◌, inl, inr}
use Rattle.std.proofs.lemmas.Bool.{lt-leb, cases_lt}
use Rattle.its_model.specs.World.{Config}
use Rattle.sim_air_model.specs.Timetable.{Rules, Pending, Filed, AirModel, NoneWaits, IsOver}
use Rattle.sim_air_model.specs.Timetable.{air_step}
use Rattle.sim_air_model.specs.Timetable.{air_run, at, do_first, take_one, air_opening}

-- a run that is over stays as it is
stays : (rules : Rules) (configs : List Config) (a : AirModel) (ws : List Pending)
    → NoneWaits rules.until ws → do_first rules configs a ws ≡ a
stays rules configs a [] h = refl
stays rules configs a (p ∷ rest) h =
    ap (λ (b : Bool). cond b
    (take_one rules configs a p (record { waiting = rest; draws = a.timetable.draws })) a)
    (lt-leb (at p) rules.until h)

pub later : (rules : Rules) (configs : List Config) (a : AirModel) (m n : ℕ) → n ≤ m
    → IsOver rules (air_run rules configs n a)
    → air_run rules configs m a ≡ air_run rules configs n a
later rules configs a zero n le over =
    let is : zero ≡ n = omega arith in ap (λ k. air_run rules configs k a) is
later rules configs a (suc m) n le over =
    by (cases_lt m n) (λ below. later rules configs a m n below over)
  where
    by : (m < n) ⊎ (n ≤ m)
        → (n ≤ m → air_run rules configs m a ≡ air_run rules configs n a)
        → air_run rules configs (suc m) a ≡ air_run rules configs n a
    by (inl lt) on =
        let is : suc m ≡ n = omega arith in ap (λ k. air_run rules configs k a) is
    by (inr below) on =
        let end = air_run rules configs n a in
        ap (air_step rules configs) (on below)
        ∙ stays rules configs end end.timetable.waiting over

-- two runs of the same rules, configs and file that are over are one
pub one_run : (rules : Rules) (configs : List Config) (file : List Filed) (m n : ℕ)
    → IsOver rules (air_run rules configs m (air_opening rules configs file))
    → IsOver rules (air_run rules configs n (air_opening rules configs file))
    → air_run rules configs m (air_opening rules configs file)
    ≡ air_run rules configs n (air_opening rules configs file)
one_run rules configs file m n first second = by (cases_lt m n)
  where
    by : (m < n) ⊎ (n ≤ m)
        → air_run rules configs m (air_opening rules configs file)
        ≡ air_run rules configs n (air_opening rules configs file)
    by (inl lt) =
        sym (later rules configs (air_opening rules configs file) n m (omega (arith, lt)) first)
    by (inr le) = later rules configs (air_opening rules configs file) m n le second
