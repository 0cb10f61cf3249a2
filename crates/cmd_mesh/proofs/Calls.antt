-- Calls of a mesh, one after the other.
use Rattle.std.proofs.Common.{◌≡◌, ℕ, Bool, true, false, ◌||◌, cond, List, [], ◌∷◌, ◌++◌}
use Rattle.std.proofs.Common.{length, Option, Some, None, refl, sym, ap, subst, ◌∙◌, arith}
use Rattle.std.proofs.Common.{append_assoc}
use Rattle.std.specs.Prelude.{max, slice_get, IsFalse}
use Rattle.std.proofs.Math.Bool.{or_assoc}
use Rattle.std.proofs.lemmas.List.{length-set, append-nil}
use Rattle.std.proofs.lemmas.List.Elements.{filter-append}
use Rattle.its_model.specs.Station.{StationModel, station_step}
use Rattle.its_model.specs.World.{Event}
use Rattle.cmd_mesh.specs.Calls.{MeshCall, is_own, own_calls, calls_in, file_calls, is_refused}
use Rattle.cmd_mesh.specs.Calls.{answer_at, called_at, mesh_step, mesh_run, any_refused, greatest}
use Rattle.cmd_mesh.specs.Calls.{AreInTime, AreReceived}

-- a call leaves as many stations
length_called : (models : List StationModel) (found : Option StationModel) (c : MeshCall)
    → length (called_at models found c) ≡ length models
length_called models None c = refl
length_called models (Some s) c =
    length-set models c.station (station_step s c.moment c.call).station

-- and so do many
pub length_run : (models : List StationModel) (calls : List MeshCall)
    → length (mesh_run models calls) ≡ length models
length_run models [] = refl
length_run models (c ∷ calls) =
    length_run (mesh_step models c) calls
    ∙ length_called models (slice_get models c.station) c

-- the stations after calls and then others
pub run-append : (models : List StationModel) (xs ys : List MeshCall)
    → mesh_run models (xs ++ ys) ≡ mesh_run (mesh_run models xs) ys
run-append models [] ys = refl
run-append models (x ∷ xs) ys = run-append (mesh_step models x) xs ys

-- whether one of them is refused
pub refused-append : (models : List StationModel) (xs ys : List MeshCall)
    → any_refused models (xs ++ ys)
    ≡ (any_refused models xs || any_refused (mesh_run models xs) ys)
refused-append models [] ys = refl
refused-append models (x ∷ xs) ys =
    let first = is_refused (answer_at (slice_get models x.station) x) in
    ap (λ (b : Bool). first || b) (refused-append (mesh_step models x) xs ys)
    ∙ sym (or_assoc first (any_refused (mesh_step models x) xs)
    (any_refused (mesh_run (mesh_step models x) xs) ys))

-- the greatest moment of them
pub greatest-append : (moment : ℕ) (xs ys : List MeshCall)
    → greatest moment (xs ++ ys) ≡ greatest (greatest moment xs) ys
greatest-append moment [] ys = refl
greatest-append moment (x ∷ xs) ys = greatest-append (max moment x.moment) xs ys

-- what comes by sockets comes at the greatest moment so far, in both
pub in_time-append : (count moment : ℕ) (xs ys : List MeshCall) → AreInTime count moment xs
    → AreInTime count (greatest moment xs) ys → AreInTime count moment (xs ++ ys)
in_time-append count moment [] ys a b = b
in_time-append count moment (x ∷ xs) ys a b =
    (a.0, in_time-append count (max moment x.moment) xs ys a.1 b)

-- those that no socket brought, of both
pub own-append : (xs ys : List MeshCall) → own_calls (xs ++ ys) ≡ own_calls xs ++ own_calls ys
own-append xs ys = filter-append (λ (c : MeshCall). is_own c.call) xs ys

pub received-append : (station moment : ℕ) (xs ys : List MeshCall) → AreReceived station moment xs
    → AreReceived station moment ys → AreReceived station moment (xs ++ ys)
received-append station moment [] ys a b = b
received-append station moment (x ∷ xs) ys a b =
    (a.0, a.1, a.2, received-append station moment xs ys a.3 b)

passed_by : (b : Bool) (x : MeshCall) (xs : List MeshCall) → IsFalse b → cond b (x ∷ xs) xs ≡ xs
passed_by b x xs h = ap (λ (t : Bool). cond t (x ∷ xs) xs) h

-- what came by a socket is no call of a file
pub none_own : (station moment : ℕ) (calls : List MeshCall) → AreReceived station moment calls
    → own_calls calls ≡ []
none_own station moment [] h = refl
none_own station moment (c ∷ calls) h =
    passed_by (is_own c.call) c (own_calls calls) h.2 ∙ none_own station moment calls h.3

same_moment : (moment n : ℕ) → n ≡ moment → max moment n ≡ moment
same_moment moment n h = omega (arith, h)

first_own : (b : Bool) (x : MeshCall) (xs : List MeshCall) → cond b (x ∷ xs) xs ≡ []
    → IsFalse b × (xs ≡ [])
first_own true x xs h = absurd cc
first_own false x xs h = (refl, h)

-- what comes by sockets doesn't raise the greatest moment
pub greatest_came : (count moment : ℕ) (calls : List MeshCall) → own_calls calls ≡ []
    → AreInTime count moment calls → greatest moment calls ≡ moment
greatest_came count moment [] none h = refl
greatest_came count moment (c ∷ calls) none h =
    let first = first_own (is_own c.call) c (own_calls calls) none in
    let same = same_moment moment c.moment (h.0 first.0).1 in
    ap (λ (n : ℕ). greatest n calls) same
    ∙ greatest_came count moment calls first.1
    (subst (λ (n : ℕ). AreInTime count n calls) same h.1)

-- the calls of one event more
pub file_more : (events : List Event) (e : Event)
    → file_calls (events ++ e ∷ []) ≡ file_calls events ++ calls_in e e.what
file_more [] e = append-nil (calls_in e e.what)
file_more (x ∷ events) e =
    ap (λ (calls : List MeshCall). calls_in x x.what ++ calls) (file_more events e)
    ∙ sym (append_assoc (calls_in x x.what) (file_calls events) (calls_in e e.what))

-- those of some events and then others
pub file-append : (xs ys : List Event) → file_calls (xs ++ ys) ≡ file_calls xs ++ file_calls ys
file-append [] ys = refl
file-append (x ∷ xs) ys =
    ap (λ (calls : List MeshCall). calls_in x x.what ++ calls) (file-append xs ys)
    ∙ sym (append_assoc (calls_in x x.what) (file_calls xs) (file_calls ys))
