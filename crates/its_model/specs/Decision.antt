-- To whom a geobroadcast goes: the rules of selection, of simple and of greedy forwarding (EN 302
-- 636-4-1 clauses 8 and 10, in this profile).
use Rattle.std.specs.Prelude.{◌≡◌, ◌⊎◌, ℕ, ◌<◌, ◌≤◌, Bool, false, ◌&&◌, nat_lt, if◌then◌else◌}
use Rattle.std.specs.Prelude.{List, [], ◌∷◌, filter, Option, Some, None}
use Rattle.its_gnvalue.specs.Values.{Position, mid_of}
use Rattle.its_geometry.specs.Area.{GeoArea, area_holds}
use Rattle.its_geometry.specs.Offsets.{squared_distance}
use Rattle.its_model.specs.History.{Known}
use Rattle.its_model.specs.Stations.{by_mid}

-- to all, to the station with this link address, or to nobody
pub data Decision : Type 0 where
  Broadcast : Decision
  To : (mac : ℕ) → Decision
  Drop : Decision

-- the station says that it is inside, and that its place is accurate
abbrev pub is_inside : GeoArea → Option Known → Bool
is_inside area None = false
is_inside area (Some k) = k.vector.accurate && area_holds area k.vector.place

-- The station from which the packet came is inside, so those inside were reached already.
abbrev pub is_sender_inside : GeoArea → Option ℕ → List Known → Bool
is_sender_inside area None stations = false
is_sender_inside area (Some mac) stations = is_inside area (by_mid mac stations)

-- squared, from the centre of an area
abbrev pub distance_of : Position → Known → ℕ
distance_of centre k = squared_distance centre k.vector.place

-- a neighbour that is nearer to the centre than a limit
abbrev pub is_nearer : Position → ℕ → Known → Bool
is_nearer centre limit k = k.neighbour && nat_lt (distance_of centre k) limit

-- the nearer to the centre: of two that are equally near, the first
abbrev pub nearer_of : Position → Known → Option Known → Known
nearer_of centre k None = k
nearer_of centre k (Some other) =
    if nat_lt (distance_of centre other) (distance_of centre k) then other else k

-- the nearest of these, and the first of those that are equally near
abbrev pub closest : Position → List Known → Option Known
closest centre [] = None
closest centre (k ∷ stations) = Some (nearer_of centre k (closest centre stations))

-- the neighbour that is nearest to the centre, where one is nearer than the limit
abbrev pub next_hop : Position → ℕ → List Known → Option Known
next_hop centre limit stations = closest centre (filter (is_nearer centre limit) stations)

-- to the next hop, if there is one, else to all
abbrev pub toward : Option Known → Decision
toward None = Broadcast
toward (Some k) = To (mid_of k.vector.address)

-- The first that applies: inside the area to all (simple forwarding); nobody, where the sender is
-- inside; the neighbour nearest to the area's centre, where one is nearer than this station (greedy
-- forwarding); to all.
unfoldable pub decision : List Known → Position → GeoArea → Option ℕ → Decision
decision stations own area sender =
    if area_holds area own then Broadcast
    else if is_sender_inside area sender stations then Drop
    else toward (next_hop area.centre (squared_distance area.centre own) stations)

-- A word of the law on this choice: by distance, and then by address, one comes before another or
-- is the same.
abbrev pub Precedes : Position → Known → Known → Type 0
Precedes centre k other =
    (distance_of centre k < distance_of centre other)
    ⊎ ((distance_of centre k ≡ distance_of centre other)
    × (k.vector.address ≤ other.vector.address))
