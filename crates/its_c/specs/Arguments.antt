-- What C asks for, and which arguments are in range.
use Rattle.std.specs.Prelude.{◌≡◌, ◌≤◌, ℕ, ℤ, List, [], ◌∷◌}
use Rattle.its_gnvalue.specs.Values.{Position, IsIndividual, IsLatitude, IsLongitude, IsSpeed}
use Rattle.its_geometry.specs.Area.{GeoArea, HasMeasures}
use Rattle.its_geometry.specs.declared.area.Shape.{Shape}
use Rattle.its_geometry.specs.declared.area.Shape.TheVariants as shapes
use Rattle.its_model.specs.Calls.{GbcRequest as ModelGbc, ShbRequest as ModelShb}
use Rattle.its_c.specs.declared.layout.AreaRequest.{AreaRequest}
use Rattle.its_station.specs.declared.requests.ShbOptions.{ShbOptions as StationShbOptions}
use Rattle.its_c.specs.declared.layout.ShbOptions.{ShbOptions}
use Rattle.its_c.specs.declared.layout.ShbRequest.{ShbRequest}

-- the place of these coordinates
abbrev pub place_of : ℤ → ℤ → Position
place_of latitude longitude = record { latitude = latitude; longitude = longitude }

-- what a new station may be given
abbrev pub AreForNew : ℕ → ℤ → ℤ → ℕ → ℕ → Type 0
AreForNew address latitude longitude capacity remember =
    IsIndividual address × IsLatitude latitude × IsLongitude longitude
    × (1 ≤ capacity) × (capacity ≤ 4096) × (1 ≤ remember) × (remember ≤ 64)

-- where a station may be, and how fast
abbrev pub AreForMove : ℤ → ℤ → ℤ → Type 0
AreForMove latitude longitude speed =
    IsLatitude latitude × IsLongitude longitude × IsSpeed speed

-- a payload for all in reach
abbrev pub shb_asked : ShbRequest → List ℕ → ModelShb
shb_asked r payload = record {
  class = r.traffic_class;
  message = record { port = r.port; info = r.info; payload = payload };
}

-- what it has besides: a lifetime and media-dependent data
abbrev pub shb_options : ShbOptions → StationShbOptions
shb_options options = record { lifetime = options.lifetime; media = options.media }

-- the options of this lifetime, with media-dependent data of zeros
abbrev pub with_lifetime : ℕ → ShbOptions
with_lifetime lifetime = record { lifetime = lifetime; media = 0 ∷ 0 ∷ 0 ∷ 0 ∷ [] }

-- a payload for an area
abbrev pub gbc_asked : AreaRequest → GeoArea → List ℕ → ModelGbc
gbc_asked r area payload =
    record {
      class = r.traffic_class;
      lifetime = r.lifetime;
      max_hops = r.max_hops;
      area = area;
      message = record { port = r.port; info = r.info; payload = payload };
    }

-- the number of a shape
abbrev pub number_of_shape : Shape → ℕ
number_of_shape shapes.Circle = 0
number_of_shape shapes.Rectangle = 1
number_of_shape shapes.Ellipse = 2

-- the second measure and the angle that are read: of a circle none
abbrev pub measure_of : Shape → ℕ → ℕ
measure_of shapes.Circle n = 0
measure_of shapes.Rectangle n = n
measure_of shapes.Ellipse n = n

-- the area of a request, whose numbers are in range
pub record IsAreaOf (r : AreaRequest) (area : GeoArea) : Type 0 where
  pub shape : number_of_shape area.shape ≡ r.shape
  pub centre : area.centre ≡ place_of r.latitude r.longitude
  pub latitude : IsLatitude r.latitude
  pub longitude : IsLongitude r.longitude
  pub measures : HasMeasures area.shape area.a area.b area.angle
  pub a : area.a ≡ r.a
  pub b : area.b ≡ measure_of area.shape r.b
  pub angle : area.angle ≡ measure_of area.shape r.angle
