-- Measures of a shape, as a fact of a struct.
use Rattle.std.specs.Prelude.{◌≡◌, ◌<◌, ℕ}
use Rattle.std.specs.Coded.{Coded-set, coded_ℕ, le_prop}
use Rattle.its_geometry.specs.Area.{HasMeasures}
use Rattle.its_geometry.specs.declared.area.Shape.{Shape}
use Rattle.its_geometry.specs.declared.area.Shape.TheVariants.{Circle, Rectangle, Ellipse}

-- a length that isn't 0
length_prop : (n : ℕ) → IsProp (0 < n)
length_prop n = le_prop

angle_prop : (n : ℕ) → IsProp (n < 360)
angle_prop n = le_prop

none_prop : (n : ℕ) → IsProp (n ≡ 0)
none_prop n = Coded-set coded_ℕ n 0

pub HasMeasures-prop : (shape : Shape) (a b angle : ℕ) → IsProp (HasMeasures shape a b angle)
HasMeasures-prop Circle a b angle x y = λ i. (
  length_prop a x.0 y.0 i,
  none_prop b x.1 y.1 i,
  none_prop angle x.2 y.2 i,
)
HasMeasures-prop Rectangle a b angle x y = λ i. (
  length_prop a x.0 y.0 i,
  length_prop b x.1 y.1 i,
  angle_prop angle x.2 y.2 i,
)
HasMeasures-prop Ellipse a b angle x y = λ i. (
  length_prop a x.0 y.0 i,
  length_prop b x.1 y.1 i,
  angle_prop angle x.2 y.2 i,
)
