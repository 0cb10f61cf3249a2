-- What a station has, and the stations of the model that it represents.
use Rattle.std.specs.Prelude.{◌≡◌, ℕ, List, Bool}
use Rattle.its_gnvalue.specs.Values.{PositionVector}
use Rattle.its_model.specs.History.{Reception, is_among}
use Rattle.its_model.specs.Stations.{AreDistinct}
use Rattle.its_model.specs.Station.{StationModel}
use Rattle.its_loctable.specs.Content.{Entry, Represents}

-- a station as contracts see it: its fields, and the content of its location table
pub record StationState : Type 0 where
  pub vector : PositionVector
  pub capacity : ℕ  -- of how many sources the table has room for
  pub remember : ℕ  -- how many numbers of a source it remembers
  pub clock : ℕ
  pub mobile : Bool
  pub next_number : ℕ
  pub beacon_from : ℕ
  pub ports : List ℕ
  pub content : List Entry

-- the same ports, each once, in any order
pub record SamePorts (mine theirs : List ℕ) : Type 0 where
  pub each : (port : ℕ) → is_among port mine ≡ is_among port theirs
  pub mine_once : AreDistinct mine
  pub theirs_once : AreDistinct theirs

-- the station of the model with the same fields, these open ports and this history
abbrev pub model_of : StationState → List ℕ → List Reception → StationModel
model_of st ports history =
    record {
      address = st.vector.address;
      capacity = st.capacity;
      remember = st.remember;
      clock = st.clock;
      vector = st.vector;
      mobile = st.mobile;
      next_number = st.next_number;
      ports = ports;
      beacon_from = st.beacon_from;
      history = history;
    }

-- these ports are open, and the table represents this history from the clock on
pub record IsPast (st : StationState) (opened : List ℕ) (history : List Reception) : Type 0 where
  pub ports : SamePorts st.ports opened
  pub table : Represents st.remember st.content history st.clock

-- The station represents the one of the model: the fields agree, the same ports are open, and its
-- table represents the history from the clock on.
pub record RepresentsStation (st : StationState) (s : StationModel) : Type 0 where
  pub fields : s ≡ model_of st s.ports s.history
  pub past : IsPast st s.ports s.history

-- some history that the table represents from the clock on: each station has one
pub record HasPast (remember : ℕ) (content : List Entry) (clock : ℕ) : Type 0 where
  pub history : List Reception
  pub table : Represents remember content history clock
